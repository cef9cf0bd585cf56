-- The facts of a grid of words.
use Rattle.std.specs.Prelude.{◌≡◌, ℕ, zero, suc, ◌+◌, ◌-◌, ◌*◌, ◌/◌, ◌%◌, ◌^◌, ◌<◌, ◌≤◌, Bool, true, false, not, ◌&&◌, ◌||◌, T, ltb, ◌⊎◌, List, [], ◌∷◌, length, drop, replicate, ℤ, pos, negsuc, Some, None, Option, ◌==◌, ◌≢◌, bit_and, bit_or, count_ones, int_le, int_lt, nat_eq, nat_le, slice_index, slice_index_or, slice_set, unsigned_abs, refl}
use Rattle.std.proofs.Common.{sym, ap, ◌∙◌, subst, ⊎_elim, zero-le, suc-le-suc, le_of_suc-le-suc, not-suc-le-zero, pow-suc, arith, add-one, lit<}
use Rattle.std.specs.List.{sum_by}
use Rattle.std.specs.Bool.{then_some}
use Rattle.std.specs.Int.{int_max}
use Rattle.std.specs.Int.Signed.{non_neg, yes_non_neg}
use Rattle.std.specs.Int.Count.{ones_step}
use Rattle.std.proofs.lemmas.Nat.{ones-le}
use Rattle.std.proofs.lemmas.List.Sums.{sum_by-cons}
use Rattle.std.proofs.lemmas.Bool.Decides.{nat_tests}
use Rattle.std.proofs.lemmas.Int.{ints}
use Rattle.std.proofs.lemmas.List.{length-append, length-set, get_or-set_same, get_or-set_other, drop_more, drop_all}
use Rattle.std.proofs.lemmas.Bool.{and_from, both_ways, or_cases, or_from, or_left, or_right, eqb-true, eqb-false, eq-eqb, cases_eq, and_right, ne_eqb, leb-true, le-leb, ltb-true, ltb-false, cases_lt}
use Rattle.store.specs.declared.facts.Fact.{Fact}
use Rattle.store.specs.Facts.{before, same, rising, holds, with_fact, without_fact, at_or_after, first_from, fact_of, in_range}
use Rattle.gridstore.specs.Grid.{grid_takes, word_of, bit_of, has_bit, grid_fact, word_facts, row_facts, words_facts, grid_meaning, FirstBit, LowBit, FirstAhead}
use Rattle.store.proofs.Walks.{first_relation}
use Rattle.store.proofs.Order.{fact_same, same_refl, same_eq}
use Rattle.store.proofs.Sets.{by_bool, rising_with, rising_without, length_with_absent}
use Rattle.gridstore.specs.Binary.{bit_set, bit_cleared, bit_test}
use Rattle.store.proofs.Members.{same_bool, holds_append, before_all_members, rising_append, same_members, holds_with, holds_without, first_is, first_none}

-- ---- order and range

pub grid_rises_value : (i u v : ℕ) → u < v → before (grid_fact i u) (grid_fact i v) ≡ true
unfolding before grid_fact
grid_rises_value i u v h = grind (arith, nat_tests, ints)

pub grid_rises_word : (i j u v : ℕ) → i < j → before (grid_fact i u) (grid_fact j v) ≡ true
unfolding before grid_fact
grid_rises_word i j u v h = grind (arith, nat_tests, ints)

pub grid_fact_taken : (i v : ℕ) → i < 1024 → v < 64 → grid_takes (grid_fact i v) ≡ true
unfolding grid_takes grid_fact
grid_fact_taken i v h k = grind (arith, nat_tests, ints)

pub taken_in_range : (f : Fact) → grid_takes f ≡ true → in_range f ≡ true
unfolding grid_takes in_range
taken_in_range f h = grind (arith, nat_tests, ints)

-- ---- the members of one word

-- a member of a word
abbrev OfWord : Fact → ℕ → ℕ → ℕ → ℕ → Type 0
OfWord f i v n w = (k : ℕ) × (k < n) × (f ≡ grid_fact i (v + k)) × (has_bit w k ≡ true)

word_sound : (f : Fact) (i v n w : ℕ) → holds f (word_facts i v n w) ≡ true → OfWord f i v n w
word_sound f i v zero w m = absurd (both_ways false refl m)
word_sound f i v (suc n) w m =
    by_bool (w % 2 == 1)
    (λ e. let m' : (same f (grid_fact i v) || holds f (word_facts i (suc v) n (w / 2))) ≡ true = rw e at m in
    ⊎_elim
    (λ s. (0, suc-le-suc zero-le, same_eq f (grid_fact i v) s ∙ ap (grid_fact i) (omega arith), e))
    (λ s. later (word_sound f i (suc v) n (w / 2) s)) (or_cases _ _ m'))
    (λ e. let m' : holds f (word_facts i (suc v) n (w / 2)) ≡ true = rw e at m in later (word_sound f i (suc v) n (w / 2) m'))
  where
    later : OfWord f i (suc v) n (w / 2) → OfWord f i v (suc n) w
    later p = (suc p.0, suc-le-suc p.1, p.2 ∙ ap (grid_fact i) (omega arith), p.3)

word_complete : (i v n w k : ℕ) → k < n → has_bit w k ≡ true → holds (grid_fact i (v + k)) (word_facts i v n w) ≡ true
word_complete i v zero w k l b = absurd (not-suc-le-zero l)
word_complete i v (suc n) w zero l b =
    let e : v + 0 ≡ v = omega arith in
    rw b (or_left _ _ (subst (λ (u : ℕ). same (grid_fact i u) (grid_fact i v) ≡ true) (sym e) (same_refl (grid_fact i v))))
word_complete i v (suc n) w (suc k) l b =
    let e : suc v + k ≡ v + suc k = omega arith in
    let rest : holds (grid_fact i (v + suc k)) (word_facts i (suc v) n (w / 2)) ≡ true = subst (λ (u : ℕ). holds (grid_fact i u) (word_facts i (suc v) n (w / 2)) ≡ true) e (word_complete i (suc v) n (w / 2) k (le_of_suc-le-suc l) b) in
    by_bool (w % 2 == 1) (λ t. rw t (or_right _ _ rest)) (λ t. rw t rest)

word_rises : (i v n w : ℕ) → rising (word_facts i v n w) ≡ true
word_rises i v zero w = refl
word_rises i v (suc n) w =
    let rest = word_rises i (suc v) n (w / 2) in
    by_bool (w % 2 == 1)
    (λ t. rw t (and_from _ _ (before_all_members (grid_fact i v) (word_facts i (suc v) n (w / 2)) (λ g m.
    let p = word_sound g i (suc v) n (w / 2) m in rw p.2 (grid_rises_value i v (suc v + p.0) (omega arith)))) rest))
    (λ t. rw t rest)

word_count : (i v n w : ℕ) → w < 2 ^ n → length (word_facts i v n w) ≡ count_ones w
word_count i v zero w h = omega (arith, ones-le 0 w h)
word_count i v (suc n) w h =
    let e = pow-suc 2 n in
    let less : w / 2 < 2 ^ n = omega arith in
    let rest = word_count i (suc v) n (w / 2) less in
    let step = ones_step w in
    by_bool (w % 2 == 1) (λ t. rw t (omega (arith, eqb-true (w % 2) 1 t))) (λ t. rw t (odd (eqb-false (w % 2) 1 t) step rest))
  where
    odd : {n o p : ℕ} → (w % 2 ≢ 1) → o ≡ w % 2 + p → n ≡ p → n ≡ o
    odd f g k = let z : w % 2 ≡ 0 = grind arith in omega arith

word_length : (i v n w : ℕ) → length (word_facts i v n w) ≤ n
word_length i v zero w = zero-le
word_length i v (suc n) w =
    let rest = word_length i (suc v) n (w / 2) in
    by_bool (w % 2 == 1) (λ t. rw t (suc-le-suc rest)) (λ t. rw t (omega arith))

-- ---- one row

row_sound : (f : Fact) (i w : ℕ) → holds f (row_facts i w) ≡ true → (k : ℕ) × (k < 64) × (f ≡ grid_fact i k) × (has_bit w k ≡ true)
unfolding row_facts
row_sound f i w m = from_zero (word_sound f i 0 64 w m)
  where
    from_zero : OfWord f i 0 64 w → (k : ℕ) × (k < 64) × (f ≡ grid_fact i k) × (has_bit w k ≡ true)
    from_zero p = (p.0, p.1, p.2 ∙ ap (grid_fact i) (omega arith), p.3)

row_complete : (i w k : ℕ) → k < 64 → has_bit w k ≡ true → holds (grid_fact i k) (row_facts i w) ≡ true
unfolding row_facts
row_complete i w k l b = let z : 0 + k ≡ k = omega arith in subst (λ (x : ℕ). holds (grid_fact i x) (word_facts i 0 64 w) ≡ true) z (word_complete i 0 64 w k l b)

row_rises : (i w : ℕ) → rising (row_facts i w) ≡ true
unfolding row_facts
row_rises i w = word_rises i 0 64 w

row_length : (i w : ℕ) → length (row_facts i w) ≤ 64
unfolding row_facts
row_length i w = word_length i 0 64 w

pub row_count : (i w : ℕ) → w < 2 ^ 64 → length (row_facts i w) ≡ count_ones w
unfolding row_facts
row_count i w h = word_count i 0 64 w h

-- ---- the members of the words

abbrev OfWords : Fact → ℕ → List ℕ → Type 0
OfWords f i ws = (j : ℕ) × (k : ℕ) × (j < length ws) × (k < 64) × (f ≡ grid_fact (i + j) k) × (has_bit (slice_index ws j) k ≡ true)

pub words_sound : (f : Fact) (i : ℕ) (ws : List ℕ) → holds f (words_facts i ws) ≡ true → OfWords f i ws
words_sound f i [] m = absurd (both_ways false refl m)
words_sound f i (w ∷ ws) m =
    ⊎_elim
    (λ s. let p = row_sound f i w s in
    (0, p.0, suc-le-suc zero-le, p.1, p.2 ∙ ap (λ (x : ℕ). grid_fact x p.0) (omega arith), p.3))
    (λ s. let p = words_sound f (suc i) ws s in
    (suc p.0, p.1, suc-le-suc p.2, p.3, p.4 ∙ ap (λ (x : ℕ). grid_fact x p.1) (omega arith), p.5))
    (or_cases _ _ (rw (holds_append f (row_facts i w) (words_facts (suc i) ws)) at m))

pub words_complete : (i j k : ℕ) (ws : List ℕ) → j < length ws → k < 64 → has_bit (slice_index ws j) k ≡ true → holds (grid_fact (i + j) k) (words_facts i ws) ≡ true
words_complete i j k [] l h b = absurd (not-suc-le-zero l)
words_complete i zero k (w ∷ ws) l h b =
    let e : i + 0 ≡ i = omega arith in
    let here : holds (grid_fact (i + 0) k) (row_facts i w) ≡ true = subst (λ (x : ℕ). holds (grid_fact x k) (row_facts i w) ≡ true) (sym e) (row_complete i w k h b) in
    rw (holds_append (grid_fact (i + 0) k) (row_facts i w) (words_facts (suc i) ws)) (or_left _ _ here)
words_complete i (suc j) k (w ∷ ws) l h b =
    let e : suc i + j ≡ i + suc j = omega arith in
    let rest : holds (grid_fact (i + suc j) k) (words_facts (suc i) ws) ≡ true =
    subst (λ (x : ℕ). holds (grid_fact x k) (words_facts (suc i) ws) ≡ true) e (words_complete (suc i) j k ws (le_of_suc-le-suc l) h b) in
    rw (holds_append (grid_fact (i + suc j) k) (row_facts i w) (words_facts (suc i) ws)) (or_right _ _ rest)

pub words_rise : (i : ℕ) (ws : List ℕ) → rising (words_facts i ws) ≡ true
words_rise i [] = refl
words_rise i (w ∷ ws) =
    rising_append (row_facts i w) (words_facts (suc i) ws) (row_rises i w) (words_rise (suc i) ws)
    (λ f g a b.
    let p = row_sound f i w a in
    let q = words_sound g (suc i) ws b in
    let up : before (grid_fact i p.0) (grid_fact (suc i + q.0) q.1) ≡ true = grid_rises_word i (suc i + q.0) p.0 q.1 (omega arith) in
    rw (p.2, q.4) up)

pub words_length : (i : ℕ) (ws : List ℕ) → length (words_facts i ws) ≤ 64 * length ws
words_length i [] = zero-le
words_length i (w ∷ ws) =
    let here = row_length i w in
    let rest = words_length (suc i) ws in
    rw (length-append (row_facts i w) (words_facts (suc i) ws)) (omega arith)

-- ---- a fact's word and bit

word_of_grid : (i v : ℕ) → word_of (grid_fact i v) ≡ i
unfolding word_of grid_fact
word_of_grid i v = omega arith

bit_of_grid : (i v : ℕ) → bit_of (grid_fact i v) ≡ v
unfolding bit_of grid_fact
bit_of_grid i v = refl

taken_value : (z : ℤ) → int_le (pos 0) z ≡ true → z ≡ pos (unsigned_abs z)
taken_value (pos n) h = refl
taken_value (negsuc n) h = absurd (both_ways false refl h)

pub taken_word : (f : Fact) → grid_takes f ≡ true → word_of f < 1024
unfolding grid_takes word_of
taken_word f h = grind (arith, nat_tests)

pub taken_bit : (f : Fact) → grid_takes f ≡ true → bit_of f < 64
unfolding grid_takes bit_of
taken_bit f h = below f.value (grind (arith, nat_tests)) (grind (arith, nat_tests))
  where
    below : (z : ℤ) → int_le (pos 0) z ≡ true → int_le z (pos 63) ≡ true → unsigned_abs z < 64
    below (pos n) p q = grind (arith, nat_tests)
    below (negsuc n) p q = absurd (both_ways false refl p)

pub taken_shape : (f : Fact) → grid_takes f ≡ true → grid_fact (word_of f) (bit_of f) ≡ f
unfolding grid_takes word_of bit_of grid_fact
taken_shape f h =
    let key : f.key < 64 = grind (arith, nat_tests) in
    fact_same _ f (omega arith) (omega arith) (sym (taken_value f.value (grind (arith, nat_tests))))

-- ---- membership by a bit

module _ (ws : List ℕ) (size : length ws ≡ 1024) where
  pub held : (f : Fact) → grid_takes f ≡ true → holds f (words_facts 0 ws) ≡ has_bit (slice_index ws (word_of f)) (bit_of f)
  held f t =
      same_bool (holds f (words_facts 0 ws)) (has_bit (slice_index ws (word_of f)) (bit_of f))
      (λ m.
      let p = words_sound f 0 ws m in
      let i : word_of f ≡ p.0 = ap word_of p.4 ∙ word_of_grid (0 + p.0) p.1 ∙ omega arith in
      let v : bit_of f ≡ p.1 = ap bit_of p.4 ∙ bit_of_grid (0 + p.0) p.1 in
      rw (i, v) p.5)
      (λ b.
      let z : 0 + word_of f ≡ word_of f = omega arith in
      let less = taken_word f t in
      let whole : grid_fact (0 + word_of f) (bit_of f) ≡ f = ap (λ (x : ℕ). grid_fact x (bit_of f)) z ∙ taken_shape f t in
      subst (λ (g : Fact). holds g (words_facts 0 ws) ≡ true) whole (words_complete 0 (word_of f) (bit_of f) ws (omega arith) (taken_bit f t) b))

  pub held_taken : (f : Fact) → holds f (words_facts 0 ws) ≡ true → grid_takes f ≡ true
  held_taken f m =
      let p = words_sound f 0 ws m in
      subst (λ (g : Fact). grid_takes g ≡ true) (sym p.4) (grid_fact_taken (0 + p.0) p.1 (omega arith) p.3)

  pub not_held : (f : Fact) → grid_takes f ≡ false → holds f (words_facts 0 ws) ≡ false
  not_held f t = by_bool (holds f (words_facts 0 ws)) (λ m. absurd (both_ways (grid_takes f) t (held_taken f m))) (λ m. m)

-- ---- a word that is changed at one bit

bits_apart : (f g : Fact) → grid_takes f ≡ true → grid_takes g ≡ true → word_of g ≡ word_of f → same g f ≡ (bit_of g == bit_of f)
bits_apart f g t u i =
    same_bool (same g f) (bit_of g == bit_of f)
    (λ s. eq-eqb (bit_of g) (bit_of f) (ap bit_of (same_eq g f s)))
    (λ s.
    let v : bit_of g ≡ bit_of f = eqb-true (bit_of g) (bit_of f) s in
    let e : g ≡ f = sym (taken_shape g u) ∙ ap (λ (x : ℕ). grid_fact x (bit_of g)) i ∙ ap (grid_fact (word_of f)) v ∙ taken_shape f t in
    rw e (same_refl f))

words_apart : (f g : Fact) → (word_of g ≢ word_of f) → same g f ≡ false
words_apart f g n = by_bool (same g f) (λ s. absurd (n (ap word_of (same_eq g f s)))) (λ s. s)

module _ (ws : List ℕ) (size : length ws ≡ 1024) (f : Fact) (t : grid_takes f ≡ true) (x : ℕ) where
  abbrev changed_words : List ℕ
  changed_words = slice_set ws (word_of f) x

  changed_size : length changed_words ≡ 1024
  changed_size = length-set ws (word_of f) x ∙ size

  -- op says what becomes of a bit: its first argument is whether the bit is f's
  changed : (op : Bool → Bool → Bool) → ((b : Bool) → op false b ≡ b)
      → ((v : ℕ) → v < 64 → has_bit x v ≡ op (v == bit_of f) (has_bit (slice_index ws (word_of f)) v))
      → (g : Fact) → grid_takes g ≡ true → holds g (words_facts 0 changed_words) ≡ op (same g f) (holds g (words_facts 0 ws))
  changed op keep bits g u =
      ⊎_elim
      (λ i.
      let less : word_of f < length ws = omega (arith, taken_word f t) in
      let now : slice_index_or changed_words (word_of g) 0 ≡ x = rw i (get_or-set_same ws (word_of f) x 0 less) in
      let was : holds g (words_facts 0 ws) ≡ has_bit (slice_index ws (word_of f)) (bit_of g) = subst (λ (n : ℕ). holds g (words_facts 0 ws) ≡ has_bit (slice_index ws n) (bit_of g)) i (held ws size g u) in
      held changed_words changed_size g u ∙ ap (λ (w : ℕ). has_bit w (bit_of g)) now ∙ bits (bit_of g) (taken_bit g u)
      ∙ ap (λ (b : Bool). op b (has_bit (slice_index ws (word_of f)) (bit_of g))) (sym (bits_apart f g t u i)) ∙ ap (op (same g f)) (sym was))
      (λ n.
      let now : slice_index_or changed_words (word_of g) 0 ≡ slice_index_or ws (word_of g) 0 = get_or-set_other ws (word_of f) (word_of g) x 0 n in
      held changed_words changed_size g u ∙ ap (λ (w : ℕ). has_bit w (bit_of g)) now ∙ sym (held ws size g u)
      ∙ sym (keep (holds g (words_facts 0 ws))) ∙ ap (λ (b : Bool). op b (holds g (words_facts 0 ws))) (sym (words_apart f g n)))
      (cases_eq (word_of g) (word_of f))

  -- a fact that the grid does not take is f in no case
  other : (g : Fact) → grid_takes g ≡ false → same g f ≡ false
  other g u = by_bool (same g f) (λ s. absurd (both_ways (grid_takes g) u (rw (same_eq g f s) t))) (λ s. s)

  pub grid_with : ((v : ℕ) → v < 64 → has_bit x v ≡ (v == bit_of f || has_bit (slice_index ws (word_of f)) v)) → words_facts 0 changed_words ≡ with_fact f (words_facts 0 ws)
  grid_with bits =
      same_members _ _ (words_rise 0 changed_words) (rising_with f _ (words_rise 0 ws)) (λ g.
      by_bool (grid_takes g)
      (λ u. changed (λ a b. a || b) (λ b. refl) bits g u ∙ sym (holds_with g f (words_facts 0 ws)))
      (λ u. not_held changed_words changed_size g u ∙ sym (holds_with g f (words_facts 0 ws) ∙ or_from _ _ (other g u) (not_held ws size g u))))

  pub grid_without : ((v : ℕ) → v < 64 → has_bit x v ≡ (not (v == bit_of f) && has_bit (slice_index ws (word_of f)) v)) → words_facts 0 changed_words ≡ without_fact f (words_facts 0 ws)
  grid_without bits =
      same_members _ _ (words_rise 0 changed_words) (rising_without f _ (words_rise 0 ws)) (λ g.
      by_bool (grid_takes g)
      (λ u. changed (λ a b. not a && b) (λ b. refl) bits g u ∙ sym (holds_without g f (words_facts 0 ws)))
      (λ u. not_held changed_words changed_size g u ∙ sym (holds_without g f (words_facts 0 ws) ∙ and_right _ _ (not_held ws size g u))))

pub taken_not_negative : (f : Fact) → grid_takes f ≡ true → T (non_neg f.value)
unfolding grid_takes
taken_not_negative f h = yes_non_neg (grind (arith, nat_tests, ints))

word_none : (i v n : ℕ) → word_facts i v n 0 ≡ []
word_none i v zero = refl
word_none i v (suc n) = word_none i (suc v) n

row_none : (i : ℕ) → row_facts i 0 ≡ []
unfolding row_facts
row_none i = word_none i 0 64

pub no_facts : (i n : ℕ) → words_facts i (replicate n 0) ≡ []
no_facts i zero = refl
no_facts i (suc n) = rw (row_none i) (no_facts (suc i) n)

pub no_words : (n : ℕ) → grid_meaning (replicate n 0) ≡ grid_meaning []
no_words n = ap (λ (xs : List Fact). record { facts = xs; takes = grid_takes; room = 65536 }) (no_facts 0 n)

-- ---- the operations at a fact that is taken

module _ (ws : List ℕ) (size : length ws ≡ 1024) (f : Fact) (t : grid_takes f ≡ true) where
  pub put_bit : (n p : ℕ) → n ≡ word_of f → p ≡ bit_of f → words_facts 0 (slice_set ws n (bit_or (slice_index ws n) ((1 * 2 ^ p) % 2 ^ 64))) ≡ with_fact f (words_facts 0 ws)
  put_bit n p i b = rw (i, b) (grid_with ws size f t (bit_or (slice_index ws (word_of f)) ((1 * 2 ^ bit_of f) % 2 ^ 64)) (bit_set (slice_index ws (word_of f)) (bit_of f) (taken_bit f t)))

  pub clear_bit : (n p : ℕ) → n ≡ word_of f → p ≡ bit_of f → words_facts 0 (slice_set ws n (bit_and (slice_index ws n) ((2 ^ 64 - 1) - (1 * 2 ^ p) % 2 ^ 64))) ≡ without_fact f (words_facts 0 ws)
  clear_bit n p i b = rw (i, b) (grid_without ws size f t (bit_and (slice_index ws (word_of f)) ((2 ^ 64 - 1) - (1 * 2 ^ bit_of f) % 2 ^ 64)) (bit_cleared (slice_index ws (word_of f)) (bit_of f) (taken_bit f t)))

  -- a clear bit leaves room
  pub grid_room : holds f (words_facts 0 ws) ≡ false → (length (words_facts 0 ws) == 65536) ≡ false
  grid_room h =
      let x : ℕ = bit_or (slice_index ws (word_of f)) ((1 * 2 ^ bit_of f) % 2 ^ 64) in
      let more = ap length (put_bit (word_of f) (bit_of f) refl refl) ∙ length_with_absent f (words_facts 0 ws) h in
      let most = words_length 0 (slice_set ws (word_of f) x) in
      let long : length (slice_set ws (word_of f) x) ≡ 1024 = length-set ws (word_of f) x ∙ size in
      ne_eqb _ _ (λ e. omega (arith, more, most, long))

  pub test_bit : (n p : ℕ) → n ≡ word_of f → p ≡ bit_of f → (bit_and (slice_index ws n / 2 ^ p) 1 == 1) ≡ holds f (words_facts 0 ws)
  test_bit n p i b = rw (i, b) (bit_test (slice_index ws (word_of f)) (bit_of f) ∙ sym (held ws size f t))

-- ---- the same at a place

module _ (ws : List ℕ) (size : length ws ≡ 1024) (i v : ℕ) (l : i < 1024) (h : v < 64) where
  abbrev here : Fact
  here = grid_fact i v

  taken : grid_takes here ≡ true
  taken = grid_fact_taken i v l h

  pub grid_put : words_facts 0 (slice_set ws i (bit_or (slice_index ws i) ((1 * 2 ^ v) % 2 ^ 64))) ≡ with_fact here (words_facts 0 ws)
  grid_put = put_bit ws size here taken i v (sym (word_of_grid i v)) (sym (bit_of_grid i v))

  pub grid_drop : words_facts 0 (slice_set ws i (bit_and (slice_index ws i) ((2 ^ 64 - 1) - (1 * 2 ^ v) % 2 ^ 64))) ≡ without_fact here (words_facts 0 ws)
  grid_drop = clear_bit ws size here taken i v (sym (word_of_grid i v)) (sym (bit_of_grid i v))

  pub grid_contains : (bit_and (slice_index ws i / 2 ^ v) 1 == 1) ≡ holds here (words_facts 0 ws)
  grid_contains = test_bit ws size here taken i v (sym (word_of_grid i v)) (sym (bit_of_grid i v))

-- ---- the count, word by word

-- the facts of the words, by the ones of each word
pub words_count : (i : ℕ) (ws : List ℕ) → ((k : ℕ) → k < length ws → slice_index ws k < 2 ^ 64) → sum_by count_ones ws ≡ length (words_facts i ws)
words_count i [] h = refl
words_count i (w ∷ ws) h =
    let here = row_count i w (h 0 (suc-le-suc zero-le)) in
    let rest = words_count (suc i) ws (λ k l. h (suc k) (suc-le-suc l)) in
    rw (length-append (row_facts i w) (words_facts (suc i) ws)) (omega (arith, here, rest, sum_by-cons count_ones w ws))

pub count_more : (ws : List ℕ) (i : ℕ) → i < length ws → slice_index ws i < 2 ^ 64 → length (words_facts i (drop i ws)) ≡ count_ones (slice_index ws i) + length (words_facts (i + 1) (drop (i + 1) ws))
count_more ws i l h =
    ap (λ (xs : List ℕ). length (words_facts i xs)) (drop_more ws i 0 l)
    ∙ length-append (row_facts i (slice_index ws i)) (words_facts (suc i) (drop (i + 1) ws))
    ∙ ap (λ (n : ℕ). n + length (words_facts (suc i) (drop (i + 1) ws))) (row_count i (slice_index ws i) h)
    ∙ ap (λ (n : ℕ). count_ones (slice_index ws i) + length (words_facts n (drop (i + 1) ws))) (sym (add-one i))

pub count_all : (ws : List ℕ) (i : ℕ) → length ws ≤ i → length (words_facts i (drop i ws)) ≡ 0
count_all ws i l = ap (λ (xs : List ℕ). length (words_facts i xs)) (drop_all i ws l)

-- ---- the walk, key by key

pub low_at_once : (start : Fact) (key : ℕ) → start.key < key → LowBit start key (Some 0)
unfolding at_or_after before
low_at_once start key h = (lit< tt, at)
  where
    at : (v : ℕ) → v < 64 → at_or_after start (fact_of start.relation key (pos v)) ≡ nat_le 0 v
    at v l = grind (arith, nat_tests, ints)

pub low_at_zero : (start : Fact) (key : ℕ) → start.key ≤ key → int_le start.value (pos 0) ≡ true → LowBit start key (Some 0)
unfolding at_or_after before
low_at_zero start key h z = (lit< tt, at)
  where
    at : (v : ℕ) → v < 64 → at_or_after start (fact_of start.relation key (pos v)) ≡ nat_le 0 v
    at v l = grind (arith, nat_tests, ints)

pub low_at_none : (start : Fact) (key : ℕ) → start.key ≡ key → int_lt (pos 63) start.value ≡ true → LowBit start key None
unfolding at_or_after before
low_at_none start key h z v l = grind (arith, nat_tests, ints)

same_key : (start : Fact) (key v : ℕ) → key ≡ start.key → at_or_after start (fact_of start.relation key (pos v)) ≡ not (int_lt (pos v) start.value)
unfolding at_or_after before
same_key start key v h =
    let k : nat_eq key start.key ≡ true = eq-eqb key start.key h in
    let r : nat_eq start.relation start.relation ≡ true = eq-eqb start.relation start.relation refl in
    rw (r, k)

pub low_at_value : (start : Fact) (key n : ℕ) → start.key ≤ key → key ≤ start.key → n ≡ unsigned_abs (int_max start.value (pos 0)) → LowBit start key (then_some (ltb n 64) n)
low_at_value start key n a b e =
    by_bool (ltb n 64) (λ l. rw l (ltb-true n 64 l, at)) (λ l. rw l (λ v h. at v h ∙ above v h (ltb-false n 64 l)))
  where
    value : (z : ℤ) (m v : ℕ) → m ≡ unsigned_abs (int_max z (pos 0)) → not (int_lt (pos v) z) ≡ nat_le m v
    value z m v q = grind (arith, nat_tests, ints)

    at : (v : ℕ) → v < 64 → at_or_after start (fact_of start.relation key (pos v)) ≡ nat_le n v
    at v h = same_key start key v (omega arith) ∙ value start.value n v e

    above : (v : ℕ) → v < 64 → 64 ≤ n → nat_le n v ≡ false
    above v h k = grind (arith, nat_tests)

pub first_ahead_none : (w : ℕ) (start : Fact) (key : ℕ) → LowBit start key None → FirstAhead w start key None
first_ahead_none w start key low = λ v l e. absurd (both_ways _ (low v l) e)

pub first_ahead_from : (w : ℕ) (start : Fact) (key low : ℕ) (o : Option ℕ) → LowBit start key (Some low) → FirstBit w low o → FirstAhead w start key o
first_ahead_from w start key low None at first = λ v l e. first v (leb-true low v (sym (at.1 v l) ∙ e)) l
first_ahead_from w start key low (Some n) at first = (
  first.1,
  first.2,
  at.1 n first.1 ∙ le-leb low n first.0,
  λ v l e. first.3 v (leb-true low v (sym (at.1 v (below v l first.1)) ∙ e)) l,
)
  where
    below : (v : ℕ) → v < n → n < 64 → v < 64
    below v l h = omega arith

met_key : (start y : Fact) → at_or_after start y ≡ true → start.key ≤ y.key
unfolding at_or_after before
met_key start y e = grind (arith, nat_tests, ints)

taken_parts : (y : Fact) → grid_takes y ≡ true → (y.relation ≤ 15) × (y.key ≤ 63)
unfolding grid_takes
taken_parts y t = (grind (arith, nat_tests), grind (arith, nat_tests))

taken_fact : (y : Fact) → grid_takes y ≡ true → y ≡ fact_of y.relation y.key (pos (bit_of y))
unfolding grid_takes bit_of
taken_fact y t = ap (λ (z : ℤ). fact_of y.relation y.key z) (taken_value y.value (grind (arith, nat_tests)))

word_of_is : (y : Fact) → word_of y ≡ y.relation * 64 + y.key
unfolding word_of
word_of_is y = refl

small_taken : (r k n : ℕ) → r ≤ 15 → k < 64 → n < 64 → grid_takes (fact_of r k (pos n)) ≡ true
unfolding grid_takes
small_taken r k n a b c = grind (arith, nat_tests)

bit_of_is : (r k n : ℕ) → bit_of (fact_of r k (pos n)) ≡ n
unfolding bit_of
bit_of_is r k n = refl

value_not_before : (r k n v : ℕ) → n ≤ v → before (fact_of r k (pos v)) (fact_of r k (pos n)) ≡ false
unfolding before
value_not_before r k n v h = grind (arith, nat_tests)

key_not_before : (y : Fact) (r k n : ℕ) → y.relation ≡ r → k < y.key → before y (fact_of r k (pos n)) ≡ false
unfolding before
key_not_before y r k n e h = grind (arith, nat_tests)

module _ (ws : List ℕ) (size : length ws ≡ 1024) (start : Fact) where
  -- the walk has passed the keys below key
  abbrev pub Passed : ℕ → Type 0
  Passed key = (y : Fact) → holds y (words_facts 0 ws) ≡ true → at_or_after start y ≡ true → key ≤ y.key

  pub passed_start : Passed start.key
  passed_start y m e = met_key start y e

  none_met : ((y : Fact) → holds y (words_facts 0 ws) ≡ true → at_or_after start y ≢ true) → None ≡ first_from start (words_facts 0 ws)
  none_met h = first_none start (words_facts 0 ws) (λ y m. by_bool (at_or_after start y) (λ e. absurd (h y m e)) (λ e. e))

  pub walk_outside : (15 < start.relation) ⊎ ((start.relation ≤ 15) × (63 < start.key)) → None ≡ first_from start (words_facts 0 ws)
  walk_outside o =
      none_met (λ y m e.
      let p = taken_parts y (held_taken ws size y m) in
      let r = first_relation start y e in
      let k = met_key start y e in
      ⊎_elim (λ a. omega (arith, p.0)) (λ a. omega (arith, a.1, p.1)) o)

  pub walk_end : (key : ℕ) → 64 ≤ key → Passed key → None ≡ first_from start (words_facts 0 ws)
  walk_end key h passed = none_met (λ y m e. omega (arith, (taken_parts y (held_taken ws size y m)).1, passed y m e))

  module _ (key : ℕ) where
    -- a fact of this key that is ahead has its bit in this word
    bit_ahead : (y : Fact) → holds y (words_facts 0 ws) ≡ true → at_or_after start y ≡ true → y.key ≡ key
        → (y ≡ fact_of start.relation key (pos (bit_of y))) × (bit_of y < 64) × (at_or_after start (fact_of start.relation key (pos (bit_of y))) ≡ true) × (has_bit (slice_index ws (start.relation * 64 + key)) (bit_of y) ≡ true)
    bit_ahead y m e k =
        let t = held_taken ws size y m in
        let r : y.relation ≡ start.relation = first_relation start y e in
        let shape : y ≡ fact_of start.relation key (pos (bit_of y)) =
        taken_fact y t ∙ ap (λ (n : ℕ). fact_of n y.key (pos (bit_of y))) r ∙ ap (λ (n : ℕ). fact_of start.relation n (pos (bit_of y))) k in
        let place : word_of y ≡ start.relation * 64 + key = word_of_is y ∙ ap (λ (n : ℕ). n * 64 + y.key) r ∙ ap (λ (n : ℕ). start.relation * 64 + n) k in
        (shape, taken_bit y t, subst (λ (w : Fact). at_or_after start w ≡ true) shape e, subst (λ (n : ℕ). has_bit (slice_index ws n) (bit_of y) ≡ true) place (sym (held ws size y t) ∙ m))

    pub walk_again : FirstAhead (slice_index ws (start.relation * 64 + key)) start key None → Passed key → Passed (key + 1)
    walk_again none passed y m e =
        let k = passed y m e in
        ⊎_elim
        (λ q. let b = bit_ahead y m e q in absurd (both_ways _ (none (bit_of y) b.1 b.2) b.3))
        (λ q. apart key y.key k q) (cases_eq y.key key)
      where
        apart : (a b : ℕ) → a ≤ b → (b ≢ a) → a + 1 ≤ b
        apart a b h n = grind arith

    pub walk_found : (n : ℕ) → start.relation ≤ 15 → key < 64 → FirstAhead (slice_index ws (start.relation * 64 + key)) start key (Some n) → Passed key → Some (fact_of start.relation key (pos n)) ≡ first_from start (words_facts 0 ws)
    walk_found n r k found passed =
        let x = fact_of start.relation key (pos n) in
        let t = small_taken start.relation key n r k found.0 in
        first_is start x (words_facts 0 ws) (words_rise 0 ws)
        (held ws size x t ∙ ap (has_bit (slice_index ws (word_of x))) (bit_of_is start.relation key n) ∙ ap (λ (i : ℕ). has_bit (slice_index ws i) n) (word_of_is x) ∙ found.1)
        found.2
        (λ y m e.
        ⊎_elim
        (λ q.
        let b = bit_ahead y m e q in
        let later : n ≤ bit_of y = ⊎_elim (λ l. absurd (both_ways _ (found.3 (bit_of y) l b.2) b.3)) (λ l. l) (cases_lt (bit_of y) n) in
        subst (λ (w : Fact). before w x ≡ false) (sym b.0) (value_not_before start.relation key n (bit_of y) later))
        (λ q. key_not_before y start.relation key n (first_relation start y e) (apart key y.key (passed y m e) q)) (cases_eq y.key key))
      where
        apart : (a b : ℕ) → a ≤ b → (b ≢ a) → a < b
        apart a b h n = grind arith
