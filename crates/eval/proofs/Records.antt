-- A record that grows, with its values.
use Rattle.std.proofs.Common.{◌≡◌, ℕ, ◌+◌, ◌-◌, ◌*◌, ◌<◌, ◌≤◌, Bool, true, false, cond, ltb, List, [], ◌∷◌, ◌++◌, length, get_or, vec_items, vec_len, sym, refl, ap, ◌∙◌, subst, ⊎_elim, add-mul, arith, length-append}
use Rattle.std.proofs.lemmas.Nat.{mul-le}
use Rattle.std.proofs.lemmas.List.{get_or_append_left, get_or_push}
use Rattle.std.proofs.lemmas.Option.{slice_get-get_or}
use Rattle.std.proofs.lemmas.Bool.{and_parts, and_from, both_ways, cases_lt, cases_eq, ltb-true, lt-ltb, le-ltb}
use Rattle.truth.specs.declared.Three.{Three}
use Rattle.truth.specs.declared.Three.TheVariants.{True, False, Undecided}
use Rattle.truth.specs.Kleene.{three, Definite}
use Rattle.syntax.specs.declared.Node.{Node}
use Rattle.syntax.specs.Nodes.{formula_at}
use Rattle.syntax.specs.Rows.{bit_of}
use Rattle.rules.specs.Tables.{nodes_of}
use Rattle.eval.specs.declared.evaluated.EvaluatedRecord.{EvaluatedRecord}
use Rattle.eval.specs.Columns.{value_at}
use Rattle.eval.specs.Growing.{latest, later_than, growing_record}
use Rattle.eval.specs.Rows.{truth_of}
use Rattle.eval.specs.Stamps.{rising}
use Rattle.eval.specs.Standing.{decided, stays_decided, stood, Settled, Right}
use Rattle.eval.specs.Steps.{Filled}
use Rattle.eval.specs.Truth.{Record, count, value}
use Rattle.eval.proofs.Filling.{all_values_at, length_all_values}
use Rattle.eval.proofs.Growing.{persistence}
use Rattle.eval.proofs.Places.{place_within}
use Rattle.eval.proofs.Stamps.{rises, rising_from}
use Rattle.eval.proofs.Theorems.{Running, Rising, Begins, Equal}

-- ---- stamps

-- a stamp later than the last
pub rises_more :
    (ts : List ℕ) (t : ℕ) → ((i j : ℕ) → i < j → j < length ts → get_or ts i 0 < get_or ts j 0) → later_than (latest ts) t ≡ true
    → (i j : ℕ) → i < j → j < length (ts ++ (t ∷ [])) → get_or (ts ++ (t ∷ [])) i 0 < get_or (ts ++ (t ∷ [])) j 0
rises_more ts t up late i j ij jn =
    ⊎_elim
    (λ (l : j < length ts).
    let k : i < length ts = omega arith in
    rw (get_or_append_left ts (t ∷ []) 0 i k, get_or_append_left ts (t ∷ []) 0 j l) (up i j ij l))
    (λ (l : length ts ≤ j).
    let e : length ts ≡ j = omega (arith, length-append ts (t ∷ [])) in
    let k : i < length ts = omega arith in
    let z = length ts - 1 in
    let last : get_or ts z 0 < t = ltb-true _ _ (sym (ap (λ o. later_than o t) (slice_get-get_or ts z 0 (omega arith))) ∙ late) in
    let before : get_or ts i 0 < t =
    ⊎_elim (λ (q : i ≡ z). subst (λ (n : ℕ). get_or ts n 0 < t) (sym q) last) (λ q. omega (arith, up i z (omega arith) (omega arith), last)) (cases_eq i z) in
    rw (get_or_append_left ts (t ∷ []) 0 i k, get_or_push ts t 0 j e) before)
    (cases_lt j (length ts))

pub rising_more : (ts : List ℕ) (t : ℕ) → rising ts ≡ true → later_than (latest ts) t ≡ true → rising (ts ++ (t ∷ [])) ≡ true
rising_more ts t up late = rising_from (ts ++ (t ∷ [])) (rises_more ts t (rises ts up) late)

-- ---- room

-- a value for each node at each state
pub how_many : (s : EvaluatedRecord) → vec_len s.values ≡ length (vec_items s.stamps) * length (nodes_of s.table.now)
how_many s =
    s.values.ok.0 ∙ ap length s.evaluated
    ∙ length_all_values three (growing_record (vec_items s.stamps) (vec_items s.rows) s.finished) (nodes_of s.table.now)

-- one more state has room
pub more_room : (n w v : ℕ) → n < 512 → w ≤ 64 → v ≡ n * w → v + w ≤ 32768
more_room n w v ln lw e = omega (arith, mul-le n w 511 64 (omega arith) lw, e)

-- the values of one state more
pub one_more : (n m w w' v : ℕ) {u : ℕ} → v ≡ n * w → m ≡ n + 1 → w' ≡ w → u ≡ v + w' → u ≡ m * w
one_more n m w w' v {u} e em ew eu = rw em (omega (arith, add-mul n 1 w, e, ew, eu))

-- ---- values that stand

definite : (x : Three) → decided x ≡ true → Definite x
definite True e = (true, refl)
definite False e = (false, refl)
definite Undecided e = absurd (both_ways false refl e)

-- what a running record has decided is right in every record that begins with its states
decided_right :
    (nodes : List Node) (r s : Record Three) (values : List Three) → Running r → Begins Equal r s → Rising s
    → Filled three r nodes values (length nodes) → (n : ℕ) → n ≡ count r → Right three s nodes values (stays_decided n)
decided_right nodes r s values run begins up filled n e a i la li h =
    let x = value_at three values (length nodes) a i in
    let parts = and_parts (ltb i n) (decided x) h in
    let lt : i < count r = omega (arith, ltb-true i n parts.0, e) in
    let same : x ≡ value three r (formula_at nodes a) i = filled a i la lt in
    same ∙ sym (persistence r s run begins up (formula_at nodes a) i lt (definite _ (ap decided (sym same) ∙ parts.1)))

-- no value at the settled states is undecided, so they stand whole
pub settled_right : (nodes : List Node) (s : Record Three) (values : List Three) (n from : ℕ) → from ≤ n → Settled nodes values from
    → Right three s nodes values (stays_decided n) → Right three s nodes values (stood from (stays_decided n))
settled_right nodes s values n from le settled right a i la li h =
    ⊎_elim
    (λ l. right a i la li (and_from _ _ (lt-ltb i n (omega arith)) (settled a i la l)))
    (λ (l : from ≤ i). right a i la li (rw (le-ltb i from l) at h))
    (cases_lt i from)

none_right : (nodes : List Node) (s : Record Three) (values : List Three) (n : ℕ) → n ≡ 0 → Right three s nodes values (stays_decided n)
none_right nodes s values n e a i la li h = absurd (omega (arith, ltb-true i n (and_parts (ltb i n) (decided (value_at three values (length nodes) a i)) h).0, e))

begins_more : (ts rs : List ℕ) (t row : ℕ) (b : Bool) → length rs ≡ length ts → Begins Equal (growing_record ts rs b) (growing_record (ts ++ (t ∷ [])) (rs ++ (row ∷ [])) b)
begins_more ts rs t row b e = (
  omega (arith, length-append ts (t ∷ [])),
  λ i li. (
    get_or_append_left ts (t ∷ []) 0 i li,
    λ m. sym (ap (λ (w : ℕ). truth_of three (bit_of w m)) (get_or_append_left rs (row ∷ []) 0 i (omega arith))),
  ),
)

-- the states whose values stand are there
pub few_states : (b : Bool) (x : ℕ) {n m : ℕ} → n ≡ cond b 0 x → x ≤ m → n ≤ m
few_states true x e le = omega arith
few_states false x e le = omega arith

module _ (s : EvaluatedRecord) where
  abbrev own : Record Three
  own = growing_record (vec_items s.stamps) (vec_items s.rows) s.finished

  abbrev own_nodes : List Node
  own_nodes = nodes_of s.table.now

  -- its values, wherever the first of them are kept
  own_filled : (values : List Three) → ((k : ℕ) (d : Three) → k < vec_len s.values → get_or values k d ≡ get_or (vec_items s.values) k d) → Filled three own own_nodes values (length own_nodes)
  own_filled values same a i la li =
      same (i * length own_nodes + a) False (place_within i (length own_nodes) a (count own) (vec_len s.values) li la (how_many s))
      ∙ ap (λ (vs : List Three). get_or vs (i * length own_nodes + a) False) s.evaluated
      ∙ all_values_at three own own_nodes i a False li la

  -- the settled states are, wherever the values are kept
  pub settled_same : (values : List Three) → ((k : ℕ) (d : Three) → k < vec_len s.values → get_or values k d ≡ get_or (vec_items s.values) k d)
      → (n : ℕ) → n ≤ s.settled → Settled own_nodes values n
  settled_same values same n le a i la li =
      ap decided (same (i * length own_nodes + a) False (place_within i (length own_nodes) a (count own) (vec_len s.values) (omega (arith, s.counted, s.stamps.ok.0)) la (how_many s)))
      ∙ s.definite a i la (omega arith)

  -- what stands when a state comes
  pub take_right :
      (t row n : ℕ) (ts rs : List ℕ) (values : List Three) → later_than (latest (vec_items s.stamps)) t ≡ true
      → ts ≡ vec_items s.stamps ++ (t ∷ []) → rs ≡ vec_items s.rows ++ (row ∷ [])
      → ((k : ℕ) (d : Three) → k < vec_len s.values → get_or values k d ≡ get_or (vec_items s.values) k d)
      → (b : Bool) → s.finished ≡ b → n ≡ cond b 0 (length (vec_items s.stamps))
      → Right three (growing_record ts rs s.finished) own_nodes values (stays_decided n)
  take_right t row n ts rs values late ets ers same true over e = none_right own_nodes (growing_record ts rs s.finished) values n e
  take_right t row n ts rs values late ets ers same false over e =
      let pairs : length (vec_items s.rows) ≡ length (vec_items s.stamps) = sym s.rows.ok.0 ∙ s.paired ∙ s.stamps.ok.0 in
      rw (ets, ers)
      (decided_right own_nodes own (growing_record (vec_items s.stamps ++ (t ∷ [])) (vec_items s.rows ++ (row ∷ [])) s.finished) values
      (ap (λ (b : Bool). cond b False Undecided) over)
      (begins_more (vec_items s.stamps) (vec_items s.rows) t row s.finished pairs)
      (rises_more (vec_items s.stamps) t (rises (vec_items s.stamps) s.risen) late)
      (own_filled values same) n e)

  -- what stands when the record is finished
  pub finish_right :
      (n : ℕ) (ts rs : List ℕ) → ts ≡ vec_items s.stamps → rs ≡ vec_items s.rows
      → (b : Bool) → s.finished ≡ b → n ≡ cond b 0 (length (vec_items s.stamps))
      → Right three (growing_record ts rs true) own_nodes (vec_items s.values) (stays_decided n)
  finish_right n ts rs ets ers true over e = none_right own_nodes (growing_record ts rs true) (vec_items s.values) n e
  finish_right n ts rs ets ers false over e =
      rw (ets, ers)
      (decided_right own_nodes own (growing_record (vec_items s.stamps) (vec_items s.rows) true) (vec_items s.values)
      (ap (λ (b : Bool). cond b False Undecided) over)
      (omega arith, λ i li. (refl, λ m. refl))
      (rises (vec_items s.stamps) s.risen)
      (own_filled (vec_items s.values) (λ k d l. refl)) n e)
