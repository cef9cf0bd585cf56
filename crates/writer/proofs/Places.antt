-- Texts put into a buffer, one after another.
use Rattle.std.proofs.Common.{◌≡◌, ℕ, ◌+◌, ◌-◌, ◌^◌, ◌<◌, ◌≤◌, min, List, [], ◌∷◌, ◌++◌, length, take, drop, sym, ap, refl, ◌∙◌, subst, append_assoc, append-nil, arith, length-append, get_or, take_all, take_at, rules}
use borrow.Rule.Slice.PartMut.{put_mid}
use Rattle.std.proofs.lemmas.List.{drop-drop, take_more}
use Rattle.std.proofs.lemmas.Slice.{take-put_mid, drop-put_mid, overwrites}
use Rattle.std.proofs.lemmas.List.Concat.{flat_map-cons}
use Rattle.std.proofs.lemmas.Grind.{flat_map-append}
use Rattle.std.specs.List.{flat_map}
use Rattle.writer.specs.Places.{Puts, Gains}
use Rattle.writer.specs.declared.sink.Sink.{Sink}

-- a copy into the part of the buffer past the place
module _ (a : Sink) (text copied : List ℕ) (past : ℕ) (counted : past ≡ min (a.at + length text) (2 ^ 64 - 1)) (within : past ≤ length a.out.now) (short : length a.out.now < 2 ^ 64 - 1) (same : copied ≡ text) where
  as_long : length copied ≡ length text
  as_long = ap length same

  is_past : past ≡ a.at + length text
  is_past = omega arith

  put_at : Puts a.out.now a.at (put_mid a.at (past - a.at) a.out.now copied) past text
  put_at =
      let e : past ≡ a.at + length copied = omega (arith, is_past, as_long) in
      let k : length copied ≡ past - a.at = omega (arith, is_past, as_long) in
      let w : a.at ≤ length a.out.now = omega (arith, is_past) in
      let n : a.at + (past - a.at) ≤ past = omega (arith, is_past) in
      record {
        counted = counted;
        exact = λ _. is_past;
        front = λ _. take-put_mid a.at (past - a.at) a.out.now copied past e w ∙ ap (λ x. take a.at a.out.now ++ x) same;
        back = λ _. drop-put_mid a.at (past - a.at) a.out.now copied past n w k;
        long = search (rules, overwrites);
      }

  pub put_in : Gains a (record { out = record a.out { now = put_mid a.at (past - a.at) a.out.now copied }; at = past }) text
  put_in = record { same = refl; puts = put_at }

-- a text after another
module _ {a b c : Sink} {s t : List ℕ} (first : Gains a b s) (second : Gains b c t) where
  both : a.at + length (s ++ t) ≡ (a.at + length s) + length t
  both = simp length-append (omega arith)

  module _ (room : a.at + length (s ++ t) ≤ length a.out.now) where
    early : a.at + length s ≤ length a.out.now
    early = omega (arith, both)

    late : b.at + length t ≤ length b.out.now
    late = omega (arith, both, first.puts.exact early, first.puts.long)

    rest : drop c.at c.out.now ≡ drop c.at a.out.now
    rest =
        let e : c.at ≡ b.at + length t = omega (arith, second.puts.exact late) in
        let p : drop c.at b.out.now ≡ drop (length t) (drop b.at b.out.now) = ap (λ n. drop n b.out.now) e ∙ sym (drop-drop (length t) b.at b.out.now) in
        let q : drop c.at a.out.now ≡ drop (length t) (drop b.at a.out.now) = ap (λ n. drop n a.out.now) e ∙ sym (drop-drop (length t) b.at a.out.now) in
        second.puts.back late ∙ p ∙ ap (drop (length t)) (first.puts.back early) ∙ sym q

  pub then_gains : Gains a c (s ++ t)
  then_gains =
      record {
        same = second.same ∙ first.same;
        puts = record {
          counted = omega (arith, both, first.puts.counted, second.puts.counted);
          exact = λ room. omega (arith, both, first.puts.exact (early room), second.puts.exact (late room));
          front = λ room. second.puts.front (late room) ∙ ap (λ x. x ++ t) (first.puts.front (early room)) ∙ append_assoc (take a.at a.out.now) s t;
          back = λ room. rest room;
          long = second.puts.long ∙ first.puts.long;
        };
      }

pub gains_same : {a b : Sink} {s t : List ℕ} → s ≡ t → Gains a b s → Gains a b t
gains_same {a} {b} e h = subst (Gains a b) e h

-- a buffer without room
pub past_end : (a : Sink) (text : List ℕ) (past : ℕ) → past ≡ min (a.at + length text) (2 ^ 64 - 1) → length a.out.now < past → Gains a (record { out = a.out; at = past }) text
past_end a text past counted none =
    record {
      same = refl;
      puts = record {
        counted = counted;
        exact = λ room. absurd (omega (arith, counted));
        front = λ room. absurd (omega (arith, counted));
        back = λ _. refl;
        long = refl;
      };
    }

pub none_gained : (a : Sink) → a.at < 2 ^ 64 → Gains a a []
none_gained a fits =
    record {
      same = refl;
      puts = record { counted = omega arith; exact = λ _. omega arith; front = λ _. sym (append-nil (take a.at a.out.now)); back = λ _. refl; long = refl };
    }

-- what a loop put so far
module _ {A : Type 0} {a b : Sink} (text : A → List ℕ) (xs : List A) (i : ℕ) (so : Gains a b (flat_map text (take i xs))) where
  pub more_gained : {c : Sink} (d : A) → i < length xs → Gains b c (text (get_or xs i d)) → Gains a c (flat_map text (take (i + 1) xs))
  more_gained d lt next =
      let x = get_or xs i d in
      let one : flat_map text (x ∷ []) ≡ text x = flat_map-cons text x [] ∙ append-nil (text x) in
      gains_same (ap (λ t. flat_map text (take i xs) ++ t) (sym one) ∙ sym (flat_map-append text (take i xs) (x ∷ [])) ∙ ap (flat_map text) (sym (take_more xs i d lt))) (then_gains so next)

  pub all_gained : length xs ≤ i → Gains a b (flat_map text xs)
  all_gained le = gains_same (ap (flat_map text) (take_all i xs le)) so

-- a text that fills a buffer of the length that was counted
pub filled : {text whole before after none empty : List ℕ} {n counted : ℕ} (rest : List ℕ) (long : ℕ) → Puts none 0 empty counted text → long ≡ counted → length before ≡ long → long < 2 ^ 64 - 1 → Puts before 0 after n text → text ≡ whole → take long (after ++ rest) ≡ whole
filled {text} {whole} {before} {after} {none} {empty} {n} rest long count is same short put here =
    let room : 0 + length text ≤ length before = omega (arith, count.counted) in
    let past : n ≡ 0 + length text = put.exact room in
    let all : length after ≡ long = put.long ∙ same in
    take_at after rest long all ∙ sym (take_all n after (omega (arith, count.counted))) ∙ put.front room ∙ here
