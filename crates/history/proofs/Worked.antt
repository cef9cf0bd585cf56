-- The worked facts.
use Rattle.std.proofs.Common.{◌≡◌, ℕ, zero, suc, ◌-◌, ◌<◌, Bool, true, false, cond, not, ltb, List, [], length, pos, sym, refl, ap, ◌∙◌, arith}
use Rattle.std.proofs.Math.Bool.{or-not_self}
use Rattle.std.proofs.lemmas.Bool.{le-ltb}
use Rattle.std.proofs.lemmas.List.{length-map}
use Rattle.truth.specs.Kinds.{Kind}
use Rattle.truth.specs.declared.Three.{Three}
use Rattle.truth.specs.declared.Three.TheVariants.{True, False}
use Rattle.truth.specs.Kleene.{plain, three, embed, not3}
use Rattle.syntax.specs.declared.Window.{Window}
use Rattle.store.specs.Facts.{fact_of, holds, of_relation, value_in}
use Rattle.eval.specs.Truth.{Record, any, count, stamp, closed, next}
use Rattle.history.specs.Histories.{State, stamps, facts_at, running_record, ended_record, finished_record}
use Rattle.history.specs.Worked.{Levels, Ends, Begins, Empties, WorkedFacts, Last, window, next_true, allnext_true}

levels : (key : ℕ) → Levels key
unfolding value_in
levels key = record { high = refl; falling = refl; middling = refl; in_time = refl; too_late = refl; too_high = refl }

-- at the last state next is the open mark, whose distance is 0
next_last : {K : Type 0} (k : Kind K) (r : Record K) (w : Window) (f : ℕ → K) (i : ℕ) → suc i ≡ count r → next k r w f i ≡ cond (closed w.high 0) k.no r.pending
next_last k r w f i e =
    let last : count r - 1 ≡ i = omega arith in
    let dist : stamp r (count r - 1) - stamp r i ≡ 0 = rw last (omega arith) in
    let out : ltb (suc i) (count r) ≡ false = le-ltb (suc i) (count r) (omega arith) in
    rw (out, dist)

length_stamps : (h : List State) → length (stamps h) ≡ length h
length_stamps h = length-map h (λ s. s.stamp)

ends : (h : List State) (i : ℕ) → Last h i → Ends h i
ends h i e =
    let last : suc i ≡ length (stamps h) = e ∙ sym (length_stamps h) in
    record {
      no_next = next_last three (running_record (next_true 0 0) h) (window 0 0) (λ _. True) i last;
      next_open = next_last three (running_record (next_true 1 5) h) (window 1 5) (λ _. True) i last;
      next_final = next_last three (ended_record (next_true 1 5) h) (window 1 5) (λ _. True) i last;
      next_truth = next_last plain (finished_record (next_true 1 5) h) (window 1 5) (λ _. true) i last;
      allnext_final = ap not3 (next_last three (ended_record (allnext_true 1 5) h) (window 1 5) (λ _. False) i last);
      allnext_truth = ap not (next_last plain (finished_record (allnext_true 1 5) h) (window 1 5) (λ _. false) i last);
    }

begins : (h : List State) → Begins h
begins h = record { running_first = refl; final_first = refl; truth_first = refl }

empties : (h : List State) (i : ℕ) → of_relation 0 (facts_at h i) ≡ [] → Empties h i
empties h i e = record { some_none = rw e; every_none = rw e; refer_none = rw e }

-- an or of values that are all no is no
any_no : (n : ℕ) (p : ℕ → Bool) (f : ℕ → Three) → ((j : ℕ) → j < n → f j ≡ False) → any three n p f ≡ False
any_no zero p f h = refl
any_no (suc n) p f h = rw (any_no n p f (λ j lt. h j (omega arith)), h n (omega arith)) (grind arith)

pub worked_facts : WorkedFacts
worked_facts =
    record {
      levels = levels;
      ends = ends;
      begins = begins;
      empties = empties;
      still_open = λ h i unseen l. rw (any_no (length (stamps h)) _ (λ j. embed (holds (fact_of 0 0 (pos 1)) (facts_at h j))) (λ j lt. ap embed (unseen j (omega (arith, length_stamps h)))));
      never_false = λ h i history l. or-not_self _;
    }
