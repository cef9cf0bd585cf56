-- What one item of the reading gives.
use Rattle.std.proofs.Common.{◌≡◌, ℕ, List, [], ◌∷◌, Ok, Err, Result, MatchResult, IsErrAnd, sym, ap, ◌∙◌, subst}
use Rattle.items.specs.declared.item.Place.{Place}
use Rattle.items.specs.declared.item.Item.{Item}
use Rattle.grammar.specs.declared.fault.FaultKind.{FaultKind}
use Rattle.grammar.specs.declared.fault.ReadFault.{ReadFault}
use Rattle.grammar.specs.Entries.{Entry}
use Rattle.grammar.specs.Reading.{State, Outcome, done, stop, Test, tested, next, any}
use Rattle.grammar.proofs.Inversion.{stopped, taken}
use Rattle.rules.specs.Reads.{Reads}

-- the outcome of a test of an item that was taken
abbrev pub after_item : {V : Type 0} → Result V FaultKind → Item → State → Outcome V
after_item (Ok v) it t = done v t
after_item (Err k) it t = stop (record { kind = k; place = it.place })

module _ {V : Type 0} (test : Test V) (it : Item) (t : State) (past : Place) (opened : ℕ) (nodes : List Entry) where
  abbrev at : List Item → State
  at items = record { rest = items; past = past; opened = opened; nodes = nodes }

  by_result : (r : Result V FaultKind) (x : Item) (more : List Item) → x ≡ it → at more ≡ t → tested r (at (x ∷ more)) more ≡ after_item r it t
  by_result (Ok v) x more p q = ap (done v) q
  by_result (Err k) x more p q = ap (λ (i : Item). stop (record { kind = k; place = i.place })) p

  tested_at : (items : List Item) → next any (at items) ≡ done it t → next test (at items) ≡ after_item (test it) it t
  tested_at [] h = absurd (stopped h)
  tested_at (x ∷ more) h =
      let p : x ≡ it = cc in
      let q : at more ≡ t = cc in
      by_result (test x) x more p q ∙ ap (λ i. after_item (test i) it t) p

-- an item that was taken is tested as it is in the reading
pub tested_item : {V : Type 0} (test : Test V) (s : State) (it : Item) (t : State) → next any s ≡ done it t → next test s ≡ after_item (test it) it t
tested_item test s it t h = tested_at test it t s.past s.opened s.nodes s.rest h

passes : {V : Type 0} (test : Test V) (s : State) (it : Item) (t : State) (v : V) → next any s ≡ done it t → test it ≡ Ok v → next test s ≡ done v t
passes test s it t v h e = tested_item test s it t h ∙ ap (λ r. after_item r it t) e

fails : {V : Type 0} (test : Test V) (s : State) (it : Item) (t : State) (k : FaultKind) → next any s ≡ done it t → test it ≡ Err k → next test s ≡ stop (record { kind = k; place = it.place })
fails test s it t k h e = tested_item test s it t h ∙ ap (λ r. after_item r it t) e

-- a test's result, with its fault at the item, is the answer of the reading
pub answered : {V : Type 0} (test : Test V) (s : State) (it : Item) (t : State) → next any s ≡ done it t → (P : FaultKind → ReadFault → Type 0) → ((k : FaultKind) (f : ReadFault) → P k f → f ≡ record { kind = k; place = it.place }) → (r : Result V FaultKind) → r ≡ test it → (q : Result V ReadFault) → MatchResult r (λ v. q ≡ Ok v) (λ k. IsErrAnd q (P k)) → Reads q (next test s) t
answered test s it t h P f (Ok v) e q m = subst (λ x. Reads x (next test s) t) (sym m) (passes test s it t v h (sym e))
answered test s it t h P f (Err k) e (Ok v) m = absurd m
answered test s it t h P f (Err k) e (Err x) m = fails test s it t k h (sym e) ∙ ap stop (sym (f k x m))

-- an item keeps the nodes and the count of formulas
pub kept : {V : Type 0} (test : Test V) (s : State) (v : V) (t : State) → next test s ≡ done v t → (t.nodes ≡ s.nodes) × (t.opened ≡ s.opened)
kept test s v t h = let x = taken test s v t h in (ap (λ (u : State). u.nodes) x.after, ap (λ (u : State). u.opened) x.after)
