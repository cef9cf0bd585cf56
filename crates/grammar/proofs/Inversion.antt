-- What is read is the text of a formula.
use Rattle.std.proofs.Common.{◌≡◌, ℕ, zero, suc, ◌+◌, ◌<◌, ◌≤◌, Bool, true, false, cond, ◌&&◌, ltb, List, [], ◌∷◌, ◌++◌, map, length, ℤ, pos, Some, None, Ok, Err, Result, sym, refl, ap, ◌∙◌, subst, arith, rules, length-append, ltb-true}
use Rattle.std.proofs.lemmas.Bool.{and_parts, and_from, false≢true}
use lib.Signed.{le_z}
use Rattle.items.specs.declared.item.Place.{Place}
use Rattle.items.specs.declared.item.Form.{Form}
use Rattle.items.specs.declared.item.Kind.{Kind}
use Rattle.items.specs.declared.item.Item.{Item}
use Rattle.grammar.specs.declared.fault.FaultKind.{FaultKind}
use Rattle.grammar.specs.declared.fault.ReadFault.{ReadFault as Fault}
use Rattle.grammar.specs.declared.shape.Slot.{Slot}
use Rattle.grammar.specs.declared.shape.Slot.TheVariants.{Range, Upper, UpperOrEnd}
use Rattle.grammar.specs.declared.shape.Arity.{Arity}
use Rattle.grammar.specs.declared.shape.Arity.TheVariants.{Zero, One, Two}
use Rattle.grammar.specs.Grammar.{slots, arity}
use Rattle.grammar.specs.Entries.{Arg, Entry, entry}
use Rattle.grammar.specs.Reading.{State, Outcome, Step, Test, done, stop, then, next, tested, left, is, same, fault_at, within, ranged, may_end, argument, arguments, operand, operands, word, counted, opening, arg, pushed, closing, formula}
use Rattle.items.specs.Items.{item_number}
use Rattle.items.specs.Tokens.{tokens}
use Rattle.grammar.specs.Trees.{Tree, leaf, unary, binary, arg_token, arg_tokens, head_tokens, tree_tokens, inside, nodes_after, in_range, fits, bound, args_fit, Well}
use Rattle.grammar.proofs.Tokens.{err_ok, bare, same_bare, is_form}
use Rattle.items.specs.declared.item.Kind.TheVariants as kind
use Rattle.grammar.specs.declared.fault.FaultKind.TheVariants as fault

pub stopped : {V : Type 0} {f : Fault} {v : V} {t : State} → stop f ≡ done v t → ⊥
stopped h = cc

-- both parts of a reading that is done are done
pub record Both {V W : Type 0} (o : Outcome V) (k : V → Step W) (w : W) (t : State) : Type 0 where
  pub value : V
  pub state : State
  pub first : o ≡ done value state
  pub then_done : k value state ≡ done w t

pub both : {V W : Type 0} (o : Outcome V) (k : V → Step W) (w : W) (t : State) → then o k ≡ done w t → Both o k w t
both (done v s) k w t h = record { value = v; state = s; first = refl; then_done = h }
both (stop f) k w t h = absurd (stopped h)

-- an item that is read
pub record Taken {V : Type 0} (test : Test V) (s : State) (v : V) (t : State) : Type 0 where
  pub item : Item
  pub rest : List Item
  pub was : s.rest ≡ item ∷ rest
  pub passed : test item ≡ Ok v
  pub after : t ≡ left s rest

module _ {V : Type 0} (test : Test V) (v : V) (t : State) (past : Place) (opened : ℕ) (nodes : List Entry) where
  abbrev at : List Item → State
  at items = record { rest = items; past = past; opened = opened; nodes = nodes }

  taken_at : (it : Item) (items : List Item) (r : Result V FaultKind) → test it ≡ r → tested r (at (it ∷ items)) items ≡ done v t → Taken test (at (it ∷ items)) v t
  taken_at it items (Ok u) p h = record { item = it; rest = items; was = refl; passed = cc; after = cc }
  taken_at it items (Err k) p h = absurd (stopped h)

  taken_from : (items : List Item) → next test (at items) ≡ done v t → Taken test (at items) v t
  taken_from [] h = absurd (stopped h)
  taken_from (it ∷ items) h = taken_at it items (test it) refl h

pub taken : {V : Type 0} (test : Test V) (s : State) (v : V) (t : State) → next test s ≡ done v t → Taken test s v t
taken test s v t h = taken_from test v t s.past s.opened s.nodes s.rest h

-- a test of the kind
pub cond_true : {V E : Type 0} (b : Bool) (x y : V) (e : E) → ◌≡◌ {A = Result V E} (cond b (Ok x) (Err e)) (Ok y) → (b ≡ true) × (x ≡ y)
cond_true true x y e h = (refl, cc)
cond_true false x y e h = absurd (err_ok h)

-- an item of a kind is read: what was there, and what is left
pub record Passed (k : Kind) (s : State) (t : State) : Type 0 where
  pub rest : List Item
  pub was : tokens s.rest ≡ k ∷ tokens rest
  pub after : t ≡ left s rest

pub passed : (k : Kind) → bare k ≡ true → (s : State) (v : Unit {0}) (t : State) → next (is k) s ≡ done v t → Passed k s t
passed k b s v t h =
    let x = taken (is k) s v t h in
    let p = cond_true (same x.item.kind k) tt v fault.Misfit x.passed in
    record { rest = x.rest; was = ap tokens x.was ∙ ap (λ y. y ∷ tokens x.rest) (same_bare x.item.kind k b p.0); after = x.after }

-- an argument that fits
pub record Argued (slot : Slot) (before : ℤ) (it : Item) : Type 0 where
  pub is : it.kind ≡ arg_token (arg it)
  pub fit : fits slot before (arg it) ≡ true

within_fits : (low high : ℤ) (it v : Item) → within low high it ≡ Ok v → (in_range low high (item_number it) ≡ true) × (it ≡ v)
within_fits low high it v h = cond_true (in_range low high (item_number it)) it v fault.BadNumber h

rising_by : (b c : Bool) (it v : Item) → ◌≡◌ {A = Result Item FaultKind} (cond b (cond c (Ok it) (Err fault.Unordered)) (Err fault.BadNumber)) (Ok v) → (b && c ≡ true) × (it ≡ v)
rising_by true true it v h = (refl, cc)
rising_by true false it v h = absurd (err_ok h)
rising_by false c it v h = absurd (err_ok h)

ranged_fits : (slot : Slot) (before : ℤ) (it v : Item) → ranged slot before it ≡ Ok v → (fits slot before (Some (item_number it)) ≡ true) × (it ≡ v)
ranged_fits (Range low high) before it v h = within_fits low high it v h
ranged_fits (Upper low high) before it v h = rising_by (in_range low high (item_number it)) (le_z before (item_number it)) it v h
ranged_fits (UpperOrEnd low high) before it v h = rising_by (in_range low high (item_number it)) (le_z before (item_number it)) it v h

end_fits : (slot : Slot) (before : ℤ) (it v : Item) → ◌≡◌ {A = Result Item FaultKind} (cond (may_end slot) (Ok it) (Err fault.Misfit)) (Ok v) → (fits slot before None ≡ true) × (it ≡ v)
end_fits (Range low high) before it v h = absurd (err_ok h)
end_fits (Upper low high) before it v h = absurd (err_ok h)
end_fits (UpperOrEnd low high) before it v h = (refl, cc)

module _ (slot : Slot) (before : ℤ) (place : Place) where
  abbrev item : Kind → Item
  item k = record { kind = k; place = place }

  argued_kind : (k : Kind) (v : Item) → argument slot before (item k) ≡ Ok v → Argued slot before (item k) × (item k ≡ v)
  argued_kind kind.Open v h = absurd (err_ok h)
  argued_kind kind.Close v h = absurd (err_ok h)
  argued_kind kind.Space v h = absurd (err_ok h)
  argued_kind kind.Newline v h = absurd (err_ok h)
  argued_kind kind.Rule v h = absurd (err_ok h)
  argued_kind kind.End v h = let p = end_fits slot before (item kind.End) v h in (record { is = refl; fit = p.0 }, p.1)
  argued_kind (kind.Form f) v h = absurd (err_ok h)
  argued_kind (kind.Number z) v h = let p = ranged_fits slot before (item (kind.Number z)) v h in (record { is = refl; fit = p.0 }, p.1)
  argued_kind kind.Misspelt v h = absurd (err_ok h)
  argued_kind kind.Other v h = absurd (err_ok h)

pub argued : (slot : Slot) (before : ℤ) (it v : Item) → argument slot before it ≡ Ok v → Argued slot before it × (it ≡ v)
argued slot before it v h = argued_kind slot before it.place it.kind v h

-- `end` is the last argument
abbrev pub EndLast : List Slot → Type 0
EndLast [] = Unit {0}
EndLast (Range low high ∷ more) = EndLast more
EndLast (Upper low high ∷ more) = EndLast more
EndLast (UpperOrEnd low high ∷ more) = more ≡ []

pub later : (slot : Slot) (more : List Slot) → EndLast (slot ∷ more) → EndLast more
later (Range low high) more h = h
later (Upper low high) more h = h
later (UpperOrEnd low high) more h = subst EndLast (sym h) tt

none_fit : (xs : List Arg) (y z : ℤ) → args_fit [] y xs ≡ true → args_fit [] z xs ≡ true
none_fit [] y z h = refl
none_fit (x ∷ xs) y z h = h

pub end_then : (slot : Slot) (more : List Slot) (before y z : ℤ) (xs : List Arg) → EndLast (slot ∷ more) → fits slot before None ≡ true → args_fit more y xs ≡ true → args_fit more z xs ≡ true
end_then (Range low high) more before y z xs l f h = absurd (false≢true f)
end_then (Upper low high) more before y z xs l f h = absurd (false≢true f)
end_then (UpperOrEnd low high) more before y z xs l f h = subst (λ m. args_fit m z xs ≡ true) (sym l) (none_fit xs y z (subst (λ m. args_fit m y xs ≡ true) l h))

bound_by : (b : Bool) (slot : Slot) (more : List Slot) (before y : ℤ) (xs : List Arg) → EndLast (slot ∷ more) → fits slot before (cond b None (Some y)) ≡ true → args_fit more y xs ≡ true → args_fit more (bound (cond b None (Some y))) xs ≡ true
bound_by true slot more before y xs l f h = end_then slot more before y (pos 0) xs l f h
bound_by false slot more before y xs l f h = h

-- arguments that are read
pub record Arguments (ss : List Slot) (before : ℤ) (s : State) (its : List Item) (t : State) : Type 0 where
  was : tokens s.rest ≡ arg_tokens (map arg its) (tokens t.rest)
  fit : args_fit ss before (map arg its) ≡ true
  pub after : t ≡ left s t.rest

args_same : (ss : List Slot) (before : ℤ) (s : State) (a b : List Item) (v t : State) → done a v ≡ done b t → Arguments ss before s a v → Arguments ss before s b t
args_same ss before s a b v t e h =
    let p : a ≡ b = cc in
    let q : v ≡ t = cc in
    subst (λ x. Arguments ss before s x t) p (subst (λ x. Arguments ss before s a x) q h)

pub args_read : (ss : List Slot) → EndLast ss → (before : ℤ) (s : State) (its : List Item) (t : State) → arguments ss before s ≡ done its t → Arguments ss before s its t
args_read [] l before s its t h =
    args_same [] before s [] its s t h (record { was = refl; fit = refl; after = refl })
args_read (slot ∷ more) l before s its t h =
    let x = both (next (is kind.Space) s) _ its t h in
    let y = both (next (argument slot before) x.state) _ its t x.then_done in
    let z = both (arguments more (item_number y.value) y.state) _ its t y.then_done in
    let p = passed kind.Space refl s x.value x.state x.first in
    let q = taken (argument slot before) x.state y.value y.state y.first in
    let g = argued slot before q.item y.value q.passed in
    let r = args_read more (later slot more l) (item_number y.value) y.state z.value z.state z.first in
    let e1 : p.rest ≡ q.item ∷ q.rest = sym (ap (λ u. u.rest) p.after) ∙ q.was in
    let e2 : y.state.rest ≡ q.rest = ap (λ u. u.rest) q.after in
    let e3 : q.item.kind ≡ arg_token (arg y.value) = g.0.is ∙ ap (λ i. arg_token (arg i)) g.1 in
    let f : fits slot before (arg y.value) ≡ true = subst (λ i. fits slot before (arg i) ≡ true) g.1 g.0.fit in
    args_same (slot ∷ more) before s (y.value ∷ z.value) its z.state t z.then_done (record {
      was = p.was ∙ ap (λ u. kind.Space ∷ tokens u) e1 ∙ ap (λ u. kind.Space ∷ u ∷ tokens q.rest) e3 ∙ ap (λ u. kind.Space ∷ arg_token (arg y.value) ∷ tokens u) (sym e2) ∙ ap (λ u. kind.Space ∷ arg_token (arg y.value) ∷ u) r.was;
      fit = and_from _ _ f (bound_by (same y.value.kind kind.End) slot more before (item_number y.value) (map arg z.value) l f r.fit);
      after = r.after ∙ ap (λ u. left u z.state.rest) q.after ∙ ap (λ u. left u z.state.rest) p.after;
    })

-- the slots of every form
pub slots_end : (f : Form) → EndLast (slots f)
slots_end f = search rules

-- a formula that is read: its text, and the nodes that it adds
pub record Formula (levels : ℕ) (s : State) (n : ℕ) (t : State) : Type 0 where
  pub tree : Tree
  pub well : Well levels tree
  pub was : tokens s.rest ≡ tree_tokens tree (tokens t.rest)
  pub number : n ≡ length s.nodes + inside tree
  pub past : t.past ≡ s.past
  pub opened : t.opened ≡ s.opened + (inside tree + 1)
  pub nodes : t.nodes ≡ nodes_after s.nodes tree
  pub few : t.opened ≤ 64

pub length_after : (ns : List Entry) (tree : Tree) → length (nodes_after ns tree) ≡ length ns + (inside tree + 1)
length_after ns (leaf f xs) = simp length-append (omega arith)
length_after ns (unary f xs a) = simp length-append (omega (arith, length_after ns a))
length_after ns (binary f xs a b) = simp length-append (omega (arith, length_after ns a, length_after (nodes_after ns a) b))

-- the opening bracket and the word
pub record Opened (s : State) (f : Form) (t : State) : Type 0 where
  rest : List Item
  was : tokens s.rest ≡ kind.Open ∷ kind.Form f ∷ tokens rest
  pub after_head : t ≡ counted (left s rest)
  lt : s.opened < 64

opened_by : (b : Bool) (s t : State) (f : Form) (u : State) (e : Fault) → cond b (next word (counted t)) (stop e) ≡ done f u → (b ≡ true) × (next word (counted t) ≡ done f u)
opened_by true s t f u e h = (refl, h)
opened_by false s t f u e h = absurd (stopped h)

pub opens : (levels : ℕ) (s : State) (f : Form) (t : State) → opening levels s ≡ done f t → Opened s f t
opens levels s f t h =
    let x = both (next (is kind.Open) s) _ f t h in
    let p = passed kind.Open refl s x.value x.state x.first in
    let w = opened_by (ltb 0 levels && ltb s.opened 64) s x.state f t (fault_at s fault.TooMany) x.then_done in
    let q = taken word (counted x.state) f t w.1 in
    let l = and_parts (ltb 0 levels) (ltb s.opened 64) w.0 in
    let e1 : p.rest ≡ q.item ∷ q.rest = sym (ap (λ u. u.rest) p.after) ∙ q.was in
    let e2 = is_form q.item.kind f q.passed in
    record { rest = q.rest; was = p.was ∙ ap (λ u. kind.Open ∷ tokens u) e1 ∙ ap (λ u. kind.Open ∷ u ∷ tokens q.rest) e2; after_head = q.after ∙ ap (λ u. left (counted u) q.rest) p.after; lt = ltb-true s.opened 64 l.1 }

-- the closing bracket
record Closed (e : Entry) (s : State) (n : ℕ) (t : State) : Type 0 where
  was : tokens s.rest ≡ kind.Close ∷ tokens t.rest
  number : n ≡ length s.nodes
  after_close : t ≡ pushed e (left s t.rest)

closes : (e : Entry) (s : State) (n : ℕ) (t : State) → closing e s ≡ done n t → Closed e s n t
closes e s n t h =
    let x = both (next (is kind.Close) s) _ n t h in
    let p = passed kind.Close refl s x.value x.state x.first in
    let a : n ≡ length x.state.nodes = cc x.then_done in
    let b : t ≡ pushed e x.state = cc x.then_done in
    let c : t ≡ pushed e (left s p.rest) = b ∙ ap (pushed e) p.after in
    let r : t.rest ≡ p.rest = ap (λ u. u.rest) c in
    record { was = p.was ∙ ap (λ u. kind.Close ∷ tokens u) (sym r); number = a ∙ ap (λ u. length u.nodes) p.after; after_close = c ∙ ap (λ u. pushed e (left s u)) (sym r) }

-- the arguments of a form, and what follows them
record Head (s : State) (f : Form) (xs : List Arg) (u : State) : Type 0 where
  fit : args_fit (slots f) (pos 0) xs ≡ true
  was : tokens s.rest ≡ head_tokens f xs (tokens u.rest)
  at : u ≡ counted (left s u.rest)
  lt : s.opened < 64

head : (s : State) (f : Form) (t : State) (its : List Item) (u : State) → Opened s f t → arguments (slots f) (pos 0) t ≡ done its u → Head s f (map arg its) u
head s f t its u o h =
    let a = args_read (slots f) (slots_end f) (pos 0) t its u h in
    let e : t.rest ≡ o.rest = ap (λ v. v.rest) o.after_head in
    record { fit = a.fit; was = o.was ∙ ap (λ v. kind.Open ∷ kind.Form f ∷ tokens v) (sym e) ∙ ap (λ v. kind.Open ∷ kind.Form f ∷ v) a.was; at = a.after ∙ ap (λ v. left v u.rest) o.after_head; lt = o.lt }

closing_same : (f : Form) (xs : List Arg) (a b : List ℕ) (u v : State) (o : Outcome ℕ) → done a u ≡ done b v → closing (entry f xs b) v ≡ o → closing (entry f xs a) u ≡ o
closing_same f xs a b u v o e h =
    let p : b ≡ a = cc in
    let q : v ≡ u = cc in
    subst (λ x. closing (entry f xs x) u ≡ o) p (subst (λ x. closing (entry f xs b) x ≡ o) q h)

abbrev Induct : ℕ → Type 0
Induct levels = (s : State) (n : ℕ) (t : State) → formula levels s ≡ done n t → Formula levels s n t

-- a space and a formula
record Operand (levels : ℕ) (s : State) (n : ℕ) (t : State) : Type 0 where
  tree : Tree
  well : Well levels tree
  was : tokens s.rest ≡ kind.Space ∷ tree_tokens tree (tokens t.rest)
  number : n ≡ length s.nodes + inside tree
  past : t.past ≡ s.past
  opened : t.opened ≡ s.opened + (inside tree + 1)
  nodes : t.nodes ≡ nodes_after s.nodes tree
  few : t.opened ≤ 64

module _ (levels : ℕ) (ih : Induct levels) where
  operand_read : (s : State) (n : ℕ) (t : State) → operand (formula levels) s ≡ done n t → Operand levels s n t
  operand_read s n t h =
      let x = both (next (is kind.Space) s) _ n t h in
      let p = passed kind.Space refl s x.value x.state x.first in
      let f = ih x.state n t x.then_done in
      let e : x.state.rest ≡ p.rest = ap (λ u. u.rest) p.after in
      let ns : x.state.nodes ≡ s.nodes = ap (λ u. u.nodes) p.after in
      record {
        tree = f.tree;
        well = f.well;
        was = p.was ∙ ap (λ u. kind.Space ∷ tokens u) (sym e) ∙ ap (λ u. kind.Space ∷ u) f.was;
        number = f.number ∙ ap (λ u. length u + inside f.tree) ns;
        past = f.past ∙ ap (λ u. u.past) p.after;
        opened = f.opened ∙ ap (λ u. u.opened + (inside f.tree + 1)) p.after;
        nodes = f.nodes ∙ ap (λ u. nodes_after u f.tree) ns;
        few = f.few;
      }

  module _ (s : State) (f : Form) (xs : List Arg) (u : State) (hd : Head s f xs u) (n : ℕ) (t : State) where
    h_nodes : u.nodes ≡ s.nodes
    h_nodes = ap (λ v. v.nodes) hd.at

    h_opened : u.opened ≡ s.opened + 1
    h_opened = ap (λ v. v.opened) hd.at

    h_past : u.past ≡ s.past
    h_past = ap (λ v. v.past) hd.at

    leaf_read : arity f ≡ Zero → closing (entry f xs []) u ≡ done n t → Formula (suc levels) s n t
    leaf_read a h =
        let c = closes (entry f xs []) u n t h in
        record {
          tree = leaf f xs;
          well = (a, hd.fit);
          was = hd.was ∙ ap (head_tokens f xs) c.was;
          number = omega (arith, c.number ∙ ap length h_nodes);
          past = ap (λ v. v.past) c.after_close ∙ h_past;
          opened = ap (λ v. v.opened) c.after_close ∙ h_opened;
          nodes = ap (λ v. v.nodes) c.after_close ∙ ap (λ v. v ++ (entry f xs [] ∷ [])) h_nodes;
          few = let e : t.opened ≡ s.opened + 1 = ap (λ v. v.opened) c.after_close ∙ h_opened in omega (arith, e, hd.lt);
        }

    unary_read : arity f ≡ One → (a : ℕ) (v : State) → Operand levels u a v → closing (entry f xs (a ∷ [])) v ≡ done n t → Formula (suc levels) s n t
    unary_read ar a v o h =
        let c = closes (entry f xs (a ∷ [])) v n t h in
        let vn : v.nodes ≡ nodes_after s.nodes o.tree = o.nodes ∙ ap (λ w. nodes_after w o.tree) h_nodes in
        let an : a ≡ length s.nodes + inside o.tree = o.number ∙ ap (λ w. length w + inside o.tree) h_nodes in
        record {
          tree = unary f xs o.tree;
          well = ((ar, hd.fit), o.well);
          was = hd.was ∙ ap (head_tokens f xs) (o.was ∙ ap (λ w. kind.Space ∷ tree_tokens o.tree w) c.was);
          number = c.number ∙ ap length vn ∙ length_after s.nodes o.tree;
          past = ap (λ w. w.past) c.after_close ∙ o.past ∙ h_past;
          opened = ap (λ w. w.opened) c.after_close ∙ omega (arith, o.opened, h_opened);
          nodes = ap (λ w. w.nodes) c.after_close ∙ ap (λ w. w ++ (entry f xs (a ∷ []) ∷ [])) vn ∙ ap (λ w. nodes_after s.nodes o.tree ++ (entry f xs (w ∷ []) ∷ [])) an;
          few = let e : t.opened ≡ v.opened = ap (λ x. x.opened) c.after_close in omega (arith, e, o.few);
        }

    binary_read : arity f ≡ Two → (a : ℕ) (v : State) → Operand levels u a v → (b : ℕ) (w : State) → Operand levels v b w → closing (entry f xs (a ∷ b ∷ [])) w ≡ done n t → Formula (suc levels) s n t
    binary_read ar a v o b w q h =
        let c = closes (entry f xs (a ∷ b ∷ [])) w n t h in
        let vn : v.nodes ≡ nodes_after s.nodes o.tree = o.nodes ∙ ap (λ x. nodes_after x o.tree) h_nodes in
        let an : a ≡ length s.nodes + inside o.tree = o.number ∙ ap (λ x. length x + inside o.tree) h_nodes in
        let wn : w.nodes ≡ nodes_after (nodes_after s.nodes o.tree) q.tree = q.nodes ∙ ap (λ x. nodes_after x q.tree) vn in
        let bn : b ≡ length (nodes_after s.nodes o.tree) + inside q.tree = q.number ∙ ap (λ x. length x + inside q.tree) vn in
        record {
          tree = binary f xs o.tree q.tree;
          well = ((ar, hd.fit), o.well, q.well);
          was = hd.was ∙ ap (head_tokens f xs) (o.was ∙ ap (λ x. kind.Space ∷ tree_tokens o.tree x) (q.was ∙ ap (λ x. kind.Space ∷ tree_tokens q.tree x) c.was));
          number = c.number ∙ ap length wn ∙ length_after (nodes_after s.nodes o.tree) q.tree ∙ omega (arith, length_after s.nodes o.tree);
          past = ap (λ x. x.past) c.after_close ∙ q.past ∙ o.past ∙ h_past;
          opened = ap (λ x. x.opened) c.after_close ∙ omega (arith, q.opened, o.opened, h_opened);
          nodes = ap (λ x. x.nodes) c.after_close ∙ ap (λ x. x ++ (entry f xs (a ∷ b ∷ []) ∷ [])) wn ∙ ap (λ x. nodes_after (nodes_after s.nodes o.tree) q.tree ++ (entry f xs (x ∷ b ∷ []) ∷ [])) an ∙ ap (λ x. nodes_after (nodes_after s.nodes o.tree) q.tree ++ (entry f xs ((length s.nodes + inside o.tree) ∷ x ∷ []) ∷ [])) bn;
          few = let e : t.opened ≡ w.opened = ap (λ x. x.opened) c.after_close in omega (arith, e, q.few);
        }

    by_arity : (k : Arity) → arity f ≡ k → (os : List ℕ) (v : State) → operands (formula levels) k u ≡ done os v → closing (entry f xs os) v ≡ done n t → Formula (suc levels) s n t
    by_arity Zero e os v h c = leaf_read e (closing_same f xs [] os u v _ h c)
    by_arity One e os v h c =
        let x = both (operand (formula levels) u) _ os v h in
        unary_read e x.value x.state (operand_read u x.value x.state x.first) (closing_same f xs (x.value ∷ []) os x.state v _ x.then_done c)
    by_arity Two e os v h c =
        let x = both (operand (formula levels) u) _ os v h in
        let y = both (operand (formula levels) x.state) _ os v x.then_done in
        binary_read e x.value x.state (operand_read u x.value x.state x.first) y.value y.state (operand_read x.state y.value y.state y.first) (closing_same f xs (x.value ∷ y.value ∷ []) os y.state v _ y.then_done c)

-- whatever is read as a formula is the text of a well-formed one
pub formula_read : (levels : ℕ) (s : State) (n : ℕ) (t : State) → formula levels s ≡ done n t → Formula levels s n t
formula_read zero s n t h =
    let x = both (opening 0 s) _ n t h in
    absurd (stopped x.then_done)
formula_read (suc levels) s n t h =
    let x = both (opening (suc levels) s) _ n t h in
    let y = both (arguments (slots x.value) (pos 0) x.state) _ n t x.then_done in
    let z = both (operands (formula levels) (arity x.value) y.state) _ n t y.then_done in
    let o = opens (suc levels) s x.value x.state x.first in
    by_arity levels (formula_read levels) s x.value (map arg y.value) y.state (head s x.value x.state y.value y.state o y.first) n t (arity x.value) refl z.value z.state z.first z.then_done
