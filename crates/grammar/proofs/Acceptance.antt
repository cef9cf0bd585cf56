-- The text of a well-formed formula is read as it.
use Rattle.std.proofs.Common.{◌≡◌, ℕ, zero, suc, ◌+◌, ◌<◌, ◌≤◌, true, cond, ◌&&◌, ltb, List, [], ◌∷◌, ◌++◌, map, length, ℤ, pos, Some, None, Ok, Err, sym, refl, ap, ◌∙◌, subst, arith, lt-ltb}
use lib.Signed.{le_z}
use Rattle.items.specs.declared.item.Place.{Place}
use Rattle.items.specs.declared.item.Form.{Form}
use Rattle.items.specs.declared.item.Kind.{Kind}
use Rattle.items.specs.declared.item.Item.{Item}
use Rattle.grammar.specs.declared.shape.Slot.{Slot}
use Rattle.grammar.specs.declared.shape.Slot.TheVariants.{Range, Upper, UpperOrEnd}
use Rattle.grammar.specs.declared.shape.Arity.{Arity}
use Rattle.grammar.specs.declared.shape.Arity.TheVariants.{Zero, One, Two}
use Rattle.grammar.specs.Grammar.{slots, arity}
use Rattle.grammar.specs.Entries.{Arg, Entry, entry}
use Rattle.grammar.specs.Reading.{State, Outcome, Step, Test, done, stop, then, next, tested, left, is, same, form_of, fault_at, within, rising, ranged, argument, arguments, operand, operands, word, counted, opening, arg, pushed, closing, formula}
use Rattle.items.specs.Items.{kind_number, item_number}
use Rattle.items.specs.Tokens.{tokens}
use Rattle.grammar.specs.Trees.{Tree, leaf, unary, binary, arg_token, arg_tokens, tree_tokens, inside, nodes_after, in_range, fits, bound, args_fit, Well}
use Rattle.std.proofs.lemmas.Bool.{and_parts, and_from, false≢true}
use Rattle.grammar.proofs.Inversion.{EndLast, later, end_then, length_after, slots_end}
use Rattle.items.specs.declared.item.Kind.TheVariants as kind
use Rattle.grammar.specs.declared.fault.FaultKind.TheVariants as fault

-- the first item, from the tokens
pub record First (items : List Item) (x : Kind) (r : List Kind) : Type 0 where
  pub item : Item
  pub rest : List Item
  pub is_first : items ≡ item ∷ rest
  pub is_token : item.kind ≡ x
  pub are : tokens rest ≡ r

pub first : (items : List Item) (x : Kind) (r : List Kind) → tokens items ≡ x ∷ r → First items x r
first [] x r h = absurd cc
first (it ∷ items) x r h = record { item = it; rest = items; is_first = refl; is_token = cc; are = cc }

-- an item that passes is read
pub next_ok : {V : Type 0} (test : Test V) (v : V) (s : State) (it : Item) (items : List Item) → s.rest ≡ it ∷ items → test it ≡ Ok v → next test s ≡ done v (left s items)
next_ok test v s it items e p =
    subst (λ r. next test (left s r) ≡ done v (left s items)) (sym e) (ap (λ x. tested x (left s (it ∷ items)) items) p)

pub record Next (k : Kind) (s : State) (r : List Kind) : Type 0 where
  pub rest : List Item
  pub reads : next (is k) s ≡ done tt (left s rest)
  pub are : tokens rest ≡ r

pub next_kind : (k : Kind) (s : State) (r : List Kind) → same k k ≡ true → tokens s.rest ≡ k ∷ r → Next k s r
next_kind k s r y h =
    let f = first s.rest (k) r h in
    let p : same f.item.kind k ≡ true = subst (λ j. same j k ≡ true) (sym f.is_token) y in
    record { rest = f.rest; reads = next_ok (is k) tt s f.item f.rest f.is_first (ap (λ b. cond b (Ok tt) (Err fault.Misfit)) p); are = f.are }

-- an argument that fits is read
in_range_ok : (low high : ℤ) (it : Item) → in_range low high (item_number it) ≡ true → within low high it ≡ Ok it
in_range_ok low high it h = ap (λ b. cond b (Ok it) (Err fault.BadNumber)) h

rising_ok : (low high before : ℤ) (it : Item) → in_range low high (item_number it) && le_z before (item_number it) ≡ true → rising low high before it ≡ Ok it
rising_ok low high before it h =
    let p = and_parts (in_range low high (item_number it)) (le_z before (item_number it)) h in
    ap (λ b. cond b (cond (le_z before (item_number it)) (Ok it) (Err fault.Unordered)) (Err fault.BadNumber)) p.0 ∙ ap (λ b. cond b (Ok it) (Err fault.Unordered)) p.1

ranged_ok : (slot : Slot) (before : ℤ) (it : Item) → fits slot before (Some (item_number it)) ≡ true → ranged slot before it ≡ Ok it
ranged_ok (Range low high) before it h = in_range_ok low high it h
ranged_ok (Upper low high) before it h = rising_ok low high before it h
ranged_ok (UpperOrEnd low high) before it h = rising_ok low high before it h

abbrev pub Argument : Slot → ℤ → Arg → Item → Type 0
Argument slot before x it = (argument slot before it ≡ Ok it) × (arg it ≡ x)

end_ok : (slot : Slot) (before : ℤ) (place : Place) → fits slot before None ≡ true → Argument slot before None (record { kind = kind.End; place = place })
end_ok (Range low high) before place h = absurd (false≢true h)
end_ok (Upper low high) before place h = absurd (false≢true h)
end_ok (UpperOrEnd low high) before place h = (refl, refl)

number_ok : (slot : Slot) (before : ℤ) (place : Place) (z : ℤ) → fits slot before (Some z) ≡ true → Argument slot before (Some z) (record { kind = kind.Number z; place = place })
number_ok slot before place z h = (ranged_ok slot before (record { kind = kind.Number z; place = place }) h, refl)

pub argument_ok : (slot : Slot) (before : ℤ) (x : Arg) (it : Item) → fits slot before x ≡ true → it.kind ≡ arg_token x → Argument slot before x it
argument_ok slot before (Some z) it h e =
    subst (λ k. Argument slot before (Some z) (record { kind = k; place = it.place })) (sym e) (number_ok slot before it.place z h)
argument_ok slot before None it h e =
    subst (λ k. Argument slot before None (record { kind = k; place = it.place })) (sym e) (end_ok slot before it.place h)

-- the bound for what follows
next_bound : (slot : Slot) (more : List Slot) (before : ℤ) (x : Arg) (it : Item) (xs : List Arg) → EndLast (slot ∷ more) → fits slot before x ≡ true → it.kind ≡ arg_token x → args_fit more (bound x) xs ≡ true → args_fit more (item_number it) xs ≡ true
next_bound slot more before (Some z) it xs l f e h = subst (λ y. args_fit more y xs ≡ true) (sym (ap kind_number e)) h
next_bound slot more before None it xs l f e h = end_then slot more before (pos 0) (item_number it) xs l f h

record Arguments (ss : List Slot) (before : ℤ) (s : State) (xs : List Arg) (r : List Kind) : Type 0 where
  its : List Item
  rest : List Item
  reads : arguments ss before s ≡ done its (left s rest)
  args : map arg its ≡ xs
  are : tokens rest ≡ r

arguments_then : (slot : Slot) (more : List Slot) (before : ℤ) (s t u v : State) (it : Item) (its : List Item) → next (is kind.Space) s ≡ done tt t → next (argument slot before) t ≡ done it u → arguments more (item_number it) u ≡ done its v → arguments (slot ∷ more) before s ≡ done (it ∷ its) v
arguments_then slot more before s t u v it its p q r = rw (p, q, r)

args_ok : (ss : List Slot) → EndLast ss → (before : ℤ) (s : State) (xs : List Arg) (r : List Kind) → args_fit ss before xs ≡ true → tokens s.rest ≡ arg_tokens xs r → Arguments ss before s xs r
args_ok [] l before s [] r h e = record { its = []; rest = s.rest; reads = refl; args = refl; are = e }
args_ok [] l before s (x ∷ xs) r h e = absurd (false≢true h)
args_ok (slot ∷ more) l before s [] r h e = absurd (false≢true h)
args_ok (slot ∷ more) l before s (x ∷ xs) r h e =
    let p = and_parts (fits slot before x) (args_fit more (bound x) xs) h in
    let sp = next_kind kind.Space s (arg_token x ∷ arg_tokens xs r) refl e in
    let f = first sp.rest (arg_token x) (arg_tokens xs r) sp.are in
    let a = argument_ok slot before x f.item p.0 f.is_token in
    let n = next_ok (argument slot before) f.item (left s sp.rest) f.item f.rest f.is_first a.0 in
    let m = args_ok more (later slot more l) (item_number f.item) (left s f.rest) xs r (next_bound slot more before x f.item xs l p.0 f.is_token p.1) f.are in
    record {
      its = f.item ∷ m.its;
      rest = m.rest;
      reads = arguments_then slot more before s (left s sp.rest) (left s f.rest) (left s m.rest) f.item m.its sp.reads n m.reads;
      args = ap (λ y. y ∷ map arg m.its) a.1 ∙ ap (λ ys. x ∷ ys) m.args;
      are = m.are;
    }

-- the state after a formula
abbrev pub after : State → Tree → List Item → State
after s tree items = record { rest = items; past = s.past; opened = s.opened + (inside tree + 1); nodes = nodes_after s.nodes tree }

pub record Accepted (levels : ℕ) (tree : Tree) (s : State) (r : List Kind) : Type 0 where
  pub rest : List Item
  pub reads : formula levels s ≡ done (length s.nodes + inside tree) (after s tree rest)
  pub are : tokens rest ≡ r

-- the opening bracket and the word
record Opened (levels : ℕ) (f : Form) (s : State) (r : List Kind) : Type 0 where
  rest : List Item
  reads : opening levels s ≡ done f (counted (left s rest))
  are : tokens rest ≡ r

opening_then : (levels : ℕ) (f : Form) (s t : State) (o : Outcome Form) → next (is kind.Open) s ≡ done tt t → ltb 0 levels && ltb s.opened 64 ≡ true → next word (counted t) ≡ o → opening levels s ≡ o
opening_then levels f s t o p q w =
    ap (λ x. then x (λ _ u. cond (ltb 0 levels && ltb s.opened 64) (next word (counted u)) (stop (fault_at s fault.TooMany)))) p ∙ ap (λ b. cond b (next word (counted t)) (stop (fault_at s fault.TooMany))) q ∙ w

opening_ok : (l : ℕ) (f : Form) (s : State) (r : List Kind) → s.opened < 64 → tokens s.rest ≡ kind.Open ∷ kind.Form f ∷ r → Opened (suc l) f s r
opening_ok l f s r lt e =
    let o = next_kind kind.Open s (kind.Form f ∷ r) refl e in
    let w = first o.rest (kind.Form f) r o.are in
    let n = next_ok word f (counted (left s o.rest)) w.item w.rest w.is_first (ap form_of w.is_token) in
    let z : 0 < suc l = omega arith in
    record { rest = w.rest; reads = opening_then (suc l) f s (left s o.rest) _ o.reads (and_from _ _ (lt-ltb 0 (suc l) z) (lt-ltb s.opened 64 lt)) n; are = w.are }

-- the closing bracket
record Closed (e : Entry) (s : State) (r : List Kind) : Type 0 where
  rest : List Item
  reads : closing e s ≡ done (length s.nodes) (pushed e (left s rest))
  are : tokens rest ≡ r

closing_ok : (e : Entry) (s : State) (r : List Kind) → tokens s.rest ≡ kind.Close ∷ r → Closed e s r
closing_ok e s r h =
    let c = next_kind kind.Close s r refl h in
    record { rest = c.rest; reads = ap (λ x. then x (λ _ t. done (length t.nodes) (pushed e t))) c.reads; are = c.are }

abbrev pub Induct : ℕ → Type 0
Induct l = (tree : Tree) (s : State) (r : List Kind) → Well l tree → s.opened + (inside tree + 1) ≤ 64 → tokens s.rest ≡ tree_tokens tree r → Accepted l tree s r

abbrev rest_of : ℕ → Form → List Item → Step ℕ
rest_of l g its q = then (operands (formula l) (arity g) q) (λ qs z. closing (entry g (map arg its) qs) z)

-- the parts, one after another
composed : (l : ℕ) (s : State) (f : Form) (t : State) (its : List Item) (u : State) (xs : List Arg) (n : Arity) (os : List ℕ) (v : State) (m : ℕ) (w : State) → opening (suc l) s ≡ done f t → arguments (slots f) (pos 0) t ≡ done its u → map arg its ≡ xs → arity f ≡ n → operands (formula l) n u ≡ done os v → closing (entry f xs os) v ≡ done m w → formula (suc l) s ≡ done m w
composed l s f t its u xs n os v m w o a x k p c =
    ap (λ y. then y (λ g q. then (arguments (slots g) (pos 0) q) (rest_of l g))) o ∙ ap (λ y. then y (rest_of l f)) a ∙ ap (λ y. then (operands (formula l) y u) (λ qs q. closing (entry f (map arg its) qs) q)) k ∙ ap (λ y. then y (λ qs q. closing (entry f (map arg its) qs) q)) p ∙ ap (λ y. closing (entry f y os) v) x ∙ c

-- a space and a formula
record Operand (l : ℕ) (tree : Tree) (s : State) (r : List Kind) : Type 0 where
  rest : List Item
  reads : operand (formula l) s ≡ done (length s.nodes + inside tree) (after s tree rest)
  are : tokens rest ≡ r

module _ (l : ℕ) (ih : Induct l) where
  operand_ok : (tree : Tree) (s : State) (r : List Kind) → Well l tree → s.opened + (inside tree + 1) ≤ 64 → tokens s.rest ≡ kind.Space ∷ tree_tokens tree r → Operand l tree s r
  operand_ok tree s r w few e =
      let sp = next_kind kind.Space s (tree_tokens tree r) refl e in
      let f = ih tree (left s sp.rest) r w few sp.are in
      record { rest = f.rest; reads = ap (λ x. then x (λ _ t. formula l t)) sp.reads ∙ f.reads; are = f.are }

  same_state : (s : State) (items : List Item) (a b : ℕ) (ns : List Entry) (m n : ℕ) → a ≡ b → m ≡ n → ◌≡◌ {A = Outcome ℕ} (done m (record { rest = items; past = s.past; opened = a; nodes = ns })) (done n (record { rest = items; past = s.past; opened = b; nodes = ns }))
  same_state s items a b ns m n p q = cc

  tree_ok : Induct (suc l)
  tree_ok (leaf f xs) s r w few e =
      let o = opening_ok l f s (arg_tokens xs (kind.Close ∷ r)) (omega arith) e in
      let a = args_ok (slots f) (slots_end f) (pos 0) (counted (left s o.rest)) xs (kind.Close ∷ r) w.1 o.are in
      let c = closing_ok (entry f xs []) (counted (left s a.rest)) r a.are in
      let n : length s.nodes ≡ length s.nodes + 0 = omega arith in
      record { rest = c.rest; reads = composed l s f _ a.its _ xs Zero [] _ _ _ o.reads a.reads a.args w.0 refl (c.reads ∙ same_state s c.rest _ _ (s.nodes ++ (entry f xs [] ∷ [])) _ _ refl n); are = c.are }
  tree_ok (unary f xs x) s r w few e =
      let o = opening_ok l f s (arg_tokens xs (kind.Space ∷ tree_tokens x (kind.Close ∷ r))) (omega arith) e in
      let a = args_ok (slots f) (slots_end f) (pos 0) (counted (left s o.rest)) xs (kind.Space ∷ tree_tokens x (kind.Close ∷ r)) w.0.1 o.are in
      let p = operand_ok x (counted (left s a.rest)) (kind.Close ∷ r) w.1 (omega arith) a.are in
      let b = entry f xs ((length s.nodes + inside x) ∷ []) in
      let c = closing_ok b (after (counted (left s a.rest)) x p.rest) r p.are in
      let opened : s.opened + 1 + (inside x + 1) ≡ s.opened + (inside x + 1 + 1) = omega arith in
      record { rest = c.rest; reads = composed l s f _ a.its _ xs One ((length s.nodes + inside x) ∷ []) _ _ _ o.reads a.reads a.args w.0.0 (ap (λ y. then y (λ n t. done (n ∷ []) t)) p.reads) (c.reads ∙ same_state s c.rest _ _ (nodes_after s.nodes x ++ (b ∷ [])) _ _ opened (length_after s.nodes x)); are = c.are }
  tree_ok (binary f xs x y) s r w few e =
      let o = opening_ok l f s (arg_tokens xs (kind.Space ∷ tree_tokens x (kind.Space ∷ tree_tokens y (kind.Close ∷ r)))) (omega arith) e in
      let a = args_ok (slots f) (slots_end f) (pos 0) (counted (left s o.rest)) xs (kind.Space ∷ tree_tokens x (kind.Space ∷ tree_tokens y (kind.Close ∷ r))) w.0.1 o.are in
      let p = operand_ok x (counted (left s a.rest)) (kind.Space ∷ tree_tokens y (kind.Close ∷ r)) w.1 (omega arith) a.are in
      let q = operand_ok y (after (counted (left s a.rest)) x p.rest) (kind.Close ∷ r) w.2 (omega arith) p.are in
      let m = length s.nodes + inside x in
      let n = length (nodes_after s.nodes x) + inside y in
      let b = entry f xs (m ∷ n ∷ []) in
      let c = closing_ok b (after (after (counted (left s a.rest)) x p.rest) y q.rest) r q.are in
      let opened : s.opened + 1 + (inside x + 1) + (inside y + 1) ≡ s.opened + (inside x + 1 + (inside y + 1) + 1) = omega arith in
      let number : length (nodes_after (nodes_after s.nodes x) y) ≡ length s.nodes + (inside x + 1 + (inside y + 1)) = omega (arith, length_after s.nodes x, length_after (nodes_after s.nodes x) y) in
      record { rest = c.rest; reads = composed l s f _ a.its _ xs Two (m ∷ n ∷ []) _ _ _ o.reads a.reads a.args w.0.0 (ap (λ z. then z (λ i t. then (operand (formula l) t) (λ j u. done (i ∷ j ∷ []) u))) p.reads ∙ ap (λ z. then z (λ j u. done (m ∷ j ∷ []) u)) q.reads) (c.reads ∙ same_state s c.rest _ _ (nodes_after (nodes_after s.nodes x) y ++ (b ∷ [])) _ _ opened number); are = c.are }

-- the text of a well-formed formula is read as it, where it stands
pub formula_accepted : (levels : ℕ) → Induct levels
formula_accepted zero tree s r w few e = absurd w
formula_accepted (suc l) tree s r w few e = tree_ok l (formula_accepted l) tree s r w few e
