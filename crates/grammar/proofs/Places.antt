-- A fault depends only on the items up to and with the one at its place.
use Rattle.std.proofs.Common.{◌≡◌, ℕ, zero, suc, ◌+◌, Bool, true, false, cond, ◌&&◌, ltb, List, [], ◌∷◌, ◌++◌, map, length, ℤ, pos, Ok, Err, Result, sym, refl, ap, ◌∙◌, subst, inl, inr, append_assoc}
use lib.Signed.{mag}
use Rattle.items.specs.declared.item.Place.{Place}
use Rattle.items.specs.declared.item.Form.{Form}
use Rattle.items.specs.declared.item.Item.{Item}
use Rattle.items.specs.declared.item.Kind.TheVariants as kind
use Rattle.items.specs.Items.{item_number, items, end_of}
use Rattle.syntax.specs.declared.Rule.{Rule}
use Rattle.grammar.specs.declared.fault.FaultKind.{FaultKind}
use Rattle.grammar.specs.declared.fault.FaultKind.TheVariants as fault
use Rattle.grammar.specs.declared.fault.ReadFault.{ReadFault}
use Rattle.grammar.specs.declared.shape.Slot.{Slot}
use Rattle.grammar.specs.declared.shape.Slot.TheVariants.{Upper}
use Rattle.grammar.specs.declared.shape.Arity.{Arity}
use Rattle.grammar.specs.declared.shape.Arity.TheVariants.{Zero, One, Two}
use Rattle.grammar.specs.Entries.{Entry, entry}
use Rattle.grammar.specs.Grammar.{slots, arity}
use Rattle.grammar.specs.Reading.{State, Outcome, Step, Test, done, stop, then, next, tested, is, same, fault_at, argument, arguments, operand, operands, word, counted, opening, arg, pushed, closing, formula}
use Rattle.grammar.specs.Files.{rule_of, rule_number, rule, rules, all_rules, file}
use Rattle.grammar.specs.RoundTrip.{reading}
use Rattle.grammar.specs.Places.{Placed}
use Rattle.grammar.proofs.Inversion.{stopped}

abbrev at : ℕ → List Entry → List Item → Place → State
at o n xs p = record { rest = xs; past = p; opened = o; nodes = n }

abbrev fault_of : FaultKind → Place → ReadFault
fault_of k p = record { kind = k; place = p }

-- how a step goes on these items: it passes the first of them, whatever follows; it stops at one of them, whatever follows; it comes to their end; or it is done there
data Way {V : Type 0} (F : Step V) (o : ℕ) (n : List Entry) (xs : List Item) : Type 0 where
  passes : (v : V) (a : ℕ) (b : List Entry) (pre rest : List Item) → xs ≡ pre ++ rest → ((w : List Item) (p : Place) → F (at o n (pre ++ w) p) ≡ done v (at a b w p)) → Way F o n xs
  halts : (f : ReadFault) (pre : List Item) (it : Item) (post : List Item) → xs ≡ pre ++ (it ∷ post) → it.place ≡ f.place → ((w : List Item) (p : Place) → F (at o n (pre ++ (it ∷ w)) p) ≡ stop f) → Way F o n xs
  short : (k : FaultKind) → ((p : Place) → F (at o n xs p) ≡ stop (fault_of k p)) → Way F o n xs
  ends : (v : V) (a : ℕ) (b : List Entry) → ((p : Place) → F (at o n xs p) ≡ done v (at a b [] p)) → Way F o n xs

-- a step after another that passed
module _ {W : Type 0} (F : Step W) (o a : ℕ) (n b : List Entry) (pre rest : List Item) (G : Step W) (agree : (w : List Item) (p : Place) → F (at o n (pre ++ w) p) ≡ G (at a b w p)) where
  after : Way G a b rest → Way F o n (pre ++ rest)
  after (passes v c d more others e h) = passes v c d (pre ++ more) others (ap (λ l. pre ++ l) e ∙ sym (append_assoc pre more others)) (λ w p. ap (λ l. F (at o n l p)) (append_assoc pre more w) ∙ agree (more ++ w) p ∙ h w p)
  after (halts f more it post e q h) = halts f (pre ++ more) it post (ap (λ l. pre ++ l) e ∙ sym (append_assoc pre more (it ∷ post))) q (λ w p. ap (λ l. F (at o n l p)) (append_assoc pre more (it ∷ w)) ∙ agree (more ++ (it ∷ w)) p ∙ h w p)
  after (short k h) = short k (λ p. agree rest p ∙ h p)
  after (ends v c d h) = ends v c d (λ p. agree rest p ∙ h p)

nothing_left : (pre : List Item) (it : Item) (post : List Item) → [] ≡ pre ++ (it ∷ post) → ⊥
nothing_left [] it post e = cc
nothing_left (x ∷ pre) it post e = cc

nothing_before : (pre rest : List Item) → [] ≡ pre ++ rest → pre ≡ []
nothing_before [] rest e = refl
nothing_before (x ∷ pre) rest e = absurd cc

module _ {V W : Type 0} (F : Step V) (K : V → Step W) where
  abbrev Then : Step W
  Then s = then (F s) K

  at_the_end : (o a : ℕ) (n b : List Entry) (xs : List Item) (v : V) → ((p : Place) → F (at o n xs p) ≡ done v (at a b [] p)) → Way (K v) a b [] → Way Then o n xs
  at_the_end o a n b xs v h (passes u c d pre rest e g) =
      ends u c d (λ p. ap (λ r. then r K) (h p) ∙ ap (λ l. K v (at a b (l ++ []) p)) (sym (nothing_before pre rest e)) ∙ g [] p)
  at_the_end o a n b xs v h (halts f pre it post e q g) = absurd (nothing_left pre it post e)
  at_the_end o a n b xs v h (short k g) = short k (λ p. ap (λ r. then r K) (h p) ∙ g p)
  at_the_end o a n b xs v h (ends u c d g) = ends u c d (λ p. ap (λ r. then r K) (h p) ∙ g p)

  then_way : (o : ℕ) (n : List Entry) (xs : List Item) → Way F o n xs → ((v : V) (a : ℕ) (b : List Entry) (ys : List Item) → Way (K v) a b ys) → Way Then o n xs
  then_way o n xs (passes v a b pre rest e h) k =
      subst (λ l. Way Then o n l) (sym e) (after Then o a n b pre rest (K v) (λ w p. ap (λ r. then r K) (h w p)) (k v a b rest))
  then_way o n xs (halts f pre it post e q h) k = halts f pre it post e q (λ w p. ap (λ r. then r K) (h w p))
  then_way o n xs (short c h) k = short c (λ p. ap (λ r. then r K) (h p))
  then_way o n xs (ends v a b h) k = at_the_end o a n b xs v h (k v a b [])

abbrev All : {V : Type 0} → Step V → Type 0
All F = (o : ℕ) (n : List Entry) (xs : List Item) → Way F o n xs

-- one item
module _ {V : Type 0} (test : Test V) (o : ℕ) (n : List Entry) where
  by_test : (it : Item) (more : List Item) (r : Result V FaultKind) → test it ≡ r → Way (next test) o n (it ∷ more)
  by_test it more (Ok v) e = passes v o n (it ∷ []) more refl (λ w p. ap (λ r. tested r (at o n (it ∷ w) p) w) e)
  by_test it more (Err k) e = halts (fault_of k it.place) [] it more refl refl (λ w p. ap (λ r. tested r (at o n (it ∷ w) p) w) e)

  next_way : (xs : List Item) → Way (next test) o n xs
  next_way [] = short fault.Misfit (λ p. refl)
  next_way (it ∷ more) = by_test it more (test it) refl

halt_way : {V : Type 0} (k : FaultKind) → All {V = V} (λ s. stop (fault_at s k))
halt_way k o n [] = short k (λ p. refl)
halt_way k o n (it ∷ more) = halts (fault_of k it.place) [] it more refl refl (λ w p. refl)

done_way : {V : Type 0} (v : V) → All {V = V} (λ s. done v s)
done_way v o n xs = passes v o n [] xs refl (λ w p. refl)

space_way : All (next (is kind.Space))
space_way o n xs = next_way (is kind.Space) o n xs

-- an opening bracket is there, or not
abbrev Bracket : Bool → ℕ → List Entry → Item → List Item → Place → Outcome (Unit {0})
Bracket b o n it w p = tested (cond b (Ok tt) (Err fault.Misfit)) (at o n (it ∷ w) p) w

-- the opening bracket and the word, once the limits were looked at
abbrev opening_by : Bool → Step Form
opening_by l s = then (next (is kind.Open) s) (λ _ t. cond l (next word (counted t)) (stop (fault_at s fault.TooMany)))

opening_is : (b l : Bool) (it : Item) → same it.kind kind.Open ≡ b → (o : ℕ) (n : List Entry) (more : List Item) → Way (opening_by l) o n (it ∷ more)
opening_is false l it e o n more =
    halts (fault_of fault.Misfit it.place) [] it more refl refl
    (λ w p. ap (λ c. then (Bracket c o n it w p) (λ _ t. cond l (next word (counted t)) (stop (fault_at (at o n (it ∷ w) p) fault.TooMany)))) e)
opening_is true false it e o n more =
    halts (fault_of fault.TooMany it.place) [] it more refl refl
    (λ w p. ap (λ c. then (Bracket c o n it w p) (λ _ t. cond false (next word (counted t)) (stop (fault_at (at o n (it ∷ w) p) fault.TooMany)))) e)
opening_is true true it e o n more =
    after (opening_by true) o (o + 1) n n (it ∷ []) more (next word)
    (λ w p. ap (λ c. then (Bracket c o n it w p) (λ _ t. cond true (next word (counted t)) (stop (fault_at (at o n (it ∷ w) p) fault.TooMany)))) e)
    (next_way word (o + 1) n more)

-- the limits look at no item
with_count : (levels o : ℕ) (n : List Entry) (xs : List Item) → Way (opening_by (ltb 0 levels && ltb o 64)) o n xs → Way (opening levels) o n xs
with_count levels o n xs (passes v a b pre rest e h) = passes v a b pre rest e h
with_count levels o n xs (halts f pre i post e q h) = halts f pre i post e q h
with_count levels o n xs (short k h) = short k h
with_count levels o n xs (ends v a b h) = ends v a b h

opening_way : (levels : ℕ) → All (opening levels)
opening_way levels o n [] = short fault.Misfit (λ p. refl)
opening_way levels o n (it ∷ more) = with_count levels o n (it ∷ more) (opening_is (same it.kind kind.Open) (ltb 0 levels && ltb o 64) it refl o n more)

arguments_way : (ss : List Slot) (before : ℤ) → All (arguments ss before)
arguments_way [] before o n xs = done_way [] o n xs
arguments_way (slot ∷ more) before o n xs =
    then_way (next (is kind.Space)) (λ _ t. then (next (argument slot before) t) (λ it u. then (arguments more (item_number it) u) (λ its v. done (it ∷ its) v))) o n xs (space_way o n xs)
    (λ _ o1 n1 x1. then_way (next (argument slot before)) (λ it u. then (arguments more (item_number it) u) (λ its v. done (it ∷ its) v)) o1 n1 x1 (next_way (argument slot before) o1 n1 x1)
    (λ it o2 n2 x2. then_way (arguments more (item_number it)) (λ its v. done (it ∷ its) v) o2 n2 x2 (arguments_way more (item_number it) o2 n2 x2)
    (λ its. done_way (it ∷ its))))

operand_way : (F : Step ℕ) → All F → All (operand F)
operand_way F f o n xs = then_way (next (is kind.Space)) (λ _ t. F t) o n xs (space_way o n xs) (λ _. f)

operands_way : (F : Step ℕ) → All F → (a : Arity) → All (operands F a)
operands_way F f Zero o n xs = done_way [] o n xs
operands_way F f One o n xs = then_way (operand F) (λ a t. done (a ∷ []) t) o n xs (operand_way F f o n xs) (λ a. done_way (a ∷ []))
operands_way F f Two o n xs =
    then_way (operand F) (λ a t. then (operand F t) (λ b u. done (a ∷ b ∷ []) u)) o n xs (operand_way F f o n xs)
    (λ a o1 n1 x1. then_way (operand F) (λ b u. done (a ∷ b ∷ []) u) o1 n1 x1 (operand_way F f o1 n1 x1) (λ b. done_way (a ∷ b ∷ [])))

closing_way : (e : Entry) → All (closing e)
closing_way e o n xs =
    then_way (next (is kind.Close)) (λ _ t. done (length t.nodes) (pushed e t)) o n xs (next_way (is kind.Close) o n xs)
    (λ _ o1 n1 x1. passes (length n1) o1 (n1 ++ (e ∷ [])) [] x1 refl (λ w p. refl))

abbrev operands_then : ℕ → Form → List Item → Step ℕ
operands_then l f its s = then (operands (formula l) (arity f) s) (λ os t. closing (entry f (map arg its) os) t)

formula_way : (levels : ℕ) → All (formula levels)
formula_way zero o n xs = then_way (opening 0) (λ f t. stop (fault_at t fault.TooMany)) o n xs (opening_way 0 o n xs) (λ f. halt_way fault.TooMany)
formula_way (suc l) o n xs =
    then_way (opening (suc l)) (λ f t. then (arguments (slots f) (pos 0) t) (λ its u. operands_then l f its u)) o n xs (opening_way (suc l) o n xs)
    (λ f o1 n1 x1. then_way (arguments (slots f) (pos 0)) (λ its u. operands_then l f its u) o1 n1 x1 (arguments_way (slots f) (pos 0) o1 n1 x1)
    (λ its o2 n2 x2. then_way (operands (formula l) (arity f)) (λ os t. closing (entry f (map arg its) os) t) o2 n2 x2 (operands_way (formula l) (formula_way l) (arity f) o2 n2 x2)
    (λ os. closing_way (entry f (map arg its) os))))

-- a rule, from its last item back
abbrev newline_then : Item → ℕ → Step Rule
newline_then it r s = then (next (is kind.Newline) s) (λ _ t. done (rule_of (mag (item_number it)) r) t)

abbrev close_then : Item → ℕ → Step Rule
close_then it r s = then (next (is kind.Close) s) (λ _ t. newline_then it r t)

abbrev formula_then : Item → Step Rule
formula_then it s = then (formula 12 s) (λ r t. close_then it r t)

abbrev space_then : Item → Step Rule
space_then it s = then (next (is kind.Space) s) (λ _ t. formula_then it t)

abbrev number_then : ℕ → Step Rule
number_then least s = then (rule_number least s) (λ it t. space_then it t)

rule_way : (least : ℕ) → All (rule least)
rule_way least o n xs =
    then_way (next (is kind.Rule)) (λ _ t. then (next (is kind.Space) t) (λ _ u. number_then least u)) o n xs (next_way (is kind.Rule) o n xs)
    (λ _ o1 n1 x1. then_way (next (is kind.Space)) (λ _ u. number_then least u) o1 n1 x1 (space_way o1 n1 x1)
    (λ _ o2 n2 x2. then_way (rule_number least) (λ it t. space_then it t) o2 n2 x2 (next_way (argument (Upper (pos 1) (pos 99)) (pos least)) o2 n2 x2)
    (λ it o3 n3 x3. then_way (next (is kind.Space)) (λ _ t. formula_then it t) o3 n3 x3 (space_way o3 n3 x3)
    (λ _ o4 n4 x4. then_way (formula 12) (λ r t. close_then it r t) o4 n4 x4 (formula_way 12 o4 n4 x4)
    (λ r o5 n5 x5. then_way (next (is kind.Close)) (λ _ t. newline_then it r t) o5 n5 x5 (next_way (is kind.Close) o5 n5 x5)
    (λ _ o6 n6 x6. then_way (next (is kind.Newline)) (λ _ t. done (rule_of (mag (item_number it)) r) t) o6 n6 x6 (next_way (is kind.Newline) o6 n6 x6)
    (λ _. done_way (rule_of (mag (item_number it)) r))))))))

-- rules as far as the items go
zero_way : (b : Bool) (it : Item) → same it.kind kind.Open ≡ b → (least o : ℕ) (n : List Entry) (more : List Item) → Way (rules 0 least) o n (it ∷ more)
zero_way true it e least o n more =
    halts (fault_of fault.TooMany it.place) [] it more refl refl (λ w p. ap (λ c. then (Bracket c o n it w p) (λ _ t. stop (fault_at (at o n (it ∷ w) p) fault.TooMany))) e)
zero_way false it e least o n more =
    halts (fault_of fault.Misfit it.place) [] it more refl refl (λ w p. ap (λ c. then (Bracket c o n it w p) (λ _ t. stop (fault_at (at o n (it ∷ w) p) fault.TooMany))) e)

-- a rule, and then the others
abbrev others_then : ℕ → Rule → Step (List Rule)
others_then k r s = then (rules k (r.number + 1) s) (λ rs t. done (r ∷ rs) t)

abbrev rule_then : ℕ → ℕ → Step (List Rule)
rule_then k least s = then (rule least s) (λ r t. others_then k r t)

more_way : (k : ℕ) → ((least : ℕ) → All (rules k least)) → (b : Bool) (it : Item) → same it.kind kind.Open ≡ b → (least o : ℕ) (n : List Entry) (more : List Item) → Way (rules (suc k) least) o n (it ∷ more)
more_way k ih false it e least o n more =
    halts (fault_of fault.Misfit it.place) [] it more refl refl (λ w p. ap (λ c. then (Bracket c o n it w p) (λ _ t. rule_then k least t)) e)
more_way k ih true it e least o n more =
    after (rules (suc k) least) o o n n (it ∷ []) more (rule_then k least)
    (λ w p. ap (λ c. then (Bracket c o n it w p) (λ _ t. rule_then k least t)) e)
    (then_way (rule least) (λ r t. others_then k r t) o n more (rule_way least o n more)
    (λ r o1 n1 x1. then_way (rules k (r.number + 1)) (λ rs t. done (r ∷ rs) t) o1 n1 x1 (ih (r.number + 1) o1 n1 x1) (λ rs. done_way (r ∷ rs))))

rules_way : (k least : ℕ) → All (rules k least)
rules_way zero least o n [] = ends [] o n (λ p. refl)
rules_way zero least o n (it ∷ more) = zero_way (same it.kind kind.Open) it refl least o n more
rules_way (suc k) least o n [] = ends [] o n (λ p. refl)
rules_way (suc k) least o n (it ∷ more) = more_way k (λ l. rules_way k l) (same it.kind kind.Open) it refl least o n more

all_way : All all_rules
unfolding all_rules
all_way o n xs = rules_way 16 1 o n xs

-- a file with an item is read rule by rule
file_some : (pre : List Item) (x : Item) (w : List Item) (p : Place) → file (pre ++ (x ∷ w)) p ≡ all_rules (at 0 [] (pre ++ (x ∷ w)) p)
file_some [] x w p = refl
file_some (y ∷ pre) x w p = refl

stop_same : (f g : ReadFault) → ◌≡◌ {A = Outcome (List Rule)} (stop f) (stop g) → f ≡ g
stop_same f g e = cc

faulty : (text : List ℕ) (f : ReadFault) (it : Item) (more : List Item) → items text ≡ it ∷ more → all_rules (at 0 [] (it ∷ more) (end_of text)) ≡ stop f → Way all_rules 0 [] (it ∷ more) → Placed text f
faulty text f it more e r (passes v a b pre rest q h) =
    absurd (stopped (sym r ∙ ap (λ l. all_rules (at 0 [] l (end_of text))) q ∙ h rest (end_of text)))
faulty text f it more e r (halts g pre x post q pl h) =
    let read : ◌≡◌ {A = Outcome (List Rule)} (stop g) (stop f) = sym (h post (end_of text)) ∙ ap (λ l. all_rules (at 0 [] l (end_of text))) (sym q) ∙ r in
    let same-fault : g ≡ f = stop_same g f read in
    inr (record {
      before = pre;
      item = x;
      after = post;
      are = e ∙ q;
      here = pl ∙ ap (λ (z : ReadFault). z.place) same-fault;
      refused = λ other w i. ap (λ l. file l (end_of other)) i ∙ file_some pre x w (end_of other) ∙ h w (end_of other) ∙ ap stop same-fault;
    })
faulty text f it more e r (short k h) = inl (ap (λ (z : ReadFault). z.place) (stop_same f (fault_of k (end_of text)) (sym r ∙ h (end_of text))))
faulty text f it more e r (ends v a b h) = absurd (stopped (sym r ∙ h (end_of text)))

placed_by : (text : List ℕ) (f : ReadFault) (its : List Item) → items text ≡ its → file its (end_of text) ≡ stop f → Placed text f
placed_by text f [] e r = inl (ap (λ (z : ReadFault). z.place) (stop_same f (fault_of fault.Empty (end_of text)) (sym r)))
placed_by text f (it ∷ more) e r = faulty text f it more e r (all_way 0 [] (it ∷ more))

-- a fault stands at its item, or past the end
pub placed : (text : List ℕ) (f : ReadFault) → reading text ≡ stop f → Placed text f
placed text f r = placed_by text f (items text) refl r
