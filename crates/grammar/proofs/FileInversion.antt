-- What is read as a file is the text of well-formed rules, and such a text is read.
use Rattle.std.proofs.Common.{◌≡◌, ℕ, zero, suc, ◌+◌, ◌<◌, ◌≤◌, Bool, true, false, cond, List, [], ◌∷◌, length, ℤ, pos, negsuc, Some, None, sym, refl, ap, ◌∙◌, subst, arith, leb-true}
use lib.Signed.{le_z, mag}
use Rattle.std.proofs.lemmas.Bool.{and_parts, false≢true}
use Rattle.items.specs.declared.item.Place.{Place}
use Rattle.items.specs.declared.item.Item.{Item}
use Rattle.grammar.specs.declared.shape.Slot.{Slot}
use Rattle.grammar.specs.declared.shape.Slot.TheVariants.{Upper}
use Rattle.grammar.specs.Reading.{State, done, stop, then, next, is, same, fault_at, argument, formula}
use Rattle.items.specs.Items.{item_number}
use Rattle.items.specs.Tokens.{tokens}
use Rattle.grammar.specs.Trees.{in_range, Tree, arg_token, tree_tokens, inside, nodes_after, fits, Well}
use Rattle.syntax.specs.declared.Rule.{Rule}
use Rattle.grammar.specs.Files.{rule_of, rule_number, rule, at_end, rules, all_rules, start_of, file, Line, lines_tokens, lines_nodes, lines_rules, formulas, Numbered, WellLines, WellFile}
use Rattle.grammar.proofs.Inversion.{stopped, both, passed, taken, argued, formula_read}
use Rattle.items.specs.declared.item.Kind.TheVariants as kind
use Rattle.grammar.specs.declared.fault.FaultKind.TheVariants as fault

abbrev number_slot : Slot
number_slot = Upper (pos 1) (pos 99)

-- a rule's number
numbered : (b : Bool) (least y : ℤ) → fits number_slot least (cond b None (Some y)) ≡ true → cond b None (Some y) ≡ Some y
numbered true least y h = absurd (false≢true h)
numbered false least y h = refl

number_fits : (least : ℕ) (y : ℤ) → fits number_slot (pos least) (Some y) ≡ true → Numbered least (mag y) × (y ≡ pos (mag y))
number_fits least (pos n) h =
    let p = and_parts (in_range (pos 1) (pos 99) (pos n)) (le_z (pos least) (pos n)) h in
    let q = and_parts (le_z (pos 1) (pos n)) (le_z (pos n) (pos 99)) p.0 in
    ((leb-true 1 n q.0, leb-true n 99 q.1, leb-true least n p.1), refl)
number_fits least (negsuc n) h = absurd (false≢true h)

-- a line that is read, after its opening bracket
pub record Ruled (least : ℕ) (s : State) (r : Rule) (t : State) : Type 0 where
  tree : Tree
  pub fit : Numbered least r.number
  well : Well 12 tree
  was : tokens s.rest ≡ kind.Rule ∷ kind.Space ∷ kind.Number (pos r.number) ∷ kind.Space ∷ tree_tokens tree (kind.Close ∷ kind.Newline ∷ tokens t.rest)
  root : r.root ≡ length s.nodes + inside tree
  opened : t.opened ≡ s.opened + (inside tree + 1)
  nodes : t.nodes ≡ nodes_after s.nodes tree
  few : t.opened ≤ 64

ruled_same : (least : ℕ) (s : State) (a b : Rule) (t u : State) → done a t ≡ done b u → Ruled least s a t → Ruled least s b u
ruled_same least s a b t u e h =
    let p : a ≡ b = cc in
    let q : t ≡ u = cc in
    subst (λ x. Ruled least s x u) p (subst (λ x. Ruled least s a x) q h)

pub ruled : (least : ℕ) (s : State) (r : Rule) (t : State) → rule least s ≡ done r t → Ruled least s r t
ruled least s r t h =
    let a = both (next (is kind.Rule) s) _ r t h in
    let b = both (next (is kind.Space) a.state) _ r t a.then_done in
    let c = both (rule_number least b.state) _ r t b.then_done in
    let d = both (next (is kind.Space) c.state) _ r t c.then_done in
    let e = both (formula 12 d.state) _ r t d.then_done in
    let f = both (next (is kind.Close) e.state) _ r t e.then_done in
    let g = both (next (is kind.Newline) f.state) _ r t f.then_done in
    let pa = passed kind.Rule refl s a.value a.state a.first in
    let pb = passed kind.Space refl a.state b.value b.state b.first in
    let pc = taken (argument number_slot (pos least)) b.state c.value c.state c.first in
    let n = argued number_slot (pos least) pc.item c.value pc.passed in
    let pd = passed kind.Space refl c.state d.value d.state d.first in
    let m = formula_read 12 d.state e.value e.state e.first in
    let pf = passed kind.Close refl e.state f.value f.state f.first in
    let pg = passed kind.Newline refl f.state g.value g.state g.first in
    let num = numbered (same pc.item.kind kind.End) (pos least) (item_number pc.item) n.0.fit in
    let item : pc.item ≡ c.value = n.1 in
    let small = number_fits least (item_number c.value) (subst (λ i. fits number_slot (pos least) (Some (item_number i)) ≡ true) item (subst (λ x. fits number_slot (pos least) x ≡ true) num n.0.fit)) in
    let ra : tokens a.state.rest ≡ tokens pa.rest = ap (λ u. tokens u.rest) pa.after in
    let rb : b.state.rest ≡ pb.rest = ap (λ u. u.rest) pb.after in
    let rc : tokens c.state.rest ≡ tokens pc.rest = ap (λ u. tokens u.rest) pc.after in
    let rd : tokens d.state.rest ≡ tokens pd.rest = ap (λ u. tokens u.rest) pd.after in
    let rf : tokens f.state.rest ≡ tokens pf.rest = ap (λ u. tokens u.rest) pf.after in
    let rg : tokens g.state.rest ≡ tokens pg.rest = ap (λ u. tokens u.rest) pg.after in
    let ns : d.state.nodes ≡ s.nodes = ap (λ u. u.nodes) pd.after ∙ ap (λ u. u.nodes) pc.after ∙ ap (λ u. u.nodes) pb.after ∙ ap (λ u. u.nodes) pa.after in
    let os : d.state.opened ≡ s.opened = ap (λ u. u.opened) pd.after ∙ ap (λ u. u.opened) pc.after ∙ ap (λ u. u.opened) pb.after ∙ ap (λ u. u.opened) pa.after in
    let gn : g.state.nodes ≡ e.state.nodes = ap (λ u. u.nodes) pg.after ∙ ap (λ u. u.nodes) pf.after in
    let go : g.state.opened ≡ e.state.opened = ap (λ u. u.opened) pg.after ∙ ap (λ u. u.opened) pf.after in
    ruled_same least s (rule_of (mag (item_number c.value)) e.value) r g.state t g.then_done (record {
      tree = m.tree;
      fit = small.0;
      well = m.well;
      was = pa.was ∙ ap (λ u. kind.Rule ∷ u) (sym ra ∙ pb.was ∙ ap (λ u. kind.Space ∷ u) (sym (ap tokens rb) ∙ ap tokens pc.was ∙ ap (λ x. x ∷ tokens pc.rest) (n.0.is ∙ ap arg_token num ∙ ap (λ i. kind.Number (item_number i)) item ∙ ap kind.Number small.1) ∙ ap (λ u. kind.Number (pos (mag (item_number c.value))) ∷ u) (sym rc ∙ pd.was ∙ ap (λ u. kind.Space ∷ u) (sym rd ∙ m.was ∙ ap (tree_tokens m.tree) (pf.was ∙ ap (λ u. kind.Close ∷ u) (sym rf ∙ pg.was ∙ ap (λ u. kind.Newline ∷ u) (sym rg)))))));
      root = m.number ∙ ap (λ u. length u + inside m.tree) ns;
      opened = go ∙ m.opened ∙ ap (λ u. u + (inside m.tree + 1)) os;
      nodes = gn ∙ m.nodes ∙ ap (λ u. nodes_after u m.tree) ns;
      few = omega (arith, go, m.few);
    })

-- rules that are read
pub record Lines (k least : ℕ) (s : State) (rs : List Rule) (t : State) : Type 0 where
  pub lines : List Line
  pub well : WellLines k least lines
  pub was : tokens s.rest ≡ lines_tokens lines
  pub are : rs ≡ lines_rules s.nodes lines
  pub nodes : t.nodes ≡ lines_nodes s.nodes lines
  pub opened : t.opened ≡ s.opened + formulas lines
  pub few : s.opened ≤ 64 → t.opened ≤ 64

lines_same : (k least : ℕ) (s : State) (a b : List Rule) (t u : State) → done a t ≡ done b u → Lines k least s a t → Lines k least s b u
lines_same k least s a b t u e h =
    let p : a ≡ b = cc in
    let q : t ≡ u = cc in
    subst (λ x. Lines k least s x u) p (subst (λ x. Lines k least s a x) q h)

none_left : (k least : ℕ) (s : State) → s.rest ≡ [] → Lines k least s [] s
none_left k least s e = record { lines = []; well = tt; was = ap tokens e; are = refl; nodes = refl; opened = omega arith; few = λ h. h }

lines_zero : (least : ℕ) (s : State) (items : List Item) → s.rest ≡ items → (rs : List Rule) (t : State) → at_end items (done [] s) (then (next (is kind.Open) s) (λ _ u. stop (fault_at s fault.TooMany))) ≡ done rs t → Lines 0 least s rs t
lines_zero least s [] e rs t h = lines_same 0 least s [] rs s t h (none_left 0 least s e)
lines_zero least s (it ∷ items) e rs t h =
    let a = both (next (is kind.Open) s) _ rs t h in
    absurd (stopped a.then_done)

lines_more : (k : ℕ) (ih : (least : ℕ) (s : State) (rs : List Rule) (t : State) → rules k least s ≡ done rs t → Lines k least s rs t) (least : ℕ) (s : State) (items : List Item) → s.rest ≡ items → (rs : List Rule) (t : State) → at_end items (done [] s) (then (next (is kind.Open) s) (λ _ u. then (rule least u) (λ r v. then (rules k (r.number + 1) v) (λ qs w. done (r ∷ qs) w)))) ≡ done rs t → Lines (suc k) least s rs t
lines_more k ih least s [] e rs t h = lines_same (suc k) least s [] rs s t h (none_left (suc k) least s e)
lines_more k ih least s (it ∷ items) e rs t h =
    let a = both (next (is kind.Open) s) _ rs t h in
    let b = both (rule least a.state) _ rs t a.then_done in
    let c = both (rules k (b.value.number + 1) b.state) _ rs t b.then_done in
    let p = passed kind.Open refl s a.value a.state a.first in
    let l = ruled least a.state b.value b.state b.first in
    let m = ih (b.value.number + 1) b.state c.value c.state c.first in
    let ra : tokens a.state.rest ≡ tokens p.rest = ap (λ u. tokens u.rest) p.after in
    let ns : a.state.nodes ≡ s.nodes = ap (λ u. u.nodes) p.after in
    let os : a.state.opened ≡ s.opened = ap (λ u. u.opened) p.after in
    let bn : b.state.nodes ≡ nodes_after s.nodes l.tree = l.nodes ∙ ap (λ u. nodes_after u l.tree) ns in
    let line : Line = record { number = b.value.number; tree = l.tree } in
    let root : b.value ≡ rule_of b.value.number (length s.nodes + inside l.tree) = ap (rule_of b.value.number) (l.root ∙ ap (λ u. length u + inside l.tree) ns) in
    lines_same (suc k) least s (b.value ∷ c.value) rs c.state t c.then_done (record {
      lines = line ∷ m.lines;
      well = (l.fit, l.well, m.well);
      was = p.was ∙ ap (λ u. kind.Open ∷ u) (sym ra ∙ l.was ∙ ap (λ u. kind.Rule ∷ kind.Space ∷ kind.Number (pos b.value.number) ∷ kind.Space ∷ tree_tokens l.tree (kind.Close ∷ kind.Newline ∷ u)) m.was);
      are = ap (λ x. x ∷ c.value) root ∙ ap (λ x. rule_of b.value.number (length s.nodes + inside l.tree) ∷ x) (m.are ∙ ap (λ u. lines_rules u m.lines) bn);
      nodes = m.nodes ∙ ap (λ u. lines_nodes u m.lines) bn;
      opened = omega (arith, m.opened, l.opened, os);
      few = λ _. m.few l.few;
    })

pub rules_read : (k least : ℕ) (s : State) (rs : List Rule) (t : State) → rules k least s ≡ done rs t → Lines k least s rs t
rules_read zero least s rs t h = lines_zero least s s.rest refl rs t h
rules_read (suc k) least s rs t h = lines_more k (rules_read k) least s s.rest refl rs t h

-- a file that is read
pub record File (items : List Item) (end : Place) (rs : List Rule) (t : State) : Type 0 where
  pub lines : List Line
  pub well : WellFile lines
  pub was : tokens items ≡ lines_tokens lines
  pub are : rs ≡ lines_rules [] lines
  pub nodes : t.nodes ≡ lines_nodes [] lines

some_lines : (it : Item) (items : List Item) (ls : List Line) → tokens (it ∷ items) ≡ lines_tokens ls → 0 < length ls
some_lines it items [] h = absurd cc
some_lines it items (l ∷ ls) h = omega arith

-- whatever is read as a file is the text of well-formed rules
pub file_read : (items : List Item) (end : Place) (rs : List Rule) (t : State) → file items end ≡ done rs t → File items end rs t
unfolding all_rules
file_read [] end rs t h = absurd (stopped h)
file_read (it ∷ items) end rs t h =
    let l = rules_read 16 1 (start_of (it ∷ items) end) rs t h in
    let few : t.opened ≤ 64 = l.few (omega arith) in
    record { lines = l.lines; well = record { some = some_lines it items l.lines l.was; lines = l.well; few = omega (arith, l.opened, few) }; was = l.was; are = l.are; nodes = l.nodes }
