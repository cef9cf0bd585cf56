-- The round trip: a file that is read is the text of its rules, and the text of well-formed rules is read as them.
use Rattle.std.proofs.Common.{◌≡◌, ℕ, zero, suc, ◌+◌, ◌<◌, ◌≤◌, true, List, [], ◌∷◌, ℤ, pos, negsuc, Some, None, refl, inl, inr, arith, rules, leb-true}
use Rattle.std.proofs.lemmas.Bool.{and_parts, false≢true}
use lib.Signed.{le_z, mag}
use Rattle.items.specs.declared.item.Form.{Form}
use Rattle.grammar.specs.declared.shape.Slot.{Slot}
use Rattle.grammar.specs.declared.shape.Slot.TheVariants.{Range, Upper, UpperOrEnd}
use Rattle.grammar.specs.Grammar.{slots}
use Rattle.grammar.specs.Entries.{Arg}
use Rattle.grammar.specs.Reading.{State, done}
use Rattle.items.specs.declared.item.Kind.{Kind}
use Rattle.grammar.specs.Trees.{Tree, leaf, unary, binary, arg_token, arg_tokens, head_tokens, tree_tokens, in_range, fits, bound, args_fit, Well}
use Rattle.syntax.specs.declared.Rule.{Rule}
use Rattle.grammar.specs.Files.{file, Line, lines_tokens, WellLines, WellFile, lines_text}
use Rattle.items.specs.Items.{items, end_of, start}
use Rattle.grammar.specs.RoundTrip.{ReadBack, WrittenBack}
use Rattle.items.proofs.Numerals.{most}
use Rattle.items.proofs.Spelling.{Spelled, All-spelled, text_of_items}
use Rattle.items.proofs.CutAgain.{Starts, Apart, cut_spell}
use Rattle.grammar.proofs.FileInversion.{file_read}
use Rattle.grammar.proofs.FileAcceptance.{file_accepted}

-- numbers in range are small
between_small : (low high z : ℤ) → mag low ≤ 1000000000 → mag high ≤ 1000000000 → le_z low z ≡ true → le_z z high ≡ true → mag z < most
between_small low high (pos n) a b p q = high_small high n b q
  where
    high_small : (h : ℤ) (m : ℕ) → mag h ≤ 1000000000 → le_z (pos m) h ≡ true → m < most
    high_small (pos h) m b q = omega (arith, leb-true m h q)
    high_small (negsuc h) m b q = absurd (false≢true q)
between_small low high (negsuc n) a b p q = low_small low n a p
  where
    low_small : (l : ℤ) (m : ℕ) → mag l ≤ 1000000000 → le_z l (negsuc m) ≡ true → m < most
    low_small (pos l) m a p = absurd (false≢true p)
    low_small (negsuc l) m a p = omega (arith, leb-true m l p)

in_range_small : (low high z : ℤ) → mag low ≤ 1000000000 → mag high ≤ 1000000000 → in_range low high z ≡ true → mag z < most
in_range_small low high z a b h =
    let p = and_parts (le_z low z) (le_z z high) h in
    between_small low high z a b p.0 p.1

abbrev Small : Slot → Type 0
Small (Range low high) = (mag low ≤ 1000000000) × (mag high ≤ 1000000000)
Small (Upper low high) = (mag low ≤ 1000000000) × (mag high ≤ 1000000000)
Small (UpperOrEnd low high) = (mag low ≤ 1000000000) × (mag high ≤ 1000000000)

abbrev All-small : List Slot → Type 0
All-small [] = Unit {0}
All-small (s ∷ ss) = Small s × All-small ss

slots_small : (f : Form) → All-small (slots f)
slots_small f = search rules

arg_spelled : (slot : Slot) (before : ℤ) (x : Arg) → Small slot → fits slot before x ≡ true → Spelled (arg_token x)
arg_spelled (Range low high) before (Some z) m h = in_range_small low high z m.0 m.1 h
arg_spelled (Range low high) before None m h = tt
arg_spelled (Upper low high) before (Some z) m h = in_range_small low high z m.0 m.1 (and_parts (in_range low high z) (le_z before z) h).0
arg_spelled (Upper low high) before None m h = tt
arg_spelled (UpperOrEnd low high) before (Some z) m h = in_range_small low high z m.0 m.1 (and_parts (in_range low high z) (le_z before z) h).0
arg_spelled (UpperOrEnd low high) before None m h = tt

args_start : (xs : List Arg) (r : List Kind) → Starts r → Starts (arg_tokens xs r)
args_start [] r h = h
args_start (x ∷ xs) r h = refl

args_apart : (ss : List Slot) (before : ℤ) (xs : List Arg) (r : List Kind) → All-small ss → args_fit ss before xs ≡ true → Starts r → Apart r → Apart (arg_tokens xs r)
args_apart [] before [] r m h s a = a
args_apart [] before (x ∷ xs) r m h s a = absurd (false≢true h)
args_apart (slot ∷ more) before [] r m h s a = absurd (false≢true h)
args_apart (slot ∷ more) before (x ∷ xs) r m h s a =
    let p = and_parts (fits slot before x) (args_fit more (bound x) xs) h in
    (tt, inl refl, (arg_spelled slot before x m.0 p.0, inr (args_start xs r s), args_apart more (bound x) xs r m.1 p.1 s a))

head_apart : (f : Form) (xs : List Arg) (r : List Kind) → args_fit (slots f) (pos 0) xs ≡ true → Starts r → Apart r → Apart (head_tokens f xs r)
head_apart f xs r h s a = (tt, inl refl, (tt, inr (args_start xs r s), args_apart (slots f) (pos 0) xs r (slots_small f) h s a))

tree_apart : (levels : ℕ) (tree : Tree) (r : List Kind) → Well levels tree → Apart r → Apart (tree_tokens tree r)
tree_apart zero tree r w a = absurd w
tree_apart (suc l) (leaf f xs) r w a = head_apart f xs _ w.1 refl (tt, inl refl, a)
tree_apart (suc l) (unary f xs x) r w a = head_apart f xs _ w.0.1 refl (tt, inl refl, tree_apart l x _ w.1 (tt, inl refl, a))
tree_apart (suc l) (binary f xs x y) r w a = head_apart f xs _ w.0.1 refl (tt, inl refl, tree_apart l x _ w.1 (tt, inl refl, tree_apart l y _ w.2 (tt, inl refl, a)))

lines_apart : (k least : ℕ) (ls : List Line) → WellLines k least ls → Apart (lines_tokens ls)
lines_apart k least [] w = tt
lines_apart zero least (l ∷ ls) w = absurd w
lines_apart (suc k) least (l ∷ ls) w =
    (tt, inl refl, (tt, inr refl, (tt, inl refl, (omega (arith, w.0.1), inr refl, (tt, inl refl, tree_apart 12 l.tree _ w.1 (tt, inl refl, (tt, inl refl, lines_apart k (l.number + 1) ls w.2)))))))

all_spelled : (xs : List Kind) → Apart xs → All-spelled xs
all_spelled [] h = tt
all_spelled (x ∷ xs) h = (h.0, all_spelled xs h.2)

-- whatever is read has the text that was read
pub read_back : (text : List ℕ) (rs : List Rule) (t : State) → file (items text) (end_of text) ≡ done rs t → ReadBack text rs t.nodes
read_back text rs t h =
    let f = file_read (items text) (end_of text) rs t h in
    let a = all_spelled (lines_tokens f.lines) (lines_apart 16 1 f.lines f.well.lines) in
    record { lines = f.lines; well = f.well; is_text = text_of_items text (lines_tokens f.lines) a f.was; are_rules = f.are; are_nodes = f.nodes }

-- the text of well-formed rules is read as them
pub written_back : (ls : List Line) → WellFile ls → WrittenBack ls
written_back ls w =
    let e = cut_spell (lines_tokens ls) start (lines_apart 16 1 ls w.lines) in
    record { reads = file_accepted ls (items (lines_text ls)) (end_of (lines_text ls)) w e }
