-- Persistence, agreement, soundness and definite values of finished records: four uses of related kinds.
use Rattle.std.proofs.Common.{◌≡◌, ◌<◌, Bool, true, false, not, ◌&&◌, ◌||◌, sym, refl, ap, ◌∙◌, ap₂, inl, inr, arith}
use mathlib.Core.Bool.{and-false, or_self}
use Rattle.truth.specs.Kleene.{plain, three, and3, or3, not3, embed, Definite}
use Rattle.truth.specs.declared.Three.{Three}
use Rattle.truth.specs.declared.Three.TheVariants.{True, False, Undecided}
use Rattle.eval.specs.Truth.{Record, count}
use Rattle.eval.proofs.Theorems.{Embeds, Persistence, Agreement, Soundness, FinishedDefinite}
use Rattle.eval.proofs.KindLaws.{plain_laws, three_laws, or3_self}
use Rattle.eval.proofs.Related.{Respects, Absorbs, related}

and3_no : (x : Three) → and3 x False ≡ False
and3_no True = refl
and3_no False = refl
and3_no Undecided = refl

pub three_absorbs : Absorbs three
three_absorbs = record { and_no = and3_no; or_self = or3_self }

pub plain_absorbs : Absorbs plain
plain_absorbs = record { and_no = and-false; or_self = or_self }

-- The information order: undecided is below everything, and each value below itself.
abbrev pub Below : Three → Three → Type 0
Below True y = True ≡ y
Below False y = False ≡ y
Below Undecided y = Unit {0}

below_same : (x y : Three) → x ≡ y → Below x y
below_same True y e = e
below_same False y e = e
below_same Undecided y e = tt

below_definite : (b : Bool) (x y : Three) → x ≡ embed b → Below x y → y ≡ x
below_definite b True y e h = sym h
below_definite b False y e h = sym h
below_definite true Undecided y e h = let z : y ≡ Undecided = cc in z
below_definite false Undecided y e h = let z : y ≡ Undecided = cc in z

-- every operation is monotone
below_and : (x x' y y' : Three) → Below x y → Below x' y' → Below (and3 x x') (and3 y y')
below_and True x' y y' e h = rw (← e) h
below_and False x' y y' e h = rw (← e) refl
below_and Undecided True y y' e h = tt
below_and Undecided False y y' e h = rw (← h) (sym (and3_no y))
below_and Undecided Undecided y y' e h = tt

or3_yes : (x : Three) → or3 x True ≡ True
or3_yes True = refl
or3_yes False = refl
or3_yes Undecided = refl

below_or : (x x' y y' : Three) → Below x y → Below x' y' → Below (or3 x x') (or3 y y')
below_or True x' y y' e h = rw (← e) refl
below_or False x' y y' e h = rw (← e) h
below_or Undecided True y y' e h = rw (← h) (sym (or3_yes y))
below_or Undecided False y y' e h = tt
below_or Undecided Undecided y y' e h = tt

below_not : (x y : Three) → Below x y → Below (not3 x) (not3 y)
below_not True y e = ap not3 e
below_not False y e = ap not3 e
below_not Undecided y e = tt

below_respects : Respects three three Below
below_respects = record { yes = refl; no = refl; and = below_and; or = below_or; not = below_not }

pub persistence : Persistence
persistence r s run begins up f i li d =
    below_definite d.0 _ _ d.1
    (related three three Below below_respects three_absorbs three_absorbs three_laws r s
    (begins.0, λ j lj. ((begins.1 j lj).0, λ m. below_same _ _ ((begins.1 j lj).1 m))) (rw run tt) (inr (up, λ y. rw run tt)) f i li)

-- The embedding respects the operations.
embed_and : (b c : Bool) → and3 (embed b) (embed c) ≡ embed (b && c)
embed_and true c = refl
embed_and false c = refl

embed_or : (b c : Bool) → or3 (embed b) (embed c) ≡ embed (b || c)
embed_or true c = refl
embed_or false c = refl

embed_not : (b : Bool) → not3 (embed b) ≡ embed (not b)
embed_not true = refl
embed_not false = refl

embed_respects : Respects three plain Embeds
embed_respects =
    record {
      yes = refl;
      no = refl;
      and = λ x x' y y' e h. ap₂ and3 e h ∙ embed_and y y';
      or = λ x x' y y' e h. ap₂ or3 e h ∙ embed_or y y';
      not = λ x y e. ap not3 e ∙ embed_not y;
    }

pub agreement : Agreement
agreement r h marks same begins f i li =
    related three plain Embeds embed_respects three_absorbs plain_absorbs plain_laws r h begins marks (inl same) f i li

pub embed_same : (b c : Bool) → embed b ≡ embed c → b ≡ c
embed_same true true e = refl
embed_same true false e = cc
embed_same false true e = cc
embed_same false false e = refl

-- a plain record as a three-valued one
embedded : Record Bool → Record Three
embedded h = record { stamps = h.stamps; leaf = λ i m. embed (h.leaf i m); pending = embed h.pending }

pub soundness : Soundness
unfolding embedded
soundness r h run begins up f i b li d =
    let lh : i < count h = omega (arith, begins.0) in
    let stays = persistence r (embedded h) run begins up f i li (b, d) in
    embed_same _ _ (sym (agreement (embedded h) h refl refl (omega arith, λ j lj. (refl, λ m. refl)) f i lh) ∙ stays ∙ d)

definite_and : (x y : Three) → Definite x → Definite y → Definite (and3 x y)
definite_and x y (b, e) (c, h) = (b && c, ap₂ and3 e h ∙ embed_and b c)

definite_or : (x y : Three) → Definite x → Definite y → Definite (or3 x y)
definite_or x y (b, e) (c, h) = (b || c, ap₂ or3 e h ∙ embed_or b c)

definite_not : (x : Three) → Definite x → Definite (not3 x)
definite_not x (b, e) = (not b, ap not3 e ∙ embed_not b)

-- being definite, as a relation that does not look at its second side
abbrev pub Settled : Three → Three → Type 0
Settled x y = Definite x

pub settled_respects : Respects three three Settled
settled_respects =
    record {
      yes = (true, refl);
      no = (false, refl);
      and = λ x x' y y' d e. definite_and x x' d e;
      or = λ x x' y y' d e. definite_or x x' d e;
      not = λ x y d. definite_not x d;
    }

pub finished_definite : FinishedDefinite
finished_definite r leaves ended f i li =
    related three three Settled settled_respects three_absorbs three_absorbs three_laws r r
    (omega arith, λ j lj. (refl, λ m. leaves j m lj)) (false, ended) (inl refl) f i li
