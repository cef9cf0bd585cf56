-- What stays true of a verdict as its record grows.
use Rattle.std.proofs.Common.{◌≡◌, ℕ, ◌+◌, ◌-◌, ◌<◌, ◌≤◌, Bool, false, Some}
use Rattle.truth.specs.declared.Three.{Three}
use Rattle.truth.specs.declared.Three.TheVariants.{False, Undecided}
use Rattle.truth.specs.Kleene.{plain, three, embed, Definite}
use Rattle.syntax.specs.Formula.{Formula, reach, ahead}
use Rattle.eval.specs.Truth.{Record, count, stamp, value}

abbrev pub Running : Record Three → Type 0
Running r = r.pending ≡ Undecided

abbrev pub Finished : Record Three → Type 0
Finished r = r.pending ≡ False

-- Each stamp is later than those before.
abbrev pub Rising : {K : Type 0} → Record K → Type 0
Rising r = (i j : ℕ) → i < j → j < count r → stamp r i < stamp r j

-- The record s begins with the states of r: their stamps, and the values of their queries as `same` compares them.
abbrev pub Begins : {K L : Type 0} → (K → L → Type 0) → Record K → Record L → Type 0
Begins same r s = (count r ≤ count s) × ((i : ℕ) → i < count r → (stamp s i ≡ stamp r i) × ((m : ℕ) → same (r.leaf i m) (s.leaf i m)))

abbrev pub Equal : Three → Three → Type 0
Equal x y = x ≡ y

-- A three-valued value that is a plain one.
abbrev pub Embeds : Three → Bool → Type 0
Embeds x b = x ≡ embed b

-- Queries have definite values.
abbrev pub DefiniteLeaves : Record Three → Type 0
DefiniteLeaves r = (i m : ℕ) → i < count r → Definite (r.leaf i m)

-- A definite value in a running record is the value in every record, running or finished, that begins with its states.
abbrev pub Persistence : Type 0
Persistence =
    (r s : Record Three) → Running r → Begins Equal r s → Rising s
    → (f : Formula) (i : ℕ) → i < count r → Definite (value three r f i) → value three s f i ≡ value three r f i

-- In a finished record the three-valued value is the plain value.
abbrev pub Agreement : Type 0
Agreement =
    (r : Record Three) (h : Record Bool) → r.pending ≡ embed h.pending → count r ≡ count h → Begins Embeds r h
    → (f : Formula) (i : ℕ) → i < count r → value three r f i ≡ embed (value plain h f i)

-- A definite verdict in a running record is the plain truth in every finished history that begins with its states.
abbrev pub Soundness : Type 0
Soundness =
    (r : Record Three) (h : Record Bool) → Running r → Begins Embeds r h → Rising h
    → (f : Formula) (i : ℕ) (b : Bool) → i < count r → value three r f i ≡ embed b → value plain h f i ≡ b

-- Once the last stamp has come as far as the reach, and in a finished record, the value is definite.
abbrev pub Decidedness : Type 0
Decidedness =
    (r : Record Three) → DefiniteLeaves r → Rising r
    → (f : Formula) (d i : ℕ) → reach f ≡ Some d → i < count r → stamp r i + d ≤ stamp r (count r - 1) → Definite (value three r f i)

abbrev pub FinishedDefinite : Type 0
FinishedDefinite = (r : Record Three) → DefiniteLeaves r → Finished r → (f : Formula) (i : ℕ) → i < count r → Definite (value three r f i)

-- A formula without a future operator is definite at once.
abbrev pub PastDefinite : Type 0
PastDefinite = (r : Record Three) → DefiniteLeaves r → (f : Formula) (i : ℕ) → ahead f ≡ false → i < count r → Definite (value three r f i)
