-- The truth of a formula at a state of a record: one text for every kind.
use Rattle.std.specs.Prelude.{ℕ, zero, suc, ◌-◌, Bool, true, false, cond, ◌&&◌, ltb, leb, List, length, Some, None, Option, nat_le, nat_lt, slice_index}
use Rattle.truth.specs.Kinds.{Kind}
use Rattle.syntax.specs.Formula.{Formula}
use Rattle.syntax.specs.declared.Window.{Window}
use Rattle.syntax.specs.Formula.Formula.{Truth, Query, Not, And, Or, Implies, Next, AllNext, Sometime, Always, Until, Previous, Once, SoFar, Since}

-- The or, and the and, of f j over the j below n that pass the test p.
module _ {K : Type 0} (k : Kind K) where
  abbrev pub any : ℕ → (ℕ → Bool) → (ℕ → K) → K
  any zero p f = k.no
  any (suc n) p f = k.or (any n p f) (cond (p n) (f n) k.no)

  abbrev pub all : ℕ → (ℕ → Bool) → (ℕ → K) → K
  all zero p f = k.yes
  all (suc n) p f = k.and (all n p f) (cond (p n) (f n) k.yes)

-- A record: the stamps of its states, the value of query node m at state i, and what an open mark is
-- where it is not no: in a finished record that is no too.
pub record Record (K : Type 0) : Type 0 where
  pub stamps : List ℕ
  pub leaf : ℕ → ℕ → K
  pub pending : K

module _ {K : Type 0} (r : Record K) where
  abbrev pub count : ℕ
  count = length r.stamps

  abbrev pub stamp : ℕ → ℕ
  stamp i = slice_index r.stamps i

-- A distance within a bound; a distance at which the window cannot gain a state any more.
abbrev pub below : Option ℕ → ℕ → Bool
below (Some b) d = nat_le d b
below None d = true

abbrev pub closed : Option ℕ → ℕ → Bool
closed (Some b) d = nat_le b d
closed None d = false

abbrev pub within : Window → ℕ → Bool
within w d = nat_le w.low d && below w.high d

module _ {K : Type 0} (k : Kind K) (r : Record K) where
  -- state j lies in the future window of state i, or in its past window
  abbrev pub future : Window → ℕ → ℕ → Bool
  future w i j = nat_le i j && within w (stamp r j - stamp r i)

  abbrev pub past : Window → ℕ → ℕ → Bool
  past w i j = nat_le j i && within w (stamp r i - stamp r j)

  -- the open mark of state i
  abbrev pub mark : Window → ℕ → K
  mark w i = cond (closed w.high (stamp r (count r - 1) - stamp r i)) k.no r.pending

  -- The operators: f and g are the values of the operands at each state.
  abbrev pub negated : (ℕ → K) → ℕ → K
  negated f i = k.not (f i)

  abbrev pub sometime : Window → (ℕ → K) → ℕ → K
  sometime w f i = k.or (any k (count r) (future w i) f) (mark w i)

  abbrev pub always : Window → (ℕ → K) → ℕ → K
  always w f = negated (sometime w (negated f))

  abbrev pub until : Window → (ℕ → K) → (ℕ → K) → ℕ → K
  until w f g i = k.or (any k (count r) (future w i) (λ j. k.and (g j) (all k j (λ m. leb i m) f))) (k.and (all k (count r) (λ m. leb i m) f) (mark w i))

  abbrev pub next : Window → (ℕ → K) → ℕ → K
  next w f i = cond (nat_lt (suc i) (count r)) (cond (future w i (suc i)) (f (suc i)) k.no) (mark w i)

  abbrev pub allnext : Window → (ℕ → K) → ℕ → K
  allnext w f = negated (next w (negated f))

  abbrev pub since : Window → (ℕ → K) → (ℕ → K) → ℕ → K
  since w f g i = any k (suc i) (past w i) (λ j. k.and (g j) (all k (suc i) (λ m. ltb j m) f))

  abbrev pub once : Window → (ℕ → K) → ℕ → K
  once w f = since w (λ _. k.yes) f

  abbrev pub sofar : Window → (ℕ → K) → ℕ → K
  sofar w f = negated (once w (negated f))

  abbrev pub previous : Window → (ℕ → K) → ℕ → K
  previous w f zero = k.no
  previous w f (suc i) = cond (past w (suc i) i) (f i) k.no

  -- The value of a formula at a state.
  abbrev pub value : Formula → ℕ → K
  value Truth i = k.yes
  value (Query m) i = r.leaf i m
  value (Not f) i = k.not (value f i)
  value (And f g) i = k.and (value f i) (value g i)
  value (Or f g) i = k.or (value f i) (value g i)
  value (Implies f g) i = k.or (k.not (value f i)) (value g i)
  value (Next w f) i = next w (value f) i
  value (AllNext w f) i = allnext w (value f) i
  value (Sometime w f) i = sometime w (value f) i
  value (Always w f) i = always w (value f) i
  value (Until w f g) i = until w (value f) (value g) i
  value (Previous w f) i = previous w (value f) i
  value (Once w f) i = once w (value f) i
  value (SoFar w f) i = sofar w (value f) i
  value (Since w f g) i = since w (value f) (value g) i
