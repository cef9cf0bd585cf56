-- The book of a session: fed with each call, its arguments and its answer, and nothing else.
use Rattle.std.specs.Prelude.{◌≡◌, ℕ, ◌+◌, Bool, true, false, List, [], ◌∷◌, ◌++◌, Some, None, Ok, Err, Option}
use Rattle.store.specs.declared.facts.Fact.{Fact}
use Rattle.store.specs.Facts.{with_fact, without_fact}
use Rattle.store.specs.Stores.{Lawful}
use Rattle.history.specs.Histories.{State}
use Rattle.session.specs.View.{View, Event, began, put, dropped, committed, withdrew, ended, asked, Did}

pub record Book : Type 0 where
  pub current : List Fact
  pub kept : List Fact
  pub states : List State
  pub finished : Bool

-- a new book: the store's facts as they were found, twice, and no states
abbrev pub new_book : List Fact → Book
new_book s = record { current = s; kept = s; states = []; finished = false }

abbrev pub with_current : List Fact → Book → Book
with_current s b = record { current = s; kept = b.kept; states = b.states; finished = b.finished }

-- what each call writes into the book; where it was refused, asked, or withdrew nothing, that is nothing
abbrev pub feed : Book → Event → Book
feed b (began (Ok slip)) = record { current = b.current; kept = b.current; states = b.states; finished = b.finished }
feed b (began (Err fault)) = b
feed b (put slip f (Ok new)) = with_current (with_fact f b.current) b
feed b (put slip f (Err fault)) = b
feed b (dropped slip f (Ok found)) = with_current (without_fact f b.current) b
feed b (dropped slip f (Err fault)) = b
feed b (committed slip stamp (Ok done)) = record { current = b.current; kept = b.kept; states = b.states ++ (record { stamp = stamp; facts = b.current } ∷ []); finished = b.finished }
feed b (committed slip stamp (Err refused)) = b
feed b (withdrew slip (Some count)) = with_current b.kept b
feed b (withdrew slip None) = b
feed b (ended (Ok done)) = record { current = b.current; kept = b.kept; states = b.states; finished = true }
feed b (ended (Err fault)) = b
feed b (asked rule state answer) = b

abbrev pub fed : Book → List Event → Book
fed b [] = b
fed b (e ∷ es) = fed (feed b e) es

-- calls one after another, from one view of a session to another
pub data Run : View → List Event → View → Type 0 where
  rest : {v : View} → Run v [] v
  then : {v w x : View} {e : Event} {es : List Event} → Did v e w → Run w es x → Run v (e ∷ es) x

-- a session just opened, over a store that keeps its meaning
pub record Opened (v : View) : Type 0 where
  pub sound : Lawful v.store
  pub shut : v.changing ≡ false
  pub fresh : v.undo ≡ []
  pub unstamped : v.stamps ≡ []
  pub unrowed : v.rows ≡ []
  pub running : v.finished ≡ false

-- a past of the session: an opening, and the calls since
pub record Past (v : View) : Type 0 where
  pub first : View
  pub calls : List Event
  pub opening : Opened first
  pub run : Run first calls v

-- the book of that past
abbrev pub book_of : {v : View} → Past v → Book
book_of p = fed (new_book p.first.store.facts) p.calls

-- every session that was opened, and then called, has a past
pub record Pasts : Type 0 where
  pub opened : (v : View) → Opened v → Past v
  pub called : (v w : View) (e : Event) → Past v → Did v e w → Past w

-- whatever was called since the opening, the store holds the book's current set
abbrev pub HoldsCurrent : View → Type 0
HoldsCurrent v = (past : Past v) → v.store.facts ≡ (book_of past).current

-- how many alterations the open change has, by its calls: the puts and drops since begin that answered 1
abbrev pub counted : ℕ → Event → ℕ
counted n (began (Ok slip)) = 0
counted n (began (Err fault)) = n
counted n (put slip f (Ok true)) = n + 1
counted n (put slip f (Ok false)) = n
counted n (put slip f (Err fault)) = n
counted n (dropped slip f (Ok true)) = n + 1
counted n (dropped slip f (Ok false)) = n
counted n (dropped slip f (Err fault)) = n
counted n (committed slip stamp answer) = n
counted n (withdrew slip answer) = n
counted n (ended answer) = n
counted n (asked rule state answer) = n

abbrev pub count_of : ℕ → List Event → ℕ
count_of n [] = n
count_of n (e ∷ es) = count_of (counted n e) es

-- what a withdraw of the open change has done: the set is the one from before its begin, and the number is how many alterations that undid
pub record BroughtBack (b : Book) (calls : List Event) (count : ℕ) (w : View) : Type 0 where
  pub set : w.store.facts ≡ b.kept
  pub undone : count ≡ count_of 0 calls

abbrev pub BringsBack : View → Option ℕ → View → Type 0
BringsBack v None w = Unit {0}
BringsBack v (Some count) w = (past : Past v) → BroughtBack (book_of past) past.calls count w
