-- The law of the verdicts: what a session promises of them, whatever was called since its opening,
-- whatever is called after, and in every history that goes on from it.
use Rattle.std.specs.Prelude.{◌≡◌, ℕ, ◌+◌, ◌-◌, ◌<◌, ◌≤◌, Bool, true, List, ◌++◌, length, Some, Ok, Result, slice_index}
use Rattle.truth.specs.declared.Three.{Three}
use Rattle.truth.specs.Kleene.{embed, Definite}
use Rattle.syntax.specs.Formula.{Formula, reach}
use Rattle.rules.specs.Tables.{nodes_of}
use Rattle.history.specs.Histories.{State, History, stamps, true_in}
use Rattle.session.specs.declared.fault.SessionFault.{SessionFault}
use Rattle.session.specs.View.{View, Event, asked, Did, rule_of}
use Rattle.session.specs.Book.{Book, Run, Past, book_of}

-- a finished history that begins with the committed states; a finished session has no other than these
pub record Continues (b : Book) (history : List State) : Type 0 where
  pub more : List State
  pub begins : history ≡ b.states ++ more
  pub lawful : History history
  pub over : b.finished ≡ true → history ≡ b.states

abbrev pub stamp_at : Book → ℕ → ℕ
stamp_at b i = slice_index (stamps b.states) i

abbrev pub last_stamp : Book → ℕ
last_stamp b = stamp_at b (length b.states - 1)

-- what the verdict of a formula at the committed state i promises
pub record Promise (v : View) (b : Book) (rule : ℕ) (f : Formula) (i : ℕ) (verdict : Three) : Type 0 where
  -- the committed states are themselves such a history
  pub own : Continues b b.states
  -- true or false: that is the plain truth in every finished history that begins with the committed states
  pub safe : (truth : Bool) → verdict ≡ embed truth → (history : List State) → Continues b history → true_in (nodes_of v.table) f history i ≡ truth
  -- true or false: that is the answer again, whatever is called before it is asked for again
  pub lasting : Definite verdict → (calls : List Event) (w x : View) (again : Result Three SessionFault) → Run v calls w → Did w (asked rule i again) x → again ≡ Ok verdict
  -- true or false once the reach has passed, or the session is finished
  pub timely : (d : ℕ) → reach f ≡ Some d → stamp_at b i + d ≤ last_stamp b → Definite verdict
  pub final : b.finished ≡ true → Definite verdict

-- the law of the verdict question
abbrev pub Law : View → ℕ → ℕ → Result Three SessionFault → Type 0
Law v rule i answer =
    (past : Past v) (f : Formula) → rule_of v.table rule ≡ Some f → i < length (book_of past).states
    → (verdict : Three) × (answer ≡ Ok verdict) × Promise v (book_of past) rule f i verdict
