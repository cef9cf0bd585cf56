-- A session as its caller sees it, and what each call answers and leaves.
use Rattle.std.specs.Prelude.{◌≡◌, ℕ, ◌+◌, Bool, true, false, cond, not, ◌&&◌, List, [], ◌∷◌, ◌++◌, length, is_some, Some, None, Ok, Err, vec_items, Option, Result, ◌==◌, nat_le, nat_lt}
use Rattle.truth.specs.declared.Three.{Three}
use Rattle.truth.specs.declared.Three.TheVariants.{Undecided}
use Rattle.truth.specs.Kleene.{three}
use Rattle.syntax.specs.declared.Node.{Node}
use Rattle.syntax.specs.Formula.{Formula}
use Rattle.syntax.specs.Nodes.{root_of, formula_at}
use Rattle.rules.specs.declared.table.Table.{Table}
use Rattle.rules.specs.Tables.{nodes_of, rules_of}
use Rattle.store.specs.declared.facts.Fact.{Fact}
use Rattle.store.specs.declared.stores.StoreFault.{StoreFault}
use Rattle.store.specs.Facts.{holds, in_range}
use Rattle.store.specs.Stores.{Meaning, put_answer, after_put, after_drop}
use Rattle.query.specs.Rows.{row_of}
use Rattle.eval.specs.Truth.{value}
use Rattle.eval.specs.Growing.{latest, later_than, growing_record}
use Rattle.session.specs.declared.slip.Slip.{Slip}
use Rattle.session.specs.declared.slip.CommitRefused.{CommitRefused}
use Rattle.session.specs.declared.alterations.Alteration.{Alteration}
use Rattle.session.specs.declared.alterations.Alteration.TheVariants.{Added, Removed}
use Rattle.session.specs.declared.fault.InChange.{InChange}
use Rattle.session.specs.declared.fault.SessionFault.{SessionFault}
use Rattle.session.specs.declared.fault.SessionFault.TheVariants.{OutOfRange, StampTooLarge, UnknownRule, NotOpenChange, ChangeOpen, Finished, TooManyBegins, StampNotLater, TooManyStates, TooManyAlterations, NoSuchState, Store}
use Rattle.session.specs.declared.session.Session.{Session}
use Rattle.session.specs.Refusals.{Reason, reason, smallest, unless}

-- `undo` has the alterations of the open change, `rows` the queries' answers on the facts of each committed state
pub record View : Type 0 where
  pub table : Table
  pub number : ℕ
  pub store : Meaning
  pub begins : ℕ
  pub changing : Bool
  pub undo : List Alteration
  pub stamps : List ℕ
  pub rows : List ℕ
  pub finished : Bool

abbrev pub view : {S : Type 0} → (S → Meaning) → Session S → View
view meaning s = record {
  table = s.states.table.now;
  number = s.number;
  store = meaning s.store;
  begins = s.begins;
  changing = s.changing;
  undo = vec_items s.undo.steps;
  stamps = vec_items s.states.stamps;
  rows = vec_items s.states.rows;
  finished = s.states.finished;
}

-- what opening gives
abbrev pub opened : Table → ℕ → Meaning → View
opened t n m = record { table = t; number = n; store = m; begins = 0; changing = false; undo = []; stamps = []; rows = []; finished = false }

-- ---- one part changed

abbrev pub with_store : Meaning → View → View
with_store m v = record { table = v.table; number = v.number; store = m; begins = v.begins; changing = v.changing; undo = v.undo; stamps = v.stamps; rows = v.rows; finished = v.finished }

-- how many changes were begun, whether one is open, and its alterations
abbrev pub with_change : ℕ → Bool → List Alteration → View → View
with_change n b u v = record { table = v.table; number = v.number; store = v.store; begins = n; changing = b; undo = u; stamps = v.stamps; rows = v.rows; finished = v.finished }

abbrev pub with_states : List ℕ → List ℕ → Bool → View → View
with_states ts rs b v = record { table = v.table; number = v.number; store = v.store; begins = v.begins; changing = v.changing; undo = v.undo; stamps = ts; rows = rs; finished = b }

-- ---- begin

abbrev pub begin_reasons : View → List Reason
begin_reasons v = reason ChangeOpen v.changing ∷ reason Finished v.finished ∷ reason TooManyBegins (nat_le 1000000 v.begins) ∷ []

abbrev pub begin_reply : View → Result Slip SessionFault
begin_reply v = unless (smallest (begin_reasons v)) (record { session = v.number; change = v.begins + 1 })

abbrev pub begin_left : View → Result Slip SessionFault → View
begin_left v (Ok s) = with_change (v.begins + 1) true [] v
begin_left v (Err e) = v

-- ---- put and drop

-- the slip is the open change's
abbrev pub owned : View → Slip → Bool
owned v s = v.changing && (s.session == v.number && s.change == v.begins)

-- the store's refusal, with the slip's change beside it
abbrev pub in_change : Slip → StoreFault → InChange
in_change s e = record { fault = e; change = s.change }

abbrev pub store_reasons : Slip → Result Bool StoreFault → List Reason
store_reasons s (Ok b) = []
store_reasons s (Err e) = reason (Store (in_change s e)) true ∷ []

-- an alteration more would be too many
abbrev pub crowded : View → Bool
crowded v = nat_le 64 (length v.undo)

abbrev pub put_reasons : View → Slip → Fact → List Reason
put_reasons v s f =
    reason OutOfRange (not (in_range f))
    ∷ reason NotOpenChange (not (owned v s))
    ∷ reason TooManyAlterations (not (holds f v.store.facts) && crowded v)
    ∷ store_reasons s (put_answer f v.store)

-- true if the fact was absent
abbrev pub put_reply : View → Slip → Fact → Result Bool SessionFault
put_reply v s f = unless (smallest (put_reasons v s f)) (not (holds f v.store.facts))

-- the alteration noted where there was one
abbrev pub noting : Bool → Alteration → View → View
noting b a v = with_change v.begins v.changing (cond b (v.undo ++ (a ∷ [])) v.undo) v

abbrev pub put_left : Fact → View → Result Bool SessionFault → View
put_left f v (Ok b) = noting b (Added f) (with_store (after_put f v.store) v)
put_left f v (Err e) = v

abbrev pub drop_reasons : View → Slip → Fact → List Reason
drop_reasons v s f =
    reason OutOfRange (not (in_range f))
    ∷ reason NotOpenChange (not (owned v s))
    ∷ reason TooManyAlterations (holds f v.store.facts && crowded v)
    ∷ []

-- true if the fact was present
abbrev pub drop_reply : View → Slip → Fact → Result Bool SessionFault
drop_reply v s f = unless (smallest (drop_reasons v s f)) (holds f v.store.facts)

abbrev pub drop_left : Fact → View → Result Bool SessionFault → View
drop_left f v (Ok b) = noting b (Removed f) (with_store (after_drop f v.store) v)
drop_left f v (Err e) = v

-- ---- commit

abbrev pub commit_reasons : View → Slip → ℕ → List Reason
commit_reasons v s t =
    reason StampTooLarge (nat_lt 4000000000 t)
    ∷ reason NotOpenChange (not (owned v s))
    ∷ reason StampNotLater (not (later_than (latest v.stamps) t))
    ∷ reason TooManyStates (nat_le 512 (length v.stamps))
    ∷ []

-- a refused commit gives the slip back
abbrev pub handed_back : Slip → Option SessionFault → Result (Unit {0}) CommitRefused
handed_back s None = Ok tt
handed_back s (Some e) = Err (record { slip = s; fault = e })

abbrev pub commit_reply : View → Slip → ℕ → Result (Unit {0}) CommitRefused
commit_reply v s t = handed_back s (smallest (commit_reasons v s t))

-- a state more: the stamp, and the answers on what the store holds
abbrev pub committed_view : ℕ → View → View
committed_view t v =
    with_change v.begins false []
    (with_states (v.stamps ++ (t ∷ [])) (v.rows ++ (row_of (nodes_of v.table) v.store.facts ∷ [])) v.finished v)

abbrev pub commit_left : ℕ → View → Result (Unit {0}) CommitRefused → View
commit_left t v (Ok _) = committed_view t v
commit_left t v (Err _) = v

-- ---- withdraw

abbrev pub undone : Alteration → Meaning → Meaning
undone (Added f) m = after_drop f m
undone (Removed f) m = after_put f m

-- the alterations taken back, the latest first
abbrev pub replay : List Alteration → Meaning → Meaning
replay [] m = m
replay (a ∷ rest) m = undone a (replay rest m)

-- how many alterations were undone; none where the slip is not the open change's
abbrev pub withdraw_reply : View → Slip → Option ℕ
withdraw_reply v s = cond (owned v s) (Some (length v.undo)) None

abbrev pub withdraw_left : View → Option ℕ → View
withdraw_left v (Some n) = with_change v.begins false [] (with_store (replay v.undo v.store) v)
withdraw_left v None = v

-- ---- finish

abbrev pub finish_reasons : View → List Reason
finish_reasons v = reason ChangeOpen v.changing ∷ reason Finished v.finished ∷ []

abbrev pub finish_reply : View → Result (Unit {0}) SessionFault
finish_reply v = unless (smallest (finish_reasons v)) tt

abbrev pub finish_left : View → Result (Unit {0}) SessionFault → View
finish_left v (Ok _) = with_states v.stamps v.rows true v
finish_left v (Err _) = v

-- ---- the verdict question

-- the formula of the rule with a number
abbrev pub formula_of : List Node → Option ℕ → Option Formula
formula_of nodes None = None
formula_of nodes (Some m) = Some (formula_at nodes m)

abbrev pub rule_of : Table → ℕ → Option Formula
rule_of t number = formula_of (nodes_of t) (root_of number (rules_of t))

-- the three-valued truth of a formula at a committed state
abbrev pub verdict_of : View → Formula → ℕ → Three
verdict_of v f i = value three (growing_record v.stamps v.rows v.finished) f i

abbrev pub verdict_reasons : View → Option Formula → ℕ → List Reason
verdict_reasons v rule i = reason UnknownRule (not (is_some rule)) ∷ reason NoSuchState (not (nat_lt i (length v.stamps))) ∷ []

-- where there is no such rule the question is refused
abbrev pub verdict_at : View → Option Formula → ℕ → Three
verdict_at v None i = Undecided
verdict_at v (Some f) i = verdict_of v f i

abbrev pub verdict_on : View → Option Formula → ℕ → Result Three SessionFault
verdict_on v rule i = unless (smallest (verdict_reasons v rule i)) (verdict_at v rule i)

abbrev pub verdict_reply : View → ℕ → ℕ → Result Three SessionFault
verdict_reply v rule i = verdict_on v (rule_of v.table rule) i

-- ---- calls

-- one call: what it was given and what it answered
pub data Event : Type 0 where
  began : Result Slip SessionFault → Event
  put : Slip → Fact → Result Bool SessionFault → Event
  dropped : Slip → Fact → Result Bool SessionFault → Event
  committed : Slip → ℕ → Result (Unit {0}) CommitRefused → Event
  withdrew : Slip → Option ℕ → Event
  ended : Result (Unit {0}) SessionFault → Event
  asked : ℕ → ℕ → Result Three SessionFault → Event

pub record Answered {R : Type 0} (given due : R) (found left : View) : Type 0 where
  pub answer : given ≡ due
  pub after : found ≡ left

-- a session that was v, called as the event says, answered so and is now w
abbrev pub Did : View → Event → View → Type 0
Did v (began r) w = Answered r (begin_reply v) w (begin_left v r)
Did v (put s f r) w = Answered r (put_reply v s f) w (put_left f v r)
Did v (dropped s f r) w = Answered r (drop_reply v s f) w (drop_left f v r)
Did v (committed s t r) w = Answered r (commit_reply v s t) w (commit_left t v r)
Did v (withdrew s r) w = Answered r (withdraw_reply v s) w (withdraw_left v r)
Did v (ended r) w = Answered r (finish_reply v) w (finish_left v r)
Did v (asked rule i r) w = Answered r (verdict_reply v rule i) w v
