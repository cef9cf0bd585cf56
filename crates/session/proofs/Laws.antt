-- The promises of a verdict.
use Rattle.std.proofs.Common.{◌≡◌, ℕ, zero, suc, ◌+◌, ◌-◌, ◌<◌, ◌≤◌, Bool, true, false, List, [], ◌∷◌, ◌++◌, map, length, get_or, Some, None, Ok, Err, Option, sym, refl, ap, ◌∙◌, subst, ⊎_elim, append_assoc, append-nil, arith, length-append}
use Rattle.std.proofs.lemmas.Bool.{both_ways, cases_Bool, cond-true, cond-false, lt-ltb}
use Rattle.std.proofs.lemmas.List.{length-map, map-append, get_or_append_left}
use Rattle.truth.specs.declared.Three.{Three}
use Rattle.truth.specs.Kleene.{three, embed, Definite}
use Rattle.syntax.specs.declared.Node.{Node}
use Rattle.syntax.specs.declared.Node.TheVariants as node
use Rattle.syntax.specs.Formula.{Formula}
use Rattle.rules.specs.declared.table.Table.{Table}
use Rattle.rules.specs.Tables.{nodes_of}
use Rattle.query.specs.Queries.{node_answer}
use Rattle.query.specs.Rows.{row_of}
use Rattle.query.proofs.Bits.{bit_row}
use Rattle.eval.specs.Truth.{Record, value}
use Rattle.syntax.specs.Rows.{bit_of}
use Rattle.eval.specs.Rows.{truth_of}
use Rattle.eval.proofs.Theorems.{Begins, Equal, Embeds, DefiniteLeaves}
use Rattle.eval.proofs.Growing.{persistence, agreement, soundness, finished_definite, embed_same}
use Rattle.eval.proofs.Decided.{decidedness}
use Rattle.history.specs.Histories.{State, stamps, Rises, facts_at, finished_record, true_in}
use Rattle.eval.specs.Growing.{growing_record}
use Rattle.session.specs.View as view
use Rattle.session.specs.View.{View, Event, asked, Did, rule_of, verdict_of, verdict_on, verdict_reply}
use Rattle.session.specs.Book.{Book, feed, fed, new_book, Run, rest, then, Past, book_of, Pasts}
use Rattle.session.specs.Law.{Continues, stamp_at, Law}
use Rattle.session.proofs.Books.{Agrees, Tied, rows_of, tied, begin_running, commit_open}

-- ---- the record of the committed states

-- what the session keeps of these states
abbrev kept_record : List Node → List State → Bool → Record Three
kept_record nodes states finished = growing_record (stamps states) (rows_of nodes states) finished

row_at : (nodes : List Node) (xs : List State) (i : ℕ) → i < length xs → get_or (rows_of nodes xs) i 0 ≡ row_of nodes (facts_at xs i)
row_at nodes [] i l = absurd (omega arith)
row_at nodes (x ∷ xs) zero l = refl
row_at nodes (x ∷ xs) (suc i) l = row_at nodes xs i (omega arith)

-- a plain answer among the three values
plain_leaf : (b : Bool) → truth_of three b ≡ embed b
plain_leaf true = refl
plain_leaf false = refl

kept_definite : (nodes : List Node) (states : List State) (finished : Bool) → DefiniteLeaves (kept_record nodes states finished)
kept_definite nodes states finished i m l = (bit_of (get_or (rows_of nodes states) i 0) m, plain_leaf (bit_of (get_or (rows_of nodes states) i 0) m))

-- more states leave the first as they are
front : {X : Type 0} (f : State → X) (d : X) (xs more : List State) (i : ℕ) → i < length xs → get_or (map f (xs ++ more)) i d ≡ get_or (map f xs) i d
front f d xs more i l =
    ap (λ ys. get_or ys i d) (map-append f xs more) ∙ get_or_append_left (map f xs) (map f more) d i (omega (arith, length-map xs f))

longer : (xs more : List State) → length (stamps xs) ≤ length (stamps (xs ++ more))
longer xs more =
    omega (arith, length-map xs (λ (s : State). s.stamp), length-map (xs ++ more) (λ (s : State). s.stamp), length-append xs more)

states_begin : (nodes : List Node) (xs more : List State) (a b : Bool) → Begins Equal (kept_record nodes xs a) (kept_record nodes (xs ++ more) b)
states_begin nodes xs more a b = (
  longer xs more,
  λ i li.
      let l : i < length xs = omega (arith, length-map xs (λ (s : State). s.stamp)) in
      (front (λ s. s.stamp) 0 xs more i l, λ m. sym (ap (λ (w : ℕ). truth_of three (bit_of w m)) (front (λ s. row_of nodes s.facts) 0 xs more i l))),
)

history_begins : (nodes : List Node) (xs more : List State) (a : Bool) → Begins Embeds (kept_record nodes xs a) (finished_record nodes (xs ++ more))
history_begins nodes xs more a = (
  longer xs more,
  λ i li.
      let l : i < length xs = omega (arith, length-map xs (λ (s : State). s.stamp)) in (
        front (λ s. s.stamp) 0 xs more i l,
        λ m.
            plain_leaf (bit_of (get_or (rows_of nodes xs) i 0) m)
            ∙ ap embed
            (ap (λ (w : ℕ). bit_of w m) (row_at nodes xs i l) ∙ bit_row nodes (facts_at xs i) m
            ∙ sym (ap (node_answer (get_or nodes m node.True)) (front (λ s. s.facts) [] xs more i l))),
      ),
)

-- ---- safe

safe_running :
    (nodes : List Node) (b : Book) (f : Formula) (i : ℕ) (x : Bool) → b.finished ≡ false → i < length (stamps b.states)
    → value three (kept_record nodes b.states b.finished) f i ≡ embed x → (h : List State) → Continues b h → true_in nodes f h i ≡ x
safe_running nodes b f i x run li e h c =
    soundness (kept_record nodes b.states b.finished) (finished_record nodes h) (cond-false _ _ _ run)
    (subst (λ (l : List State). Begins Embeds (kept_record nodes b.states b.finished) (finished_record nodes l)) (sym c.begins) (history_begins nodes b.states c.more b.finished))
    c.lawful.rises f i x li e

safe_finished :
    (nodes : List Node) (b : Book) (f : Formula) (i : ℕ) (x : Bool) → b.finished ≡ true → i < length (stamps b.states)
    → value three (kept_record nodes b.states b.finished) f i ≡ embed x → (h : List State) → Continues b h → true_in nodes f h i ≡ x
safe_finished nodes b f i x over li e h c =
    let r = kept_record nodes b.states b.finished in
    let begins : Begins Embeds r (finished_record nodes b.states) =
    subst (λ (l : List State). Begins Embeds r (finished_record nodes l)) (append-nil b.states) (history_begins nodes b.states [] b.finished) in
    let same = agreement r (finished_record nodes b.states) (cond-true _ _ _ over) refl begins f i li in
    subst (λ (l : List State). true_in nodes f l i ≡ x) (sym (c.over over)) (embed_same _ _ (sym same ∙ e))

-- ---- further calls

run_join : {u v w : View} {xs ys : List Event} → Run u xs v → Run v ys w → Run u (xs ++ ys) w
run_join rest q = q
run_join (then d r) q = then d (run_join r q)

fed_join : (b : Book) (xs ys : List Event) → fed b (xs ++ ys) ≡ fed (fed b xs) ys
fed_join b [] ys = refl
fed_join b (x ∷ xs) ys = fed_join (feed b x) xs ys

-- the book's states only grow
abbrev Grown : Book → Book → Type 0
Grown b c = (more : List State) × (c.states ≡ b.states ++ more)

same_states : (b : Book) → Grown b b
same_states b = ([], sym (append-nil b.states))

feed_grows : (b : Book) (e : Event) → Grown b (feed b e)
feed_grows b (view.began (Ok s)) = same_states b
feed_grows b (view.began (Err x)) = same_states b
feed_grows b (view.put s f (Ok x)) = same_states b
feed_grows b (view.put s f (Err x)) = same_states b
feed_grows b (view.dropped s f (Ok x)) = same_states b
feed_grows b (view.dropped s f (Err x)) = same_states b
feed_grows b (view.committed s n (Ok x)) = (record { stamp = n; facts = b.current } ∷ [], refl)
feed_grows b (view.committed s n (Err x)) = same_states b
feed_grows b (view.withdrew s (Some n)) = same_states b
feed_grows b (view.withdrew s None) = same_states b
feed_grows b (view.ended (Ok x)) = same_states b
feed_grows b (view.ended (Err x)) = same_states b
feed_grows b (view.asked n i r) = same_states b

grows : (b : Book) (es : List Event) → Grown b (fed b es)
grows b [] = same_states b
grows b (e ∷ es) =
    let one = feed_grows b e in
    let all = grows (feed b e) es in
    (one.0 ++ all.0, all.1 ∙ ap (λ (l : List State). l ++ all.0) one.1 ∙ append_assoc b.states one.0 all.0)

-- a finished session keeps its states
record Still (v w : View) : Type 0 where
  stamps : w.stamps ≡ v.stamps
  rows : w.rows ≡ v.rows
  over : w.finished ≡ true
  shut : w.changing ≡ false

-- what no call changes: the table, and a finished session's states
record Kept (v w : View) : Type 0 where
  table : w.table ≡ v.table
  still : v.finished ≡ true → v.changing ≡ false → Still v w

-- a call that left the session as u, with these parts as they were
kept_as : (v u w : View) → w ≡ u → u.table ≡ v.table → u.stamps ≡ v.stamps → u.rows ≡ v.rows → u.finished ≡ v.finished → u.changing ≡ v.changing → Kept v w
kept_as v u w e t ts rs f c =
    subst (Kept v) (sym e) (record { table = t; still = λ over shut. record { stamps = ts; rows = rs; over = f ∙ over; shut = c ∙ shut } })

kept : (v w : View) (e : Event) → Did v e w → Kept v w
kept v w (view.began (Ok s)) d = record { table = ap (λ (x : View). x.table) d.after; still = λ over shut. absurd (both_ways _ (begin_running v s d.answer) over) }
kept v w (view.began (Err x)) d = kept_as v v w d.after refl refl refl refl refl
kept v w (view.put s f (Ok x)) d = kept_as v _ w d.after refl refl refl refl refl
kept v w (view.put s f (Err x)) d = kept_as v v w d.after refl refl refl refl refl
kept v w (view.dropped s f (Ok x)) d = kept_as v _ w d.after refl refl refl refl refl
kept v w (view.dropped s f (Err x)) d = kept_as v v w d.after refl refl refl refl refl
kept v w (view.committed s n (Ok x)) d = record { table = ap (λ (y : View). y.table) d.after; still = λ over shut. absurd (both_ways _ shut (commit_open v s n d.answer)) }
kept v w (view.committed s n (Err x)) d = kept_as v v w d.after refl refl refl refl refl
kept v w (view.withdrew s (Some n)) d =
    subst (Kept v) (sym d.after) (record { table = refl; still = λ over shut. record { stamps = refl; rows = refl; over = over; shut = refl } })
kept v w (view.withdrew s None) d = kept_as v v w d.after refl refl refl refl refl
kept v w (view.ended (Ok x)) d =
    subst (Kept v) (sym d.after) (record { table = refl; still = λ over shut. record { stamps = refl; rows = refl; over = refl; shut = shut } })
kept v w (view.ended (Err x)) d = kept_as v v w d.after refl refl refl refl refl
kept v w (view.asked n i r) d = kept_as v v w d.after refl refl refl refl refl

run_kept : {v w : View} {es : List Event} → Run v es w → Kept v w
run_kept rest = record { table = refl; still = λ over shut. record { stamps = refl; rows = refl; over = over; shut = shut } }
run_kept (then {v} {w} {x} {e} d r) =
    let one = kept v w e d in
    let all = run_kept r in
    record {
      table = all.table ∙ one.table;
      still = λ over shut.
          let a = one.still over shut in
          let b = all.still a.over a.shut in
          record { stamps = b.stamps ∙ a.stamps; rows = b.rows ∙ a.rows; over = b.over; shut = b.shut };
    }

-- ---- the law

-- the record of the session is that of its book
by_book : (v : View) (b : Book) → Agrees v b → growing_record v.stamps v.rows v.finished ≡ kept_record (nodes_of v.table) b.states b.finished
by_book v b a =
    ap (λ (ts : List ℕ). growing_record ts v.rows v.finished) a.stamps
    ∙ ap (λ (rs : List ℕ). growing_record (stamps b.states) rs v.finished) a.rows
    ∙ ap (λ (o : Bool). growing_record (stamps b.states) (rows_of (nodes_of v.table) b.states) o) (sym a.finished)

reply : (v : View) (rule : ℕ) (f : Formula) (i : ℕ) → rule_of v.table rule ≡ Some f → i < length v.stamps → verdict_reply v rule i ≡ Ok (verdict_of v f i)
reply v rule f i e li = let there = lt-ltb _ _ li in ap (λ (o : Option Formula). verdict_on v o i) e ∙ grind (arith, there)

-- a definite verdict stays
stays_finished :
    (v w : View) (f : Formula) (i : ℕ) → v.finished ≡ true → Still v w → verdict_of w f i ≡ verdict_of v f i
stays_finished v w f i fin s =
    ap (λ (ts : List ℕ). value three (growing_record ts w.rows w.finished) f i) s.stamps
    ∙ ap (λ (rs : List ℕ). value three (growing_record v.stamps rs w.finished) f i) s.rows
    ∙ ap (λ (o : Bool). value three (growing_record v.stamps v.rows o) f i) (s.over ∙ sym fin)

stays_running :
    (v w : View) (b c : Book) (f : Formula) (i : ℕ) → Tied v b → Tied w c → w.table ≡ v.table → Grown b c
    → i < length v.stamps → Definite (verdict_of v f i) → v.finished ≡ false → verdict_of w f i ≡ verdict_of v f i
stays_running v w b c f i tv tw table grown li d run =
    let nodes = nodes_of v.table in
    let old = kept_record nodes b.states b.finished in
    let new = kept_record nodes c.states c.finished in
    let at-v : growing_record v.stamps v.rows v.finished ≡ old = by_book v b tv.agrees in
    let at-w : growing_record w.stamps w.rows w.finished ≡ new =
    by_book w c tw.agrees ∙ ap (λ (t : Table). kept_record (nodes_of t) c.states c.finished) table in
    let begins : Begins Equal old new =
    subst (λ (l : List State). Begins Equal old (kept_record nodes l c.finished)) (sym grown.1) (states_begin nodes b.states grown.0 b.finished c.finished) in
    let up : Rises (stamps c.states) = subst Rises tw.agrees.stamps tw.rises in
    let within : i < length (stamps b.states) = subst (λ (ts : List ℕ). i < length ts) tv.agrees.stamps li in
    let same-v : verdict_of v f i ≡ value three old f i = ap (λ (r : Record Three). value three r f i) at-v in
    ap (λ (r : Record Three). value three r f i) at-w
    ∙ persistence old new (cond-false _ _ _ (tv.agrees.finished ∙ run)) begins up f i within (d.0, sym same-v ∙ d.1)
    ∙ sym same-v

-- the states of a later session are no fewer
no_fewer : (v w : View) (b c : Book) (i : ℕ) → Tied v b → Tied w c → Grown b c → i < length v.stamps → i < length w.stamps
no_fewer v w b c i tv tw grown li =
    let within : i < length (stamps b.states) = subst (λ (ts : List ℕ). i < length ts) tv.agrees.stamps li in
    let more : i < length (stamps (b.states ++ grown.0)) = omega (arith, longer b.states grown.0) in
    subst (λ (ts : List ℕ). i < length ts) (sym (tw.agrees.stamps ∙ ap stamps grown.1)) more

-- the book of further calls
abbrev later : {v w : View} {calls : List Event} → Past v → Run v calls w → Past w
later {calls = calls} past run = record { first = past.first; calls = past.calls ++ calls; opening = past.opening; run = run_join past.run run }

pub lawful : (v : View) (rule i : ℕ) → Law v rule i (verdict_reply v rule i)
lawful v rule i past f e li =
    let b = book_of past in
    let tv : Tied v b = tied past in
    let nodes = nodes_of v.table in
    let r = kept_record nodes b.states b.finished in
    let sure = kept_definite nodes b.states b.finished in
    let same : verdict_of v f i ≡ value three r f i = ap (λ (r : Record Three). value three r f i) (by_book v b tv.agrees) in
    let many : length (stamps b.states) ≡ length b.states = length-map b.states (λ (s : State). s.stamp) in
    let ls : i < length (stamps b.states) = omega arith in
    let lv : i < length v.stamps = subst (λ (ts : List ℕ). i < length ts) (sym tv.agrees.stamps) ls in
    let up : Rises (stamps b.states) = subst Rises tv.agrees.stamps tv.rises in (
      verdict_of v f i,
      reply v rule f i e lv,
      record {
        own = record { more = []; begins = sym (append-nil b.states); lawful = record { rises = up; sets = tv.sets }; over = λ _. refl };
        safe = λ x d h c.
            ⊎_elim (λ over. safe_finished nodes b f i x over ls (sym same ∙ d) h c) (λ run. safe_running nodes b f i x run ls (sym same ∙ d) h c) (cases_Bool b.finished);
        lasting = λ d calls w x again run asked.
            let c = book_of (later past run) in
            let tw : Tied w c = tied (later past run) in
            let grown : Grown b c = subst (Grown b) (sym (fed_join (new_book past.first.store.facts) past.calls calls)) (grows b calls) in
            let kept_since : Kept v w = run_kept run in
            let table : w.table ≡ v.table = kept_since.table in
            let same_again : verdict_of w f i ≡ verdict_of v f i =
            ⊎_elim (λ fin. stays_finished v w f i fin (kept_since.still fin (tv.quiet fin))) (stays_running v w b c f i tv tw table grown lv d) (cases_Bool v.finished) in
            asked.answer ∙ reply w rule f i (ap (λ (t : Table). rule_of t rule) table ∙ e) (no_fewer v w b c i tv tw grown lv) ∙ ap Ok same_again;
        timely = λ d reaches le.
            subst Definite (sym same)
            (decidedness r sure up f d i reaches ls (subst (λ (n : ℕ). stamp_at b i + d ≤ stamp_at b (n - 1)) (sym many) le));
        final = λ over. subst Definite (sym same) (finished_definite r sure (cond-true _ _ _ over) f i ls);
      },
    )

pub pasts : Pasts
pasts = record {
  opened = λ v p. record { first = v; calls = []; opening = p; run = rest };
  called = λ v w e p d. later p (then d rest);
}
