-- The session holds what its book says, whatever was called.
use Rattle.std.proofs.Common.{◌≡◌, ℕ, zero, suc, ◌<◌, Bool, true, false, cond, List, [], ◌∷◌, ◌++◌, map, length, Some, None, Ok, Err, Option, Result, sym, refl, ap, ◌∙◌, subst, arith}
use Rattle.std.proofs.lemmas.Bool.{both_ways}
use Rattle.std.proofs.lemmas.Bool.Decides.{nat_tests}
use Rattle.store.specs.declared.facts.Fact.{Fact}
use Rattle.session.specs.declared.slip.Slip.{Slip}
use Rattle.store.specs.declared.stores.StoreFault.{StoreFault}
use Rattle.session.specs.declared.alterations.Alteration.{Alteration}
use Rattle.session.specs.declared.alterations.Alteration.TheVariants.{Added, Removed}
use Rattle.store.specs.Facts.{holds, with_fact, without_fact}
use Rattle.store.specs.Stores.{Meaning, Lawful, put_answer, after_put, after_drop}
use Rattle.session.specs.View as view
use Rattle.session.specs.View.{View, Event, Did, undone, replay, put_reply, put_left, drop_reply, drop_left, commit_reply, commit_left, begin_reply, begin_left}
use Rattle.std.proofs.lemmas.List.{map-append}
use Rattle.syntax.specs.declared.Node.{Node}
use Rattle.rules.specs.Tables.{nodes_of}
use Rattle.query.specs.Rows.{row_of}
use Rattle.history.specs.Histories.{State, stamps, facts_at, Rises}
use Rattle.store.specs.Facts.{rising}
use Rattle.eval.specs.Growing.{latest, later_than}
use Rattle.session.specs.Book.{Book, feed, fed, new_book, Run, rest, then, Opened, Past, book_of, HoldsCurrent, BringsBack}
use Rattle.eval.proofs.Records.{rises_more}
use Rattle.session.proofs.Counts.{how_altered}
use Rattle.session.proofs.Replays.{replay_snoc}
use Rattle.session.proofs.Meanings.{put_new, put_ok, sound_put, sound_drop, sound_replay, put_idle, put_undone, drop_idle, drop_undone}

-- ---- what an accepted call says

put_accepted : (v : View) (s : Slip) (f : Fact) (b : Bool) (r : Result Bool StoreFault) → put_answer f v.store ≡ r → Ok b ≡ put_reply v s f → r ≡ Ok b
put_accepted v s f b (Ok c) e a = let new = put_new f v.store c e in grind (arith, nat_tests)
put_accepted v s f b (Err x) e a = grind (arith, nat_tests)

drop_accepted : (v : View) (s : Slip) (f : Fact) (b : Bool) → Ok b ≡ drop_reply v s f → holds f v.store.facts ≡ b
drop_accepted v s f b e = grind (arith, e)

pub begin_running : (v : View) (s : Slip) → Ok s ≡ begin_reply v → v.finished ≡ false
begin_running v s e = grind (arith, e)

commit_later : (v : View) (s : Slip) (n : ℕ) → Ok tt ≡ commit_reply v s n → later_than (latest v.stamps) n ≡ true
commit_later v s n e = grind (arith, e)

pub commit_open : (v : View) (s : Slip) (n : ℕ) → Ok tt ≡ commit_reply v s n → v.changing ≡ true
commit_open v s n e = grind (arith, e)

finish_shut : (v : View) → Ok tt ≡ view.finish_reply v → v.changing ≡ false
finish_shut v e = grind (arith, e)

withdraw_open : (v : View) (s : Slip) (n : ℕ) → Some n ≡ view.withdraw_reply v s → v.changing ≡ true
withdraw_open v s n e = grind (arith, e)

-- ---- the session and its book

-- the rows of the states
abbrev pub rows_of : List Node → List State → List ℕ
rows_of nodes states = map (λ s. row_of nodes s.facts) states

-- the session holds what the book says
pub record Agrees (v : View) (b : Book) : Type 0 where
  pub current : b.current ≡ v.store.facts
  pub kept : v.changing ≡ true → b.kept ≡ (replay v.undo v.store).facts
  pub stamps : v.stamps ≡ stamps b.states
  pub rows : v.rows ≡ rows_of (nodes_of v.table) b.states
  pub finished : b.finished ≡ v.finished

-- the facts of each state are a set
abbrev pub Sets : List State → Type 0
Sets states = (i : ℕ) → i < length states → rising (facts_at states i) ≡ true

-- what holds between a session and its book
pub record Tied (v : View) (b : Book) : Type 0 where
  pub agrees : Agrees v b
  pub sound : Lawful v.store
  pub rises : Rises v.stamps
  pub sets : Sets b.states
  pub quiet : v.finished ≡ true → v.changing ≡ false

-- after a step that the undo list takes back, the same set is kept
put_kept : (f : Fact) (u : List Alteration) (m : Meaning) (b : Bool) → Lawful m → put_answer f m ≡ Ok b → replay (cond b (u ++ (Added f ∷ [])) u) (after_put f m) ≡ replay u m
put_kept f u m true s e = replay_snoc u (Added f) (after_put f m) ∙ ap (replay u) (put_undone f m s e)
put_kept f u m false s e = ap (replay u) (put_idle f m s e)

drop_kept : (f : Fact) (u : List Alteration) (m : Meaning) (b : Bool) → Lawful m → holds f m.facts ≡ b → replay (cond b (u ++ (Removed f ∷ [])) u) (after_drop f m) ≡ replay u m
drop_kept f u m true s e = replay_snoc u (Removed f) (after_drop f m) ∙ ap (replay u) (drop_undone f m s e)
drop_kept f u m false s e = ap (replay u) (drop_idle f m e)

-- a set more
sets_more : (xs : List State) (x : State) → rising x.facts ≡ true → Sets xs → Sets (xs ++ (x ∷ []))
sets_more [] x r up zero l = r
sets_more [] x r up (suc i) l = absurd (omega arith)
sets_more (y ∷ ys) x r up zero l = up 0 (omega arith)
sets_more (y ∷ ys) x r up (suc i) l = sets_more ys x r (λ j lj. up (suc j) (omega arith)) i (omega arith)

tied_begin : (v : View) (b : Book) (s : Slip) → v.finished ≡ false → Tied v b → Tied (begin_left v (Ok s)) (feed b (view.began (Ok s)))
tied_begin v b s running t = record {
  agrees = record { current = t.agrees.current; kept = λ _. t.agrees.current; stamps = t.agrees.stamps; rows = t.agrees.rows; finished = t.agrees.finished };
  sound = t.sound;
  rises = t.rises;
  sets = t.sets;
  quiet = λ over. absurd (both_ways _ running over);
}

tied_put : (v : View) (b : Book) (s : Slip) (f : Fact) (x : Bool) → put_answer f v.store ≡ Ok x → Tied v b → Tied (put_left f v (Ok x)) (feed b (view.put s f (Ok x)))
tied_put v b s f x e t = record {
  agrees = record {
    current = ap (with_fact f) t.agrees.current ∙ sym (ap (λ (m : Meaning). m.facts) (put_ok f v.store x e));
    kept = λ c. t.agrees.kept c ∙ sym (ap (λ (m : Meaning). m.facts) (put_kept f v.undo v.store x t.sound e));
    stamps = t.agrees.stamps;
    rows = t.agrees.rows;
    finished = t.agrees.finished;
  };
  sound = sound_put f v.store t.sound;
  rises = t.rises;
  sets = t.sets;
  quiet = t.quiet;
}

tied_drop : (v : View) (b : Book) (s : Slip) (f : Fact) (x : Bool) → holds f v.store.facts ≡ x → Tied v b → Tied (drop_left f v (Ok x)) (feed b (view.dropped s f (Ok x)))
tied_drop v b s f x e t = record {
  agrees = record {
    current = ap (without_fact f) t.agrees.current;
    kept = λ c. t.agrees.kept c ∙ sym (ap (λ (m : Meaning). m.facts) (drop_kept f v.undo v.store x t.sound e));
    stamps = t.agrees.stamps;
    rows = t.agrees.rows;
    finished = t.agrees.finished;
  };
  sound = sound_drop f v.store t.sound;
  rises = t.rises;
  sets = t.sets;
  quiet = t.quiet;
}

tied_commit : (v : View) (b : Book) (s : Slip) (n : ℕ) → later_than (latest v.stamps) n ≡ true → Tied v b → Tied (commit_left n v (Ok tt)) (feed b (view.committed s n (Ok tt)))
tied_commit v b s n late t =
    let new : State = record { stamp = n; facts = b.current } in
    let nodes = nodes_of v.table in
    record {
      agrees = record {
        current = t.agrees.current;
        kept = λ c. absurd (both_ways false refl c);
        stamps = ap (λ (r : List ℕ). r ++ (n ∷ [])) t.agrees.stamps ∙ sym (map-append (λ (x : State). x.stamp) b.states (new ∷ []));
        rows =
            ap (λ (r : List ℕ). r ++ (row_of nodes v.store.facts ∷ [])) t.agrees.rows
            ∙ ap (λ (u : List Fact). rows_of nodes b.states ++ (row_of nodes u ∷ [])) (sym t.agrees.current)
            ∙ sym (map-append (λ (x : State). row_of nodes x.facts) b.states (new ∷ []));
        finished = t.agrees.finished;
      };
      sound = t.sound;
      rises = rises_more v.stamps n t.rises late;
      sets = sets_more b.states new (ap rising t.agrees.current ∙ t.sound.rises) t.sets;
      quiet = λ _. refl;
    }

tied_withdraw : (v : View) (b : Book) (s : Slip) (n : ℕ) → v.changing ≡ true → Tied v b → Tied (view.withdraw_left v (Some n)) (feed b (view.withdrew s (Some n)))
tied_withdraw v b s n open-now t = record {
  agrees = record { current = t.agrees.kept open-now; kept = λ c. absurd (both_ways false refl c); stamps = t.agrees.stamps; rows = t.agrees.rows; finished = t.agrees.finished };
  sound = sound_replay v.undo v.store t.sound;
  rises = t.rises;
  sets = t.sets;
  quiet = λ _. refl;
}

tied_finish : (v : View) (b : Book) → v.changing ≡ false → Tied v b → Tied (view.finish_left v (Ok tt)) (feed b (view.ended (Ok tt)))
tied_finish v b shut t = record {
  agrees = record { current = t.agrees.current; kept = t.agrees.kept; stamps = t.agrees.stamps; rows = t.agrees.rows; finished = refl };
  sound = t.sound;
  rises = t.rises;
  sets = t.sets;
  quiet = λ _. shut;
}

-- a call that left the session as u
moved : (u w : View) (b : Book) → w ≡ u → Tied u b → Tied w b
moved u w b e t = subst (λ (x : View). Tied x b) (sym e) t

advance : (v w : View) (e : Event) (b : Book) → Did v e w → Tied v b → Tied w (feed b e)
advance v w (view.began (Ok s)) b d t = moved _ w _ d.after (tied_begin v b s (begin_running v s d.answer) t)
advance v w (view.began (Err x)) b d t = moved v w b d.after t
advance v w (view.put s f (Ok x)) b d t = moved _ w _ d.after (tied_put v b s f x (put_accepted v s f x _ refl d.answer) t)
advance v w (view.put s f (Err x)) b d t = moved v w b d.after t
advance v w (view.dropped s f (Ok x)) b d t = moved _ w _ d.after (tied_drop v b s f x (drop_accepted v s f x d.answer) t)
advance v w (view.dropped s f (Err x)) b d t = moved v w b d.after t
advance v w (view.committed s n (Ok x)) b d t = moved _ w _ d.after (tied_commit v b s n (commit_later v s n d.answer) t)
advance v w (view.committed s n (Err x)) b d t = moved v w b d.after t
advance v w (view.withdrew s (Some n)) b d t = moved _ w _ d.after (tied_withdraw v b s n (withdraw_open v s n d.answer) t)
advance v w (view.withdrew s None) b d t = moved v w b d.after t
advance v w (view.ended (Ok x)) b d t = moved _ w _ d.after (tied_finish v b (finish_shut v d.answer) t)
advance v w (view.ended (Err x)) b d t = moved v w b d.after t
advance v w (view.asked rule i r) b d t = moved v w b d.after t

along : {v w : View} {es : List Event} (b : Book) → Run v es w → Tied v b → Tied w (fed b es)
along b rest t = t
along b (then {v} {w} {x} {e} d r) t = along (feed b e) r (advance v w e b d t)

opened_tied : (o : View) → Opened o → Tied o (new_book o.store.facts)
opened_tied o p = record {
  agrees = record { current = refl; kept = λ c. absurd (both_ways _ p.shut c); stamps = p.unstamped; rows = p.unrowed; finished = sym p.running };
  sound = p.sound;
  rises = subst Rises (sym p.unstamped) (λ i j ij jn. absurd (omega arith));
  sets = λ i l. absurd (omega arith);
  quiet = λ _. p.shut;
}

-- whatever was called since the opening
pub tied : {v : View} (past : Past v) → Tied v (book_of past)
tied past = along (new_book past.first.store.facts) past.run (opened_tied past.first past.opening)

pub holds_current : (v : View) → HoldsCurrent v
holds_current v past = sym (tied past).agrees.current

-- a withdraw that answers a number
answered_count : (v : View) (s : Slip) (n : ℕ) → Some n ≡ view.withdraw_reply v s → n ≡ length v.undo
answered_count v s n e = grind (arith, e)

pub brings_back : (v w : View) (s : Slip) (r : Option ℕ) → Did v (view.withdrew s r) w → BringsBack v r w
brings_back v w s None d = tt
brings_back v w s (Some n) d = λ past.
    let opened = withdraw_open v s n d.answer in
    record {
      set = ap (λ (x : View). x.store.facts) d.after ∙ sym ((tied past).agrees.kept opened);
      undone = answered_count v s n d.answer ∙ how_altered past opened;
    }
