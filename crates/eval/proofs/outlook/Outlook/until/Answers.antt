use Rattle.std.proofs.Common.{refl, ◌∙◌, ap₂, arith}
use Rattle.eval.specs.Outlooks.{seen}
use Rattle.eval.proofs.Turns.{future_start, future_turn, future_end, kept_start, kept_turn, reached}
use Rattle.eval.proofs.outlook.Outlook.until.Goals as goal

pub loop-j-init : goal.loop-j-init
loop-j-init g c =
    let k = g.K.Truth.kind in
    let o = c.args.self.now in
    let f = g.F.Operand.at c.args.first.now in (
      c.no-any.ensures ∙ future_start g.met.K.Truth.laws (seen k o c.args.pending) o.window (reached k f (g.G.Operand.at c.args.second.now) o.state) o.state,
      c.yes-held.ensures ∙ kept_start g.met.K.Truth.laws (seen k o c.args.pending) o.window f o.state,
    )

pub loop-j-preserved : goal.loop-j-preserved
loop-j-preserved g c =
    let k = g.K.Truth.kind in
    let o = c.args.self.now in
    let f = g.F.Operand.at c.args.first.now in (
      future_turn g.met.K.Truth.laws (seen k o c.args.pending) o.window (reached k f (g.G.Operand.at c.args.second.now) o.state) o.state c.loop-j.j
          (omega arith) c.loop-j.invariant.0 c.ahead.ensures c.contains.ensures (c.turn-here.ensures.here ∙ ap₂ k.and refl c.loop-j.invariant.1) c.only_if.ensures c.or-any.ensures,
      kept_turn g.met.K.Truth.laws (seen k o c.args.pending) o.window f o.state c.loop-j.j (omega arith) c.loop-j.invariant.1 refl c.turn-here.ensures.on,
    )

pub returns : goal.returns
returns g c =
    let k = g.K.Truth.kind in
    let o = c.args.self.now in
    let f = g.F.Operand.at c.args.first.now in
    c.or.ensures
    ∙ ap₂ k.or
    (future_end g.met.K.Truth.laws (seen k o c.args.pending) o.window (reached k f (g.G.Operand.at c.args.second.now) o.state) o.state c.loop-j.j c.future_end-end.result
    o.rises (omega arith) (omega arith) c.future_end-end.ensures.from c.future_end-end.ensures.inside c.future_end-end.ensures.beyond c.loop-j.invariant.0)
    (c.and.ensures ∙ ap₂ k.and c.requires.keeps c.open_mark.ensures)
