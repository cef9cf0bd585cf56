use Rattle.std.proofs.Common.{◌+◌, sym, refl, ◌∙◌, subst, arith}
use Rattle.eval.specs.Outlooks.{seen}
use Rattle.eval.proofs.Turns.{Back, past_start, past_turn, past_end, since_start, since_turn, since_here, lasting}
use Rattle.eval.proofs.outlook.Outlook.since.Goals as goal

pub loop-j-init : goal.loop-j-init
loop-j-init g c =
    let k = g.K.Truth.kind in
    let laws = g.met.K.Truth.laws in
    let o = c.args.self.now in
    let f = g.F.Operand.at c.args.first.now in
    let h = lasting k f (g.G.Operand.at c.args.second.now) o.state in (
      c.past_start-start.ensures.inside,
      subst (λ x. Back laws (seen k o k.no) o.window h o.state (o.state + 1) x) (sym c.no-any.ensures) (past_start laws (seen k o k.no) o.window h o.state),
      c.yes-held.ensures ∙ since_start laws (seen k o k.no) o.window f o.state,
    )

pub loop-j-preserved : goal.loop-j-preserved
loop-j-preserved g c =
    let k = g.K.Truth.kind in
    let laws = g.met.K.Truth.laws in
    let o = c.args.self.now in
    let f = g.F.Operand.at c.args.first.now in
    let h = g.G.Operand.at c.args.second.now in (
      omega (arith, c.loop-j.invariant.0),
      past_turn laws (seen k o k.no) o.window (lasting k f h o.state) o.state c.loop-j.j
          (omega arith) (omega arith) c.loop-j.invariant.1 c.behind.ensures c.contains.ensures
          (since_here laws (seen k o k.no) o.window f h o.state c.loop-j.j (omega arith) c.loop-j.invariant.2 refl c.turn-here.ensures.here)
          c.only_if.ensures c.or-any.ensures,
      since_turn laws (seen k o k.no) o.window f o.state c.loop-j.j (omega arith) (omega arith) c.loop-j.invariant.2 refl c.turn-here.ensures.on,
    )

pub returns : goal.returns
returns g c =
    let k = g.K.Truth.kind in
    let o = c.args.self.now in
    let f = g.F.Operand.at c.args.first.now in
    past_end g.met.K.Truth.laws (seen k o k.no) o.window (lasting k f (g.G.Operand.at c.args.second.now) o.state) o.state c.loop-j.j c.past_start-start.result
    o.rises o.inside (omega arith) c.loop-j.invariant.0 c.past_start-start.ensures.inside c.past_start-start.ensures.beyond c.loop-j.invariant.1
