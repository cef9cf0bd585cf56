use Rattle.std.proofs.Common.{refl}
use Rattle.session.proofs.Laws.{pasts}
use Rattle.session.proofs.session.Session.open.Goals as goal

pub returns-clause-first : goal.returns-clause-first
returns-clause-first g c = record {
  sound = g.met.S.Store.lawful c.args.store;
  shut = refl;
  fresh = c.args.room.none;
  unstamped = c.new.ensures.stamps;
  unrowed = c.new.ensures.rows;
  running = c.new.ensures.finished;
}

pub returns-clause-pasts : goal.returns-clause-pasts
returns-clause-pasts g c = pasts
