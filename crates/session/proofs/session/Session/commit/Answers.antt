use Rattle.std.proofs.Common.{◌≡◌, Some, None, Err, Option, refl}
use Rattle.session.specs.declared.slip.Slip.{Slip}
use Rattle.session.specs.declared.fault.SessionFault.{SessionFault}
use Rattle.session.specs.Refusals.{smallest, unless}
use Rattle.session.specs.View.{view, commit_reasons, handed_back}
use Rattle.session.proofs.session.Session.commit.Goals as goal

-- the refusal of a commit, with the slip beside it
handed : (s : Slip) (o : Option SessionFault) (e : SessionFault) → Err e ≡ unless {X = Unit {0}} o tt → Err (record { slip = s; fault = e }) ≡ handed_back s o
handed s None e h = cc
handed s (Some d) e h = cc

pub returns-in-Err : goal.returns-in-Err
returns-in-Err g c =
    let reasons = commit_reasons (view g.S.Store.meaning c.args.self.now) c.args.slip c.args.stamp in
    record { answer = handed c.args.slip (smallest reasons) _ c.in-Err.ensures; after = refl }
