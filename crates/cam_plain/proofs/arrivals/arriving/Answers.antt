use Rattle.std.proofs.Common.{sym}
use Rattle.cam_plain.specs.Legal.{history}
use Rattle.cam_plain.proofs.Called.{call_fits}
use Rattle.cam_plain.proofs.arrivals.arriving.Goals as goal

pub returns-then-call-count-clause-fits : goal.returns-then-call-count-clause-fits
returns-then-call-count-clause-fits c =
    call_fits c.args.before.now.objects.now (history c.args.before.now.deeds.now) c.args.action.now c.args.number _ c.requires.legal (sym c.in-Some.ensures)
