use Rattle.std.proofs.Common.{reverse}
use Rattle.cam_timed.proofs.Witnessed.{witnessed}
use Rattle.cam_timed.proofs.witnesses.timed_witness.Goals as goal

pub returns-clause-view : goal.returns-clause-view
returns-clause-view c =
    witnessed (reverse c.args.run.now.trace) (reverse c.in_ok-plain.plain) c.args.name.now c.witness.result c.in_ok-plain.ensures
    c.witness.ensures.exact c.witness.ensures.created
