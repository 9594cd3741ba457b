-- No disk has failed.
use Rattle.cam_whatif.proofs.Runs.{one_run_of}
use Rattle.cam_whatif.proofs.running.record_of.Goals as goal

pub returns : goal.returns
returns c = one_run_of _ _ _ _ c.args.script.now c.in-Ok.run' c.as_slice.ensures.value
    (c.has_failed.ensures c.if-has_failed.false) c.in-Ok.ensures.run.recorded
