-- One node more that has not given up.
use Rattle.std.proofs.Common.{arith}
use Rattle.std.proofs.lemmas.Option.{slice_get_within}
use Rattle.cam_storm_run.proofs.Founded.{one_more_runs}
use Rattle.cam_storm_run.proofs.storm.are_running.Goals as goal

pub loop-core-preserved : goal.loop-core-preserved
loop-core-preserved g c =
    one_more_runs _ c.args.cores.now c.loop-core.core-index c.core-item.result c.is_halted.result
    c.loop-core-test.true c.core-item.is c.is_halted.ensures c.if-is_halted.false
    c.loop-core.invariant

pub returns : goal.returns
returns g c = λ yes at node there.
    let within = slice_get_within c.args.cores.now at node there in
    let end = c.loop-core-test.false in
    c.loop-core.invariant at node (omega (arith, within, end)) there
