-- The inputs of a run.
use Rattle.cam_histories.proofs.Putting.{inputs_may_be_put, halted_inputs_may_be_put, steps_are_nodes, puts_may_come, nodes_make_runs}
use Rattle.cam_histories.proofs.inputs.Goals as goal

pub returns-clause-plain : goal.returns-clause-plain
returns-clause-plain c = inputs_may_be_put

pub returns-clause-halted : goal.returns-clause-halted
returns-clause-halted c = halted_inputs_may_be_put

pub returns-clause-steps : goal.returns-clause-steps
returns-clause-steps c = steps_are_nodes

pub returns-clause-come : goal.returns-clause-come
returns-clause-come c = puts_may_come

pub returns-clause-next : goal.returns-clause-next
returns-clause-next c = nodes_make_runs
