use Rattle.std.proofs.Common.{◌≡◌, drop}
use Rattle.cam_event.specs.Live.{start_of}
use Rattle.cam_serial.specs.Answering.{answers_from, state_in}
use Rattle.cam_serial.proofs.replay.replays.Given as goal

abbrev pub invariant-loop-operation : goal.invariant-loop-operation
invariant-loop-operation l = answers_from (state_in l.objects l.states) (drop l.operation-index l.operation-items) ≡ answers_from (start_of l.objects) l.operation-items
