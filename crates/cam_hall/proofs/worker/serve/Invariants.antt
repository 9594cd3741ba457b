use Rattle.std.proofs.Common.{◌≡◌, List, length}
use Rattle.cam_hall.specs.declared.served.Turn.{Turn}
use Rattle.cam_hall.specs.Serving.{IsTally, IsBusy}
use Rattle.cam_hall.proofs.worker.serve.Given as goal

abbrev pub invariant-loop-taken : goal.invariant-loop-taken
invariant-loop-taken g l =
    (taken : List Turn) × IsTally taken l.tally × (length taken ≡ l.taken) × IsBusy taken
