use Rattle.std.proofs.Common.{◌≡◌, List, take}
use Rattle.cam_event.specs.declared.Deed.{Deed}
use Rattle.cam_live.specs.Tables.{Tells}
use Rattle.cam_live.specs.Settled.{past_top_of}
use Rattle.cam_live.proofs.performed.past_top_of.Given as goal

abbrev pub invariant-loop-operation : goal.invariant-loop-operation
invariant-loop-operation l = (L : List Deed) → Tells L l.tables → l.settled ≡ past_top_of l.objects L (take l.operation-index l.operation-items)
