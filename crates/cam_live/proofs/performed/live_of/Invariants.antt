use Rattle.std.proofs.Common.{◌≡◌, List, take}
use Rattle.cam_event.specs.declared.Deed.{Deed}
use Rattle.cam_live.specs.Tables.{Tells}
use Rattle.cam_live.specs.Counted.{live_of}
use Rattle.cam_live.proofs.performed.live_of.Given as goal

abbrev pub invariant-loop-performed : goal.invariant-loop-performed
invariant-loop-performed l = (L : List Deed) → Tells L l.tables → l.operations ≡ live_of l.objects L (take l.performed-index l.performed-items)
