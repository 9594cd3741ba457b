use Rattle.std.proofs.Common.{take, []}
use Rattle.cam_event.specs.History.{after}
use Rattle.cam_live.specs.Ledger.{Keeps}
use Rattle.cam_live.proofs.ledger.ledger_of.Given as goal

abbrev pub invariant-loop-deed : goal.invariant-loop-deed
invariant-loop-deed l = Keeps l.objects (after [] (take l.deed-index l.deed-items)) l.ledger
