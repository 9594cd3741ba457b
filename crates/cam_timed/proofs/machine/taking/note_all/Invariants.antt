use Rattle.std.proofs.Common.{ℕ, List, take}
use Rattle.cam_event.specs.declared.Deed.{Deed as DeedValue}
use Rattle.cam_event.specs.History.{after}
use Rattle.cam_event.specs.Sights.{Entry}
use Rattle.cam_own.specs.Own.{KeepsOwn}
use Rattle.cam_own.specs.AllNodes.{KeepsAllNodes}
use Rattle.cam_timed.proofs.machine.taking.note_all.Given as goal

abbrev pub invariant-loop-deed : goal.invariant-loop-deed
invariant-loop-deed l = record {
  own : (s : ℕ) (L : List DeedValue) (E : List Entry) → KeepsOwn l.objects s L E l.fn.own
      → KeepsOwn l.objects s (after L (take l.deed-index l.deed-items)) E l.own;
  all_nodes : (L : List DeedValue) → KeepsAllNodes l.objects L l.fn.all_nodes
      → KeepsAllNodes l.objects (after L (take l.deed-index l.deed-items)) l.all_nodes;
}
