use Rattle.std.proofs.Common.{◌≡◌, List, take}
use Rattle.cam_names.specs.declared.name.Name.{Name}
use Rattle.cam_event.specs.declared.Deed.{Deed}
use Rattle.cam_event.specs.History.{after}
use Rattle.cam_cut.specs.Watched.{Watches}
use Rattle.cam_cut.specs.Witness.{gives_step}
use Rattle.cam_cut.proofs.watch.Watch.go_over.Given as goal

abbrev pub invariant-loop-deed : goal.invariant-loop-deed
invariant-loop-deed l =
    (L : List Deed) (a : Name) → Watches L a l.fn.self
    → (l.gives ≡ gives_step L (take l.deed-index l.deed-items) a) × Watches (after L (take l.deed-index l.deed-items)) a l.self
