-- The deeds so far are taken in.
use Rattle.std.proofs.Common.{◌≡◌, List, take}
use Rattle.cam_event.specs.declared.Deed.{Deed}
use Rattle.cam_event.specs.History.{after}
use Rattle.cam_cluster.specs.ActionViews.{HasViews}
use Rattle.cam_cluster.proofs.views.ActionViews.take_deeds.Given as goal

abbrev pub invariant-loop-deed : goal.invariant-loop-deed
invariant-loop-deed l = record {
  seen :
      (L : List Deed) → HasViews L l.fn.self
      → HasViews (after L (take l.deed-index l.deed-items)) l.self;
  stops : l.self.stopped ≡ l.fn.self.stopped;
}
