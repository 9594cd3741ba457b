use Rattle.std.proofs.Common.{◌≤◌, List, take}
use Rattle.cam_script.specs.declared.Statement.{Statement}
use Rattle.cam_body.specs.Work.{place_of}
use Rattle.cam_body.specs.Progress.{IsAt}
use Rattle.cam_body.proofs.progress.progress_of.Given as goal

abbrev pub invariant-loop-step : goal.invariant-loop-step
invariant-loop-step l = record {
  done : l.progress.done ≤ l.step-index;
  failed : l.progress.failed ≤ l.step-index;
  at : (body : List Statement) → IsAt (place_of body (take l.step-index l.step-items)) body l.wanted l.progress;
}
