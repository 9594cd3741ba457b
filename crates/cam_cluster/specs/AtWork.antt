-- An action that works at a body, as one record, and that the record is of what stands.
use Rattle.std.specs.Prelude.{◌≡◌, ℕ, Bool, List, Some}
use Rattle.std.specs.List.{list_any}
use Rattle.cam_names.specs.declared.name.Name.{Name}
use Rattle.cam_event.specs.declared.ViewStep.{ViewStep}
use Rattle.cam_event.specs.Pasts.{plain_all}
use Rattle.cam_event.specs.Views.{view}
use Rattle.cam_runs.specs.Playing.{body_number, is_stop_of}
use Rattle.cam_runs.specs.Standing.{Standing}

-- an action that works at a body, as it is kept: which body, what it has seen so far, and whether
-- it was stopped at its home
pub record Worker : Type 0 where
  pub name : Name
  pub body : ℕ
  pub seen : List ViewStep
  pub stopped : Bool

pub record IsWorker (st : Standing) (worker : Worker) : Type 0 where
  pub at : body_number st.running.bodies worker.name ≡ Some worker.body
  pub saw : worker.seen ≡ view (plain_all st.running.trace) worker.name
  pub was_stopped : worker.stopped ≡ list_any (is_stop_of worker.name) st.running.trace
