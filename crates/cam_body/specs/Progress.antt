-- What is kept of the place of an action in its body, and how each step of the view moves the place on.
-- For private functions; the rule itself is in `Work`.
use Rattle.std.specs.Prelude.{ℕ, ◌≡◌, pos, if◌then◌else◌, List, length, drop, slice_get, unwrap_or}
use Rattle.cam_event.specs.declared.ViewStep.{ViewStep}
use Rattle.cam_event.specs.declared.ViewStep.TheVariants as steps
use Rattle.cam_script.specs.declared.Statement.{Statement}
use Rattle.cam_body.specs.Work.{Try, Place, seen_result, child_result, after_try}
use Rattle.cam_body.specs.Work.Try.{Open}
use Rattle.cam_body.specs.declared.progress.Progress.{Progress}

-- the place in this body, with the value of the statement at the wanted place, 0 where it has none
pub record IsAt (place : Place) (body : List Statement) (wanted : ℕ) (p : Progress) : Type 0 where
  pub rest : place.rest ≡ drop p.done body
  pub done : length place.values ≡ p.done
  pub failed : place.failed ≡ p.failed
  pub is_open : place.is_open ≡ p.is_open
  pub kept : unwrap_or (slice_get place.values wanted) (pos 0) ≡ p.kept

-- the place after the end of a try, where one is open
abbrev pub closed : Place → Try → Place
closed place outcome = if place.is_open then after_try place outcome else place

-- the place after a further step of the view
abbrev pub after_step : Place → ViewStep → Place
after_step place (steps.Asked b) = after_try place Open
after_step place (steps.Called n x op) = after_try place Open
after_step place (steps.Got n seen) = closed place (seen_result seen)
after_step place (steps.Child b value) = closed place (child_result value)
after_step place _ = place
