-- The tables that a pass fills have the course of the run.
use Rattle.std.proofs.Common.{◌≡◌, ℕ, List, None}
use Rattle.std.specs.Ordering.{nat_cmp}
use Rattle.std.specs.BTreeMap.{get}
use Rattle.cam_names.specs.declared.name.Name.{Name}
use Rattle.cam_event.specs.declared.Event.{Event}
use Rattle.cam_scope.specs.declared.events.NamedEvent.{NamedEvent}
use Rattle.cam_explain.specs.declared.course.Course.{Course}
use Rattle.cam_explain.specs.Moments.{moments_from, moments_in, restart_from, told, told_in}

pub same_told : (course : Course) (named : List NamedEvent) (trace : List Event)
    → ((a : Name) → moments_in course.moments a ≡ moments_from named 0 trace a)
    → ((n : ℕ) → get nat_cmp course.restarts n ≡ restart_from 0 trace None n)
    → told_in course ≡ told named trace
same_told course named trace moments restarts = λ i. record { moments = λ a. moments a i; restart = λ n. restarts n i }
