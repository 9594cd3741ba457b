-- Where an action stands in its body: it waits just where the last of its tries is open.
use Rattle.std.proofs.Common.{◌≡◌, Bool, true, false, List, [], ◌∷◌, ◌++◌, refl}
use Rattle.std.specs.List.{list_all}
use Rattle.std.proofs.lemmas.Bool.{and_parts}
use Rattle.cam_event.specs.declared.ViewStep.{ViewStep}
use Rattle.cam_event.specs.declared.ViewStep.TheVariants as steps
use Rattle.cam_script.specs.declared.Statement.{Statement}
use Rattle.cam_body.specs.Work.{Try, Worked, Failed, Open, closed_with, seen_result, child_result, tries_after, Place, after_try, after_tries, tail}
use Rattle.cam_runs.specs.UnderWay.{is_open_try, last_open}

-- that is what the place says
pub place_open : (place : Place) (ts : List Try) → (after_tries place ts).is_open ≡ last_open place.is_open ts
place_open place [] = refl
place_open place (Worked v ∷ ts) = place_open (after_try place (Worked v)) ts
place_open place (Failed ∷ ts) = place_open (after_try place Failed) ts
place_open place (Open ∷ ts) = place_open (after_try place Open) ts

-- a new try is open
pub opened : (before : Bool) (ts : List Try) → last_open before (ts ++ Open ∷ []) ≡ true
opened before [] = refl
opened before (t ∷ ts) = opened (is_open_try t) ts

-- what came of a try closes it
closed_from : (before : Bool) (result t : Try) (ts : List Try) → is_open_try result ≡ false → last_open before (closed_with result (t ∷ ts)) ≡ false
closed_from before result Open [] h = h
closed_from before result (Worked v) [] h = refl
closed_from before result Failed [] h = refl
closed_from before result Open (u ∷ ts) h = closed_from true result u ts h
closed_from before result (Worked v) (u ∷ ts) h = closed_from false result u ts h
closed_from before result Failed (u ∷ ts) h = closed_from false result u ts h

pub closed : (result : Try) (ts : List Try) → is_open_try result ≡ false → last_open false (closed_with result ts) ≡ false
closed result [] h = refl
closed result (t ∷ ts) h = closed_from false result t ts h

-- the tries of a longer view
pub tries_append : (ts : List Try) (v w : List ViewStep) → tries_after ts (v ++ w) ≡ tries_after (tries_after ts v) w
tries_append ts [] w = refl
tries_append ts (steps.Asked b ∷ v) w = tries_append (ts ++ Open ∷ []) v w
tries_append ts (steps.Called n x op ∷ v) w = tries_append (ts ++ Open ∷ []) v w
tries_append ts (steps.Got n seen ∷ v) w = tries_append (closed_with (seen_result seen) ts) v w
tries_append ts (steps.Child b value ∷ v) w = tries_append (closed_with (child_result value) ts) v w
tries_append ts (steps.Created ∷ v) w = tries_append ts v w
tries_append ts (steps.CommitAsked value ∷ v) w = tries_append ts v w
tries_append ts (steps.AbortAsked ∷ v) w = tries_append ts v w

-- what holds of each statement holds of each that is left
pub all_left : (test : Statement → Bool) (place : Place) (ts : List Try) → list_all test place.rest ≡ true → list_all test (after_tries place ts).rest ≡ true
all_left test place [] h = h
all_left test place (Worked v ∷ ts) h = all_left test (after_try place (Worked v)) ts (of_tail place.rest h)
  where
    of_tail : (ss : List Statement) → list_all test ss ≡ true → list_all test (tail ss) ≡ true
    of_tail [] g = g
    of_tail (s ∷ ss) g = (and_parts (test s) (list_all test ss) g).1
all_left test place (Failed ∷ ts) h = all_left test (after_try place Failed) ts h
all_left test place (Open ∷ ts) h = all_left test (after_try place Open) ts h
