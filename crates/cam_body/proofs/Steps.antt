-- The place of an action in its body follows its view, a step at a time.
use Rattle.std.proofs.Common.{◌≡◌, List, [], ◌∷◌, ◌++◌, refl, ap, ◌∙◌}
use Rattle.cam_event.specs.declared.ViewStep.{ViewStep}
use Rattle.cam_event.specs.declared.ViewStep.TheVariants as steps
use Rattle.cam_script.specs.declared.Statement.{Statement}
use Rattle.cam_body.specs.Work.{Try, Place, seen_result, child_result, closed_with, tries_after, after_try, after_tries, start_of, place_of}
use Rattle.cam_body.specs.Work.Try.{Worked, Failed, Open}
use Rattle.cam_body.specs.Progress.{closed, after_step}

tries_more : (tries : List Try) (view : List ViewStep) (s : ViewStep) → tries_after tries (view ++ s ∷ []) ≡ tries_after (tries_after tries view) (s ∷ [])
tries_more tries [] s = refl
tries_more tries (steps.Asked b ∷ view) s = tries_more (tries ++ Open ∷ []) view s
tries_more tries (steps.Called n x op ∷ view) s = tries_more (tries ++ Open ∷ []) view s
tries_more tries (steps.Got n seen ∷ view) s = tries_more (closed_with (seen_result seen) tries) view s
tries_more tries (steps.Child b value ∷ view) s = tries_more (closed_with (child_result value) tries) view s
tries_more tries (_ ∷ view) s = tries_more tries view s

opened : (place : Place) (tries : List Try) (t : Try) → after_tries place (tries ++ t ∷ []) ≡ after_try (after_tries place tries) t
opened place [] t = refl
opened place (u ∷ us) t = opened (after_try place u) us t

-- The end of a try that is open takes its place.
overwritten : (place : Place) (result : Try) → after_try place result ≡ after_try (after_try place Open) result
overwritten place (Worked v) = refl
overwritten place Failed = refl
overwritten place Open = refl

ended : (place : Place) (result t : Try) (tries : List Try) → after_tries place (closed_with result (t ∷ tries)) ≡ closed (after_tries place (t ∷ tries)) result
ended place result Open [] = overwritten place result
ended place result (Worked v) [] = refl
ended place result Failed [] = refl
ended place result Open (u ∷ us) = ended (after_try place Open) result u us
ended place result (Worked v) (u ∷ us) = ended (after_try place (Worked v)) result u us
ended place result Failed (u ∷ us) = ended (after_try place Failed) result u us

ended_at : (body : List Statement) (result : Try) (tries : List Try) → after_tries (start_of body) (closed_with result tries) ≡ closed (after_tries (start_of body) tries) result
ended_at body result [] = refl
ended_at body result (t ∷ ts) = ended (start_of body) result t ts

last_step : (body : List Statement) (tries : List Try) (s : ViewStep) → after_tries (start_of body) (tries_after tries (s ∷ [])) ≡ after_step (after_tries (start_of body) tries) s
last_step body tries (steps.Asked b) = opened (start_of body) tries Open
last_step body tries (steps.Called n x op) = opened (start_of body) tries Open
last_step body tries (steps.Got n seen) = ended_at body (seen_result seen) tries
last_step body tries (steps.Child b value) = ended_at body (child_result value) tries
last_step body tries _ = refl

pub place_more : (body : List Statement) (view : List ViewStep) (s : ViewStep) → place_of body (view ++ s ∷ []) ≡ after_step (place_of body view) s
place_more body view s = ap (after_tries (start_of body)) (tries_more [] view s) ∙ last_step body (tries_after [] view) s
