-- What is kept of a place follows each step.
use Rattle.std.proofs.Common.{◌≡◌, ℕ, ℤ, zero, suc, ◌+◌, pos, true, false, if◌then◌else◌, List, [], ◌∷◌, ◌++◌, Option, Some, None, length, take, drop, get_or, ◌≤◌, ◌<◌, refl, sym, ap, subst, ◌∙◌, arith, add-one, length-append}
use Rattle.std.specs.Prelude.{◌==◌, nat_le, slice_get, unwrap_or}
use Rattle.std.proofs.lemmas.List.{take_more}
use Rattle.cam_event.specs.declared.ViewStep.{ViewStep}
use Rattle.cam_event.specs.declared.Want.TheVariants as wants
use Rattle.cam_script.specs.declared.Statement.{Statement}
use Rattle.cam_script.specs.declared.Statement.TheVariants as statements
use Rattle.cam_body.specs.declared.Next.{Next}
use Rattle.cam_body.specs.declared.Next.TheVariants as nexts
use Rattle.cam_body.specs.Work.{Place, after_try, place_of, tail, has_ended, tries_of, want_of, next_at, next, body_at, child_body}
use Rattle.cam_body.specs.Work.Try.{Worked}
use Rattle.cam_body.specs.Progress.{IsAt, closed, after_step}
use Rattle.cam_body.specs.declared.progress.Progress.{Progress}
use Rattle.cam_body.proofs.Steps.{place_more}

tail_drop : (n : ℕ) (body : List Statement) → tail (drop n body) ≡ drop (suc n) body
tail_drop zero [] = refl
tail_drop zero (s ∷ ss) = refl
tail_drop (suc n) [] = refl
tail_drop (suc n) (s ∷ ss) = tail_drop n ss

-- The value at a place, with one value more.
value_more : (values : List ℤ) (v : ℤ) (at : ℕ) → unwrap_or (slice_get (values ++ v ∷ []) at) (pos 0) ≡ (if length values == at then v else unwrap_or (slice_get values at) (pos 0))
value_more [] v zero = grind arith
value_more [] v (suc at) = grind arith
value_more (x ∷ xs) v zero = grind arith
value_more (x ∷ xs) v (suc at) = grind (arith, value_more xs v at)

at_worked : (place : Place) (body : List Statement) (wanted : ℕ) (p : Progress) (v : ℤ) → IsAt place body wanted p → IsAt (after_try place (Worked v)) body wanted (record { done = p.done + 1; failed = 0; is_open = false; kept = (if p.done == wanted then v else p.kept) })
at_worked place body wanted p v h =
    let done : length place.values ≡ p.done = h.done in
    let longer = length-append place.values (v ∷ []) in
    record {
      rest = ap tail h.rest ∙ tail_drop p.done body ∙ ap (λ n. drop n body) (sym (add-one p.done));
      done = omega (arith, longer, done);
      failed = refl;
      is_open = refl;
      kept = value_more place.values v wanted ∙ ap (λ n. if n == wanted then v else unwrap_or (slice_get place.values wanted) (pos 0)) h.done ∙ ap (λ k. if p.done == wanted then v else k) h.kept;
    }

pub closed_worked : (place : Place) (body : List Statement) (wanted : ℕ) (p : Progress) (v : ℤ) → p.is_open ≡ true → IsAt place body wanted p → IsAt (closed place (Worked v)) body wanted (record { done = p.done + 1; failed = 0; is_open = false; kept = (if p.done == wanted then v else p.kept) })
closed_worked place body wanted p v going h =
    subst (λ b. IsAt (if b then after_try place (Worked v) else place) body wanted (record { done = p.done + 1; failed = 0; is_open = false; kept = (if p.done == wanted then v else p.kept) })) (sym (h.is_open ∙ going)) (at_worked place body wanted p v h)

-- The statement at work is the first behind those that are done.
abbrev next_of : Option Statement → ℕ → List ℤ → Next
next_of (Some s) failed values = if nat_le (tries_of s) failed then nexts.Request wants.Abort else nexts.Request (want_of values s)
next_of None failed values = nexts.Over

abbrev body_of : Option Statement → Option ℕ
body_of (Some s) = body_at (s ∷ [])
body_of None = None

next_there : (n : ℕ) (body : List Statement) (failed : ℕ) (values : List ℤ) → next_at (drop n body) failed values ≡ next_of (slice_get body n) failed values
next_there zero [] failed values = refl
next_there zero (s ∷ ss) failed values = refl
next_there (suc n) [] failed values = refl
next_there (suc n) (s ∷ ss) failed values = next_there n ss failed values

body_there : (n : ℕ) (body : List Statement) → body_at (drop n body) ≡ body_of (slice_get body n)
body_there zero [] = refl
body_there zero (statements.Call tries object op ∷ ss) = refl
body_there zero (statements.Child tries node b ∷ ss) = refl
body_there zero (statements.Commit e ∷ ss) = refl
body_there zero (statements.Abort ∷ ss) = refl
body_there (suc n) [] = refl
body_there (suc n) (s ∷ ss) = body_there n ss

next_by : (body : List Statement) (view : List ViewStep) (w : ℕ) (p : Progress) (o : Option Statement) → has_ended view ≡ false → p.is_open ≡ false → IsAt (place_of body view) body w p → o ≡ slice_get body p.done → next body view ≡ next_of o p.failed (place_of body view).values
next_by body view w p o going closed at found =
    let place = place_of body view in
    ap (λ b. if b then nexts.Over else if place.is_open then nexts.Wait else next_at place.rest place.failed place.values) going
    ∙ ap (λ b. if b then nexts.Wait else next_at place.rest place.failed place.values) (at.is_open ∙ closed)
    ∙ ap (λ r. next_at r place.failed place.values) at.rest
    ∙ ap (λ n. next_at (drop p.done body) n place.values) at.failed
    ∙ next_there p.done body p.failed place.values
    ∙ ap (λ o. next_of o p.failed place.values) (sym found)

pub over : (body : List Statement) (view : List ViewStep) (w : ℕ) (p : Progress) → has_ended view ≡ false → p.is_open ≡ false → IsAt (place_of body view) body w p → None ≡ slice_get body p.done → nexts.Over ≡ next body view
over body view w p going closed at found = sym (next_by body view w p None going closed at found)

tried : (n failed : ℕ) → n ≤ failed → nat_le n failed ≡ true
tried n failed h = grind (arith, h)

untried : (n failed : ℕ) → failed < n → nat_le n failed ≡ false
untried n failed h = grind (arith, h)

pub aborts : (body : List Statement) (view : List ViewStep) (w : ℕ) (p : Progress) (s : Statement) → has_ended view ≡ false → p.is_open ≡ false → IsAt (place_of body view) body w p → Some s ≡ slice_get body p.done → tries_of s ≤ p.failed → nexts.Request wants.Abort ≡ next body view
aborts body view w p s going closed at found h =
    sym (next_by body view w p (Some s) going closed at found ∙ ap (λ b. if b then nexts.Request wants.Abort else nexts.Request (want_of (place_of body view).values s)) (tried (tries_of s) p.failed h))

pub asks : (body : List Statement) (view : List ViewStep) (w : ℕ) (p : Progress) (s : Statement) → has_ended view ≡ false → p.is_open ≡ false → IsAt (place_of body view) body w p → Some s ≡ slice_get body p.done → p.failed < tries_of s → nexts.Request (want_of (place_of body view).values s) ≡ next body view
asks body view w p s going closed at found h =
    sym (next_by body view w p (Some s) going closed at found ∙ ap (λ b. if b then nexts.Request wants.Abort else nexts.Request (want_of (place_of body view).values s)) (untried (tries_of s) p.failed h))

pub child : (body : List Statement) (view : List ViewStep) (w : ℕ) (p : Progress) (o : Option Statement) → IsAt (place_of body view) body w p → o ≡ slice_get body p.done → body_of o ≡ child_body body view
child body view w p o at found = sym (ap body_at at.rest ∙ body_there p.done body ∙ ap body_of (sym found))

-- The next step of a view moves its place on.
pub step_at : (body : List Statement) (view : List ViewStep) (i : ℕ) (s : ViewStep) (w : ℕ) (p : Progress) → i < length view → s ≡ get_or view i s → IsAt (after_step (place_of body (take i view)) s) body w p → IsAt (place_of body (take (i + 1) view)) body w p
step_at body view i s w p below is h =
    let one_more : take (i + 1) view ≡ take i view ++ s ∷ [] = take_more view i s below ∙ ap (λ (t : ViewStep). take i view ++ t ∷ []) (sym is) in
    subst (λ q. IsAt q body w p) (sym (ap (place_of body) one_more ∙ place_more body (take i view) s)) h
