-- An event of a run sends few letters.
use Rattle.std.proofs.Common.{ℕ, ◌+◌, ◌≤◌, Bool, true, false, List, [], ◌∷◌, length, sym, subst, arith}
use Rattle.std.proofs.lemmas.List.{length-append}
use Rattle.cam_type.specs.declared.ObjectDecl.{ObjectDecl}
use Rattle.cam_event.specs.declared.Body.{Body}
use Rattle.cam_event.specs.declared.Body.TheVariants as bodies
use Rattle.cam_event.specs.declared.Event.{Event}
use Rattle.cam_event.specs.declared.Sent.{Sent}
use Rattle.cam_event.specs.Taken.{MayStand}
use Rattle.cam_runs.specs.Running.{ids_from, letters, weight}
use Rattle.cam_runs.proofs.Light.{sent_weight}
use Rattle.cam_bounds.specs.Bounds.{LettersAreFew}
use Rattle.cam_bounds.proofs.Weights.{next_light}

some_weight : (body : Body) → 1 ≤ weight body
some_weight (bodies.Start b counts) = omega arith
some_weight (bodies.Call a n x op c counts) = omega arith
some_weight (bodies.Answer a n reply) = omega arith
some_weight (bodies.Finish a v counts) = omega arith
some_weight (bodies.Quit a) = omega arith
some_weight (bodies.Prepare f c) = omega arith
some_weight (bodies.Vote f c agrees) = omega arith
some_weight (bodies.Query f) = omega arith
some_weight bodies.News = omega arith

few_sent : (event place : ℕ) (sent : List Sent) → length (ids_from event place sent) ≤ sent_weight sent
few_sent event place [] = omega arith
few_sent event place (m ∷ ms) =
    let one = some_weight m.body in
    let rest = few_sent event (place + 1) ms in
    omega (arith, one, rest)

-- an event that may stand sends no more
stands_light : (objects : List ObjectDecl) (t : List Event) (e : Event) (taken : Bool)
    → MayStand objects t e taken → sent_weight e.sent ≤ 81
stands_light objects t e true stands =
    subst (λ (x : Event). sent_weight x.sent ≤ 81) (sym stands.taken) none
  where
    none : 0 ≤ 81
    none = omega arith
stands_light objects t e false stands =
    subst (λ (x : Event). sent_weight x.sent ≤ 81) (sym stands.is_next)
    (next_light objects t stands.input)

pub letters_are_few : LettersAreFew
letters_are_few objects taken [] runs = omega arith
letters_are_few objects taken (e ∷ t) runs =
    let rest = letters_are_few objects taken t runs.2 in
    let one = stands_light objects t e (taken (length t)) runs.0 in
    let sent = few_sent (length t) 0 e.sent in
    let both = length-append (letters t) (ids_from (length t) 0 e.sent) in
    omega (arith, rest, one, sent, both)
