-- What is put to a node is what may be asked of its actions, and a history through halts is in order.
use Rattle.std.proofs.Common.{inl, inr, ℕ, List, [], ◌∷◌, map, Option, Some, None, sym, subst}
use Rattle.cam_type.specs.declared.ObjectDecl.{ObjectDecl}
use Rattle.cam_know.specs.Order.{told_in_order}
use Rattle.cam_event.specs.declared.Event.{Event}
use Rattle.cam_event.specs.declared.Body.{Body}
use Rattle.cam_event.specs.declared.Body.TheVariants as bodies
use Rattle.cam_event.specs.Inputs.{Input, Begins, Requests, Receives, Tells, Queries, Restarts, Mail}
use Rattle.cam_event.specs.Sights.{Sight}
use Rattle.cam_know.specs.Known.{nothing}
use Rattle.cam_event.specs.ByKnowledge.{held_sight}
use Rattle.cam_event.specs.Loads.{Load}
use Rattle.cam_event.specs.ByDeltas.{Received, as_carried}
use Rattle.cam_tranman.specs.Orderly.{IsOrderly, IsForHome, MayBeAsked}
use Rattle.cam_tranman.proofs.StepDeeds.{none_is_orderly, steps_stay_orderly, taken_stays_orderly}
use Rattle.cam_node.specs.Lawful.{IsForNode, MayBePut, IsStepOf}
use Rattle.cam_node.specs.Halting.{IsThrough, IsTakenOf, taken}

for_home : (objects : List ObjectDecl) (s : ℕ) (body : Body) → IsForNode objects s body → IsForHome s body
for_home objects s (bodies.Start b counts) h = h
for_home objects s (bodies.Call a n x op c counts) h = tt
for_home objects s (bodies.Answer a n reply) h = h
for_home objects s (bodies.Finish a v counts) h = h
for_home objects s (bodies.Quit a) h = h
for_home objects s (bodies.Prepare f c) h = tt
for_home objects s (bodies.Vote f c agrees) h = tt
for_home objects s (bodies.Query f) h = tt
for_home objects s bodies.News h = tt

pub put_is_asked : (objects : List ObjectDecl) (s : ℕ) (g : Sight) (input : Input) (mail : Option Mail) (load : Load) → MayBePut objects s g input mail load → MayBeAsked s g input mail
put_is_asked objects s g (Begins m) mail load may = may.1.0
put_is_asked objects s g (Requests r) mail load may = (may.0, may.1)
put_is_asked objects s g (Receives letter) None load may = tt
put_is_asked objects s g (Receives letter) (Some mail) load may = for_home objects s mail.body may.for_node
put_is_asked objects s g (Tells m to) mail load may = tt
put_is_asked objects s g (Queries m f) mail load may = tt
put_is_asked objects s g (Restarts m) mail load may = tt

step_orderly : (objects : List ObjectDecl) (s : ℕ) (history : List Received) (c : Received) → IsStepOf objects s history c → IsOrderly s (map as_carried history) → IsOrderly s (as_carried c ∷ map as_carried history)
step_orderly objects s history c step orderly =
    subst (λ (e : Event). IsOrderly s (record { event = e; mail = c.mail; brought = told_in_order c.load.know } ∷ map as_carried history)) (sym step.is_next)
    (steps_stay_orderly objects s (map as_carried history) step.input c.mail (told_in_order c.load.know) orderly (put_is_asked objects s (held_sight objects s (map as_carried history) nothing) step.input c.mail c.load step.may))

pub taken_orderly : (objects : List ObjectDecl) (s : ℕ) (history : List Received) (c : Received) → IsTakenOf objects s history c → IsOrderly s (map as_carried history) → IsOrderly s (as_carried c ∷ map as_carried history)
taken_orderly objects s history c of orderly =
    let w : Received = of.whole in
    let step = of.step in
    subst (λ (x : Received). IsOrderly s (as_carried x ∷ map as_carried history)) (sym of.is)
    (subst (λ (e : Event). IsOrderly s (as_carried (taken (record { event = e; mail = w.mail; load = w.load })) ∷ map as_carried history)) (sym step.is_next)
    (taken_stays_orderly objects s (map as_carried history) step.input w.mail (told_in_order w.load.know) orderly (put_is_asked objects s (held_sight objects s (map as_carried history) nothing) step.input w.mail w.load step.may)))

-- A history through halts is in order.
pub through_orderly : (objects : List ObjectDecl) (s : ℕ) (history : List Received) → IsThrough objects s history → IsOrderly s (map as_carried history)
through_orderly objects s [] through = none_is_orderly s
through_orderly objects s (c ∷ []) through = step_orderly objects s [] c through (none_is_orderly s)
through_orderly objects s (c ∷ k ∷ before) through =
    step_orderly objects s (k ∷ before) c through.0
    (elim (through.1) [
      | inl on ↦ through_orderly objects s (k ∷ before) on
      | inr halted ↦ taken_orderly objects s before k halted.1 (through_orderly objects s before halted.2)
    ])
