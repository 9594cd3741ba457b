-- After each history of a node its site keeps each place once and each family once.
use Rattle.std.proofs.Common.{◌≡◌, inl, inr, ℕ, List, [], ◌∷◌, map, Option, Some, None, sym, subst}
use Rattle.cam_type.specs.declared.ObjectDecl.{ObjectDecl}
use Rattle.cam_know.specs.Order.{told_in_order}
use Rattle.cam_know.specs.Known.{nothing}
use Rattle.cam_event.specs.declared.Event.{Event}
use Rattle.cam_event.specs.History.{number_of}
use Rattle.cam_event.specs.Inputs.{Input, Begins, Requests, Receives, Tells, Queries, Restarts, Mail}
use Rattle.cam_event.specs.Sights.{Sight}
use Rattle.cam_event.specs.ByKnowledge.{held_sight}
use Rattle.cam_event.specs.HeldSites.{is_any_perform, site}
use Rattle.cam_event.specs.Carried.{deeds_of}
use Rattle.cam_event.specs.Loads.{Load}
use Rattle.cam_event.specs.ByDeltas.{Received, as_carried}
use Rattle.cam_node.specs.Lawful.{HasNone, MayBePut, IsStepOf}
use Rattle.cam_node.specs.Halting.{IsThrough, IsTakenOf, IsEnded}
use Rattle.cam_node.proofs.NewFamilies.{AreNew, step_is_new, entered_is_new}
use Rattle.cam_node.proofs.SoundSites.{IsSound, IsForIt}
use Rattle.cam_node.proofs.SoundDeeds.{sound_all}

-- The letter of what is put to a node is for it.
none_for_it : (objects : List ObjectDecl) (s : ℕ) (mail : Option Mail) (load : Load)
    → HasNone mail load → IsForIt objects s mail
none_for_it objects s None load has = tt
none_for_it objects s (Some mail) load has = absurd (no_mail has.0)
  where
    no_mail : Some mail ≡ None → ⊥
    no_mail e = cc

put_for_it : (objects : List ObjectDecl) (s : ℕ) (g : Sight) (input : Input) (mail : Option Mail)
    (load : Load) → MayBePut objects s g input mail load → IsForIt objects s mail
put_for_it objects s g (Begins m) mail load may = none_for_it objects s mail load may.1
put_for_it objects s g (Requests r) mail load may = none_for_it objects s mail load may.3
put_for_it objects s g (Receives letter) None load may = tt
put_for_it objects s g (Receives letter) (Some mail) load may = may.for_node
put_for_it objects s g (Tells m to) mail load may = none_for_it objects s mail load may.3
put_for_it objects s g (Queries m f) mail load may = none_for_it objects s mail load may.2
put_for_it objects s g (Restarts m) mail load may = none_for_it objects s mail load may.1

-- the site of a node after a history
abbrev pub IsSoundAfter : List ObjectDecl → ℕ → List Received → Type 0
IsSoundAfter objects s history =
    IsSound objects s (number_of is_any_perform (deeds_of (map as_carried history)))
    (deeds_of (map as_carried history)) (site (map as_carried history))

pub step_for_it : (objects : List ObjectDecl) (s : ℕ) (history : List Received) (c : Received)
    → IsStepOf objects s history c → IsForIt objects s c.mail
step_for_it objects s history c step =
    put_for_it objects s (held_sight objects s (map as_carried history) nothing) step.input c.mail
    c.load step.may

step_new : (objects : List ObjectDecl) (s : ℕ) (history : List Received) (c : Received)
    → IsStepOf objects s history c → AreNew s (deeds_of (map as_carried history)) c.event.deeds
step_new objects s history c step =
    subst (λ (e : Event). AreNew s (deeds_of (map as_carried history)) e.deeds) (sym step.is_next)
    (step_is_new objects s (map as_carried history) step.input c.mail
    (told_in_order c.load.know))

step_sound : (objects : List ObjectDecl) (s : ℕ) (history : List Received) (c : Received)
    → IsStepOf objects s history c → IsSoundAfter objects s history
    → IsSoundAfter objects s (c ∷ history)
step_sound objects s history c step sound =
    sound_all objects s (deeds_of (map as_carried history)) c.mail
    (site (map as_carried history)) c.event.deeds (step_for_it objects s history c step)
    (step_new objects s history c step) sound

taken_sound : (objects : List ObjectDecl) (s : ℕ) (history : List Received) (c : Received)
    → IsTakenOf objects s history c → IsSoundAfter objects s history
    → IsSoundAfter objects s (c ∷ history)
taken_sound objects s history c of sound =
    sound_all objects s (deeds_of (map as_carried history)) c.mail
    (site (map as_carried history)) c.event.deeds
    (subst (λ (k : Received). IsForIt objects s k.mail) (sym of.is)
    (step_for_it objects s history of.whole of.step))
    (subst (λ (k : Received). AreNew s (deeds_of (map as_carried history)) k.event.deeds)
    (sym of.is)
    (entered_is_new s (deeds_of (map as_carried history)) of.whole.event.deeds
    (step_new objects s history of.whole of.step))) sound

none_sound : (objects : List ObjectDecl) (s : ℕ) → IsSoundAfter objects s []
none_sound objects s =
    record {
      owner = λ i. [];
      live = tt;
      apart = tt;
      groups = tt;
      once = tt;
      among = λ f is. cc;
    }

through_sound : (objects : List ObjectDecl) (s : ℕ) (history : List Received)
    → IsThrough objects s history → IsSoundAfter objects s history
through_sound objects s [] through = none_sound objects s
through_sound objects s (c ∷ []) through =
    step_sound objects s [] c through (none_sound objects s)
through_sound objects s (c ∷ k ∷ before) through =
    step_sound objects s (k ∷ before) c through.0
    (elim (through.1) [
      | inl on ↦ through_sound objects s (k ∷ before) on
      | inr halted ↦
          taken_sound objects s before k halted.1 (through_sound objects s before halted.2)
    ])

pub ended_sound : (objects : List ObjectDecl) (s : ℕ) (history : List Received)
    → IsEnded objects s history → IsSoundAfter objects s history
ended_sound objects s [] ended = none_sound objects s
ended_sound objects s (k ∷ before) (inl through) = through_sound objects s (k ∷ before) through
ended_sound objects s (k ∷ before) (inr halted) =
    taken_sound objects s before k halted.0 (through_sound objects s before halted.1)
