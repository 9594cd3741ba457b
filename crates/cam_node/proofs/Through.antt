-- Histories of a node through halts.
use Rattle.std.proofs.Common.{inl, inr, ℕ, false, ◌||◌, List, [], ◌∷◌, refl, ap}
use Rattle.std.proofs.lemmas.Bool.{eq-eqb}
use Rattle.cam_type.specs.declared.ObjectDecl.{ObjectDecl}
use Rattle.cam_event.specs.Inputs.{Restarts}
use Rattle.cam_event.specs.ByDeltas.{Received}
use Rattle.cam_node.specs.Lawful.{IsStepOf}
use Rattle.cam_node.specs.Halting.{Restarted, restarted, LawfulIsThrough, RestartIsWhole, RestartsGoThrough}

pub lawful_is_through : LawfulIsThrough
lawful_is_through objects s [] lawful = tt
lawful_is_through objects s (c ∷ []) lawful = lawful.0
lawful_is_through objects s (c ∷ k ∷ before) lawful = (lawful.0, inl (lawful_is_through objects s (k ∷ before) lawful.1))

pub restart_is_whole : RestartIsWhole
restart_is_whole objects s history = refl

-- a restart may always be put, and is the definition's step
restart_steps : (objects : List ObjectDecl) (s : ℕ) (history : List Received) → IsStepOf objects s history (restarted objects s history)
restart_steps objects s history = record { input = Restarts s; may = (refl, (refl, refl)); is_next = refl }

crashed : (objects : List ObjectDecl) (s : ℕ) (history : List Received) → Restarted s (restarted objects s history)
crashed objects s history = ap (λ b. b || false) (eq-eqb s s refl)

pub restarts_go_through : RestartsGoThrough
restarts_go_through objects s [] ended = restart_steps objects s []
restarts_go_through objects s (k ∷ before) (inl through) = (restart_steps objects s (k ∷ before), inl through)
restarts_go_through objects s (k ∷ before) (inr halted) = (restart_steps objects s (k ∷ before), inr (crashed objects s (k ∷ before), halted.0, halted.1))
