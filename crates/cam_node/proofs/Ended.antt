-- The history of a node that is halted, a taken event at its end or not: it is in order, of what is
-- known the site was informed, and it has
-- secured at the node alone.
use Rattle.std.proofs.Common.{◌≡◌, inl, inr, ℕ, Bool, true, false, if◌then◌else◌, List, [], ◌∷◌, map, refl, ap, ◌∙◌}
use Rattle.std.specs.Prelude.{filter}
use Rattle.std.specs.List.{list_any}
use Rattle.std.proofs.lemmas.Bool.{or_parts, or_from}
use Rattle.cam_names.specs.declared.name.Name.{Name}
use Rattle.cam_type.specs.declared.ObjectDecl.{ObjectDecl}
use Rattle.cam_know.specs.Known.{knows_abort, knows_commit}
use Rattle.cam_know.specs.Order.{told_in_order}
use Rattle.cam_event.specs.declared.Deed.{Deed}
use Rattle.cam_event.specs.declared.Event.{Event}
use Rattle.cam_event.specs.History.{after, informed}
use Rattle.cam_event.specs.Taken.{is_entered}
use Rattle.cam_event.specs.Carried.{deeds_of}
use Rattle.cam_event.specs.ByDeltas.{Received, as_carried, known}
use Rattle.cam_commit.specs.Events.{is_elsewhere}
use Rattle.cam_commit.proofs.StepKinds.{steps_are_of_kind}
use Rattle.cam_tranman.specs.Orderly.{IsOrderly}
use Rattle.cam_node.specs.Halting.{IsThrough, IsTakenOf, IsEnded}
use Rattle.cam_node.specs.Lawful.{IsStepOf}
use Rattle.cam_node.proofs.Informed.{any_after, known_is_informed, taken_informed}
use Rattle.cam_node.proofs.Orderly.{through_orderly, taken_orderly}
use Rattle.cam_tranman.proofs.StepDeeds.{none_is_orderly}

pub ended_orderly : (objects : List ObjectDecl) (s : ℕ) (history : List Received) → IsEnded objects
    s history → IsOrderly s (map as_carried history)
ended_orderly objects s [] ended = none_is_orderly s
ended_orderly objects s (k ∷ before) (inl through) = through_orderly objects s (k ∷ before) through
ended_orderly objects s (k ∷ before) (inr halted) = taken_orderly objects s before k halted.0
    (through_orderly objects s before halted.1)

pub ended_informed : (objects : List ObjectDecl) (s : ℕ) (history : List Received) (a : Name) →
    IsEnded objects s history
    → (knows_abort (known objects history) a ≡ informed (deeds_of (map as_carried history)) s a
    false)
    × (knows_commit (known objects history) a ≡ informed (deeds_of (map as_carried history)) s a
    true)
ended_informed objects s [] a ended = (refl, refl)
ended_informed objects s (k ∷ before) a (inl through) = known_is_informed objects s (k ∷ before)
    through a
ended_informed objects s (k ∷ before) a (inr halted) = taken_informed objects s before k a halted.0
    (known_is_informed objects s before halted.1 a)

-- deeds at no other node
abbrev AtNode : ℕ → List Deed → Type 0
AtNode s ds = list_any (is_elsewhere s) ds ≡ false

none_kept : (p q : Deed → Bool) (ds : List Deed) → list_any p ds ≡ false → list_any p (filter q ds)
    ≡ false
none_kept p q [] none = refl
none_kept p q (d ∷ ds) none =
    let parts = or_parts (p d) (list_any p ds) none in by (q d) parts.0 (none_kept p q ds parts.1)
  where
    by : (b : Bool) → p d ≡ false → list_any p (filter q ds) ≡ false → list_any p (if b then d ∷
        filter q ds else filter q ds) ≡ false
    by true one rest = or_from (p d) (list_any p (filter q ds)) one rest
    by false one rest = rest

step_at : (objects : List ObjectDecl) (s : ℕ) (history : List Received) (c : Received) → IsStepOf
    objects s history c → AtNode s c.event.deeds
step_at objects s history c step =
    ap (λ (e : Event). list_any (is_elsewhere s) e.deeds) step.is_next
    ∙ (steps_are_of_kind objects s (map as_carried history) step.input c.mail (told_in_order
    c.load.know)).own

taken_at : (objects : List ObjectDecl) (s : ℕ) (history : List Received) (c : Received) → IsTakenOf
    objects s history c → AtNode s c.event.deeds
taken_at objects s history c of =
    ap (λ (x : Received). list_any (is_elsewhere s) x.event.deeds) of.is
    ∙ none_kept (is_elsewhere s) is_entered of.whole.event.deeds (step_at objects s history
    of.whole of.step)

behind : (s : ℕ) (before ds : List Deed) → AtNode s before → AtNode s ds → AtNode s (after before
    ds)
behind s before ds one other =
    any_after (is_elsewhere s) before ds ∙ or_from (list_any (is_elsewhere s) before) (list_any
    (is_elsewhere s) ds) one other

through_at : (objects : List ObjectDecl) (s : ℕ) (history : List Received) → IsThrough objects s
    history → AtNode s (deeds_of (map as_carried history))
through_at objects s [] through = refl
through_at objects s (c ∷ []) through = behind s [] c.event.deeds refl (step_at objects s [] c
    through)
through_at objects s (c ∷ k ∷ before) through =
    behind s (deeds_of (map as_carried (k ∷ before))) c.event.deeds
    (elim (through.1) [
      | inl on ↦ through_at objects s (k ∷ before) on
      | inr halted ↦ behind s (deeds_of (map as_carried before)) k.event.deeds (through_at objects
          s before halted.2) (taken_at objects s before k halted.1)
    ])
    (step_at objects s (k ∷ before) c through.0)

pub ended_at : (objects : List ObjectDecl) (s : ℕ) (history : List Received) → IsEnded objects s
    history → AtNode s (deeds_of (map as_carried history))
ended_at objects s [] ended = refl
ended_at objects s (k ∷ before) (inl through) = through_at objects s (k ∷ before) through
ended_at objects s (k ∷ before) (inr halted) =
    behind s (deeds_of (map as_carried before)) k.event.deeds (through_at objects s before
    halted.1) (taken_at objects s before k halted.0)
