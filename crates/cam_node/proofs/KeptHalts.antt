-- What a node keeps that halts as its plan is carried out.
use Rattle.std.proofs.Common.{◌≡◌, ℕ, false, List, ◌∷◌, map, Option, Some, None, refl, sym, ap, ◌∙◌, subst}
use Rattle.std.specs.List.{list_any}
use Rattle.cam_type.specs.declared.ObjectDecl.{ObjectDecl}
use Rattle.cam_know.specs.Knowledge.{Knowledge}
use Rattle.cam_know.specs.Order.{told_in_order}
use Rattle.cam_event.specs.declared.Event.{Event}
use Rattle.cam_event.specs.History.{after, count, is_crash}
use Rattle.cam_event.specs.Inputs.{Input, Mail}
use Rattle.cam_event.specs.Taken.{taken_of}
use Rattle.cam_event.specs.ByKnowledge.{node_step}
use Rattle.cam_event.specs.Carried.{Carried, deeds_of}
use Rattle.cam_event.specs.Loads.{Load}
use Rattle.cam_event.specs.ByDeltas.{Received, as_carried, known}
use Rattle.cam_event.proofs.Agree.{count_after_other}
use Rattle.cam_commit.proofs.StepKinds.{steps_are_of_kind}
use Rattle.cam_node.specs.declared.call_ahead.Ahead.{Ahead}
use Rattle.cam_node.specs.declared.plan.Plan.{Plan}
use Rattle.cam_node.specs.Ahead.{IsForgotten}
use Rattle.cam_node.specs.Found.{HaltsAt, whole_step}
use Rattle.cam_node.specs.Halting.{IsStepThrough, IsThrough}
use Rattle.cam_node.specs.Lawful.{IsStepOf}
use Rattle.cam_node.specs.Opened.{IsKnowledge}
use Rattle.cam_node.specs.Planned.{MayBeTaken}
use Rattle.cam_node.specs.Standing.{Stands}
use Rattle.cam_node.specs.Represents.{Node}

-- What went ahead is taken back at the server alone.
record IsLeft (old new : Node) : Type 0 where
  number : new.number ≡ old.number
  count : new.count ≡ old.count
  know : new.know ≡ old.know

left_by : (ahead : Option Ahead) (old new : Node) → IsForgotten ahead old new → IsLeft old new
left_by None old new is =
    record {
      number = ap (λ (n : Node). n.number) is;
      count = ap (λ (n : Node). n.count) is;
      know = ap (λ (n : Node). n.know) is;
    }
left_by (Some ahead) old new back =
    record {
      number = ap (λ (n : Node). n.number) back.rest;
      count = ap (λ (n : Node). n.count) back.rest;
      know = ap (λ (n : Node). n.know) back.rest;
    }

pub keeps_halt : (objects : List ObjectDecl) (input : Input) (mail : Option Mail) (load : Load)
    (plan : Plan) (brought : Knowledge) (old mid new last : Node) (before : List (List ℕ))
    (ahead : Option Ahead) (halted_at : Option Event)
    → IsKnowledge new.know → Stands plan.change plan.heard brought mid new
    → IsForgotten ahead new last → halted_at ≡ Some (taken_of plan.stepped.event)
    → MayBeTaken objects input mail load plan brought old mid
    → HaltsAt objects old before input mail load last halted_at
keeps_halt objects input mail load plan brought old mid new last before ahead halted_at knows stands
    forgotten at may =
    subst (HaltsAt objects old before input mail load last) (sym at)
    (λ history keeps put.
    let H : List Carried = map as_carried history in
    let s : ℕ = old.number in
    let left = left_by ahead new last forgotten in
    let step : IsStepThrough objects old new input mail load plan.stepped.event =
    may.planned.given.step new stands in
    let next : plan.stepped.event
    ≡ node_step objects s H input mail (told_in_order load.know) =
    step.next history keeps.through keeps.represents put in
    let rep = step.represents history keeps.through keeps.represents put in
    let number : last.number ≡ s = left.number ∙ step.number in
    let whole : Received = whole_step objects s history input mail load in
    let no_crash : list_any (is_crash s) whole.event.deeds ≡ false =
    (steps_are_of_kind objects s H input mail (told_in_order load.know)).restarts
    ∙ may.goes_on in
    record {
      through = subst (λ (m : ℕ). IsThrough objects m history) (sym number) keeps.through;
      step =
          subst (λ (m : ℕ). IsStepOf objects m history whole) (sym number)
          (record { input = input; may = put; is_next = refl });
      goes_on =
          subst (λ (m : ℕ). list_any (is_crash m) whole.event.deeds ≡ false) (sym number) no_crash;
      count =
          left.count ∙ rep.own_count
          ∙ (λ i. count (after (deeds_of H) (next i).deeds) (step.number i))
          ∙ count_after_other whole.event.deeds (deeds_of H) s no_crash
          ∙ ap (count (deeds_of H)) (sym number);
      before = keeps.keeps.is_log.known;
      know =
          left.know ∙ rep.knowledge
          ∙ ap
          (λ (e : Event). known objects
          (record { event = e; mail = mail; load = load } ∷ history)) next;
      knows = subst IsKnowledge (sym left.know) knows;
      is_taken = ap taken_of next;
    })
