-- What is made of a request to give up a child, by an action that is stopped, is its plan.
use Rattle.std.proofs.Common.{◌≡◌, List, [], map, Option, Some, None, refl, sym, ap, ◌∙◌, subst}
use Rattle.cam_names.specs.declared.name.Name.{Name}
use Rattle.cam_names.specs.Dependencies.{pairs_of}
use Rattle.cam_type.specs.declared.ObjectDecl.{ObjectDecl}
use Rattle.cam_know.specs.Knowledge.{Knowledge}
use Rattle.cam_know.specs.Orphans.{known_orphan}
use Rattle.cam_know.specs.declared.Reason.{Reason}
use Rattle.cam_event.specs.declared.Event.{Event}
use Rattle.cam_event.specs.declared.Note.TheVariants as notes
use Rattle.cam_event.specs.declared.Want.TheVariants as wants
use Rattle.cam_event.specs.Rules.{nothing_but}
use Rattle.cam_event.specs.ByPast.{event_of}
use Rattle.cam_event.specs.HeldSites.{site}
use Rattle.cam_event.specs.Carried.{deeds_of}
use Rattle.cam_event.specs.Loads.{no_load, with_load}
use Rattle.cam_event.specs.ByDeltas.{as_carried}
use Rattle.cam_tranman.specs.Actions.{deps}
use Rattle.cam_tranman.specs.Calls.{IsFree}
use Rattle.cam_node.specs.declared.knowing.Heard.{Heard}
use Rattle.cam_node.specs.declared.plan.Change.{Change}
use Rattle.cam_node.specs.declared.plan.Change.TheVariants as changes
use Rattle.cam_node.specs.declared.plan.Plan.{Plan}
use Rattle.cam_node.specs.Represents.{Node}
use Rattle.cam_node.specs.Halting.{IsStepThrough}
use Rattle.cam_node.specs.Calls.{letters_of}
use Rattle.cam_node.specs.Entries.{AreHoldings, deed_records}
use Rattle.cam_node.specs.GivingUp.{giving_up}
use Rattle.cam_node.specs.Opened.{IsKnowledge}
use Rattle.cam_server.specs.Events.{AreQuiet}
use Rattle.cam_node.specs.Plans.{IsPlan, as_list, held_in}
use Rattle.cam_node.specs.Standing.{HasLearnt, Stands}
use Rattle.cam_node.specs.PlanOrder.{is_served}
use Rattle.cam_node.proofs.Nothing.{both_nothing}
use Rattle.cam_node.proofs.Idle.{node_same, same_of}
use Rattle.cam_node.proofs.PlanOrder.{dropping_plan}
use Rattle.cam_node.proofs.Requested as requested
use Rattle.cam_node.proofs.Requested.{request_is}

-- One that is told nothing knows what it knew.
pub told_nothing : (k : Knowledge) → IsKnowledge k → with_load k no_load ≡ k
told_nothing k is = both_nothing k is.counts

-- ONE THAT IS STOPPED stays as it is.
stays : (old mid new : Node) (known : Knowledge) → mid ≡ old → known ≡ mid.know
    → HasLearnt None known mid new → new ≡ old
stays old mid new known same settled has =
    (λ i.
    record {
      number = has.number i;
      count = has.count i;
      know = (has.know ∙ settled) i;
      places = has.places_are i;
      actions = has.actions i;
      families = has.families i;
      server = has.server i;
    })
    ∙ same

pub stopped_plan : (objects : List ObjectDecl) (a b : Name) (old mid : Node) (known : Knowledge) (reason : Reason) (plan : Plan)
    → mid ≡ old → known ≡ mid.know → IsKnowledge old.know → IsFree old.actions a (wants.GiveUp b)
    → Some reason ≡ known_orphan mid.know a (pairs_of (deps mid.actions a))
    → plan.stepped.event ≡ event_of mid.number None [] (nothing_but (notes.Stopped a reason))
    → plan.stepped.letters ≡ []
    → plan.heard ≡ None → plan.change ≡ changes.Nothing → plan.adds ≡ None
    → IsPlan objects (giving_up a b) None no_load plan known old mid
stopped_plan objects a b old mid known reason plan same settled knows free orphan event_is letters_are
    heard change adds =
    dropping_plan objects (giving_up a b) None no_load plan known old mid
    (ap is_served change) (ap held_in adds) (same_of old mid same)
    (subst (λ (e : Event). AreQuiet old.number e.deeds) (sym event_old) refl)
    (record {
      before = knows;
      learnt = subst IsKnowledge (sym (told_nothing old.know knows)) knows;
      heard = heard;
      step = λ new stands.
          let is = stays old mid new known same settled (as_made new stands) in
          subst (λ (n : Node). IsStepThrough objects old n (giving_up a b) None no_load plan.stepped.event) (sym is)
          (requested.stopped objects old old a (wants.GiveUp b) reason plan.stepped.event knows.counts free
          (subst (λ (n : Node). Some reason ≡ known_orphan n.know a (pairs_of (deps n.actions a))) same orphan) event_old
          (record {
            number = refl;
            count = refl;
            know = refl;
            places = refl;
            actions = (node_same old).actions;
            families = (node_same old).families;
            server = (node_same old).server;
          }));
      letters = λ new stands. letters_are ∙ ap (λ (e : Event). letters_of new e.sent) (sym event_old);
      recorded = λ history logged holds through rep may keeps given held. record {
        records =
            ap (λ (e : Event). deed_records holds objects (map as_carried history) None e.deeds) event_old ∙ sym (ap as_list adds);
        holdings =
            subst (λ (e : Event). AreHoldings holds (deeds_of (map as_carried history)) None (site (map as_carried history)) logged.held e.deeds)
            (sym event_old) tt;
      };
    })
  where
    event_old : plan.stepped.event ≡ event_of old.number None [] (nothing_but (notes.Stopped a reason))
    event_old = event_is ∙ ap (λ (n : Node). event_of n.number None [] (nothing_but (notes.Stopped a reason))) same

    as_made : (new : Node) → Stands plan.change plan.heard known mid new → HasLearnt None known mid new
    as_made new stands =
        subst (λ (c : Change). Stands c None known mid new) change
        (subst (λ (h : Option Heard). Stands plan.change h known mid new) heard stands)
