-- A top action is begun: the event is the definition's, and the node stands for the longer history.
use Rattle.std.proofs.Common.{◌≡◌, List, [], ◌∷◌, map, None, refl, sym, ap, ◌∙◌, subst}
use Rattle.cam_names.specs.Dependencies.{AreCounts}
use Rattle.cam_type.specs.declared.ObjectDecl.{ObjectDecl}
use Rattle.cam_know.specs.Known.{nothing}
use Rattle.cam_event.specs.declared.Event.{Event}
use Rattle.cam_event.specs.declared.Deed.TheVariants.{Create}
use Rattle.cam_event.specs.Inputs.{Begins}
use Rattle.cam_event.specs.Rules.{Did, did, one, begins}
use Rattle.cam_event.specs.ByPast.{event_of}
use Rattle.cam_event.specs.ByKnowledge.{held_sight}
use Rattle.cam_event.specs.Loads.{no_load}
use Rattle.cam_event.specs.ByDeltas.{Received, as_carried}
use Rattle.cam_tranman.specs.Calls.{next_top}
use Rattle.cam_tranman.proofs.Sights.{sight_is_answered}
use Rattle.cam_tranman.proofs.Requests.{begun_is_rule}
use Rattle.cam_node.specs.Represents.{Node, Represents}
use Rattle.cam_node.specs.Halting.{IsStepThrough}
use Rattle.cam_node.specs.AtHome.{DidAtHome}
use Rattle.cam_node.proofs.Orderly.{put_is_asked, through_orderly}
use Rattle.cam_node.proofs.AtHome.{home_keeps}

pub begun : (objects : List ObjectDecl) (old new : Node) (event : Event) → AreCounts 1 old.know.counts
    → event ≡ event_of old.number None [] (did (one (Create (next_top old.actions))) []) → DidAtHome objects (did (one (Create (next_top old.actions))) []) old new
    → IsStepThrough objects old new (Begins old.number) None no_load event
begun objects old new event counted is done = record {
  number = done.number;
  next = λ history through rep may. is ∙ ap (event_of old.number None []) (sym (rule_is history rep));
  represents = λ history through rep may.
      subst (λ (e : Event). Represents objects (record { event = e; mail = None; load = no_load } ∷ history) new)
      (sym (is ∙ ap (event_of old.number None []) (sym (rule_is history rep))))
      (home_keeps objects history (Begins old.number) top old new (rule_is history rep) (record { alone = refl; begins = λ f. refl }) done counted
      (through_orderly objects old.number history through)
      (put_is_asked objects old.number (held_sight objects old.number (map as_carried history) nothing) (Begins old.number) None no_load may) rep);
}
  where
    top : Did
    top = did (one (Create (next_top old.actions))) []

    rule_is : (history : List Received) → Represents objects history old → begins (held_sight objects old.number (map as_carried history) nothing) ≡ top
    rule_is history rep =
        begun_is_rule objects (held_sight objects old.number (map as_carried history) nothing) old.actions
        (sight_is_answered objects old.number (map as_carried history) nothing old.actions rep.runs)
