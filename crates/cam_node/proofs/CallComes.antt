-- A call comes: the event is the definition's, and the node that it makes stands for the longer
-- history.
use Rattle.std.proofs.Common.{◌≡◌, List, ◌∷◌, map, Some, sym, ◌∙◌, subst}
use Rattle.cam_know.specs.Order.{told_in_order}
use Rattle.cam_event.specs.declared.Event.{Event}
use Rattle.cam_event.specs.Inputs.{Receives}
use Rattle.cam_event.specs.ByPast.{event_of}
use Rattle.cam_event.specs.ByKnowledge.{node_step, new_informs}
use Rattle.cam_event.specs.ByDeltas.{Received, as_carried}
use Rattle.cam_node.specs.Represents.{Represents}
use Rattle.cam_node.specs.Halting.{IsThrough}
use Rattle.cam_node.specs.Served.{CallsAreSteps}
use Rattle.cam_node.proofs.CallRules.{rule_is}
use Rattle.cam_node.proofs.Performs.{performs_keeps}

pub call_comes : CallsAreSteps
call_comes objects old new id mail load asked done event from event_is stands = record {
  number = stands.served.number;
  next = λ history through rep may. is_next history through rep;
  represents = λ history through rep may.
      subst (λ (e : Event). Represents objects
      (record { event = e; mail = Some mail; load = load } ∷ history) new)
      (sym (is_next history through rep))
      (performs_keeps objects history id mail load asked done old new stands may.addressed from
      through rep);
}
  where
    is_next : (history : List Received) → IsThrough objects old.number history
        → Represents objects history old
        → event ≡ node_step objects old.number (map as_carried history) (Receives id) (Some mail)
        (told_in_order load.know)
    is_next history through rep =
        event_is ∙ (λ i. event_of old.number (Some id)
        (new_informs old.number (told_in_order load.know) (rep.knowledge i))
        (sym (rule_is objects history id mail load asked done old new stands through rep) i))
