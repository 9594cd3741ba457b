-- Histories that differ in the numbers of their letters alone.
use Rattle.std.proofs.Common.{◌≡◌, ℕ, List, map, Option, sym, ap, ◌∙◌}
use Rattle.cam_type.specs.declared.ObjectDecl.{ObjectDecl}
use Rattle.cam_know.specs.Known.{nothing}
use Rattle.cam_know.specs.Order.{told_in_order}
use Rattle.cam_event.specs.Inputs.{Input, Begins, Requests, Receives, Tells, Queries, Restarts}
use Rattle.cam_event.specs.Inputs.{Mail}
use Rattle.cam_event.specs.Loads.{Load}
use Rattle.cam_event.specs.Refusals.{refusal, query_refusal}
use Rattle.cam_event.specs.Sights.{Sight}
use Rattle.cam_event.specs.ByKnowledge.{held_sight}
use Rattle.cam_event.specs.ByDeltas.{Received, as_carried}
use Rattle.cam_node.specs.Lawful.{MayBePut, IsStepOf}
use Rattle.cam_runs.specs.Standing.{Standing}
use Rattle.cam_histories.specs.Alike.{NodesStandAlike, LogsKeepAlike, TakenEventsAreAlike}
use Rattle.cam_histories.specs.Alike.{AreAlike, OtherHistoriesStay}
use Rattle.cam_histories.specs.Laws.{history_of}
use Rattle.cam_histories.specs.PutIn.{nameless}
use Rattle.cam_histories.proofs.NamelessNodes.{represents_alike, is_log_alike}
use Rattle.cam_histories.proofs.PutIn.{eventless, refusal_alone, sight_alike, step_alike}
use Rattle.cam_histories.proofs.PutIn.{histories_are_moved}

pub nodes_stand_alike : NodesStandAlike
nodes_stand_alike objects one other node same = represents_alike objects one other same node

pub logs_keep_alike : LogsKeepAlike
logs_keep_alike objects s one other logged same = is_log_alike objects one other same s logged

-- what may be put goes by what the node goes by, but for its events
module _ (objects : List ObjectDecl) (s : ℕ) (g h : Sight) (same : eventless g ≡ eventless h) where
  may_alike : (input : Input) (mail : Option Mail) (load : Load)
      → MayBePut objects s g input mail load → MayBePut objects s h input mail load
  may_alike (Begins m) mail load may = may
  may_alike (Requests r) mail load may = (
    may.0,
    refusal_alone h r.action r.want
        ∙ ap (λ x. refusal x r.action r.want) (sym same)
        ∙ sym (refusal_alone g r.action r.want)
        ∙ may.1,
    may.2,
    may.3,
  )
  may_alike (Receives letter) mail load may = may
  may_alike (Tells m to) mail load may = may
  may_alike (Queries m f) mail load may =
      (may.0, ap (λ x. query_refusal x f) (sym same) ∙ may.1, may.2)
  may_alike (Restarts m) mail load may = may

pub step_stays : (objects : List ObjectDecl) (s : ℕ) (one other : List Received) (c : Received)
    → AreAlike one other → IsStepOf objects s one c → IsStepOf objects s other c
step_stays objects s one other c same step = record {
  input = step.input;
  may =
      may_alike objects s (held_sight objects s (map as_carried one) nothing)
      (held_sight objects s (map as_carried other) nothing)
      (sight_alike objects s one other same) step.input c.mail c.load step.may;
  is_next =
      step.is_next
      ∙ step_alike objects s one other step.input c.mail (told_in_order c.load.know) same;
}

pub taken_events_are_alike : TakenEventsAreAlike
taken_events_are_alike objects s one other c same taken = record {
  whole = taken.whole;
  step = step_stays objects s one other taken.whole same taken.step;
  is = taken.is;
}

pub other_histories_stay : OtherHistoriesStay
other_histories_stay objects s m before e lost found stands off =
    ap (λ t. map nameless (history_of objects t m)) stands.was
    ∙ sym (histories_are_moved objects s m stands.behind before e stands.unseen off)
    ∙ ap (λ (x : Standing). map nameless (history_of objects x.running.trace m)) (sym stands.is)
