-- Requests of actions at their home: the event is the definition's, and the node stands for the longer history.
use Rattle.std.proofs.Common.{◌≡◌, ℕ, List, [], ◌∷◌, map, Some, None, refl, sym, ap, ◌∙◌, subst}
use Rattle.cam_names.specs.declared.name.Name.{Name}
use Rattle.cam_names.specs.Names.{home_node}
use Rattle.cam_names.specs.Dependencies.{AreCounts, pairs_of}
use Rattle.cam_type.specs.declared.ObjectDecl.{ObjectDecl}
use Rattle.cam_know.specs.declared.Reason.{Reason}
use Rattle.cam_know.specs.Knowledge.{Knowledge}
use Rattle.cam_know.specs.Known.{nothing, both}
use Rattle.cam_know.specs.Orphans.{known_orphan}
use Rattle.cam_event.specs.declared.Event.{Event}
use Rattle.cam_event.specs.declared.Note.TheVariants as notes
use Rattle.cam_event.specs.declared.Want.{Want}
use Rattle.cam_event.specs.declared.Want.TheVariants as wants
use Rattle.cam_event.specs.Inputs.{Requests}
use Rattle.cam_event.specs.Sights.{Sight}
use Rattle.cam_event.specs.Rules.{Did, request, nothing_but, stopped_by}
use Rattle.cam_event.specs.ByPast.{event_of}
use Rattle.cam_event.specs.ByKnowledge.{sight_with, held_sight, node_step}
use Rattle.cam_event.specs.Carried.{Carried}
use Rattle.cam_event.specs.Loads.{no_load}
use Rattle.cam_event.specs.ByDeltas.{Received, as_carried, known}
use Rattle.cam_tranman.specs.Actions.{Actions, deps}
use Rattle.cam_tranman.specs.Calls.{IsFree}
use Rattle.cam_tranman.specs.Steps.{did_wanted}
use Rattle.cam_tranman.proofs.Sights.{sight_is_answered}
use Rattle.cam_tranman.proofs.RuleCalls.{wanted_is_rule}
use Rattle.cam_node.specs.Represents.{Node, Represents}
use Rattle.cam_node.specs.Halting.{IsStepThrough}
use Rattle.cam_node.specs.Requests.{wanted_by, requested_by}
use Rattle.cam_node.specs.AtHome.{IsAtHome, DidAtHome}
use Rattle.cam_node.proofs.Nothing.{both_nothing}
use Rattle.cam_node.proofs.Orderly.{put_is_asked, through_orderly}
use Rattle.cam_node.proofs.AtHome.{home_keeps}

-- what an action may go on to do, by the knowledge by which the node goes
wanted_same : (objects : List ObjectDecl) (s : ℕ) (H : List Carried) (k : Knowledge) (actions : Actions) (a : Name) (want : Want)
    → did_wanted objects (sight_with objects s H [] k) actions a want ≡ wanted_by objects s k actions a want
wanted_same objects s H k actions a (wants.Ask m) = refl
wanted_same objects s H k actions a (wants.Call x op) = refl
wanted_same objects s H k actions a (wants.Commit v) = refl
wanted_same objects s H k actions a wants.Abort = refl
wanted_same objects s H k actions a (wants.GiveUp b) = refl

-- the rule of a request is what the node does by what it answers
pub request_is : (objects : List ObjectDecl) (history : List Received) (node : Node) (a : Name) (want : Want) → Represents objects history node → AreCounts 1 node.know.counts
    → home_node a ≡ node.number → IsFree node.actions a want
    → request objects (held_sight objects node.number (map as_carried history) nothing) a want ≡ requested_by objects node.number node.know node.actions a want
request_is objects history node a want rep counted home free =
    wanted_is_rule objects g node.actions a want (sight_is_answered objects node.number H nothing node.actions rep.runs) home free
    ∙ ap (λ (d : Did). stopped_by a (known_orphan (both K nothing) a (pairs_of (deps node.actions a))) d) (wanted_same objects node.number H (both K nothing) node.actions a want)
    ∙ ap (λ (k : Knowledge). requested_by objects node.number k node.actions a want)
    (both_nothing K (subst (λ (k : Knowledge). AreCounts 1 k.counts) rep.knowledge counted) ∙ sym rep.knowledge)
  where
    H : List Carried
    H = map as_carried history

    K : Knowledge
    K = known objects history

    g : Sight
    g = held_sight objects node.number H nothing

pub requested : (objects : List ObjectDecl) (old new : Node) (a : Name) (want : Want) (event : Event) → AreCounts 1 old.know.counts → IsFree old.actions a want
    → event ≡ event_of old.number None [] (requested_by objects old.number old.know old.actions a want)
    → IsAtHome (requested_by objects old.number old.know old.actions a want) → DidAtHome objects (requested_by objects old.number old.know old.actions a want) old new
    → IsStepThrough objects old new (Requests (record { action = a; want = want })) None no_load event
requested objects old new a want event counted free is home done = record {
  number = done.number;
  next = λ history through rep may. is_next history rep may.0;
  represents = λ history through rep may.
      subst (λ (e : Event). Represents objects (record { event = e; mail = None; load = no_load } ∷ history) new) (sym (is_next history rep may.0))
      (home_keeps objects history (Requests (record { action = a; want = want })) (requested_by objects old.number old.know old.actions a want) old new
      (request_is objects history old a want rep counted may.0 free) home done counted (through_orderly objects old.number history through)
      (put_is_asked objects old.number (held_sight objects old.number (map as_carried history) nothing) (Requests (record { action = a; want = want })) None no_load may) rep);
}
  where
    is_next : (history : List Received) → Represents objects history old → home_node a ≡ old.number
        → event ≡ node_step objects old.number (map as_carried history) (Requests (record { action = a; want = want })) None nothing
    is_next history rep at_home = is ∙ ap (event_of old.number None []) (sym (request_is objects history old a want rep counted at_home free))

-- one that is stopped
pub stopped : (objects : List ObjectDecl) (old new : Node) (a : Name) (want : Want) (reason : Reason) (event : Event) → AreCounts 1 old.know.counts → IsFree old.actions a want
    → Some reason ≡ known_orphan old.know a (pairs_of (deps old.actions a)) → event ≡ event_of old.number None [] (nothing_but (notes.Stopped a reason))
    → DidAtHome objects (nothing_but (notes.Stopped a reason)) old new
    → IsStepThrough objects old new (Requests (record { action = a; want = want })) None no_load event
stopped objects old new a want reason event counted free orphan is done =
    let same : nothing_but (notes.Stopped a reason) ≡ requested_by objects old.number old.know old.actions a want =
    ap (λ r. stopped_by a r (wanted_by objects old.number old.know old.actions a want)) orphan in
    requested objects old new a want event counted free (is ∙ ap (event_of old.number None []) same)
    (subst IsAtHome same (record { alone = refl; begins = λ f. refl })) (subst (λ (d : Did). DidAtHome objects d old new) same done)

-- and one that goes on
pub went_on : (objects : List ObjectDecl) (old new : Node) (a : Name) (want : Want) (event : Event) → AreCounts 1 old.know.counts → IsFree old.actions a want
    → None ≡ known_orphan old.know a (pairs_of (deps old.actions a)) → event ≡ event_of old.number None [] (wanted_by objects old.number old.know old.actions a want)
    → IsAtHome (wanted_by objects old.number old.know old.actions a want) → DidAtHome objects (wanted_by objects old.number old.know old.actions a want) old new
    → IsStepThrough objects old new (Requests (record { action = a; want = want })) None no_load event
went_on objects old new a want event counted free none is home done =
    let same : wanted_by objects old.number old.know old.actions a want ≡ requested_by objects old.number old.know old.actions a want =
    ap (λ r. stopped_by a r (wanted_by objects old.number old.know old.actions a want)) none in
    requested objects old new a want event counted free (is ∙ ap (event_of old.number None []) same)
    (subst IsAtHome same home) (subst (λ (d : Did). DidAtHome objects d old new) same done)
