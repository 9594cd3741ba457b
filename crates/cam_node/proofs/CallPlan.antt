-- A call that comes: what is made of it is its plan.
use Rattle.std.proofs.Common.{◌≡◌, ◌≤◌, List, ◌++◌, map, Option, Some, inl, inr, sym, ap, ◌∙◌}
use Rattle.std.proofs.Common.{subst}
use Rattle.cam_type.specs.declared.ObjectDecl.{ObjectDecl}
use Rattle.cam_know.specs.Knowledge.{Knowledge}
use Rattle.cam_know.specs.Known.{news}
use Rattle.cam_know.specs.Order.{told_in_order}
use Rattle.cam_event.specs.declared.Deed.{Deed}
use Rattle.cam_event.specs.declared.Event.{Event}
use Rattle.cam_event.specs.declared.Letter.{Letter}
use Rattle.cam_event.specs.declared.LetterId.{LetterId}
use Rattle.cam_event.specs.Inputs.{Receives, Mail}
use Rattle.cam_event.specs.ByPast.{event_of}
use Rattle.cam_event.specs.ByKnowledge.{new_informs}
use Rattle.cam_event.specs.Loads.{Load}
use Rattle.cam_comman.specs.Letters.{load_on, IsWithin}
use Rattle.cam_server.specs.declared.Performed.{Performed}
use Rattle.cam_server.specs.Calls.{Asked}
use Rattle.cam_server.specs.Steps.{did_performed}
use Rattle.cam_node.specs.declared.did.Doing.{Doing}
use Rattle.cam_node.specs.declared.knowing.Heard.{Heard}
use Rattle.cam_node.specs.declared.learning.Learnt.{Learnt}
use Rattle.cam_node.specs.declared.plan.Change.{Change}
use Rattle.cam_node.specs.declared.plan.Plan.{Plan}
use Rattle.cam_node.specs.declared.state.Core.{Core}
use Rattle.cam_node.specs.Represents.{Node}
use Rattle.cam_node.specs.Calls.{answers, mail_on, letter_as, letters_of}
use Rattle.cam_node.specs.Opened.{IsKnowledge}
use Rattle.cam_node.specs.Plans.{IsHeard, IsPlanFor, IsPlanGiven}
use Rattle.cam_node.specs.Standing.{Stands, MayStand, MayChange}
use Rattle.cam_node.specs.Plans.{KeepsOrderFor, nothing_given}
use Rattle.cam_node.specs.Standing.{HasRoom, places_heard}
use Rattle.cam_node.specs.Planning.{HasReceived, IsMade}
use Rattle.cam_node.specs.Served.{IsCallOn, ChangesTo, IsDone, CallStands}
use Rattle.cam_node.proofs.CallComes.{call_comes}
use Rattle.cam_node.proofs.NothingAdded.{both_add, informs_add}
use Rattle.cam_node.proofs.PlanMade.{recorded_none}
use Rattle.cam_node.proofs.CallDeeds.{calls_add}
use Rattle.cam_node.proofs.CallOrder.{stood_order}
use Rattle.cam_node.proofs.PlanOrder.{given_in_order}
use Rattle.cam_node.proofs.CallStands.{call_stands, knows_then}

-- it may stand
pub call_may : (plan : Plan) (id : LetterId) (letter : Letter) (first core : Core) (learnt : Learnt)
    (doing : Doing) (asked : Asked) (done : Performed)
    → HasReceived letter first core learnt
    → IsDone learnt.heard.news core.knowing.known asked (answers core).server doing done
    → IsMade core id learnt doing plan → MayStand plan core
call_may plan id letter first core learnt doing asked done received is made = record {
  room = subst (λ (h : Option Heard). HasRoom h core.server) (sym made.heard) received.room;
  within = subst (λ (h : Option Heard). IsWithin core.knowing.known
      (places_heard h core.knowing.places)) (sym made.heard) received.within;
  change =
      subst (λ (h : Option Heard). MayChange plan.change h core) (sym made.heard)
      (subst (λ (c : Change). MayChange c (Some learnt.heard) core) (sym made.change)
      (by is.change));
}
  where
    by : ChangesTo doing.change learnt.heard.news core.knowing.known asked done
        (answers core).server → MayChange doing.change (Some learnt.heard) core
    by (inl tested) = subst (λ (c : Change). MayChange c (Some learnt.heard) core) (sym tested.0) tt
    by (inr served) = subst (λ (c : Change). MayChange c (Some learnt.heard) core) (sym served.1) tt

-- what its event is, and what that makes of the node
call_event : (id : LetterId) (letter : Letter) (first core : Core) (learnt : Learnt)
    (doing : Doing) (plan : Plan) (asked : Asked) (done : Performed)
    → HasReceived letter first core learnt
    → IsDone learnt.heard.news core.knowing.known asked (answers core).server doing done
    → IsMade core id learnt doing plan
    → plan.stepped.event
    ≡ event_of (answers first).number (Some id)
    (new_informs (answers first).number (told_in_order letter.know) (answers first).know)
    (did_performed asked done)
call_event id letter first core learnt doing plan asked done received is made =
    made.event
    ∙ (λ i. event_of (received.same.number i) (Some id) (received.informs i) (is.did i))

as_made : (id : LetterId) (core : Core) (learnt : Learnt) (doing : Doing) (plan : Plan)
    (new : Node) → IsMade core id learnt doing plan
    → Stands plan.change plan.heard core.knowing.known (answers core) new
    → Stands doing.change (Some learnt.heard) core.knowing.known (answers core) new
as_made id core learnt doing plan new made stands =
    subst (λ (c : Change). Stands c (Some learnt.heard) core.knowing.known (answers core) new)
    made.change
    (subst (λ (h : Option Heard). Stands plan.change h core.knowing.known (answers core) new)
    made.heard stands)

call_then : (id : LetterId) (letter : Letter) (first core : Core) (learnt : Learnt)
    (doing : Doing) (plan : Plan) (asked : Asked) (done : Performed) → IsCallOn letter asked
    → HasReceived letter first core learnt
    → IsDone learnt.heard.news core.knowing.known asked (answers core).server doing done
    → IsMade core id learnt doing plan
    → (new : Node) → Stands plan.change plan.heard core.knowing.known (answers core) new
    → CallStands (mail_on letter) (load_on letter) asked done (answers first) new
call_then id letter first core learnt doing plan asked done call received is made new stands =
    call_stands (mail_on letter) (load_on letter) asked done (answers first)
    (answers core) new learnt.heard core.knowing.known doing.change received.same
    (record { knows = received.known; news = received.news; places = received.places }) call
    is.change
    (as_made id core learnt doing plan new made stands)

-- The order of what the log holds and of what is live goes on with it,
pub call_order : (objects : List ObjectDecl) (id : LetterId) (letter : Letter) (first core : Core)
    (learnt : Learnt) (doing : Doing) (plan : Plan)
    (asked : Asked) (done : Performed) → IsCallOn letter asked
    → HasReceived letter first core learnt
    → IsDone learnt.heard.news core.knowing.known asked (answers core).server doing done
    → IsMade core id learnt doing plan
    → KeepsOrderFor objects id letter first core plan
call_order objects id letter first core learnt doing plan asked done call received is made =
    stood_order objects id letter first core asked done plan
    (call_event id letter first core learnt doing plan asked done received is made)
    (made.adds ∙ is.adds)
    (call_then id letter first core learnt doing plan asked done call received is made)

-- and it is planned.
pub call_plan : (objects : List ObjectDecl) (id : LetterId) (letter : Letter) (first core : Core)
    (learnt : Learnt) (doing : Doing) (plan : Plan)
    (asked : Asked) (done : Performed) → (1 ≤ letter.from) × (letter.from ≤ 8)
    → IsCallOn letter asked → HasReceived letter first core learnt
    → IsDone learnt.heard.news core.knowing.known asked (answers core).server doing done
    → IsMade core id learnt doing plan
    → IsPlanFor objects id letter first core plan
call_plan objects id letter first core learnt doing plan asked done from call received is made =
    record {
      given = given_in_order objects (Receives id) (Some mail) load plan core.knowing.known old
          (answers core) bare;
      order =
          call_order objects id letter first core learnt doing plan asked done call received is made;
    }
  where
    old : Node
    old = answers first

    mail : Mail
    mail = mail_on letter

    load : Load
    load = load_on letter

    first_informs : List Deed
    first_informs = new_informs old.number (told_in_order load.know) old.know

    event_is : plan.stepped.event ≡ event_of old.number (Some id) first_informs
        (did_performed asked done)
    event_is = call_event id letter first core learnt doing plan asked done received is made

    bare : IsPlanGiven nothing_given objects (Receives id) (Some mail) load plan core.knowing.known
        old (answers core)
    bare = record {
      before = received.before;
      learnt = subst IsKnowledge received.known received.after;
      heard =
          subst (IsHeard (Some mail) load old.know) (sym made.heard)
          (received.news ∙ ap (λ (k : Knowledge). news k old.know) received.known);
      step = λ new stands. call_comes objects old new id mail load asked done plan.stepped.event from
          event_is
          (call_then id letter first core learnt doing plan asked done call received is made new
          stands);
      letters = λ new stands.
          let has =
          knows_then learnt.heard.news core.knowing.known asked done
          (answers core) new learnt.heard doing.change is.change
          (as_made id core learnt doing plan new made stands) in
          made.letters
          ∙ (λ i. map (letter_as (sym has.know i) (sym has.places_are i) (sym has.number i)
          (sym has.count i)) doing.did.sent)
          ∙ ap (λ (e : Event). letters_of new e.sent) (sym made.event);
      recorded = λ history logged holds through rep may keeps order held.
          recorded_none objects history (Some mail) logged holds plan
          (first_informs ++ (did_performed asked done).deeds) (ap (λ (e : Event). e.deeds) event_is)
          (made.adds ∙ is.adds)
          (both_add first_informs (did_performed asked done).deeds
          (informs_add old.number (told_in_order load.know) old.know) (calls_add asked done));
    }
