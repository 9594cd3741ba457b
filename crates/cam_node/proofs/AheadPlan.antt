-- A call that goes ahead of its news: what is made of it is its plan.
use Rattle.std.proofs.Common.{◌≡◌, ℕ, ◌≤◌, List, ◌++◌, map}
use Rattle.std.proofs.Common.{length, Option, Some, sym, ap, ◌∙◌, subst}
use Rattle.cam_type.specs.declared.ObjectDecl.{ObjectDecl}
use Rattle.cam_know.specs.Knowledge.{Knowledge}
use Rattle.cam_know.specs.Known.{news}
use Rattle.cam_know.specs.Order.{told_in_order}
use Rattle.cam_event.specs.declared.Deed.{Deed}
use Rattle.cam_event.specs.declared.Event.{Event}
use Rattle.cam_event.specs.declared.Letter.{Letter}
use Rattle.cam_event.specs.declared.LetterId.{LetterId}
use Rattle.cam_event.specs.Inputs.{Receives, Mail}
use Rattle.cam_event.specs.ByPast.{event_of}
use Rattle.cam_event.specs.ByKnowledge.{new_informs}
use Rattle.cam_event.specs.Loads.{Load}
use Rattle.cam_comman.specs.Letters.{load_on, IsWithin}
use Rattle.cam_server.specs.Calls.{Asked}
use Rattle.cam_server.specs.Ahead.{AreApart}
use Rattle.cam_server.specs.Steps.{did_performed}
use Rattle.cam_node.specs.declared.knowing.Heard.{Heard}
use Rattle.cam_node.specs.declared.learning.Learnt.{Learnt}
use Rattle.cam_node.specs.declared.plan.Change.{Change}
use Rattle.cam_node.specs.declared.plan.Plan.{Plan}
use Rattle.cam_node.specs.declared.state.Core.{Core}
use Rattle.cam_node.specs.Represents.{Node}
use Rattle.cam_node.specs.Calls.{answers, mail_on, letter_as, letters_of}
use Rattle.cam_node.specs.Opened.{IsKnowledge}
use Rattle.cam_node.specs.Plans.{IsHeard, IsPlanFor, IsPlanGiven}
use Rattle.cam_node.specs.Standing.{MayStand, MayChange}
use Rattle.cam_node.specs.Plans.{KeepsOrderFor, nothing_given}
use Rattle.cam_node.specs.Standing.{HasRoom, places_heard}
use Rattle.cam_node.specs.Planning.{HasReceived, IsMade}
use Rattle.cam_node.specs.Served.{IsCallOn}
use Rattle.cam_node.specs.Ahead.{HasGoneAhead}
use Rattle.cam_node.proofs.CallComes.{call_comes}
use Rattle.cam_node.proofs.NothingAdded.{both_add, informs_add}
use Rattle.cam_node.proofs.PlanMade.{recorded_none}
use Rattle.cam_node.proofs.CallDeeds.{calls_add}
use Rattle.cam_node.proofs.CallOrder.{stood_order}
use Rattle.cam_node.proofs.PlanOrder.{given_in_order}
use Rattle.cam_node.proofs.AheadStands.{ahead_event, ahead_then, as_made}

-- it may stand
pub ahead_may : (letter : Letter) (first core now : Core) (id : LetterId) (learnt : Learnt)
    (asked : Asked) (plan : Plan)
    → HasReceived letter first core learnt → HasGoneAhead core now id learnt asked plan
    → MayStand plan now
ahead_may letter first core now id learnt asked plan received gone = record {
  room = subst (λ (h : Option Heard). HasRoom h now.server) (sym made.heard)
      (subst (λ (n : ℕ). length learnt.heard.news.outcomes ≤ n) (sym gone.spare) received.room);
  within = subst (λ (h : Option Heard). IsWithin now.knowing.known
      (places_heard h now.knowing.places)) (sym made.heard)
      (subst (λ (k : Knowledge). IsWithin k learnt.heard.places)
      (λ i. (sym gone.knowing i).known) received.within);
  change = subst (λ (c : Change). MayChange c plan.heard now)
      (sym (made.change ∙ gone.planned.change)) tt;
}
  where
    made : IsMade now id learnt gone.planned.doing plan
    made = gone.planned.made

-- The order of what the log holds and of what is live goes on with it,
pub ahead_order : (objects : List ObjectDecl) (id : LetterId) (letter : Letter)
    (first core now : Core) (learnt : Learnt) (asked : Asked) (plan : Plan)
    → IsCallOn letter asked → HasReceived letter first core learnt
    → AreApart learnt.heard.news (answers core).server.table.site
    → HasGoneAhead core now id learnt asked plan
    → KeepsOrderFor objects id letter first now plan
ahead_order objects id letter first core now learnt asked plan call received apart gone =
    stood_order objects id letter first now asked gone.done plan
    (ahead_event id letter first core now learnt asked plan received gone)
    (gone.planned.made.adds ∙ gone.planned.adds)
    (ahead_then id letter first core now learnt asked plan call received apart gone)

-- and it is planned.
pub ahead_plan : (objects : List ObjectDecl) (id : LetterId) (letter : Letter)
    (first core now : Core) (learnt : Learnt) (asked : Asked) (plan : Plan)
    → (1 ≤ letter.from) × (letter.from ≤ 8) → IsCallOn letter asked
    → HasReceived letter first core learnt
    → AreApart learnt.heard.news (answers core).server.table.site
    → HasGoneAhead core now id learnt asked plan
    → IsPlanFor objects id letter first now plan
ahead_plan objects id letter first core now learnt asked plan from call received apart gone =
    record {
      given = given_in_order objects (Receives id) (Some mail) load plan now.knowing.known old
          (answers now) bare;
      order =
          ahead_order objects id letter first core now learnt asked plan call received apart gone;
    }
  where
    old : Node
    old = answers first

    mail : Mail
    mail = mail_on letter

    load : Load
    load = load_on letter

    first_informs : List Deed
    first_informs = new_informs old.number (told_in_order load.know) old.know

    event_is : plan.stepped.event ≡ event_of old.number (Some id) first_informs
        (did_performed asked gone.done)
    event_is = ahead_event id letter first core now learnt asked plan received gone

    bare : IsPlanGiven nothing_given objects (Receives id) (Some mail) load plan now.knowing.known
        old (answers now)
    bare = record {
      before = received.before;
      learnt = subst IsKnowledge received.known received.after;
      heard =
          subst (IsHeard (Some mail) load old.know) (sym gone.planned.made.heard)
          (received.news ∙ ap (λ (k : Knowledge). news k old.know) received.known);
      step = λ new stands. call_comes objects old new id mail load asked gone.done plan.stepped.event
          from event_is
          (ahead_then id letter first core now learnt asked plan call received apart gone new stands);
      letters = λ new stands.
          let has = as_made id core now learnt asked plan new gone stands in
          gone.planned.made.letters
          ∙ (λ i. map (letter_as (sym has.know i) (sym has.places_are i) (sym has.number i)
          (sym has.count i)) gone.planned.doing.did.sent)
          ∙ ap (λ (e : Event). letters_of new e.sent) (sym gone.planned.made.event);
      recorded = λ history logged holds through rep may keeps order held.
          recorded_none objects history (Some mail) logged holds plan
          (first_informs ++ (did_performed asked gone.done).deeds)
          (ap (λ (e : Event). e.deeds) event_is)
          (gone.planned.made.adds ∙ gone.planned.adds)
          (both_add first_informs (did_performed asked gone.done).deeds
          (informs_add old.number (told_in_order load.know) old.know) (calls_add asked gone.done));
    }
