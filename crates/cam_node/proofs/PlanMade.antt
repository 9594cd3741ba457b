-- What is made of a letter that concerns the actions at home alone is its plan.
use Rattle.std.proofs.Common.{◌≡◌, ◌≤◌, true, false, List, [], ◌++◌, map, Option, Some, None, sym, ap, ◌∙◌, subst}
use Rattle.std.specs.List.{list_all}
use Rattle.std.proofs.lemmas.List.{append-nil}
use Rattle.cam_type.specs.declared.ObjectDecl.{ObjectDecl}
use Rattle.cam_know.specs.Knowledge.{Knowledge}
use Rattle.cam_know.specs.Known.{news}
use Rattle.cam_know.specs.Order.{told_in_order}
use Rattle.cam_event.specs.declared.Deed.{Deed}
use Rattle.cam_event.specs.declared.Event.{Event}
use Rattle.cam_event.specs.declared.Letter.{Letter}
use Rattle.cam_event.specs.declared.LetterId.{LetterId}
use Rattle.cam_event.specs.Inputs.{Receives, Mail}
use Rattle.cam_event.specs.ByPast.{event_of}
use Rattle.cam_event.specs.ByKnowledge.{new_informs}
use Rattle.cam_event.specs.HeldSites.{site}
use Rattle.cam_event.specs.Carried.{Carried, deeds_of}
use Rattle.cam_event.specs.Loads.{Load}
use Rattle.cam_event.specs.ByDeltas.{Received, as_carried}
use Rattle.cam_comman.specs.Letters.{load_on}
use Rattle.cam_tranman.specs.Keeping.{HasCounts}
use Rattle.cam_node.specs.declared.did.Doing.{Doing}
use Rattle.cam_node.specs.declared.knowing.Heard.{Heard}
use Rattle.cam_node.specs.declared.learning.Learnt.{Learnt}
use Rattle.cam_node.specs.declared.plan.Change.{Change}
use Rattle.cam_node.specs.declared.plan.Plan.{Plan}
use Rattle.cam_node.specs.declared.state.Core.{Core}
use Rattle.cam_node.specs.Represents.{Node}
use Rattle.cam_node.specs.Calls.{answers, mail_on, letters_of, AreSame}
use Rattle.cam_node.specs.Entries.{Holding, AreHoldings, deed_records}
use Rattle.cam_node.specs.AtHome.{IsAtHome, IsNoVote}
use Rattle.cam_node.specs.Log.{Logged}
use Rattle.cam_node.specs.Opened.{IsKnowledge}
use Rattle.cam_node.specs.Plans.{IsHeard, IsRecorded, IsPlanFor, as_list, held_in}
use Rattle.cam_node.specs.Standing.{HasLearnt, Stands}
use Rattle.cam_node.specs.PlanOrder.{is_served}
use Rattle.cam_node.specs.Planning.{HasReceived, IsMade}
use Rattle.cam_node.proofs.NothingAdded.{adds_nothing, alone_add, both_add, informs_add, records_behind, holdings_behind}
use Rattle.cam_node.proofs.AtHome.{all_quiet}
use Rattle.cam_node.proofs.PlanOrder.{dropping_plan, quiet_behind}
use Rattle.cam_node.proofs.HomePlans.{IsRuled, HaveDone, IsLearnt, home_step, said}

-- an event that adds nothing to the entry
pub recorded_none : (objects : List ObjectDecl) (history : List Received) (mail : Option Mail)
    (logged : Logged) (holds : Holding) (plan : Plan) (ds : List Deed)
    → plan.stepped.event.deeds ≡ ds → plan.adds ≡ None → list_all adds_nothing ds ≡ true
    → IsRecorded objects history mail logged holds plan
recorded_none objects history mail logged holds plan ds deeds none adds = record {
  records =
      (λ i. deed_records holds objects H mail ((deeds ∙ sym (append-nil ds)) i))
      ∙ records_behind holds objects H mail ds [] adds
      ∙ sym (ap as_list none);
  holdings =
      subst (λ (es : List Deed). AreHoldings holds (deeds_of H) mail (site H) logged.held es)
      (append-nil ds ∙ sym deeds)
      (holdings_behind holds (deeds_of H) mail (site H) logged.held ds [] adds tt);
}
  where
    H : List Carried
    H = map as_carried history

-- where the event stands that was made of this, so it does
abbrev pub StandsSo : List ObjectDecl → LetterId → Letter → Core → Core → Learnt → Doing → Type 0
StandsSo objects id letter first now learnt doing =
    (new : Node) → Stands doing.change (Some learnt.heard) now.knowing.known (answers now) new
    → HasLearnt (Some learnt.heard) now.knowing.known (answers now)
    (record new { actions = (answers now).actions })
    × HaveDone objects (answers first) id (mail_on letter) (load_on letter) doing.did new

pub home_plan : (objects : List ObjectDecl) (id : LetterId) (letter : Letter)
    (first core now : Core) (learnt : Learnt) (doing : Doing) (plan : Plan)
    → (1 ≤ letter.from) × (letter.from ≤ 8) → HasCounts letter.body → IsNoVote (mail_on letter)
    → IsAtHome doing.did → doing.adds ≡ None → is_served doing.change ≡ false
    → HasReceived letter first core learnt → now.knowing.known ≡ core.knowing.known
    → AreSame (answers first) (answers now)
    → IsMade now id learnt doing plan
    → IsRuled objects (answers first) id (mail_on letter) (load_on letter) doing.did
    → StandsSo objects id letter first now learnt doing → IsPlanFor objects id letter first now plan
home_plan objects id letter first core now learnt doing plan from counts vote home none unserved
    received goes_on same made ruled stands =
    dropping_plan objects (Receives id) (Some mail) load plan now.knowing.known old (answers now)
    (ap is_served made.change ∙ unserved) (ap held_in (made.adds ∙ none)) same
    (quiet_behind old.number (told_in_order load.know) old.know doing.did.deeds
    plan.stepped.event.deeds (ap (λ (e : Event). e.deeds) event_is)
    (all_quiet old.number doing.did.deeds home.alone))
    (record {
      before = received.before;
      learnt = subst IsKnowledge received.known received.after;
      heard =
          subst (IsHeard (Some mail) load old.know) (sym made.heard)
          (received.news ∙ ap (λ (k : Knowledge). news k old.know) received.known);
      step = λ new is.
          let so = stands new (as_made new is) in
          home_step objects old (answers now) new id mail load learnt.heard now.knowing.known doing.did
          plan.stepped.event same from counts vote home
          learns event_is ruled so.0 so.1;
      letters = λ new is.
          said (answers now) new learnt.heard now.knowing.known plan.stepped.letters doing.did.sent
          made.letters (stands new (as_made new is)).0
          ∙ ap (λ (e : Event). letters_of new e.sent) (sym event_is);
      recorded = λ history logged holds through rep may keeps order held.
          recorded_none objects history (Some mail) logged holds plan (first_informs ++ doing.did.deeds)
          (ap (λ (e : Event). e.deeds) event_is)
          (made.adds ∙ none) (both_add first_informs doing.did.deeds
          (informs_add old.number (told_in_order load.know) old.know)
          (alone_add doing.did.deeds home.alone));
    })
  where
    old : Node
    old = answers first

    mail : Mail
    mail = mail_on letter

    load : Load
    load = load_on letter

    first_informs : List Deed
    first_informs = new_informs old.number (told_in_order load.know) old.know

    event_is : plan.stepped.event ≡ event_of old.number (Some id) first_informs doing.did
    event_is = made.event ∙ (λ i. event_of (same.number i) (Some id) (received.informs i) doing.did)

    learns : IsLearnt mail load learnt.heard now.knowing.known old
    learns = subst (λ (k : Knowledge). IsLearnt mail load learnt.heard k old) (sym goes_on)
        (record { knows = received.known; news = received.news; places = received.places })

    as_made : (new : Node) → Stands plan.change plan.heard now.knowing.known (answers now) new
        → Stands doing.change (Some learnt.heard) now.knowing.known (answers now) new
    as_made new is =
        subst (λ (c : Change). Stands c (Some learnt.heard) now.knowing.known (answers now) new)
        made.change
        (subst (λ (h : Option Heard). Stands plan.change h now.knowing.known (answers now) new)
        made.heard is)
