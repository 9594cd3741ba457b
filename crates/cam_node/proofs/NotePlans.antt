-- The plan of a letter by whose rule nothing happens but a note, where the families go on with it.
use Rattle.std.proofs.Common.{◌≡◌, ◌≤◌, false, List, [], ◌∷◌, length, map, Option, Some, None, refl, sym, ap, ◌∙◌, subst}
use Rattle.std.proofs.lemmas.List.{append-nil}
use Rattle.cam_type.specs.declared.ObjectDecl.{ObjectDecl}
use Rattle.cam_know.specs.Knowledge.{Knowledge}
use Rattle.cam_know.specs.Known.{knows_abort, knows_commit, news}
use Rattle.cam_know.specs.Order.{told_in_order}
use Rattle.cam_event.specs.declared.Deed.{Deed}
use Rattle.cam_event.specs.declared.Event.{Event}
use Rattle.cam_event.specs.declared.Letter.{Letter}
use Rattle.cam_event.specs.declared.LetterId.{LetterId}
use Rattle.cam_event.specs.declared.Note.{Note}
use Rattle.cam_event.specs.Inputs.{Receives, Mail}
use Rattle.cam_event.specs.Rules.{Did, nothing_but}
use Rattle.cam_event.specs.ByPast.{event_of}
use Rattle.cam_event.specs.ByKnowledge.{new_informs, node_step}
use Rattle.cam_event.specs.Loads.{Load, noted_at}
use Rattle.cam_event.specs.ByDeltas.{Received, as_carried}
use Rattle.cam_comman.specs.Letters.{load_on}
use Rattle.cam_tranman.specs.Calls as tranman
use Rattle.cam_tranman.specs.Keeping.{HasCounts}
use Rattle.cam_server.specs.Calls as server
use Rattle.cam_node.specs.declared.knowing.Heard.{Heard}
use Rattle.cam_node.specs.declared.learning.Learnt.{Learnt}
use Rattle.cam_node.specs.declared.plan.Change.{Change}
use Rattle.cam_node.specs.declared.plan.Plan.{Plan}
use Rattle.cam_node.specs.declared.state.Core.{Core}
use Rattle.cam_node.specs.Represents.{Node, Represents}
use Rattle.cam_node.specs.Calls.{answers, letters_of, mail_on, AreSame}
use Rattle.cam_node.specs.Halting.{IsThrough}
use Rattle.cam_node.specs.Lawful.{MayBePut}
use Rattle.cam_node.specs.Opened.{IsKnowledge}
use Rattle.cam_node.specs.Plans.{IsHeard, IsPlanFor, held_in}
use Rattle.cam_node.specs.Standing.{HasLearnt, Stands}
use Rattle.cam_node.specs.PlanOrder.{is_served}
use Rattle.cam_node.specs.Planning.{HasReceived, IsMade}
use Rattle.cam_node.specs.Stepping.{sight_before}
use Rattle.cam_node.proofs.HomePlans.{informed_before, IsRuled}
use Rattle.cam_node.proofs.NothingAdded.{informs_add}
use Rattle.cam_node.proofs.PlanMade.{recorded_none}
use Rattle.cam_node.proofs.PlanOrder.{dropping_plan, quiet_behind}
use Rattle.cam_node.proofs.VoteFamilies.{GoOn}
use Rattle.cam_node.proofs.HeardKeeps.{HasHeard, heard_keeps}

-- where the event stands, all but the families has only heard, and the families go on
abbrev pub StandsNoted : List ObjectDecl → LetterId → Letter → Core → Core → Learnt → Change
    → Type 0
StandsNoted objects id letter first now learnt change =
    (new : Node) → Stands change (Some learnt.heard) now.knowing.known (answers now) new
    → HasLearnt (Some learnt.heard) now.knowing.known (answers now)
    (record new { families = (answers now).families })
    × GoOn objects (answers first) id (mail_on letter) (load_on letter) new.families

pub note_plan : (objects : List ObjectDecl) (id : LetterId) (letter : Letter)
    (first core now : Core)
    (learnt : Learnt) (note : Note) (change : Change) (plan : Plan)
    → (1 ≤ letter.from) × (letter.from ≤ 8) → HasCounts letter.body
    → is_served change ≡ false → HasReceived letter first core learnt
    → now.knowing.known ≡ core.knowing.known → AreSame (answers first) (answers now)
    → IsMade now id learnt (record { did = nothing_but note; change = change; adds = None }) plan
    → IsRuled objects (answers first) id (mail_on letter) (load_on letter) (nothing_but note)
    → StandsNoted objects id letter first now learnt change
    → IsPlanFor objects id letter first now plan
note_plan objects id letter first core now learnt note change plan from counts unserved received
    goes_on same made ruled_so stands =
    dropping_plan objects (Receives id) (Some mail) load plan now.knowing.known old (answers now)
    (ap is_served made.change ∙ unserved) (ap held_in made.adds) same
    (quiet_behind old.number (told_in_order load.know) old.know [] plan.stepped.event.deeds
    (ap (λ (e : Event). e.deeds) event_is) refl)
    (record {
      before = received.before;
      learnt = subst IsKnowledge received.known received.after;
      heard =
          subst (IsHeard (Some mail) load old.know) (sym made.heard)
          (received.news ∙ ap (λ (k : Knowledge). news k old.know) received.known);
      step = λ new is.
          let at = stands new (as_made new is) in
          record {
            number = at.0.number ∙ same.number;
            next = λ history through rep may. is_next history through rep may;
            represents = λ history through rep may.
                subst (λ (e : Event). Represents objects
                (record { event = e; mail = Some mail; load = load } ∷ history) new)
                (sym (is_next history through rep may))
                (heard_keeps objects history id mail load old new
                (ap (λ (d : Did). d.deeds) (ruled_so history through rep may))
                (has_heard new at.0 may.addressed) (at.1 history through rep may) counts from through
                may rep);
          };
      letters = λ new is. made.letters ∙ ap (λ (e : Event). letters_of new e.sent) (sym event_is);
      recorded = λ history logged holds through rep may keeps given held.
          recorded_none objects history (Some mail) logged holds plan first_informs
          (ap (λ (e : Event). e.deeds) event_is ∙ append-nil first_informs) made.adds
          (informs_add old.number (told_in_order load.know) old.know);
    })
  where
    old : Node
    old = answers first

    mail : Mail
    mail = mail_on letter

    load : Load
    load = load_on letter

    first_informs : List Deed
    first_informs = new_informs old.number (told_in_order load.know) old.know

    event_is : plan.stepped.event ≡ event_of old.number (Some id) first_informs (nothing_but note)
    event_is = made.event
        ∙ (λ i. event_of (same.number i) (Some id) (received.informs i) (nothing_but note))

    is_next : (history : List Received) → IsThrough objects old.number history
        → Represents objects history old
        → MayBePut objects old.number (sight_before objects old.number history) (Receives id)
        (Some mail) load
        → plan.stepped.event
        ≡ node_step objects old.number (map as_carried history) (Receives id) (Some mail)
        (told_in_order load.know)
    is_next history through rep may =
        event_is
        ∙ (λ i. event_of old.number (Some id)
        (new_informs old.number (told_in_order load.know) (rep.knowledge i))
        (sym (ruled_so history through rep may) i))

    as_made : (new : Node) → Stands plan.change plan.heard now.knowing.known (answers now) new
        → Stands change (Some learnt.heard) now.knowing.known (answers now) new
    as_made new is =
        subst (λ (c : Change). Stands c (Some learnt.heard) now.knowing.known (answers now) new)
        made.change
        (subst (λ (h : Option Heard). Stands plan.change h now.knowing.known (answers now) new)
        made.heard is)

    has_heard : (new : Node)
        → HasLearnt (Some learnt.heard) now.knowing.known (answers now)
        (record new { families = (answers now).families })
        → letter.to ≡ first.number → HasHeard mail load old new
    has_heard new has addressed = record {
      number = has.number ∙ same.number;
      count = has.count ∙ same.count;
      know = has.know ∙ goes_on ∙ received.known;
      places =
          has.places_are ∙ received.places
          ∙ (λ i. noted_at (addressed i) (length (sym (has.know ∙ goes_on) i).outcomes) old.places
          letter.from load);
      actions = subst (tranman.AreSame old.actions) (sym has.actions) same.actions;
      server =
          subst (λ (k : Knowledge). server.AreInformed (knows_abort k) (knows_commit k) old.server
          new.server)
          (received.news ∙ ap (λ (k : Knowledge). news k old.know) (sym (has.know ∙ goes_on)))
          (informed_before (knows_abort learnt.heard.news) (knows_commit learnt.heard.news)
          old.server
          (answers now).server new.server same.server has.server);
    }
