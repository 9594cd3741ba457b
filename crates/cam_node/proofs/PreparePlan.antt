-- What is made of a finish of a top action that is prepared is its plan.
use Rattle.std.proofs.Common.{◌≡◌, ℕ, ◌≤◌, true, false, ◌||◌, List, [], length, map, Option, Some, None, refl, sym, ap, ◌∙◌, subst}
use Rattle.std.proofs.lemmas.List.{append-nil}
use Rattle.cam_names.specs.declared.name.Name.{Name}
use Rattle.cam_names.specs.Names.{name_eq, is_top}
use Rattle.cam_names.specs.Dependencies.{pairs_of}
use Rattle.cam_type.specs.declared.ObjectDecl.{ObjectDecl}
use Rattle.cam_know.specs.Knowledge.{Knowledge}
use Rattle.cam_know.specs.Known.{knows_abort, knows_commit, news}
use Rattle.cam_know.specs.Order.{told_in_order}
use Rattle.cam_know.specs.Orphans.{known_orphan}
use Rattle.cam_event.specs.declared.Event.{Event}
use Rattle.cam_event.specs.declared.Letter.{Letter}
use Rattle.cam_event.specs.declared.LetterId.{LetterId}
use Rattle.cam_event.specs.Inputs.{Receives, Mail}
use Rattle.cam_event.specs.ByPast.{event_of}
use Rattle.cam_event.specs.ByKnowledge.{new_informs}
use Rattle.cam_event.specs.Loads.{Load, noted_at}
use Rattle.cam_comman.specs.Letters.{load_on}
use Rattle.cam_tranman.specs.Actions.{Actions, deps}
use Rattle.cam_tranman.specs.Calls as tranman
use Rattle.cam_server.specs.Server.{Server}
use Rattle.cam_server.specs.Calls as server
use Rattle.cam_node.specs.declared.knowing.Heard.{Heard}
use Rattle.cam_node.specs.declared.learning.Learnt.{Learnt}
use Rattle.cam_node.specs.declared.plan.Change.{Change}
use Rattle.cam_node.specs.declared.plan.Plan.{Plan}
use Rattle.cam_node.specs.declared.state.Core.{Core}
use Rattle.cam_node.specs.Represents.{Node}
use Rattle.cam_node.specs.Calls.{answers, mail_on, letter_as, letters_of, AreSame}
use Rattle.cam_node.specs.DecideRules.{IsFinish, is_closed, prepare_to, prepared_by}
use Rattle.cam_node.specs.Opened.{IsKnowledge}
use Rattle.cam_node.specs.Plans.{IsHeard, IsPlanFor, held_in}
use Rattle.cam_node.specs.Standing.{HasLearnt, Stands, preparing}
use Rattle.cam_node.specs.PlanOrder.{is_served}
use Rattle.cam_node.specs.Planning.{HasReceived, IsMade}
use Rattle.cam_node.specs.Preparing.{HasPrepared, HasBegun}
use Rattle.cam_node.proofs.Idle.{node_same}
use Rattle.cam_node.proofs.HomePlans.{informed_before}
use Rattle.cam_node.proofs.NothingAdded.{informs_add}
use Rattle.cam_node.proofs.PlanMade.{recorded_none}
use Rattle.cam_node.proofs.PlanOrder.{dropping_plan, quiet_behind}
use Rattle.cam_node.proofs.LetterPlans.{same_then, orphan_as}
use Rattle.cam_node.proofs.TopPlans.{top_parent, late_as}
use Rattle.cam_node.proofs.Prepares.{top_is_prepared}

-- A letter was received, and then room made for the family.
record IsReady (letter : Letter) (first core now : Core) (learnt : Learnt) : Type 0 where
  received : HasReceived letter first core learnt
  knows : now.knowing.known ≡ core.knowing.known
  same : AreSame (answers first) (answers now)
  acts : (answers now).actions ≡ (answers core).actions

prepared_node : (letter : Letter) (f : Name) (first core now : Core) (learnt : Learnt) (mid new : Node)
    → IsReady letter first core now learnt
    → letter.to ≡ first.number → HasLearnt (Some learnt.heard) now.knowing.known (answers now) mid
    → HasBegun f mid new
    → HasPrepared f (mail_on letter) (load_on letter) (answers first) new
prepared_node letter f first core now learnt mid new is addressed has begun = record {
  number = begun.number ∙ has.number ∙ is.same.number;
  count = begun.count ∙ has.count ∙ is.same.count;
  know = begun.know ∙ has.know ∙ is.knows ∙ is.received.known;
  noted =
      begun.places ∙ has.places_are ∙ is.received.places
      ∙ (λ i. noted_at (addressed i) (length (is.received.known i).outcomes) old.places letter.from (load_on letter));
  actions =
      subst (λ (actions : Actions). tranman.AreSame old.actions actions) (sym (begun.actions ∙ has.actions ∙ is.acts ∙ is.received.actions))
      (node_same old).actions;
  families = record {
    preparing = λ g.
        begun.families.preparing g
        ∙ (λ i. name_eq f g || (has.families i).is_preparing g) ∙ ap (λ b. name_eq f g || b) (is.same.families.preparing g);
    votes = λ g m c. begun.families.votes g m c ∙ (λ i. (has.families i).has_vote g m c) ∙ is.same.families.votes g m c;
    secured = λ g. begun.families.secured g ∙ (λ i. (has.families i).is_secured g) ∙ is.same.families.secured g;
  };
  server =
      subst (λ (k : Knowledge). server.AreInformed (knows_abort k) (knows_commit k) old.server new.server)
      (is.received.news ∙ ap (λ (k : Knowledge). news k old.know) is.received.known)
      (subst (λ (s : Server). server.AreInformed (knows_abort learnt.heard.news) (knows_commit learnt.heard.news) old.server s) (sym begun.server)
      (informed_before (knows_abort learnt.heard.news) (knows_commit learnt.heard.news) old.server (answers now).server mid.server is.same.server
      has.server));
}
  where
    old : Node
    old = answers first

pub top_prepared_plan : (objects : List ObjectDecl) (id : LetterId) (letter : Letter) (first core now : Core) (learnt : Learnt) (f : Name) (counts : List ℕ) (plan : Plan)
    → (1 ≤ letter.from) × (letter.from ≤ 8) → IsFinish f counts letter.body → is_top f ≡ true
    → length counts ≡ 8 → HasReceived letter first core learnt
    → is_closed core.count core.knowing.known f || (answers core).families.is_preparing f ≡ false
    → None ≡ known_orphan core.knowing.known f (pairs_of (deps (answers core).actions f))
    → AreSame (answers core) (answers now) → (answers now).actions ≡ (answers core).actions
    → now.knowing.known ≡ core.knowing.known
    → IsMade now id learnt (preparing f (prepare_to f (deps (answers core).actions f))) plan
    → IsPlanFor objects id letter first now plan
top_prepared_plan objects id letter first core now learnt f counts plan from is top eight received
    in_time alive same acts knows made =
    dropping_plan objects (Receives id) (Some mail) load plan now.knowing.known old (answers now)
    (ap is_served made.change) (ap held_in made.adds) ready.same
    (quiet_behind old.number (told_in_order load.know) old.know [] plan.stepped.event.deeds
    (ap (λ (e : Event). e.deeds) event_is) refl)
    (record {
      before = received.before;
      learnt = subst IsKnowledge received.known received.after;
      heard =
          subst (IsHeard (Some mail) load old.know) (sym made.heard)
          (received.news ∙ ap (λ (k : Knowledge). news k old.know) received.known);
      step = λ new stands.
          let at = as_made new stands in
          top_is_prepared objects old new id mail load f is.0 counts plan.stepped.event is.1 (top_parent f top) top eight from
          (late_as letter first core learnt f false received in_time) (orphan_as letter first core learnt f None received alive)
          (at.2.number ∙ at.1.number ∙ ready.same.number)
          (λ history through rep may. prepared_node letter f first core now learnt at.0 new ready may.addressed at.1 at.2) event_is;
      letters = λ new stands.
          let at = as_made new stands in
          made.letters
          ∙ (λ i. map (letter_as (sym (at.2.know ∙ at.1.know) i) (sym (at.2.places ∙ at.1.places_are) i) (sym (at.2.number ∙ at.1.number) i)
          (sym (at.2.count ∙ at.1.count) i)) (prepare_to f (deps (received.actions i) f)))
          ∙ ap (λ (e : Event). letters_of new e.sent) (sym event_is);
      recorded = λ history logged holds through rep may keeps given held.
          recorded_none objects history (Some mail) logged holds plan (new_informs old.number (told_in_order load.know) old.know)
          (ap (λ (e : Event). e.deeds) event_is ∙ append-nil (new_informs old.number (told_in_order load.know) old.know)) made.adds
          (informs_add old.number (told_in_order load.know) old.know);
    })
  where
    old : Node
    old = answers first

    mail : Mail
    mail = mail_on letter

    load : Load
    load = load_on letter

    ready : IsReady letter first core now learnt
    ready = record {
      received = received;
      knows = knows;
      same = same_then (answers first) (answers core) (answers now) received.same same;
      acts = acts;
    }

    event_is : plan.stepped.event
        ≡ event_of old.number (Some id) (new_informs old.number (told_in_order load.know) old.know) (prepared_by old.number (deps old.actions f) f None)
    event_is =
        made.event
        ∙ (λ i. event_of (ready.same.number i) (Some id) (received.informs i) (prepared_by (ready.same.number i) (deps (received.actions i) f) f None))

    as_made : (new : Node) → Stands plan.change plan.heard now.knowing.known (answers now) new
        →
        (mid : Node) × HasLearnt (Some learnt.heard) now.knowing.known (answers now) mid × HasBegun f mid new
    as_made new stands =
        subst (λ (c : Change). Stands c (Some learnt.heard) now.knowing.known (answers now) new) made.change
        (subst (λ (h : Option Heard). Stands plan.change h now.knowing.known (answers now) new) made.heard stands)
