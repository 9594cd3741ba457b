-- The plan of a prepare at which the site secures the family.
use Rattle.std.proofs.Common.{◌≡◌, ◌≤◌, ℕ, true, List, [], ◌∷◌, ◌++◌, length, map, Option, Some, sym, ap, ◌∙◌, subst}
use Rattle.std.specs.Prelude.{◌||◌}
use Rattle.cam_names.specs.declared.name.Name.{Name}
use Rattle.cam_names.specs.Names.{name_eq}
use Rattle.cam_type.specs.declared.ObjectDecl.{ObjectDecl}
use Rattle.cam_type.specs.declared.Held.{Held}
use Rattle.cam_know.specs.Knowledge.{Knowledge}
use Rattle.cam_know.specs.Known.{nothing, news, knows_abort, knows_commit}
use Rattle.cam_know.specs.Order.{told_in_order}
use Rattle.cam_event.specs.declared.Body.TheVariants as bodies
use Rattle.cam_event.specs.declared.Deed.{Deed}
use Rattle.cam_event.specs.declared.Deed.TheVariants.{Secure}
use Rattle.cam_event.specs.declared.Event.{Event}
use Rattle.cam_event.specs.declared.Letter.{Letter}
use Rattle.cam_event.specs.declared.LetterId.{LetterId}
use Rattle.cam_event.specs.Inputs.{Receives, Mail}
use Rattle.cam_event.specs.Rules.{did, one, vote}
use Rattle.cam_event.specs.ByPast.{event_of}
use Rattle.cam_event.specs.ByKnowledge.{held_sight, node_step, new_informs}
use Rattle.cam_event.specs.Loads.{Load, noted_at, with_load}
use Rattle.cam_event.specs.ByDeltas.{as_carried}
use Rattle.cam_comman.specs.Letters.{load_on}
use Rattle.cam_commit.specs.declared.Asked.TheVariants as asked
use Rattle.cam_commit.specs.Calls.{asked_of}
use Rattle.cam_tranman.specs.Calls as tranman
use Rattle.cam_server.specs.Calls as server
use Rattle.cam_node.specs.declared.knowing.Heard.{Heard}
use Rattle.cam_node.specs.declared.learning.Learnt.{Learnt}
use Rattle.cam_node.specs.declared.plan.Change.{Change}
use Rattle.cam_node.specs.declared.plan.Plan.{Plan}
use Rattle.cam_node.specs.declared.state.Core.{Core}
use Rattle.cam_node.specs.Represents.{Node, Represents}
use Rattle.cam_node.specs.Calls.{answers, mail_on, letter_as, letters_of}
use Rattle.cam_node.specs.Opened.{IsKnowledge}
use Rattle.cam_node.specs.Plans.{IsHeard, HoldsRecord, IsPlanFor, IsPlanGiven, in_order}
use Rattle.cam_node.specs.Standing.{HasSecured, Stands}
use Rattle.cam_node.specs.Planning.{IsMade}
use Rattle.cam_node.specs.Prepared.{secures}
use Rattle.cam_node.specs.Securing.{LearntAndSecured}
use Rattle.cam_node.proofs.HomePlans.{ForEach, informed_before}
use Rattle.cam_node.proofs.Orderly.{put_is_asked, through_orderly}
use Rattle.cam_node.proofs.GoesOn.{GoesOn}
use Rattle.cam_node.proofs.PrepareComes.{asked_as, prepare_ruled}
use Rattle.cam_node.proofs.Secures.{secures_keeps}
use Rattle.cam_node.proofs.SecureOrder.{secure_order}
use Rattle.cam_node.proofs.SecureRecorded.{held_then, secure_recorded}

-- what the node is then is what its families and its site are after a Secure
learnt_secured : (f : Name) (letter : Letter) (first core now : Core) (learnt : Learnt) (new : Node)
    → GoesOn letter first core now learnt → letter.to ≡ (answers first).number
    → HasSecured (Some learnt.heard) now.knowing.known f (answers now) new
    → LearntAndSecured f (mail_on letter) (load_on letter) (answers first) new
learnt_secured f letter first core now learnt new goes addressed has = record {
  number = has.learnt.number ∙ goes.same.number;
  count = has.learnt.count ∙ goes.same.count;
  know = knows;
  places =
      has.learnt.places_are ∙ goes.received.places
      ∙ (λ i. noted_at (addressed i) (length (sym (has.learnt.know ∙ goes.knows) i).outcomes)
      (answers first).places letter.from (load_on letter));
  actions =
      subst (tranman.AreSame (answers first).actions) (sym has.learnt.actions) goes.same.actions;
  families = record {
    preparing = λ g. has.secured.preparing g ∙ goes.same.families.preparing g;
    votes = λ g m c. has.secured.votes g m c ∙ goes.same.families.votes g m c;
    secured =
        λ g. has.secured.secured g ∙ ap (λ b. name_eq f g || b) (goes.same.families.secured g);
  };
  server =
      subst
      (λ (k : Knowledge). server.AreInformed (knows_abort k) (knows_commit k)
      (answers first).server new.server)
      (goes.received.news
      ∙ ap (λ (k : Knowledge). news k (answers first).know) (sym (has.learnt.know ∙ goes.knows)))
      (informed_before (knows_abort learnt.heard.news) (knows_commit learnt.heard.news)
      (answers first).server
      (answers now).server new.server goes.same.server has.learnt.server);
}
  where
    knows : new.know ≡ with_load (answers first).know (load_on letter)
    knows = has.learnt.know ∙ goes.knows ∙ goes.received.known

pub secure_plan : (objects : List ObjectDecl) (id : LetterId) (letter : Letter)
    (first core now : Core) (learnt : Learnt)
    (f : Name) (n : ℕ) (plan : Plan) → (1 ≤ letter.from) × (letter.from ≤ 8)
    → letter.body ≡ bodies.Prepare f n
    → GoesOn letter first core now learnt
    → asked_of now.knowing.known (answers now).families f n now.count ≡ asked.Secure
    → IsMade now id learnt (secures now.number (held_then learnt now f n)) plan
    → IsPlanFor objects id letter first now plan
secure_plan objects id letter first core now learnt f n plan from body goes is made =
    record {
      given = given;
      order = secure_order objects id letter first core now learnt f n plan goes made;
    }
  where
    old : Node
    old = answers first

    mail : Mail
    mail = mail_on letter

    load : Load
    load = load_on letter

    s : ℕ
    s = old.number

    brought : Knowledge
    brought = told_in_order load.know

    first_informs : List Deed
    first_informs = new_informs s brought old.know

    h : Held
    h = held_then learnt now f n

    event_is : plan.stepped.event ≡ event_of s (Some id) first_informs
        (did (one (Secure f s n)) (vote f n true))
    event_is =
        made.event
        ∙ (λ i. event_of (goes.same.number i) (Some id) (goes.received.informs i)
        (did (one (Secure f (goes.same.number i) n)) (vote f n true)))

    is_next : ForEach objects old id mail load
        (λ history. plan.stepped.event ≡ node_step objects s (map as_carried history) (Receives id)
        (Some mail) brought)
    is_next history through rep may =
        event_is
        ∙ (λ i. event_of s (Some id) (new_informs s brought (rep.knowledge i))
        (sym (prepare_ruled objects history id letter first core now learnt f n asked.Secure body goes
        rep is) i))

    as_made : (new : Node) → Stands plan.change plan.heard now.knowing.known (answers now) new
        → HasSecured (Some learnt.heard) now.knowing.known f (answers now) new
    as_made new stands =
        subst
        (λ (c : Change). Stands c (Some learnt.heard) now.knowing.known
        (answers now) new) made.change
        (subst
        (λ (heard : Option Heard). Stands plan.change heard now.knowing.known
        (answers now) new) made.heard stands)

    deeds_are : plan.stepped.event.deeds ≡ first_informs ++ Secure f s n ∷ []
    deeds_are = ap (λ (e : Event). e.deeds) event_is

    given : IsPlanGiven in_order objects (Receives id) (Some mail) load plan now.knowing.known old
        (answers now)
    given = record {
      before = goes.received.before;
      learnt = subst IsKnowledge goes.received.known goes.received.after;
      heard =
          subst (IsHeard (Some mail) load old.know) (sym made.heard)
          (goes.received.news ∙ ap (λ (k : Knowledge). news k old.know) goes.received.known);
      step = λ new stands. let has = as_made new stands in record {
        number = has.learnt.number ∙ goes.same.number;
        next = is_next;
        represents = λ history through rep may.
            subst (λ (e : Event). Represents objects (record {
              event = e;
              mail = Some mail;
              load = load;
            } ∷ history) new)
            (sym (is_next history through rep may))
            (secures_keeps objects history id mail load f n old new body
            (asked_as objects history letter first core now learnt f n goes rep ∙ is)
            (learnt_secured f letter first core now learnt new goes may.addressed has) from through
            (through_orderly objects old.number history through)
            (put_is_asked objects old.number
            (held_sight objects old.number (map as_carried history) nothing) (Receives id)
            (Some mail) load may) rep);
      };
      letters = λ new stands. let has = as_made new stands in
          made.letters
          ∙ (λ i. map
          (letter_as (sym has.learnt.know i) (sym has.learnt.places_are i) (sym has.learnt.number i)
          (sym has.learnt.count i)) (vote f n true))
          ∙ ap (λ (e : Event). letters_of new e.sent) (sym event_is);
      recorded = λ history logged holds through rep may keeps order held.
          secure_recorded objects history letter first core now learnt f n plan logged holds goes rep keeps order
          (subst (HoldsRecord holds) made.adds held) deeds_are made.adds;
    }
