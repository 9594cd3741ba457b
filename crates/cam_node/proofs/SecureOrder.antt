-- Where a site secures a family, the order of what the log holds and of what is live goes on.
use Rattle.std.proofs.Common.{◌≡◌, ℕ, true, List, [], ◌∷◌, ◌++◌, map, Option, Some, sym, ap, ◌∙◌, subst}
use Rattle.std.specs.Prelude.{not, filter}
use Rattle.std.specs.List.{list_any}
use Rattle.cam_names.specs.declared.name.Name.{Name}
use Rattle.cam_names.specs.Names.{ancestors}
use Rattle.cam_type.specs.declared.ObjectDecl.{ObjectDecl}
use Rattle.cam_type.specs.declared.Held.{Held}
use Rattle.cam_know.specs.Knowledge.{Knowledge}
use Rattle.cam_know.specs.Known.{both, news, knows_abort, new_aborts, new_commits}
use Rattle.cam_know.specs.Order.{told_in_order}
use Rattle.cam_event.specs.declared.Deed.{Deed}
use Rattle.cam_event.specs.declared.Deed.TheVariants.{Secure}
use Rattle.cam_event.specs.declared.Event.{Event}
use Rattle.cam_event.specs.declared.Letter.{Letter}
use Rattle.cam_event.specs.declared.LetterId.{LetterId}
use Rattle.cam_event.specs.Rules.{did, one, vote}
use Rattle.cam_event.specs.ByPast.{event_of}
use Rattle.cam_event.specs.ByKnowledge.{new_informs}
use Rattle.cam_event.specs.Loads.{Load}
use Rattle.cam_event.specs.ByDeltas.{Received}
use Rattle.cam_comman.specs.Letters.{load_on}
use Rattle.cam_locks.specs.declared.LiveOp.{LiveOp}
use Rattle.cam_locks.specs.Site as locks
use Rattle.cam_locks.specs.Calls.{held_op, is_of}
use Rattle.cam_server.specs.Events.{informs_abort}
use Rattle.cam_server.proofs.QuietDeeds.{informs_quiet}
use Rattle.cam_node.specs.declared.knowing.Heard.{Heard}
use Rattle.cam_node.specs.declared.learning.Learnt.{Learnt}
use Rattle.cam_node.specs.declared.plan.Change.{Change}
use Rattle.cam_node.specs.declared.plan.Plan.{Plan}
use Rattle.cam_node.specs.declared.state.Core.{Core}
use Rattle.cam_node.specs.Represents.{Node}
use Rattle.cam_node.specs.Calls.{answers, mail_on}
use Rattle.cam_node.specs.LogOrder.{IsInOrder, left_live}
use Rattle.cam_node.specs.Plans.{HoldsRecord, KeepsOrderFor, held_in}
use Rattle.cam_node.specs.Standing.{HasSecured, Stands}
use Rattle.cam_node.specs.Planning.{IsMade}
use Rattle.cam_node.specs.Prepared.{secures}
use Rattle.cam_node.proofs.SecuringOrder.{securing_in_order}
use Rattle.cam_node.proofs.GoesOn.{GoesOn}
use Rattle.cam_node.proofs.SecureRecorded.{held_then, dropped_alike}
use Rattle.cam_node.proofs.Unsecured.{informs_unsecured}

pub secure_order : (objects : List ObjectDecl) (id : LetterId) (letter : Letter) (first core now : Core)
    (learnt : Learnt) (f : Name) (n : ℕ) (plan : Plan) → GoesOn letter first core now learnt
    → IsMade now id learnt (secures now.number (held_then learnt now f n)) plan
    → KeepsOrderFor objects id letter first now plan
secure_order objects id letter first core now learnt f n plan goes made new history logged holds stands
    through rep may keeps order held_so =
    subst
    (λ (adds : List Held). IsInOrder (c ∷ history) (logged.held ++ adds) new.server.table.site)
    (ap (λ (h : Held). h ∷ []) held_is ∙ sym (ap held_in made.adds))
    (securing_in_order holds objects s history c first_informs f n logged.held old.server
    new.server.table.site deeds_are
    (informs_quiet s (new_aborts brought old.know) (new_commits brought old.know))
    (informs_unsecured s brought old.know)
    lives
    (has.learnt.server.next
    ∙ ap (λ (st : locks.Site). st.next) goes.same.server.site) rep.serves keeps.secured
    (held_is ∙ ap (λ (ks : List LiveOp). record {
      family = f;
      count = n;
      ops = map held_op (filter (is_of f) ks);
    }) (sym has.learnt.server.live))
    order).1
  where
    old : Node
    old = answers first

    s : ℕ
    s = old.number

    load : Load
    load = load_on letter

    brought : Knowledge
    brought = told_in_order load.know

    first_informs : List Deed
    first_informs = new_informs s brought old.know

    c : Received
    c = record { event = plan.stepped.event; mail = Some (mail_on letter); load = load }

    has : HasSecured (Some learnt.heard) now.knowing.known f (answers now) new
    has =
        subst
        (λ (change : Change). Stands change (Some learnt.heard) now.knowing.known
        (answers now) new) made.change
        (subst
        (λ (heard : Option Heard). Stands plan.change heard now.knowing.known
        (answers now) new) made.heard stands)

    held_is : holds f n ≡ held_then learnt now f n
    held_is = subst (HoldsRecord holds) made.adds held_so

    deeds_are : plan.stepped.event.deeds ≡ first_informs ++ Secure f s n ∷ []
    deeds_are =
        ap (λ (e : Event). e.deeds) made.event
        ∙ (λ i.
        (event_of (goes.same.number i) (Some id) (goes.received.informs i)
        (did (one (Secure f (goes.same.number i) n)) (vote f n true))).deeds)

    news_are : learnt.heard.news ≡ news (both old.know brought) old.know
    news_are = goes.received.news ∙ ap (λ (k : Knowledge). news k old.know) goes.received.known

    lives : new.server.table.site.live ≡ left_live
        (informs_abort s first_informs) old.server.table.site.live
    lives =
        has.learnt.server.live
        ∙ (λ i. filter (λ o. not (list_any (knows_abort (news_are i)) (ancestors o.action)))
        (goes.same.server.site i).live)
        ∙ dropped_alike s old.know brought old.server.table.site.live
