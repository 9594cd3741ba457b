-- What a Secure adds to the entry of its event: what is held of the family stands for what is live of it.
use Rattle.std.proofs.Common.{◌≡◌, ℕ, List, [], ◌∷◌, ◌++◌, map, Some, sym, ap, ◌∙◌}
use Rattle.std.specs.Prelude.{not, filter}
use Rattle.std.specs.List.{list_any}
use Rattle.cam_names.specs.declared.name.Name.{Name}
use Rattle.cam_names.specs.Names.{ancestors}
use Rattle.cam_type.specs.declared.ObjectDecl.{ObjectDecl}
use Rattle.cam_type.specs.declared.Held.{Held}
use Rattle.cam_know.specs.Knowledge.{Knowledge}
use Rattle.cam_know.specs.Known.{both, news, knows_abort, is_abort_of, new_aborts, new_commits}
use Rattle.cam_know.specs.Order.{told_in_order}
use Rattle.cam_event.specs.declared.Deed.{Deed}
use Rattle.cam_event.specs.declared.Deed.TheVariants.{Secure}
use Rattle.cam_event.specs.declared.Letter.{Letter}
use Rattle.cam_event.specs.Inputs.{Mail}
use Rattle.cam_event.specs.ByKnowledge.{new_informs}
use Rattle.cam_event.specs.ByDeltas.{Received, as_carried}
use Rattle.cam_event.proofs.Snoc.{filter_same}
use Rattle.cam_comman.specs.Letters.{load_on}
use Rattle.cam_recman.specs.declared.Record.TheVariants as records
use Rattle.cam_locks.specs.declared.LiveOp.{LiveOp}
use Rattle.cam_locks.specs.Site as locks
use Rattle.cam_locks.specs.Calls.{held, left_by}
use Rattle.cam_server.specs.Events.{informs_abort}
use Rattle.cam_server.proofs.Informing.{any_each}
use Rattle.cam_server.proofs.QuietDeeds.{informs_quiet}
use Rattle.cam_server.proofs.ToldOutcomes.{any_news, abort_told, told_aborts}
use Rattle.cam_node.specs.declared.learning.Learnt.{Learnt}
use Rattle.cam_node.specs.declared.plan.Plan.{Plan}
use Rattle.cam_node.specs.declared.state.Core.{Core}
use Rattle.cam_node.specs.Represents.{Node, Represents}
use Rattle.cam_node.specs.Calls.{answers, mail_on}
use Rattle.cam_node.specs.Entries.{Holding, deed_records}
use Rattle.cam_node.specs.Log.{Logged, KeepsLog}
use Rattle.cam_node.specs.LogOrder.{IsInOrder, left_live}
use Rattle.cam_node.specs.Plans.{IsRecorded, as_list}
use Rattle.cam_node.proofs.SecuringOrder.{securing_in_order}
use Rattle.cam_node.proofs.NothingAdded.{informs_add, records_behind}
use Rattle.cam_node.proofs.GoesOn.{GoesOn}
use Rattle.cam_node.proofs.Unsecured.{informs_unsecured}

-- what is held of the family, once the site is informed of the letter's news
abbrev pub held_then : Learnt → Core → Name → ℕ → Held
held_then learnt now f n = held (left_by learnt.heard.news (answers now).server.table.site) f n

-- The news drop what the first Informs drop.
news_aborts : (s : ℕ) (k brought : Knowledge) (u : Name)
    → knows_abort (news (both k brought) k) u ≡ informs_abort s (new_informs s brought k) u
news_aborts s k brought u =
    any_news (is_abort_of u) k brought (abort_told k u) ∙ sym (told_aborts s k brought u)

pub dropped_alike : (s : ℕ) (k brought : Knowledge) (ks : List LiveOp)
    → filter (λ o. not (list_any (knows_abort (news (both k brought) k)) (ancestors o.action))) ks
    ≡ left_live (informs_abort s (new_informs s brought k)) ks
dropped_alike s k brought ks =
    filter_same (λ o. not (list_any (knows_abort (news (both k brought) k)) (ancestors o.action)))
    (λ o. not (list_any (informs_abort s (new_informs s brought k)) (ancestors o.action))) ks
    (λ o. ap not
    (any_each (knows_abort (news (both k brought) k)) (informs_abort s (new_informs s brought k))
    (ancestors o.action)
    (news_aborts s k brought)))

pub secure_recorded : (objects : List ObjectDecl) (history : List Received) (letter : Letter)
    (first core now : Core) (learnt : Learnt) (f : Name) (n : ℕ) (plan : Plan) (logged : Logged)
    (holds : Holding) → GoesOn letter first core now learnt → Represents objects history (answers first)
    → KeepsLog objects (answers first).number history logged
    → IsInOrder history logged.held (answers first).server.table.site
    → holds f n ≡ held_then learnt now f n
    → plan.stepped.event.deeds
    ≡ new_informs (answers first).number (told_in_order letter.know) (answers first).know
    ++ Secure f (answers first).number n ∷ []
    → plan.adds ≡ Some (records.Secure (held_then learnt now f n))
    → IsRecorded objects history (Some (mail_on letter)) logged holds plan
secure_recorded objects history letter first core now learnt f n plan logged holds goes rep keeps order
    held_is deeds_are adds_are = record {
      records =
          ap (deed_records holds objects (map as_carried history) (Some mail)) deeds_are
          ∙ records_behind holds objects (map as_carried history) (Some mail) first_informs
          (Secure f s n ∷ []) (informs_add s brought old.know)
          ∙ ap (λ (one : Held). records.Secure one ∷ []) held_is
          ∙ sym (ap as_list adds_are);
      holdings =
          (securing_in_order holds objects s history c first_informs f n logged.held old.server then
          deeds_are (informs_quiet s (new_aborts brought old.know) (new_commits brought old.know))
          (informs_unsecured s brought old.know) lives
          (ap (λ (st : locks.Site). st.next) goes.same.server.site) rep.serves keeps.secured held_is
          order).0;
    }
  where
    old : Node
    old = answers first

    mail : Mail
    mail = mail_on letter

    s : ℕ
    s = old.number

    brought : Knowledge
    brought = told_in_order letter.know

    first_informs : List Deed
    first_informs = new_informs s brought old.know

    c : Received
    c = record { event = plan.stepped.event; mail = Some mail; load = load_on letter }

    then : locks.Site
    then = left_by learnt.heard.news (answers now).server.table.site

    news_are : learnt.heard.news ≡ news (both old.know brought) old.know
    news_are = goes.received.news ∙ ap (λ (k : Knowledge). news k old.know) goes.received.known

    lives : then.live ≡ left_live (informs_abort s first_informs) old.server.table.site.live
    lives =
        (λ i. filter (λ o. not (list_any (knows_abort (news_are i)) (ancestors o.action)))
        (goes.same.server.site i).live)
        ∙ dropped_alike s old.know brought old.server.table.site.live
