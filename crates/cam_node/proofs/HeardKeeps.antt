-- A letter by whose rule nothing happens but a note: the node stands for the longer history, where the families go on with it.
use Rattle.std.proofs.Common.{◌≡◌, ℕ, ◌≤◌, List, [], ◌∷◌, length, map, Some, refl, sym, ap, ◌∙◌, subst}
use Rattle.std.specs.Prelude.{filter}
use Rattle.std.specs.List.{list_any, list_all}
use Rattle.cam_type.specs.declared.ObjectDecl.{ObjectDecl}
use Rattle.cam_know.specs.Knowledge.{Knowledge}
use Rattle.cam_know.specs.Known.{knows_abort, knows_commit, news, new_aborts, new_commits}
use Rattle.cam_know.specs.Order.{told_in_order}
use Rattle.cam_event.specs.declared.Deed.{Deed}
use Rattle.cam_event.specs.declared.LetterId.{LetterId}
use Rattle.cam_event.specs.Inputs.{Receives, Mail}
use Rattle.cam_event.specs.ByKnowledge.{learned_by, new_informs}
use Rattle.cam_event.specs.Carried.{Carried}
use Rattle.cam_event.specs.Loads.{Load, noted_at, with_load}
use Rattle.cam_event.specs.ByDeltas.{Received, as_carried, known}
use Rattle.cam_tranman.specs.Calls as tranman
use Rattle.cam_tranman.specs.Events.{is_at_home}
use Rattle.cam_tranman.specs.Keeping.{HasCounts, after_deeds}
use Rattle.cam_commit.specs.Families.{CommitsFamilies}
use Rattle.cam_server.specs.Calls as server
use Rattle.cam_server.specs.Events.{informs_abort, informs_commit, is_any_inform, is_quiet}
use Rattle.cam_server.proofs.QuietDeeds.{informs_quiet}
use Rattle.cam_server.proofs.NewsInforms.{informs_join, nothing_informs}
use Rattle.cam_server.proofs.Serving.{informs_keep}
use Rattle.cam_node.specs.Represents.{Node, Represents}
use Rattle.cam_node.specs.Halting.{IsThrough}
use Rattle.cam_node.specs.Lawful.{MayBePut}
use Rattle.cam_node.specs.Learning.{ruled, stepped}
use Rattle.cam_node.specs.Stepping.{longer, sight_before}
use Rattle.cam_node.proofs.Orderly.{put_is_asked, through_orderly}
use Rattle.cam_node.proofs.Stepping.{all_both, first_informed, step_stands}

-- the node after such a letter, but for its families
pub record HasHeard (mail : Mail) (load : Load) (old new : Node) : Type 0 where
  pub number : new.number ≡ old.number
  pub count : new.count ≡ old.count
  pub know : new.know ≡ with_load old.know load
  pub places : new.places ≡ noted_at old.number (length new.know.outcomes) old.places mail.from load
  pub actions : tranman.AreSame old.actions new.actions
  pub server : server.AreInformed (knows_abort (news new.know old.know))
      (knows_commit (news new.know old.know)) old.server new.server

pub heard_keeps : (objects : List ObjectDecl) (history : List Received) (id : LetterId) (mail : Mail)
    (load : Load) (old new : Node)
    → ruled objects old.number history (Receives id) (Some mail) load ≡ []
    → HasHeard mail load old new
    → CommitsFamilies objects old.number
    (longer objects old.number history (Receives id) (Some mail) load)
    new.families
    → HasCounts mail.body → (1 ≤ mail.from) × (mail.from ≤ 8) → IsThrough objects old.number history
    → MayBePut objects old.number (sight_before objects old.number history) (Receives id)
    (Some mail) load
    → Represents objects history old
    → Represents objects
    (stepped objects old.number history (Receives id) (Some mail) load ∷ history) new
heard_keeps objects history id mail load old new is done families counts from through may rep =
    step_stands objects history (Receives id) (Some mail) load old new refl tt counts from
    (through_orderly objects s history through)
    (put_is_asked objects s (sight_before objects s history) (Receives id) (Some mail) load may)
    (record {
      number = done.number;
      count = done.count;
      know =
          done.know
          ∙ ap (λ (ds : List Deed). learned_by objects H (Some mail) (with_load old.know load) ds)
          (sym is);
      noted = done.places ∙ (λ i. noted_at s (length (done.know i).outcomes) old.places mail.from
          load);
      actions =
          subst (λ (ds : List Deed).
          tranman.AreSame (after_deeds objects (Some mail) (filter is_at_home ds) old.actions)
          new.actions)
          (sym is) done.actions;
      families = families;
      server =
          informs_keep objects s H
          (as_carried (stepped objects s history (Receives id) (Some mail) load))
          old.server new.server
          (all_both (is_quiet s) first rules
          (informs_quiet s (new_aborts brought K) (new_commits brought K))
          (ap (list_all (is_quiet s)) is))
          (informs_join s first rules old.server new.server new.server informed
          (nothing_informs s rules new.server (ap (list_any is_any_inform) is)))
          rep.serves;
    })
    rep
  where
    s : ℕ
    s = old.number

    H : List Carried
    H = map as_carried history

    K : Knowledge
    K = known objects history

    brought : Knowledge
    brought = told_in_order load.know

    first : List Deed
    first = new_informs s brought K

    rules : List Deed
    rules = ruled objects s history (Receives id) (Some mail) load

    informed : server.AreInformed (informs_abort s first) (informs_commit s first) old.server
        new.server
    informed =
        first_informed objects history (Some mail) load old new.server through tt rep
        (subst (λ (k : Knowledge). server.AreInformed (knows_abort (news k old.know))
        (knows_commit (news k old.know)) old.server new.server) done.know done.server)
