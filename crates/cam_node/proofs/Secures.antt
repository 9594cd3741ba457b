-- After an event in which its site secures a family, a node stands for the longer history.
use Rattle.std.proofs.Common.{◌≡◌, ℕ, Bool, true, false, ◌&&◌, List, [], ◌∷◌, ◌++◌, length, map, Some, refl, sym, ap, ◌∙◌, subst}
use Rattle.std.specs.Prelude.{filter}
use Rattle.std.specs.List.{list_any, list_all}
use Rattle.cam_names.specs.declared.name.Name.{Name}
use Rattle.cam_type.specs.declared.ObjectDecl.{ObjectDecl}
use Rattle.cam_know.specs.Knowledge.{Knowledge}
use Rattle.cam_know.specs.Known.{both, news, knows_abort, knows_commit, new_aborts, new_commits}
use Rattle.cam_know.specs.Order.{told_in_order}
use Rattle.cam_event.specs.declared.Body.{Body}
use Rattle.cam_event.specs.declared.Body.TheVariants as bodies
use Rattle.cam_event.specs.declared.LetterId.{LetterId}
use Rattle.cam_event.specs.declared.Deed.{Deed}
use Rattle.cam_event.specs.declared.Deed.TheVariants.{Secure}
use Rattle.cam_event.specs.History.{after, count}
use Rattle.cam_event.specs.Inputs.{Receives, Mail}
use Rattle.cam_event.specs.Sights.{Sight}
use Rattle.cam_event.specs.Rules.{Did, did, one, arrives, rule, vote}
use Rattle.cam_event.specs.ByKnowledge.{held_sight, learned_by, new_informs}
use Rattle.cam_event.specs.Carried.{Carried, deeds_of}
use Rattle.cam_event.specs.Loads.{noted_at, with_load}
use Rattle.cam_event.specs.ByDeltas.{Received, as_carried, known}
use Rattle.cam_tranman.specs.Actions.{RunsActions}
use Rattle.cam_tranman.specs.Keeping.{HasCounts, after_deeds}
use Rattle.cam_tranman.specs.Events.{is_at_home}
use Rattle.cam_tranman.specs.Calls as tranman
use Rattle.cam_tranman.proofs.StepKeeping.{step_keeps}
use Rattle.cam_commit.specs.declared.Asked.{Asked}
use Rattle.cam_commit.specs.Families.{CommitsFamilies}
use Rattle.cam_commit.specs.Steps.{did_asked}
use Rattle.cam_commit.specs.Stepping.{asked_at, TakesPrepare}
use Rattle.cam_commit.proofs.PrepareSteps.{prepare_step_keeps}
use Rattle.cam_commit.proofs.RuleCalls.{asked_is_rule}
use Rattle.cam_commit.proofs.Sights.{sight_is_answered}
use Rattle.cam_server.specs.Server.{ServesSite}
use Rattle.cam_server.specs.Calls as server
use Rattle.cam_server.specs.Events.{is_quiet, is_any_inform, informs_abort, informs_commit}
use Rattle.cam_server.proofs.QuietDeeds.{quiet_count, informs_quiet}
use Rattle.cam_server.proofs.NewsInforms.{news_inform, nothing_informs, informs_join}
use Rattle.cam_server.proofs.Serving.{informs_keep}
use Rattle.cam_node.specs.Represents.{Node}
use Rattle.cam_node.specs.Learning.{stepped}
use Rattle.cam_node.specs.Securing.{SecuresKeeps}
use Rattle.cam_node.proofs.Learnt.{knowledge_grows, places_grow}
use Rattle.cam_node.proofs.Informed.{known_is_informed}

all_both : (p : Deed → Bool) (xs ys : List Deed) → list_all p xs ≡ true → list_all p ys ≡ true
    → list_all p (xs ++ ys) ≡ true
all_both p [] ys one other = other
all_both p (x ∷ xs) ys one other =
    by (p x) (list_all p xs) (list_all p (xs ++ ys)) one (λ rest. all_both p xs ys rest other)
  where
    by : (a b c : Bool) → (a && b) ≡ true → (b ≡ true → c ≡ true) → (a && c) ≡ true
    by true b c h then = then h
    by false b c h then = h

-- what the rule of a prepare makes, by what the families answer
pub asked_rule : (objects : List ObjectDecl) (history : List Received) (s : ℕ) (id : LetterId)
    (mail : Mail) (brought : Knowledge) (f : Name) (n : ℕ) (node : Node)
    → mail.body ≡ bodies.Prepare f n
    → CommitsFamilies objects s (map as_carried history) node.families
    → rule objects (held_sight objects s (map as_carried history) brought) (Some mail) (Receives id)
    ≡ did_asked (held_sight objects s (map as_carried history) brought) f n
    (asked_at (held_sight objects s (map as_carried history) brought) node.families f n)
asked_rule objects history s id mail brought f n node body commits =
    let g : Sight = held_sight objects s (map as_carried history) brought in
    ap (λ (b : Body). arrives objects g mail.from b) body
    ∙ asked_is_rule g node.families f n
    (sight_is_answered objects s (map as_carried history) brought node.families commits)

pub secures_keeps : SecuresKeeps
secures_keeps objects history id mail load f n old new body secure done from through orderly may rep =
    record {
      own_count =
          done.count ∙ rep.own_count
          ∙ sym
          (quiet_count s s (first ++ ds) (deeds_of H)
          (all_both (is_quiet s) first ds quiet_first
          (ap (λ (e : Did). list_all (is_quiet s) e.deeds) is)))
          ∙ (λ i. count (after (deeds_of H) (first ++ ds)) (sym done.number i));
      knowledge =
          done.know ∙ ap (λ (k : Knowledge). with_load k load) rep.knowledge
          ∙ sym (ap (λ (e : Did). learned_by objects H (Some mail) (with_load K load) e.deeds) is)
          ∙ sym (knowledge_grows objects s history (Receives id) (Some mail) load);
      places =
          done.places
          ∙ (λ i. noted_at s
          (length ((done.know ∙ ap (λ (k : Knowledge). with_load k load) rep.knowledge) i).outcomes)
          (rep.places i) mail.from load)
          ∙ sym (places_grow objects s history (Receives id) (Some mail) load refl from);
      runs =
          subst (λ (m : ℕ). RunsActions objects m (as_carried c ∷ H) new.actions) (sym done.number)
          (step_keeps objects s H (Receives id)
          (Some mail) brought old.actions new.actions rep.runs orderly may
          (subst HasCounts (sym body) tt)
          (subst
          (λ (e : Did). tranman.AreSame
          (after_deeds objects (Some mail) (filter is_at_home e.deeds) old.actions) new.actions)
          (sym is) done.actions));
      commits =
          subst (λ (m : ℕ). CommitsFamilies objects m (as_carried c ∷ H) new.families) (sym done.number)
          (prepare_step_keeps objects s H id mail brought f n old.families new.families body
          (subst (λ (r : Asked). TakesPrepare f r old.families new.families)
          (sym secure) done.families) rep.commits);
      serves =
          subst (λ (m : ℕ). ServesSite objects m (as_carried c ∷ H) new.server) (sym done.number)
          (informs_keep objects s H (as_carried c) old.server new.server
          (all_both (is_quiet s) first ds quiet_first
          (ap (λ (e : Did). list_all (is_quiet s) e.deeds) is))
          (informs_join s first ds old.server new.server new.server informed_first
          (nothing_informs s ds new.server
          (ap (λ (e : Did). list_any is_any_inform e.deeds) is))) rep.serves);
    }
  where
    s : ℕ
    s = old.number

    H : List Carried
    H = map as_carried history

    K : Knowledge
    K = known objects history

    brought : Knowledge
    brought = told_in_order load.know

    c : Received
    c = stepped objects s history (Receives id) (Some mail) load

    first : List Deed
    first = new_informs s brought K

    ds : List Deed
    ds = (rule objects (held_sight objects s H brought) (Some mail) (Receives id)).deeds

    is : rule objects (held_sight objects s H brought) (Some mail) (Receives id) ≡ did
        (one (Secure f s n)) (vote f n true)
    is =
        asked_rule objects history s id mail brought f n old body rep.commits
        ∙ ap (did_asked (held_sight objects s H brought) f n) secure

    quiet_first : list_all (is_quiet s) first ≡ true
    quiet_first = informs_quiet s (new_aborts brought K) (new_commits brought K)

    joined : new.know ≡ both K brought
    joined = done.know ∙ ap (λ (k : Knowledge). with_load k load) rep.knowledge

    informed_first : server.AreInformed (informs_abort s first)
        (informs_commit s first) old.server new.server
    informed_first =
        news_inform s K brought old.server new.server
        (λ u is_known. rep.serves.commits u ∙ sym (known_is_informed objects s history through u).1
        ∙ is_known)
        (subst
        (λ (k : Knowledge). server.AreInformed (knows_abort (news k K))
        (knows_commit (news k K)) old.server new.server) joined
        (subst
        (λ (k : Knowledge). server.AreInformed (knows_abort (news new.know k))
        (knows_commit (news new.know k)) old.server new.server) rep.knowledge done.server))
