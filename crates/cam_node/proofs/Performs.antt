-- After the event of a call that came to its site a node stands for the longer history.
use Rattle.std.proofs.Common.{◌≡◌, ℕ, ◌||◌, List, ◌∷◌, length, map, Some, refl, sym, ap, ◌∙◌, subst}
use Rattle.std.specs.Prelude.{filter}
use Rattle.std.specs.List.{list_any}
use Rattle.std.proofs.lemmas.List.Folds.{list_any-append}
use Rattle.cam_names.specs.Dependencies.{has_pair}
use Rattle.cam_type.specs.declared.ObjectDecl.{ObjectDecl}
use Rattle.cam_know.specs.Knowledge.{Knowledge}
use Rattle.cam_know.specs.Known.{new_aborts, new_commits}
use Rattle.cam_know.specs.Order.{told_in_order}
use Rattle.cam_event.specs.declared.LetterId.{LetterId}
use Rattle.cam_event.specs.declared.Body.{Body}
use Rattle.cam_event.specs.declared.Deed.{Deed}
use Rattle.cam_event.specs.History.{count, is_secure_at}
use Rattle.cam_event.specs.Inputs.{Receives, Mail}
use Rattle.cam_event.specs.Sights.{is_preparing_note, yes_in}
use Rattle.cam_event.specs.Rules.{Did, rule}
use Rattle.cam_event.specs.ByKnowledge.{held_sight, new_informs, learned_by}
use Rattle.cam_event.specs.Carried.{Carried, deeds_of}
use Rattle.cam_event.specs.Loads.{Load, noted_at, with_load}
use Rattle.cam_event.specs.ByDeltas.{Received, as_carried, known}
use Rattle.cam_tranman.specs.Actions.{RunsActions}
use Rattle.cam_tranman.specs.Orderly.{IsForHome}
use Rattle.cam_tranman.specs.Keeping.{HasCounts, after_deeds}
use Rattle.cam_tranman.specs.Events.{is_at_home}
use Rattle.cam_tranman.specs.Calls as tranman
use Rattle.cam_tranman.proofs.StepKeeping.{step_keeps}
use Rattle.cam_commit.specs.Families.{CommitsFamilies}
use Rattle.cam_commit.proofs.Calling.{quiet_keeps}
use Rattle.cam_commit.proofs.StepKinds.{steps_are_of_kind}
use Rattle.cam_server.specs.declared.Performed.{Performed}
use Rattle.cam_server.specs.Server.{ServesSite}
use Rattle.cam_server.specs.Calls.{Asked}
use Rattle.cam_server.specs.Steps.{did_performed}
use Rattle.cam_node.specs.Represents.{Node, Represents}
use Rattle.cam_node.specs.Halting.{IsThrough}
use Rattle.cam_node.specs.Learning.{stepped, IsSentByNode}
use Rattle.cam_node.specs.Served.{HasServed, CallStands}
use Rattle.cam_node.proofs.Learnt.{knowledge_grows, places_grow}
use Rattle.cam_node.proofs.Orderly.{through_orderly}
use Rattle.cam_node.proofs.Letters.{informs_secure}
use Rattle.cam_node.proofs.CallDeeds.{teaches_none, none_at_home}
use Rattle.cam_node.proofs.CallDeeds.{prepares_none, secures_none}
use Rattle.cam_node.proofs.CallRules.{rule_is, serves_then}

-- THE LAW
pub performs_keeps : (objects : List ObjectDecl) (history : List Received) (id : LetterId)
    (mail : Mail) (load : Load) (asked : Asked) (done : Performed) (old new : Node)
    → CallStands mail load asked done old new → mail.to ≡ old.number → IsSentByNode (Some mail)
    → IsThrough objects old.number history → Represents objects history old
    → Represents objects (stepped objects old.number history (Receives id) (Some mail) load
    ∷ history) new
performs_keeps objects history id mail load asked done old new stands addressed from through rep =
    record {
      own_count =
          has.count ∙ rep.own_count ∙ sym rep.serves.count_is ∙ sym has.server.informed.count ∙ sym
          has.server.after.count ∙ serves.count_is
          ∙ (λ i. count (deeds_of (as_carried c ∷ H)) (sym has.number i));
      knowledge =
          know_is ∙ sym (ap (λ (e : Did). learned_by objects H (Some mail) (with_load K load) e.deeds)
          is ∙ teaches_none objects H (Some mail) (with_load K load) asked done)
          ∙ sym (knowledge_grows objects s history (Receives id) (Some mail) load);
      places =
          has.places_are ∙ stands.places_are
          ∙ (λ i. noted_at (addressed i)
          (length ((stands.know_is ∙ ap (λ (k : Knowledge). with_load k load) rep.knowledge)
          i).outcomes) (rep.places i) mail.from load)
          ∙ sym (places_grow objects s history (Receives id) (Some mail) load refl from);
      runs =
          subst (λ (n : ℕ). RunsActions objects n (as_carried c ∷ H) new.actions) (sym has.number)
          (step_keeps objects s H (Receives id) (Some mail) brought old.actions new.actions rep.runs
          (through_orderly objects s history through)
          (subst (IsForHome s) (sym stands.call) tt) (subst HasCounts (sym stands.call) tt)
          (subst (λ (ds : List Deed). tranman.AreSame
          (after_deeds objects (Some mail) ds old.actions) new.actions)
          (sym (ap (λ (e : Did). filter is_at_home e.deeds) is ∙ none_at_home asked done))
          has.actions));
      commits =
          subst (λ (n : ℕ). CommitsFamilies objects n (as_carried c ∷ H) new.families) (sym has.number)
          (quiet_keeps objects s H (as_carried c) old.families new.families
          (record {
            no_restart = (steps_are_of_kind objects s H (Receives id) (Some mail) brought).restarts;
            begins = λ f. ap (λ (e : Did). is_preparing_note f e.note) is ∙ prepares_none f asked done;
            counts = λ f m n undecided preparing. ap
                (λ (b : Body). has_pair (yes_in f mail.from b) m n) stands.call;
            secures = λ f. list_any-append (is_secure_at f s) first ds
                ∙ (λ i. informs_secure f s (new_aborts brought K) (new_commits brought K) i
                || (ap (λ (e : Did). list_any (is_secure_at f s) e.deeds) is ∙ secures_none f s asked
                done) i);
          })
          has.families rep.commits);
      serves = subst (λ (n : ℕ). ServesSite objects n (as_carried c ∷ H) new.server)
          (sym has.number) serves;
    }
  where
    s : ℕ
    s = old.number

    H : List Carried
    H = map as_carried history

    K : Knowledge
    K = known objects history

    brought : Knowledge
    brought = told_in_order load.know

    c : Received
    c = stepped objects s history (Receives id) (Some mail) load

    has : HasServed asked done stands.fresh stands.know stands.places old new
    has = stands.served

    first : List Deed
    first = new_informs s brought K

    ds : List Deed
    ds = (rule objects (held_sight objects s H brought) (Some mail) (Receives id)).deeds

    is : rule objects (held_sight objects s H brought) (Some mail) (Receives id)
        ≡ did_performed asked done
    is = rule_is objects history id mail load asked done old new stands through rep

    know_is : new.know ≡ with_load K load
    know_is = has.know ∙ stands.know_is ∙ ap (λ (k : Knowledge). with_load k load) rep.knowledge

    serves : ServesSite objects s (as_carried c ∷ H) new.server
    serves = serves_then objects history id mail load asked done old new stands through rep
