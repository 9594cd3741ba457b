-- After an event with a letter that concerns the actions at home alone, a node stands for the longer history.
use Rattle.std.proofs.Common.{◌≡◌, ℕ, Bool, true, false, ◌||◌, List, [], ◌∷◌, length, map, Some, refl, sym, ap, ◌∙◌, subst}
use Rattle.std.specs.Prelude.{filter}
use Rattle.std.specs.List.{list_any, list_all}
use Rattle.std.proofs.lemmas.List.Folds.{list_any-append}
use Rattle.cam_names.specs.declared.name.Name.{Name}
use Rattle.cam_type.specs.declared.ObjectDecl.{ObjectDecl}
use Rattle.cam_know.specs.Knowledge.{Knowledge}
use Rattle.cam_know.specs.Known.{nothing, news, knows_abort, knows_commit, new_aborts, new_commits}
use Rattle.cam_know.specs.Order.{told_in_order}
use Rattle.cam_event.specs.declared.LetterId.{LetterId}
use Rattle.cam_event.specs.declared.Deed.{Deed}
use Rattle.cam_event.specs.declared.Deed.TheVariants.{Inform}
use Rattle.cam_event.specs.History.{is_secure_at}
use Rattle.cam_event.specs.Inputs.{Receives, Mail}
use Rattle.cam_event.specs.Sights.{is_preparing_note}
use Rattle.cam_event.specs.Rules.{Did, rule, sorted_names, informs}
use Rattle.cam_event.specs.ByKnowledge.{held_sight, new_informs}
use Rattle.cam_event.specs.Carried.{Carried}
use Rattle.cam_event.specs.Loads.{Load, noted_at, with_load}
use Rattle.cam_event.specs.ByDeltas.{Received, as_carried, known}
use Rattle.cam_tranman.specs.Orderly.{IsOrderly, MayBeAsked}
use Rattle.cam_tranman.specs.Keeping.{MailHasCounts, after_deeds}
use Rattle.cam_tranman.specs.Events.{is_at_home}
use Rattle.cam_tranman.specs.Calls as tranman
use Rattle.cam_commit.proofs.Calling as commit
use Rattle.cam_commit.proofs.StepKinds.{steps_are_of_kind}
use Rattle.cam_server.specs.Calls as server
use Rattle.cam_server.specs.Events.{is_quiet, is_any_inform, informs_abort, informs_commit}
use Rattle.cam_server.proofs.QuietDeeds.{informs_quiet}
use Rattle.cam_server.proofs.NewsInforms.{nothing_informs, informs_join}
use Rattle.cam_server.proofs.Serving.{informs_keep}
use Rattle.cam_node.specs.Represents.{Node, Represents}
use Rattle.cam_node.specs.Halting.{IsThrough}
use Rattle.cam_node.specs.Learning.{stepped, IsSentByNode}
use Rattle.cam_node.specs.AtHome.{is_at_home_alone, IsAtHome, LearntAtHome, IsNoVote}
use Rattle.cam_node.proofs.AtHome.{none_meets, no_secure, no_inform, all_quiet, teach_nothing}
use Rattle.cam_node.proofs.Stepping.{all_both, first_informed, step_stands}

-- the first Informs secure nothing
names_secure : (f : Name) (s r : ℕ) (o : Bool) (names : List Name) → list_any (is_secure_at f s) (map (λ a. Inform r a o) names) ≡ false
names_secure f s r o [] = refl
names_secure f s r o (a ∷ names) = names_secure f s r o names

pub informs_secure : (f : Name) (s : ℕ) (aborts commits : List Name) → list_any (is_secure_at f s) (informs s aborts commits) ≡ false
informs_secure f s aborts commits =
    list_any-append (is_secure_at f s) (map (λ a. Inform s a false) (sorted_names aborts)) (map (λ a. Inform s a true) (sorted_names commits))
    ∙ (λ i. names_secure f s s false (sorted_names aborts) i || names_secure f s s true (sorted_names commits) i)

pub letter_keeps : (objects : List ObjectDecl) (history : List Received) (id : LetterId) (mail : Mail) (load : Load) (d : Did) (old new : Node)
    → rule objects (held_sight objects old.number (map as_carried history) (told_in_order load.know)) (Some mail) (Receives id) ≡ d → IsAtHome d → IsNoVote mail
    → LearntAtHome objects d mail load old new → MailHasCounts (Some mail) → IsSentByNode (Some mail) → IsThrough objects old.number history
    → IsOrderly old.number (map as_carried history)
    → MayBeAsked old.number (held_sight objects old.number (map as_carried history) nothing) (Receives id) (Some mail)
    → Represents objects history old → Represents objects (stepped objects old.number history (Receives id) (Some mail) load ∷ history) new
letter_keeps objects history id mail load d old new is home vote done counts from through orderly may rep =
    step_stands objects history (Receives id) (Some mail) load old new refl tt counts from orderly may
    (record {
      number = done.number;
      count = done.count;
      know = done.know ∙ sym (teach_nothing objects H (Some mail) (with_load old.know load) ds alone);
      noted = done.places ∙ (λ i. noted_at s (length (done.know i).outcomes) old.places mail.from load);
      actions =
          subst (λ (e : Did). tranman.AreSame (after_deeds objects (Some mail) (filter is_at_home e.deeds) old.actions) new.actions) (sym is) done.actions;
      families =
          commit.quiet_keeps objects s H (as_carried c) old.families new.families
          (record {
            no_restart = (steps_are_of_kind objects s H (Receives id) (Some mail) brought).restarts;
            begins = λ f. ap (λ (e : Did). is_preparing_note f e.note) is ∙ home.begins f;
            counts = λ f m n undecided preparing. vote f m n;
            secures = λ f. list_any-append (is_secure_at f s) first ds ∙ (λ i. first_secures f i || none_meets (is_secure_at f s) (no_secure f s) ds alone i);
          })
          done.families rep.commits;
      server =
          informs_keep objects s H (as_carried c) old.server new.server (all_both (is_quiet s) first ds quiet_first (all_quiet s ds alone))
          (informs_join s first ds old.server new.server new.server informed_first (nothing_informs s ds new.server (none_meets is_any_inform no_inform ds alone)))
          rep.serves;
    })
    rep
  where
    s : ℕ
    s = old.number

    H : List Carried
    H = map as_carried history

    K : Knowledge
    K = known objects history

    brought : Knowledge
    brought = told_in_order load.know

    c : Received
    c = stepped objects s history (Receives id) (Some mail) load

    first : List Deed
    first = new_informs s brought K

    ds : List Deed
    ds = (rule objects (held_sight objects s H brought) (Some mail) (Receives id)).deeds

    alone : list_all is_at_home_alone ds ≡ true
    alone = ap (λ (e : Did). list_all is_at_home_alone e.deeds) is ∙ home.alone

    quiet_first : list_all (is_quiet s) first ≡ true
    quiet_first = informs_quiet s (new_aborts brought K) (new_commits brought K)

    first_secures : (f : Name) → list_any (is_secure_at f s) first ≡ false
    first_secures f = informs_secure f s (new_aborts brought K) (new_commits brought K)

    informed_first : server.AreInformed (informs_abort s first) (informs_commit s first) old.server new.server
    informed_first =
        first_informed objects history (Some mail) load old new.server through tt rep
        (subst (λ (k : Knowledge). server.AreInformed (knows_abort (news k old.know)) (knows_commit (news k old.know)) old.server new.server) done.know done.server)
