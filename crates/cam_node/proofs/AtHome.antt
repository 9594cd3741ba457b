-- After an event of its own that concerns its actions at home alone, a node stands for the longer history.
use Rattle.std.proofs.Common.{◌≡◌, ℕ, Bool, true, false, ◌&&◌, ◌||◌, List, [], ◌∷◌, map, Option, None, refl, sym, ap, ◌∙◌, subst}
use Rattle.std.specs.Prelude.{filter}
use Rattle.std.specs.List.{list_any, list_all}
use Rattle.std.proofs.lemmas.Bool.{and_parts}
use Rattle.cam_names.specs.declared.name.Name.{Name}
use Rattle.cam_names.specs.Dependencies.{AreCounts}
use Rattle.cam_type.specs.declared.ObjectDecl.{ObjectDecl}
use Rattle.cam_know.specs.Knowledge.{Knowledge}
use Rattle.cam_know.specs.Known.{nothing, both}
use Rattle.cam_event.specs.declared.Deed.{Deed}
use Rattle.cam_event.specs.declared.Deed.TheVariants.{Create, Ask, Call, Perform, Bounce, Got, AskCommit, AskAbort, Commit, Abort, Secure, Inform, Crash}
use Rattle.cam_event.specs.History.{after, count, is_crash, is_secure_at}
use Rattle.cam_event.specs.Inputs.{Input, Mail}
use Rattle.cam_event.specs.Sights.{is_preparing_note}
use Rattle.cam_event.specs.Rules.{Did, rule}
use Rattle.cam_event.specs.ByKnowledge.{held_sight, learned_by, node_step}
use Rattle.cam_event.specs.Carried.{Carried, deeds_of}
use Rattle.cam_event.specs.Loads.{no_load}
use Rattle.cam_event.specs.ByDeltas.{Received, as_carried, known}
use Rattle.cam_tranman.specs.Actions.{RunsActions}
use Rattle.cam_tranman.specs.Orderly.{IsOrderly, MayBeAsked}
use Rattle.cam_tranman.specs.Keeping.{after_deeds}
use Rattle.cam_tranman.specs.Events.{is_at_home}
use Rattle.cam_tranman.specs.Calls as tranman
use Rattle.cam_tranman.proofs.StepKeeping.{step_keeps}
use Rattle.cam_commit.specs.Families.{CommitsFamilies}
use Rattle.cam_commit.proofs.Calling as commit
use Rattle.cam_server.specs.Server.{ServesSite}
use Rattle.cam_server.specs.Events.{is_quiet, is_any_inform}
use Rattle.cam_server.proofs.QuietDeeds.{quiet_count}
use Rattle.cam_server.proofs.NewsInforms.{nothing_informs}
use Rattle.cam_server.proofs.Serving.{same_serves, informs_keep}
use Rattle.cam_delta.proofs.NotedPlaces.{nothing_is_noted_without_letter}
use Rattle.cam_node.specs.Represents.{Node, Represents}
use Rattle.cam_node.specs.AtHome.{is_at_home_alone, IsAtHome, DidAtHome}
use Rattle.cam_node.proofs.Nothing.{both_nothing}

-- a test that none of these deeds meets
pub none_meets : (test : Deed → Bool) → ((d : Deed) → is_at_home_alone d ≡ true → test d ≡ false) → (ds : List Deed) → list_all is_at_home_alone ds ≡ true → list_any test ds ≡ false
none_meets test each [] h = refl
none_meets test each (d ∷ ds) h =
    let parts = and_parts (is_at_home_alone d) (list_all is_at_home_alone ds) h in
    λ i. each d parts.0 i || none_meets test each ds parts.1 i

-- deeds at home alone neither crash nor secure nor inform, and teach nothing
no_crash : (s : ℕ) (d : Deed) → is_at_home_alone d ≡ true → is_crash s d ≡ false
no_crash s (Create a) h = refl
no_crash s (Ask a b) h = refl
no_crash s (Call a n x op c) h = refl
no_crash s (Got a n seen) h = refl
no_crash s (AskCommit a v) h = refl
no_crash s (AskAbort a) h = refl
no_crash s (Perform a n answer) h = cc
no_crash s (Bounce a n u) h = cc
no_crash s (Commit a) h = cc
no_crash s (Abort a) h = cc
no_crash s (Secure f site c) h = cc
no_crash s (Inform site a o) h = cc
no_crash s (Crash site) h = cc

pub no_secure : (f : Name) (s : ℕ) (d : Deed) → is_at_home_alone d ≡ true → is_secure_at f s d ≡ false
no_secure f s (Create a) h = refl
no_secure f s (Ask a b) h = refl
no_secure f s (Call a n x op c) h = refl
no_secure f s (Got a n seen) h = refl
no_secure f s (AskCommit a v) h = refl
no_secure f s (AskAbort a) h = refl
no_secure f s (Perform a n answer) h = cc
no_secure f s (Bounce a n u) h = cc
no_secure f s (Commit a) h = cc
no_secure f s (Abort a) h = cc
no_secure f s (Secure g site c) h = cc
no_secure f s (Inform site a o) h = cc
no_secure f s (Crash site) h = cc

pub no_inform : (d : Deed) → is_at_home_alone d ≡ true → is_any_inform d ≡ false
no_inform (Create a) h = refl
no_inform (Ask a b) h = refl
no_inform (Call a n x op c) h = refl
no_inform (Got a n seen) h = refl
no_inform (AskCommit a v) h = refl
no_inform (AskAbort a) h = refl
no_inform (Perform a n answer) h = cc
no_inform (Bounce a n u) h = cc
no_inform (Commit a) h = cc
no_inform (Abort a) h = cc
no_inform (Secure g site c) h = cc
no_inform (Inform site a o) h = cc
no_inform (Crash site) h = cc

quiet : (s : ℕ) (d : Deed) → is_at_home_alone d ≡ true → is_quiet s d ≡ true
quiet s (Create a) h = refl
quiet s (Ask a b) h = refl
quiet s (Call a n x op c) h = refl
quiet s (Got a n seen) h = refl
quiet s (AskCommit a v) h = refl
quiet s (AskAbort a) h = refl
quiet s (Perform a n answer) h = cc
quiet s (Bounce a n u) h = cc
quiet s (Commit a) h = cc
quiet s (Abort a) h = cc
quiet s (Secure g site c) h = cc
quiet s (Inform site a o) h = cc
quiet s (Crash site) h = cc

pub all_quiet : (s : ℕ) (ds : List Deed) → list_all is_at_home_alone ds ≡ true → list_all (is_quiet s) ds ≡ true
all_quiet s [] h = refl
all_quiet s (d ∷ ds) h =
    let parts = and_parts (is_at_home_alone d) (list_all is_at_home_alone ds) h in
    λ i. quiet s d parts.0 i && all_quiet s ds parts.1 i

pub teach_nothing : (objects : List ObjectDecl) (h : List Carried) (mail : Option Mail) (k : Knowledge) (ds : List Deed) → list_all is_at_home_alone ds ≡ true → learned_by objects h mail k ds ≡ k
teach_nothing objects h mail k [] alone = refl
teach_nothing objects h mail k (Create a ∷ ds) alone = teach_nothing objects h mail k ds alone
teach_nothing objects h mail k (Ask a b ∷ ds) alone = teach_nothing objects h mail k ds alone
teach_nothing objects h mail k (Call a n x op c ∷ ds) alone = teach_nothing objects h mail k ds alone
teach_nothing objects h mail k (Got a n seen ∷ ds) alone = teach_nothing objects h mail k ds alone
teach_nothing objects h mail k (AskCommit a v ∷ ds) alone = teach_nothing objects h mail k ds alone
teach_nothing objects h mail k (AskAbort a ∷ ds) alone = teach_nothing objects h mail k ds alone
teach_nothing objects h mail k (Perform a n answer ∷ ds) alone = cc
teach_nothing objects h mail k (Bounce a n u ∷ ds) alone = cc
teach_nothing objects h mail k (Commit a ∷ ds) alone = cc
teach_nothing objects h mail k (Abort a ∷ ds) alone = cc
teach_nothing objects h mail k (Secure g site c ∷ ds) alone = cc
teach_nothing objects h mail k (Inform site a o ∷ ds) alone = cc
teach_nothing objects h mail k (Crash site ∷ ds) alone = cc

-- THE LAW. Where the rule of an input of the node's own gives deeds at home alone, and the actions did what they do, the node stands for the
-- history with the event.
pub home_keeps : (objects : List ObjectDecl) (history : List Received) (input : Input) (d : Did) (old new : Node)
    → rule objects (held_sight objects old.number (map as_carried history) nothing) None input ≡ d → IsAtHome d → DidAtHome objects d old new
    → AreCounts 1 old.know.counts → IsOrderly old.number (map as_carried history)
    → MayBeAsked old.number (held_sight objects old.number (map as_carried history) nothing) input None → Represents objects history old
    → Represents objects (record { event = node_step objects old.number (map as_carried history) input None nothing; mail = None; load = no_load } ∷ history) new
home_keeps objects history input d old new is home done counted orderly may rep = record {
  own_count =
      done.count ∙ rep.own_count ∙ sym (quiet_count s s ds (deeds_of H) (all_quiet s ds alone)) ∙ (λ i. count (after (deeds_of H) ds) (sym done.number i));
  knowledge = done.know ∙ rep.knowledge ∙ sym (both_nothing K known_counts) ∙ sym (teach_nothing objects H None (both K nothing) ds alone);
  places = done.places ∙ rep.places ∙ sym (nothing_is_noted_without_letter objects c history (none_meets (is_crash s) (no_crash s) ds alone) refl);
  runs =
      subst (λ (n : ℕ). RunsActions objects n (as_carried c ∷ H) new.actions) (sym done.number)
      (step_keeps objects s H input None nothing old.actions new.actions rep.runs orderly may tt
      (subst (λ (e : Did). tranman.AreSame (after_deeds objects None (filter is_at_home e.deeds) old.actions) new.actions) (sym is) done.actions));
  commits =
      subst (λ (n : ℕ). CommitsFamilies objects n (as_carried c ∷ H) new.families) (sym done.number)
      (commit.quiet_keeps objects s H (as_carried c) old.families new.families
      (record {
        no_restart = none_meets (is_crash s) (no_crash s) ds alone;
        begins = λ f. ap (λ (e : Did). is_preparing_note f e.note) is ∙ home.begins f;
        counts = λ f m n undecided preparing. refl;
        secures = λ f. none_meets (is_secure_at f s) (no_secure f s) ds alone;
      })
      done.families rep.commits);
  serves =
      subst (λ (n : ℕ). ServesSite objects n (as_carried c ∷ H) new.server) (sym done.number)
      (same_serves objects s (as_carried c ∷ H) old.server new.server done.server
      (informs_keep objects s H (as_carried c) old.server old.server (all_quiet s ds alone)
      (nothing_informs s ds old.server (none_meets is_any_inform no_inform ds alone)) rep.serves));
}
  where
    s : ℕ
    s = old.number

    H : List Carried
    H = map as_carried history

    K : Knowledge
    K = known objects history

    c : Received
    c = record { event = node_step objects s H input None nothing; mail = None; load = no_load }

    ds : List Deed
    ds = c.event.deeds

    alone : list_all is_at_home_alone ds ≡ true
    alone = ap (λ (e : Did). list_all is_at_home_alone e.deeds) is ∙ home.alone

    known_counts : AreCounts 1 K.counts
    known_counts = subst (λ (k : Knowledge). AreCounts 1 k.counts) rep.knowledge counted
