-- After an event without a deed, for which no letter came, a node stands for the longer history as it is.
use Rattle.std.proofs.Common.{◌≡◌, ℕ, true, List, [], ◌∷◌, map, sym, ap, ◌∙◌, subst}
use Rattle.std.specs.Prelude.{filter}
use Rattle.std.specs.List.{list_any}
use Rattle.cam_names.specs.Dependencies.{AreCounts, has_pair}
use Rattle.cam_type.specs.declared.ObjectDecl.{ObjectDecl}
use Rattle.cam_know.specs.Knowledge.{Knowledge}
use Rattle.cam_know.specs.Known.{both}
use Rattle.cam_know.specs.Order.{told_in_order}
use Rattle.cam_event.specs.declared.Deed.{Deed}
use Rattle.cam_event.specs.History.{after, count, informed, is_crash, is_secure_at}
use Rattle.cam_event.specs.Sights.{kept_reply, yes_for}
use Rattle.cam_event.specs.ByKnowledge.{learned_by}
use Rattle.cam_event.specs.HeldSites.{site, site_after_all}
use Rattle.cam_event.specs.Carried.{Carried, deeds_of}
use Rattle.cam_event.specs.ByDeltas.{as_carried, known}
use Rattle.cam_tranman.specs.Actions.{RunsActions}
use Rattle.cam_tranman.specs.Events.{is_at_home}
use Rattle.cam_tranman.proofs.Keeping as tranman
use Rattle.cam_commit.specs.Families.{CommitsFamilies}
use Rattle.cam_commit.proofs.Calling as commit
use Rattle.cam_server.specs.Server.{Server, ServesSite, IsSiteOf}
use Rattle.cam_server.specs.Calls as server
use Rattle.cam_locks.specs.Site.{Site}
use Rattle.cam_locks.specs.Names.{has_name}
use Rattle.cam_delta.proofs.NotedPlaces.{nothing_is_noted_without_letter}
use Rattle.cam_node.specs.Quiet.{IdleKeeps}
use Rattle.cam_node.proofs.Nothing.{both_nothing}

-- a site is served after an event without a deed
idle_serves : (objects : List ObjectDecl) (s : ℕ) (before : List Carried) (c : Carried) (old new : Server) → c.event.deeds ≡ [] → server.AreSame old new
    → ServesSite objects s before old → ServesSite objects s (c ∷ before) new
idle_serves objects s before c old new none same serves = record {
  count_is = same.count ∙ serves.count_is ∙ (λ i. count (now i) s);
  replies = λ a n. same.replies a n ∙ serves.replies a n ∙ (λ i. kept_reply (now i) a n);
  site =
      subst (λ (ds : List Deed). IsSiteOf objects s (site_after_all (deeds_of before) c.mail (site before) ds).live new.table.site) (sym none)
      (subst (λ (st : Site). IsSiteOf objects s (site before).live st) (sym same.site) serves.site);
  commits = λ u. ap (λ (st : Site). has_name st.committed u) same.site ∙ serves.commits u ∙ (λ i. informed (now i) s u true);
}
  where
    now : deeds_of before ≡ deeds_of (c ∷ before)
    now = λ i. after (deeds_of before) (sym none i)

pub idle_keeps : IdleKeeps
idle_keeps objects history c old new idle counted same rep = record {
  own_count = same.count ∙ rep.own_count ∙ (λ i. count (after (deeds_of H) (sym idle.deeds i)) (sym same.number i));
  knowledge = same.know ∙ rep.knowledge ∙ sym (both_nothing K known_counts) ∙ (λ i. learned_by objects H c.mail (both K (told_in_order (sym idle.load i).know)) (sym idle.deeds i));
  places = same.places ∙ rep.places ∙ sym (nothing_is_noted_without_letter objects c history (ap (list_any (is_crash c.event.node)) idle.deeds) idle.mail);
  runs =
      subst (λ (n : ℕ). RunsActions objects n (as_carried c ∷ H) new.actions) (sym same.number)
      (tranman.quiet_keeps objects old.number H (as_carried c) old.actions new.actions (ap (filter is_at_home) idle.deeds) same.actions rep.runs);
  commits =
      subst (λ (n : ℕ). CommitsFamilies objects n (as_carried c ∷ H) new.families) (sym same.number)
      (commit.quiet_keeps objects old.number H (as_carried c) old.families new.families
      (record {
        no_restart = ap (list_any (is_crash c.event.node)) idle.deeds;
        begins = idle.begins;
        counts = λ f m n undecided preparing. ap (λ x. has_pair (yes_for f x) m n) idle.mail;
        secures = λ f. ap (list_any (is_secure_at f old.number)) idle.deeds;
      })
      same.families rep.commits);
  serves =
      subst (λ (n : ℕ). ServesSite objects n (as_carried c ∷ H) new.server) (sym same.number)
      (idle_serves objects old.number H (as_carried c) old.server new.server idle.deeds same.server rep.serves);
}
  where
    H : List Carried
    H = map as_carried history

    K : Knowledge
    K = known objects history

    known_counts : AreCounts 1 K.counts
    known_counts = subst (λ (k : Knowledge). AreCounts 1 k.counts) rep.knowledge counted
