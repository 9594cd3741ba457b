-- A node and its log stand for a history whatever the numbers of its letters are.
use Rattle.std.proofs.Common.{◌≡◌, ℕ, ◌≤◌, true, List, [], ◌∷◌, map, reverse, refl, sym, ap, ◌∙◌, subst}
use Rattle.std.specs.Prelude.{is_some, unwrap_or}
use Rattle.cam_names.specs.declared.name.Name.{Name}
use Rattle.cam_names.specs.Dependencies.{as_counts, has_pair}
use Rattle.cam_type.specs.declared.ObjectDecl.{ObjectDecl}
use Rattle.cam_know.specs.Knowledge.{Knowledge}
use Rattle.cam_know.specs.Known.{known_count, knows_abort, knows_commit}
use Rattle.cam_event.specs.History.{count as count_in, informed, number_of, secured_at}
use Rattle.cam_event.specs.Sights.{votes, kept_reply}
use Rattle.cam_event.specs.ByKnowledge.{own_pairs, held}
use Rattle.cam_event.specs.HeldSites.{Site, is_any_perform, site}
use Rattle.cam_event.specs.Carried.{Carried, entry_of, deeds_of}
use Rattle.cam_event.specs.Loads.{each_node}
use Rattle.cam_event.specs.ByDeltas.{Received, as_carried, have_of, acked_of, places_of}
use Rattle.cam_commit.specs.Families.{Families, IsUndecided, CommitsFamilies}
use Rattle.cam_server.specs.Recovered.{AreHeld, OrderIsKept, beside}
use Rattle.cam_server.specs.Server.{Server, IsSiteOf, ServesSite}
use Rattle.cam_tranman.specs.Actions.{Actions, AnswersDeeds, RunsActions}
use Rattle.cam_node.specs.Keeping.{IsLogOf, KeepsHistory}
use Rattle.cam_node.specs.Log.{Logged, KeepsLog, secure_counts}
use Rattle.cam_node.specs.LogOrder.{OrderIsKeptWith}
use Rattle.cam_node.specs.Opened.{IsKnowledge, logged_of}
use Rattle.cam_node.specs.Represents.{Node, Represents}
use Rattle.cam_histories.specs.PutIn.{nameless}
use Rattle.cam_histories.specs.Whole as whole
use Rattle.cam_histories.proofs.Nameless.{bare, bare_entry, deeds_bare, pairs_bare, held_bare}
use Rattle.cam_histories.proofs.Nameless.{site_bare, votes_bare, carried_bare, have_bare}
use Rattle.cam_histories.proofs.Nameless.{acked_bare}

module _ (objects : List ObjectDecl) (h j : List Received) (same : map nameless h ≡ map nameless j)
  where
    abbrev one : List Carried
    one = map as_carried h

    abbrev other : List Carried
    other = map as_carried j

    carried : map bare one ≡ map bare other
    carried = sym (carried_bare h) ∙ ap (map as_carried) same ∙ carried_bare j

    pub deeds_alike : deeds_of one ≡ deeds_of other
    deeds_alike = sym (deeds_bare one) ∙ ap deeds_of carried ∙ deeds_bare other

    pairs_alike : (a : Name) → own_pairs objects one a ≡ own_pairs objects other a
    pairs_alike a =
        sym (pairs_bare objects one a) ∙ ap (λ cs. own_pairs objects cs a) carried
        ∙ pairs_bare objects other a

    pub held_alike : held objects one ≡ held objects other
    held_alike = sym (held_bare objects one) ∙ ap (held objects) carried ∙ held_bare objects other

    site_alike : site one ≡ site other
    site_alike = sym (site_bare one) ∙ ap site carried ∙ site_bare other

    entries : (cs : List Carried) → map entry_of (map bare cs) ≡ map bare_entry (map entry_of cs)
    entries [] = refl
    entries (c ∷ cs) = ap (λ es. bare_entry (entry_of c) ∷ es) (entries cs)

    votes_alike : (f : Name) → votes (map entry_of one) f ≡ votes (map entry_of other) f
    votes_alike f =
        sym (votes_bare (map entry_of one) f)
        ∙ ap (λ es. votes es f)
        (sym (entries one) ∙ ap (map entry_of) carried ∙ entries other)
        ∙ votes_bare (map entry_of other) f

    places_alike : places_of objects h ≡ places_of objects j
    places_alike = λ i. record {
      have = map (λ r. have r i) each_node;
      acked = map (λ r. acked r i) each_node;
    }
      where
        have : (r : ℕ) → have_of h r ≡ have_of j r
        have r = sym (have_bare h r) ∙ ap (λ l. have_of l r) same ∙ have_bare j r

        acked : (r : ℕ) → acked_of objects h r ≡ acked_of objects j r
        acked r =
            sym (acked_bare objects h r) ∙ ap (λ l. acked_of objects l r) same
            ∙ acked_bare objects j r

    -- the layers of a node
    runs_alike : (n : ℕ) (actions : Actions) → RunsActions objects n one actions
        → RunsActions objects n other actions
    runs_alike n actions runs =
        subst (λ f. AnswersDeeds objects n (deeds_of other) f actions)
        (λ i a. as_counts (pairs_alike a i))
        (subst (λ L. AnswersDeeds objects n L (λ a. as_counts (own_pairs objects one a)) actions)
        deeds_alike runs)

    commits_alike : (n : ℕ) (families : Families) → CommitsFamilies objects n one families
        → CommitsFamilies objects n other families
    commits_alike n families commits = record {
      preparing = λ f undone. commits.preparing f (undecided f undone) ∙ ap is_some (votes_alike f);
      voted = λ f m c undone.
          commits.voted f m c (undecided f undone)
          ∙ ap (λ o. has_pair (unwrap_or o []) m c) (votes_alike f);
      secured = λ f undone.
          commits.secured f (undecided f undone) ∙ ap (λ L. secured_at L f n) deeds_alike;
    }
      where
        undecided : (f : Name) → IsUndecided objects other f → IsUndecided objects one f
        undecided f undone = (
          ap (λ (k : Knowledge). knows_abort k f) held_alike ∙ undone.0,
          ap (λ (k : Knowledge). knows_commit k f) held_alike ∙ undone.1,
        )

    serves_alike : (n : ℕ) (server : Server) → ServesSite objects n one server
        → ServesSite objects n other server
    serves_alike n server serves = record {
      count_is = serves.count_is ∙ ap (λ L. count_in L n) deeds_alike;
      replies = λ a m. serves.replies a m ∙ ap (λ L. kept_reply L a m) deeds_alike;
      site = subst (λ (s : Site). IsSiteOf objects n s.live server.table.site) site_alike
          serves.site;
      commits = λ u. serves.commits u ∙ ap (λ L. informed L n u true) deeds_alike;
    }

    pub represents_alike : (node : Node) → Represents objects h node → Represents objects j node
    represents_alike node stands = record {
      own_count = stands.own_count ∙ ap (λ L. count_in L node.number) deeds_alike;
      knowledge = stands.knowledge ∙ held_alike;
      places = stands.places ∙ places_alike;
      runs = runs_alike node.number node.actions stands.runs;
      commits = commits_alike node.number node.families stands.commits;
      serves = serves_alike node.number node.server stands.serves;
    }

    -- its log
    keeps_log_alike : (n : ℕ) (logged : Logged) → KeepsLog objects n h logged
        → KeepsLog objects n j logged
    keeps_log_alike n logged keeps = record {
      count = keeps.count ∙ ap (λ L. count_in L n) deeds_alike;
      outcomes = keeps.outcomes ∙ ap (λ (k : Knowledge). k.outcomes) held_alike;
      other_counts = λ m low high off.
          keeps.other_counts m low high off ∙ ap (λ (k : Knowledge). known_count k m) held_alike;
      own_known = λ low high.
          keeps.own_known low high ∙ ap (λ (k : Knowledge). known_count k n) held_alike;
      secured = subst (λ (s : Site). AreHeld logged.held (reverse s.secured)) site_alike
          keeps.secured;
      counts = keeps.counts ∙ ap (secure_counts n) deeds_alike;
      order = subst (λ (s : Site). OrderIsKept (beside logged.held (reverse s.secured))) site_alike
          keeps.order;
    }

    pub is_log_alike : (n : ℕ) (logged : Logged) → IsLogOf objects n h logged
        → IsLogOf objects n j logged
    is_log_alike n logged is = record {
      keeps = keeps_log_alike n logged is.keeps;
      recovered = is.recovered;
      known = subst IsKnowledge held_alike is.known;
    }

    pub stands_alike : (n : ℕ) (s : whole.Site) → whole.StandsAt objects n h s
        → whole.StandsAt objects n j s
    stands_alike n s stands = record {
      represents = represents_alike s.node stands.represents;
      log = record {
        keeps = record {
          recovered = kept.recovered;
          says = kept.says;
          is_log = is_log_alike n (logged_of kept.recovered) kept.is_log;
        };
        order = record {
          kept = subst (λ (at : Site). OrderIsKeptWith at kept.recovered.held
              s.node.server.table.site.live s.node.server.table.site.next) site_alike
              stands.log.order.kept;
          next = subst (λ L. s.node.server.table.site.next ≤ number_of is_any_perform L)
              deeds_alike stands.log.order.next;
        };
      };
    }
      where
        kept : KeepsHistory objects n h s.entries
        kept = stands.log.keeps
