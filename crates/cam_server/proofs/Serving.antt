-- A server goes on serving over deeds that inform it.
use Rattle.std.proofs.Common.{◌≡◌, ℕ, true, not, ◌||◌, List, ◌∷◌, filter, sym, ap, subst, ◌∙◌, refl}
use Rattle.std.specs.List.{list_any}
use Rattle.cam_names.specs.declared.name.Name.{Name}
use Rattle.cam_names.specs.Names.{ancestors}
use Rattle.cam_type.specs.declared.ObjectDecl.{ObjectDecl}
use Rattle.cam_event.specs.declared.Deed.{Deed}
use Rattle.cam_event.specs.History.{after, count, informed, is_inform}
use Rattle.cam_event.specs.Sights.{kept_reply}
use Rattle.cam_event.specs.HeldSites.{Placed, site}
use Rattle.cam_event.specs.Carried.{Carried, deeds_of}
use Rattle.cam_event.proofs.Agree.{any_after}
use Rattle.cam_locks.specs.declared.LiveOp.{LiveOp}
use Rattle.cam_locks.specs.Names.{has_name}
use Rattle.cam_locks.specs.Site as locks
use Rattle.cam_locks.proofs.Indices.{rise_filter}
use Rattle.cam_know.proofs.Or.{or_commutes}
use Rattle.cam_server.specs.Server.{Server, ServesSite, IsSiteOf, AreLiveOps}
use Rattle.cam_server.specs.Calls.{AreInformed}
use Rattle.cam_server.specs.Events.{AreQuiet, informs_abort, informs_commit, SameServes, InformsKeep}
use Rattle.cam_server.proofs.QuietDeeds.{left, quiet_live, quiet_count, quiet_reply}
use Rattle.cam_server.proofs.LiveOps.{are_left}

-- A server serves a site by the deeds so far and the live operations.
pub record Serves (objects : List ObjectDecl) (s : ℕ) (L : List Deed) (live : List Placed) (server : Server) : Type 0 where
  pub count_is : server.count ≡ count L s
  pub replies : (a : Name) (n : ℕ) → server.kept_reply a n ≡ kept_reply L a n
  pub site : IsSiteOf objects s live server.table.site
  pub commits : (u : Name) → has_name server.table.site.committed u ≡ informed L s u true

pub serves : (objects : List ObjectDecl) (s : ℕ) (before : List Carried) (server : Server)
    → ServesSite objects s before server
    → Serves objects s (deeds_of before) (site before).live server
serves objects s before server is = record { count_is = is.count_is; replies = is.replies; site = is.site; commits = is.commits }

pub same_serves : SameServes
same_serves objects s before old new same is =
    record {
      count_is = same.count ∙ is.count_is;
      replies = λ a n. same.replies a n ∙ is.replies a n;
      site = subst (λ (t : locks.Site). IsSiteOf objects s (site before).live t) (sym same.site) is.site;
      commits = λ u. ap (λ (t : locks.Site). has_name t.committed u) same.site ∙ is.commits u;
    }

pub serves_after : (objects : List ObjectDecl) (s : ℕ) (before : List Carried) (c : Carried) (server : Server) (L : List Deed) (live : List Placed)
    → L ≡ deeds_of (c ∷ before) → live ≡ (site (c ∷ before)).live → Serves objects s L live server
    → ServesSite objects s (c ∷ before) server
serves_after objects s before c server L live deeds lives is =
    record {
      count_is = is.count_is ∙ ap (λ (ds : List Deed). count ds s) deeds;
      replies = λ a n. is.replies a n ∙ ap (λ (ds : List Deed). kept_reply ds a n) deeds;
      site = subst (λ (ps : List Placed). IsSiteOf objects s ps server.table.site) lives is.site;
      commits = λ u. is.commits u ∙ ap (λ (ds : List Deed). informed ds s u true) deeds;
    }

-- Quiet deeds, of whose Informs the site was informed.
pub informed_serves : (objects : List ObjectDecl) (s : ℕ) (L ds : List Deed) (live : List Placed) (old new : Server)
    → AreQuiet s ds
    → AreInformed (informs_abort s ds) (informs_commit s ds) old new
    → Serves objects s L live old → Serves objects s (after L ds) (left (informs_abort s ds) live) new
informed_serves objects s L ds live old new quiet are is =
    record {
      count_is = are.count ∙ is.count_is ∙ sym (quiet_count s s ds L quiet);
      replies = λ a n. are.replies a n ∙ is.replies a n ∙ sym (quiet_reply s ds L a n quiet);
      site = record {
        objects_are = are.objects ∙ is.site.objects_are;
        node = are.node ∙ is.site.node;
        operations = subst (λ (ks : List LiveOp). AreLiveOps ks (left (informs_abort s ds) live)) (sym are.live)
            (are_left (informs_abort s ds) old.table.site.live live is.site.operations);
        order = subst (λ (ks : List LiveOp). locks.IndicesRise 0 ks new.table.site.next) (sym are.live)
            (subst (λ (next : ℕ). locks.IndicesRise 0 (filter (λ o. not (list_any (informs_abort s ds) (ancestors o.action))) old.table.site.live) next) (sym are.next)
            (rise_filter (λ o. not (list_any (informs_abort s ds) (ancestors o.action))) 0 old.table.site.live old.table.site.next is.site.order));
      };
      commits = λ u.
          are.commits_are u ∙ ap (λ b. b || informs_commit s ds u) (is.commits u)
          ∙ or_commutes (informed L s u true) (informs_commit s ds u) ∙ sym (any_after (is_inform s u true) ds L);
    }

pub informs_keep : InformsKeep
informs_keep objects s before c old new quiet are is =
    serves_after objects s before c new (after (deeds_of before) c.event.deeds) (left (informs_abort s c.event.deeds) (site before).live) refl
    (sym (quiet_live s (deeds_of before) c.mail (site before) c.event.deeds quiet))
    (informed_serves objects s (deeds_of before) c.event.deeds (site before).live old new quiet are (serves objects s before old is))
