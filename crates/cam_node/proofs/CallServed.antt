-- A call comes to its site: what is done with it, by the site itself or by a copy that was informed
-- of the news.
use Rattle.std.proofs.Common.{◌≡◌, ℕ, ◌≤◌, List, Some, None, inl, inr, refl, sym, ap, ◌∙◌, subst}
use Rattle.cam_type.specs.declared.ObjectDecl.{ObjectDecl}
use Rattle.cam_type.specs.declared.Kind.{Kind}
use Rattle.cam_type.specs.Objects.{start_of}
use Rattle.cam_type.specs.Table.{kind_of}
use Rattle.cam_know.specs.Knowledge.{Knowledge}
use Rattle.cam_know.specs.Known.{knows_abort, knows_commit}
use Rattle.cam_event.specs.Rules.{Did}
use Rattle.cam_locks.specs.Site.{Site, fits_here}
use Rattle.cam_server.specs.declared.Performed.{Performed}
use Rattle.cam_server.specs.declared.server.Server.{Server as Tables}
use Rattle.cam_server.specs.Server.{Server}
use Rattle.cam_server.specs.Calls.{Asked, answers, tested_by, performed_by, AfterPerformed, AreSame}
use Rattle.cam_server.specs.Calls.{IsInformedOf}
use Rattle.cam_server.specs.Steps.{did_performed}
use Rattle.cam_node.specs.declared.did.Doing.{Doing}
use Rattle.cam_node.specs.declared.plan.Change.TheVariants as changes
use Rattle.cam_node.specs.Standing.{just}
use Rattle.cam_node.specs.Served.{MayBeServed, IsDone}
use Rattle.cam_node.proofs.HomePlans.{informed_before}

-- a server that answers the same may serve the same calls, and one that was informed too
pub may_same : (asked : Asked) (kind : Kind) (old new : Server) → AreSame old new
    → MayBeServed asked kind old → MayBeServed asked kind new
may_same asked kind old new same may = record {
  fits = ap (λ (t : Site). fits_here t.objects t.node asked.object asked.op) same.site ∙ may.fits;
  index = subst (λ (t : Site). t.next ≤ 999999999) (sym same.site) may.index;
  of_kind = may.of_kind ∙ ap (λ (t : Site). kind_of (start_of t.objects asked.object))
      (sym same.site);
}

may_informed : (asked : Asked) (kind : Kind) (news : Knowledge) (old new : Server)
    → IsInformedOf news old new → MayBeServed asked kind old → MayBeServed asked kind new
may_informed asked kind news old new has may = record {
  fits = (λ i. fits_here (has.objects i) (has.node i) asked.object asked.op) ∙ may.fits;
  index = subst (λ (n : ℕ). n ≤ 999999999) (sym has.next) may.index;
  of_kind = may.of_kind ∙ ap (λ (os : List ObjectDecl). kind_of (start_of os asked.object))
      (sym has.objects);
}

-- A copy, in which room was made, was informed of the news.
pub informed_copy : (news : Knowledge) (old copy roomy informed : Server) → AreSame old copy
    → AreSame copy roomy → IsInformedOf news roomy informed
    → IsInformedOf news old informed
informed_copy news old copy roomy informed one two has =
    informed_before (knows_abort news) (knows_commit news) old copy informed one
    (informed_before (knows_abort news) (knows_commit news) copy roomy informed two has)

pub may_copy : (asked : Asked) (kind : Kind) (news : Knowledge) (old copy roomy informed : Server)
    → AreSame old copy → AreSame copy roomy
    → IsInformedOf news roomy informed → MayBeServed asked kind old
    → MayBeServed asked kind informed
may_copy asked kind news old copy roomy informed one two has =
    may_informed asked kind news old informed
    (informed_copy news old copy roomy informed one two has)

-- what is done where a test decides
pub done_tested : (news known : Knowledge) (asked : Asked) (server : Server) (d : Did)
    (doing : Doing) (done : Performed)
    → Some done ≡ tested_by known server asked.action asked.number asked.count asked.visited
    → d ≡ did_performed asked done → doing ≡ just d
    → IsDone news known asked server doing done
done_tested news known asked server d doing done tested is as_just =
    subst (λ (x : Doing). IsDone news known asked server x done) (sym as_just)
    (record { did = is; adds = refl; change = inl (refl, tested) })

-- what is done where the lock table decides
pub done_copy : (news known : Knowledge) (asked : Asked) (old copy roomy informed : Server)
    (tables : Tables) (d : Did) (doing : Doing) (done : Performed)
    → AreSame old copy → AreSame copy roomy → IsInformedOf news roomy informed
    → done ≡ performed_by known informed asked
    → AfterPerformed asked done informed (answers tables) → d ≡ did_performed asked done
    → doing ≡ record { did = d; change = changes.Served tables; adds = None }
    → IsDone news known asked old doing done
done_copy news known asked old copy roomy informed tables d doing done one two has value after is
    as_served =
    subst (λ (x : Doing). IsDone news known asked old x done) (sym as_served)
    (record {
      did = is;
      adds = refl;
      change = inr (
        tables,
        refl,
        record {
          mid = informed;
          informed = informed_copy news old copy roomy informed one two has;
          value = value;
          after = after;
        },
      );
    })
