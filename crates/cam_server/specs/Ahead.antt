-- A call may go ahead of the news that came with it: where the news speak of no family with live
-- operations here, the site may be informed of them after the call was performed, and all is as if
-- it had been informed first.
use Rattle.std.specs.Prelude.{◌≡◌, true, Bool, not}
use Rattle.std.specs.List.{list_all}
use Rattle.cam_names.specs.declared.name.Name.{Name}
use Rattle.cam_names.specs.Names.{family}
use Rattle.cam_know.specs.Knowledge.{Knowledge}
use Rattle.cam_know.specs.declared.Outcome.{Outcome}
use Rattle.cam_know.specs.declared.Outcome.TheVariants.{Aborted, Committed}
use Rattle.cam_know.specs.Known.{knows_abort}
use Rattle.cam_locks.specs.Site.{Site}
use Rattle.cam_locks.specs.Calls.{has_family}
use Rattle.cam_server.specs.declared.Performed.{Performed}
use Rattle.cam_server.specs.Server.{Server}
use Rattle.cam_server.specs.Calls.{Asked, performed_by, AfterPerformed, IsInformedOf}

-- whose outcome it is
abbrev pub decided_name : Outcome → Name
decided_name (Aborted a) = a
decided_name (Committed a counts) = a

-- no live operation here is of the family of one of the news
abbrev pub is_apart : Site → Outcome → Bool
is_apart site o = not (has_family site (family (decided_name o)))

abbrev pub AreApart : Knowledge → Site → Type 0
AreApart news site = list_all (is_apart site) news.outcomes ≡ true

-- the site was informed of the news, and then the call was performed
pub record CameAfter (news k : Knowledge) (asked : Asked) (done : Performed)
    (old new : Server) : Type 0 where
  pub mid : Server
  pub informed : IsInformedOf news old mid
  pub value : done ≡ performed_by k mid asked
  pub after : AfterPerformed asked done mid new

abbrev pub CallsGoAhead : Type 0
CallsGoAhead =
    (news k : Knowledge) (asked : Asked) (done : Performed) (old mid new : Server)
    → ((u : Name) → knows_abort news u ≡ true → knows_abort k u ≡ true)
    → AreApart news old.table.site
    → done ≡ performed_by k old asked → AfterPerformed asked done old mid
    → IsInformedOf news mid new
    → CameAfter news k asked done old new
