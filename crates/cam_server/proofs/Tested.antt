-- The tests that come before the lock table: where one of them holds it decides, and it goes on to hold where the site is informed.
use Rattle.std.proofs.Common.{◌≡◌, eqb, Bool, true, false, not, ◌&&◌, if◌then◌else◌, Option, Some, None, sym, ap, ◌∙◌, refl}
use Rattle.std.specs.List.{list_any}
use Rattle.std.specs.Option.{option_map_or}
use Rattle.cam_names.specs.Names.{name_eq, ancestors}
use Rattle.cam_names.specs.Dependencies.{pairs_of}
use Rattle.cam_know.specs.declared.Reason.{Reason}
use Rattle.cam_know.specs.Knowledge.{Knowledge}
use Rattle.cam_know.specs.Known.{knows_commit}
use Rattle.cam_know.specs.Orphans.{known_orphan}
use Rattle.cam_event.specs.declared.Reply.{Reply}
use Rattle.cam_locks.specs.Calls.{grant, after_grant}
use Rattle.cam_server.specs.declared.Performed.{Performed}
use Rattle.cam_server.specs.declared.Performed.TheVariants as performed
use Rattle.cam_server.specs.Server.{Server}
use Rattle.cam_server.specs.Calls.{Asked, tested_by, replied, orphaned, decided_or, performed_by, again_or, orphan_or, granted, is_served, reply_of, AfterPerformed, IsInformedOf}
use Rattle.cam_server.specs.Ahead.{CameAfter}

-- the first that holds decides, else the lock table
decided : (missed ended : Bool) (kept : Option Reply) (why : Option Reason) (other : Performed)
    → (if missed then performed.Missed else if ended then performed.Ended else again_or kept (orphan_or why other))
    ≡ decided_or (if missed then Some performed.Missed else if ended then Some performed.Ended else replied kept (orphaned why)) other
decided true ended kept why other = refl
decided false true kept why other = refl
decided false false (Some reply) why other = refl
decided false false None (Some reason) other = refl
decided false false None None other = refl

pub tested_decides : (k : Knowledge) (server : Server) (asked : Asked)
    → performed_by k server asked
    ≡ decided_or (tested_by k server asked.action asked.number asked.count asked.visited) (granted (grant server.table.site asked.action asked.object asked.op))
tested_decides k server asked =
    decided (not (eqb asked.count server.count)) (list_any (knows_commit k) (ancestors asked.action)) (server.kept_reply asked.action asked.number)
    (known_orphan k asked.action (pairs_of asked.visited)) (granted (grant server.table.site asked.action asked.object asked.op))

-- what a test decides is not served
some_is : (done other : Performed) → Some done ≡ Some other → is_served other ≡ false → is_served done ≡ false
some_is done other is none = ap (λ o. option_map_or is_served o false) is ∙ none

not_served : (missed ended : Bool) (kept : Option Reply) (why : Option Reason) (done : Performed)
    → Some done ≡ (if missed then Some performed.Missed else if ended then Some performed.Ended else replied kept (orphaned why))
    → is_served done ≡ false
not_served true ended kept why done is = some_is done performed.Missed is refl
not_served false true kept why done is = some_is done performed.Ended is refl
not_served false false (Some reply) why done is = some_is done (performed.Again reply) is refl
not_served false false None (Some reason) done is = some_is done (performed.Orphan reason) is refl
not_served false false None None done is = cc

-- A test that holds decides, and changes nothing at the site.
pub tested_is : (k : Knowledge) (server : Server) (asked : Asked) (done : Performed)
    → Some done ≡ tested_by k server asked.action asked.number asked.count asked.visited → done ≡ performed_by k server asked
tested_is k server asked done tested =
    ap (λ t. decided_or t (granted (grant server.table.site asked.action asked.object asked.op))) tested ∙ sym (tested_decides k server asked)

pub tested_unserved : (k : Knowledge) (server : Server) (asked : Asked) (done : Performed)
    → Some done ≡ tested_by k server asked.action asked.number asked.count asked.visited → is_served done ≡ false
tested_unserved k server asked done =
    not_served (not (eqb asked.count server.count)) (list_any (knows_commit k) (ancestors asked.action)) (server.kept_reply asked.action asked.number)
    (known_orphan k asked.action (pairs_of asked.visited)) done

pub tested_after : (k : Knowledge) (server : Server) (asked : Asked) (done : Performed)
    → Some done ≡ tested_by k server asked.action asked.number asked.count asked.visited → AfterPerformed asked done server server
tested_after k server asked done tested =
    let none : is_served done ≡ false = tested_unserved k server asked done tested in
    record {
      count = refl;
      site = sym (ap (λ b. if b then after_grant server.table.site asked.action asked.object asked.op else server.table.site) none);
      replies = λ a n. sym (ap (λ b. if b && (name_eq asked.action a && eqb asked.number n) then reply_of done else server.kept_reply a n) none);
    }

-- A call that a test decides may come before the site is informed: that changes no test.
pub tested_came : (news k : Knowledge) (asked : Asked) (done : Performed) (old new : Server)
    → Some done ≡ tested_by k old asked.action asked.number asked.count asked.visited → IsInformedOf news old new
    → CameAfter news k asked done old new
tested_came news k asked done old new tested informed =
    record { mid = new; informed = informed; value = tested_is k new asked done again; after = tested_after k new asked done again }
  where
    again : Some done ≡ tested_by k new asked.action asked.number asked.count asked.visited
    again = tested ∙ (λ i.
        if not (eqb asked.count (sym informed.count i)) then Some performed.Missed
        else if list_any (knows_commit k) (ancestors asked.action) then Some performed.Ended
        else replied (sym (informed.replies asked.action asked.number) i) (orphaned (known_orphan k asked.action (pairs_of asked.visited))))
