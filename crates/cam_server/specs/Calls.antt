-- What each call answers, and what it does to the server.
use Rattle.std.specs.Prelude.{◌≡◌, ℕ, eqb, min, Bool, true, false, not, ◌&&◌, ◌||◌, if◌then◌else◌}
use Rattle.std.specs.Prelude.{List, filter, Option, Some, None}
use Rattle.std.specs.List.{list_any}
use Rattle.std.specs.HashMap.{get, spare}
use Rattle.cam_names.specs.declared.name.Name.{Name}
use Rattle.cam_names.specs.Names.{name_eq, ancestors}
use Rattle.cam_names.specs.Dependencies.{pairs_of}
use Rattle.cam_type.specs.declared.Op.{Op}
use Rattle.cam_type.specs.declared.Answer.{Answer}
use Rattle.cam_type.specs.declared.State.{State}
use Rattle.cam_know.specs.Knowledge.{Knowledge}
use Rattle.cam_know.specs.declared.Reason.{Reason}
use Rattle.cam_know.specs.declared.Outcome.{Outcome}
use Rattle.cam_know.specs.declared.Outcome.TheVariants.{Aborted, Committed}
use Rattle.cam_know.specs.Known.{knows_abort, knows_commit, is_abort_of, is_commit_of}
use Rattle.cam_know.specs.Orphans.{known_orphan}
use Rattle.cam_event.specs.declared.Reply.{Reply}
use Rattle.cam_event.specs.declared.Reply.TheVariants as replies
use Rattle.cam_locks.specs.declared.Grant.{Grant}
use Rattle.cam_locks.specs.declared.Grant.TheVariants as grants
use Rattle.cam_locks.specs.Names.{has_name}
use Rattle.cam_locks.specs.Site.{Site}
use Rattle.cam_locks.specs.Calls.{grant, after_grant, with_commit, with_abort}
use Rattle.cam_locks.specs.Served.{served}
use Rattle.cam_server.specs.declared.Performed.{Performed}
use Rattle.cam_server.specs.declared.Performed.TheVariants as performed
use Rattle.cam_server.specs.declared.server.CallName.{CallName}
use Rattle.cam_server.specs.declared.server.Server.{Server as Tables}
use Rattle.cam_server.specs.Server.{Server}

-- whether two calls are the same: of one action, under one number
abbrev pub call_eq : CallName → CallName → Bool
call_eq a b = name_eq a.action b.action && eqb a.number b.number

-- the reply by the table of the calls that were performed, and then by that of those that were
-- bounced
abbrev pub reply_by : Option Answer → Option Name → Option Reply
reply_by (Some answer) u = Some (replies.Done answer)
reply_by None (Some u) = Some (replies.Busy u)
reply_by None None = None

abbrev pub reply_in : Tables → CallName → Option Reply
reply_in t call = reply_by (get call_eq t.performed call) (get call_eq t.bounced call)

-- what the tables answer
abbrev pub answers : Tables → Server
answers t =
    record {
      count = t.count;
      table = t.table;
      kept_reply = λ a n. reply_in t (record { action = a; number = n });
      room = min (spare t.performed) (spare t.bounced);
    }

-- a call as it comes to its site: the count at which the site was addressed, and the pairs that its
-- action has visited
pub record Asked : Type 0 where
  pub action : Name
  pub number : ℕ
  pub object : ℕ
  pub op : Op
  pub count : ℕ
  pub visited : List ℕ

abbrev pub call : Name → ℕ → ℕ → Op → ℕ → List ℕ → Asked
call a n x op c visited = record {
  action = a;
  number = n;
  object = x;
  op = op;
  count = c;
  visited = visited;
}

-- THE TESTS OF A CALL, in their order; the first that holds decides. The lock table grants it, or
-- names who stands in the way.
abbrev pub granted : Grant → Performed
granted (grants.Done answer) = performed.Done answer
granted (grants.Conflict u) = performed.Busy u

abbrev pub orphan_or : Option Reason → Performed → Performed
orphan_or (Some reason) other = performed.Orphan reason
orphan_or None other = other

abbrev pub again_or : Option Reply → Performed → Performed
again_or (Some reply) other = performed.Again reply
again_or None other = other

abbrev pub performed_by : Knowledge → Server → Asked → Performed
performed_by k server asked =
    if not (eqb asked.count server.count) then performed.Missed
    else if list_any (knows_commit k) (ancestors asked.action) then performed.Ended
    else again_or (server.kept_reply asked.action asked.number)
    (orphan_or (known_orphan k asked.action (pairs_of asked.visited))
    (granted (grant server.table.site asked.action asked.object asked.op)))

-- What comes of it before the lock table is asked: the first of the other four tests that holds, if one does.
abbrev pub orphaned : Option Reason → Option Performed
orphaned (Some reason) = Some (performed.Orphan reason)
orphaned None = None

abbrev pub replied : Option Reply → Option Performed → Option Performed
replied (Some reply) other = Some (performed.Again reply)
replied None other = other

abbrev pub tested_by : Knowledge → Server → Name → ℕ → ℕ → List ℕ → Option Performed
tested_by k server a n c visited =
    if not (eqb c server.count) then Some performed.Missed
    else if list_any (knows_commit k) (ancestors a) then Some performed.Ended
    else replied (server.kept_reply a n) (orphaned (known_orphan k a (pairs_of visited)))

abbrev pub decided_or : Option Performed → Performed → Performed
decided_or (Some done) other = done
decided_or None other = other

-- what is kept of it: the reply to a call that was performed or bounced
abbrev pub reply_of : Performed → Option Reply
reply_of (performed.Done answer) = Some (replies.Done answer)
reply_of (performed.Busy u) = Some (replies.Busy u)
reply_of _ = None

abbrev pub is_served : Performed → Bool
is_served (performed.Done answer) = true
is_served (performed.Busy u) = true
is_served _ = false

-- A call that comes as far as the lock table leaves its site as the grant does; any other changes
-- nothing.
pub record AfterPerformed (asked : Asked) (result : Performed) (old new : Server) : Type 0 where
  pub count : new.count ≡ old.count
  pub site :
      new.table.site ≡ (if is_served result then after_grant old.table.site asked.action
      asked.object asked.op else old.table.site)
  pub replies :
      (a : Name) (n : ℕ)
      → new.kept_reply a n
      ≡ (if is_served result && (name_eq asked.action a && eqb asked.number n) then reply_of result
      else old.kept_reply a n)

-- the reply to a call is noted
abbrev pub IsNoted : CallName → Option Reply → Tables → Tables → Type 0
IsNoted noted reply old new = (c : CallName) → reply_in new c
    ≡ (if call_eq noted c then reply else reply_in old c)

-- what the handed-in server holds then: the state after a call that was performed, else what it
-- held
abbrev pub held_after : Performed → Asked → Server → State → State
held_after result asked old state =
    if is_served result then served old.table.site asked.action asked.object asked.op state
    else state

-- By the value that the object has at the site then: it holds that value after a call that was
-- performed, else what it held.
abbrev pub held_by : Performed → State → State → State
held_by (performed.Done answer) value held = value
held_by _ value held = held

-- both answer the same
pub record AreSame (one other : Server) : Type 0 where
  pub count : other.count ≡ one.count
  pub site : other.table.site ≡ one.table.site
  pub replies : (a : Name) (n : ℕ) → other.kept_reply a n ≡ one.kept_reply a n

-- which of these outcomes are the action's aborts, and which its commits
abbrev pub aborts_in : List Outcome → Name → Bool
aborts_in os u = list_any (is_abort_of u) os

abbrev pub commits_in : List Outcome → Name → Bool
commits_in os u = list_any (is_commit_of u) os

-- a site is informed of an outcome
abbrev pub informed_of : Outcome → Site → Site
informed_of (Aborted a) site = with_abort site a
informed_of (Committed a counts) site = with_commit site a

-- The site is informed of these aborts and commits: the operations of an aborted action and of all
-- below it are dropped.
pub record AreInformed (aborts commits : Name → Bool) (old new : Server) : Type 0 where
  pub count : new.count ≡ old.count
  pub objects : new.table.site.objects ≡ old.table.site.objects
  pub node : new.table.site.node ≡ old.table.site.node
  pub live : new.table.site.live ≡ filter (λ o. not (list_any aborts (ancestors o.action)))
      old.table.site.live
  pub commits_are : (u : Name) → has_name new.table.site.committed u
      ≡ (has_name old.table.site.committed u || commits u)
  pub aborts_are : (u : Name) → has_name new.table.site.aborted u
      ≡ (has_name old.table.site.aborted u || aborts u)
  pub next : new.table.site.next ≡ old.table.site.next
  pub replies : (a : Name) (n : ℕ) → new.kept_reply a n ≡ old.kept_reply a n

-- It is informed of what is known, and of these outcomes.
abbrev pub IsInformedOf : Knowledge → Server → Server → Type 0
IsInformedOf k old new = AreInformed (knows_abort k) (knows_commit k) old new

abbrev pub IsInformedOfAll : List Outcome → Server → Server → Type 0
IsInformedOfAll os old new = AreInformed (aborts_in os) (commits_in os) old new

-- a server that has served nothing since the restart
pub record IsNew (count : ℕ) (site : Site) (new : Server) : Type 0 where
  pub count_is : new.count ≡ count
  pub site_is : new.table.site ≡ site
  pub replies : (a : Name) (n : ℕ) → new.kept_reply a n ≡ None
