-- What a node's log keeps, where it keeps the log of the node's history, is what the node keeps
-- over a restart, at the end of each run, with taken events or without.
use Rattle.std.specs.Prelude.{◌≡◌, ◌≢◌, ℕ, ◌≤◌, Bool, true, List}
use Rattle.cam_names.specs.declared.name.Name.{Name}
use Rattle.cam_names.specs.Dependencies.{as_counts}
use Rattle.cam_type.specs.declared.ObjectDecl.{ObjectDecl}
use Rattle.cam_know.specs.declared.Outcome.TheVariants.{Committed}
use Rattle.cam_know.specs.Knowledge.{Knowledge}
use Rattle.cam_know.specs.Known.{knows, knows_abort, knows_commit, known_count}
use Rattle.cam_event.specs.declared.Event.{Event}
use Rattle.cam_event.specs.History.{count, committed, aborted}
use Rattle.cam_event.specs.Gained.{deps}
use Rattle.cam_event.specs.ByPast.{own_past}
use Rattle.cam_event.specs.Pasts.{plain_all}
use Rattle.cam_event.specs.Taken.{IsRunTaking}
use Rattle.cam_delta.specs.Laws.{node_history}
use Rattle.cam_node.specs.Kept.{kept_count, secured_of, performed_at, paired, AllHeld, IndicesRise, IsKept}
use Rattle.cam_node.specs.Log.{Logged, KeepsLog}

-- Of a recovery: the node's count; the outcomes, each commit with what its action depends on, and
-- the other nodes' counts in the past of the node's last event.
pub record KnowsKept (objects : List ObjectDecl) (t : List Event) (s : ℕ) (own : ℕ)
    (know : Knowledge) : Type 0 where
  pub own_count : own ≡ kept_count t s
  pub aborts : (a : Name) → knows_abort know a ≡ aborted (own_past t s) a
  pub commits : (a : Name) → knows_commit know a ≡ committed (own_past t s) a
  pub commit_counts :
      (a : Name) (counts : List ℕ) → knows know (Committed a counts) ≡ true
      → counts ≡ as_counts (deps objects (own_past t s) a)
  pub other_counts : (m : ℕ) → 1 ≤ m → m ≤ 8 → m ≢ s → known_count know m ≡ count (own_past t s) m

-- A log that keeps the node's history, a taken event at its end with it, gives them,
abbrev pub LogsKeepKnowledge : Type 0
LogsKeepKnowledge =
    (objects : List ObjectDecl) (taken : ℕ → Bool) (t : List Event) (s : ℕ) (logged : Logged)
    → IsRunTaking objects taken t
    → KeepsLog objects s (node_history objects t s) logged
    → KnowsKept objects t s logged.count logged.know

-- and for each Secure of the node its count and the family's operations that were live just before
-- it.
abbrev pub LogsKeepSecured : Type 0
LogsKeepSecured =
    (objects : List ObjectDecl) (taken : ℕ → Bool) (t : List Event) (s : ℕ) (logged : Logged)
    → IsRunTaking objects taken t
    → KeepsLog objects s (node_history objects t s) logged
    → AllHeld logged.held (secured_of objects (plain_all t) s)

-- Of two operations that it holds the one that was performed first has the lesser index.
abbrev pub LogsKeepOrder : Type 0
LogsKeepOrder =
    (objects : List ObjectDecl) (taken : ℕ → Bool) (t : List Event) (s : ℕ) (logged : Logged)
    → IsRunTaking objects taken t
    → KeepsLog objects s (node_history objects t s) logged
    → IndicesRise (performed_at (plain_all t))
    (paired logged.held (secured_of objects (plain_all t) s))

-- So a recovery from it is what the node kept.
abbrev pub LogsKeep : Type 0
LogsKeep =
    (objects : List ObjectDecl) (taken : ℕ → Bool) (t : List Event) (s : ℕ) (logged : Logged)
    → IsRunTaking objects taken t
    → KeepsLog objects s (node_history objects t s) logged
    → IsKept objects t s logged.count logged.know logged.held
