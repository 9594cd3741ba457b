-- What is kept of each action, and what the deeds so far say of it.
use Rattle.std.specs.Prelude.{◌≡◌, ℕ, ◌+◌, ◌≤◌, Bool, true, false, if◌then◌else◌, List, length, Some, None, unwrap_or}
use Rattle.std.specs.HashMap.{HashMap, get}
use Rattle.cam_names.specs.declared.name.Name.{Name}
use Rattle.cam_names.specs.Names.{name_eq, is_child}
use Rattle.cam_event.specs.declared.Deed.{Deed}
use Rattle.cam_event.specs.declared.Deed.TheVariants.{Commit, Abort}
use Rattle.cam_event.specs.History.{created, asked_commit, asked_abort, committed, aborted, number_of, asks, calls, open_call}
use Rattle.cam_plain.specs.declared.actions.Action.{Action}
use Rattle.cam_plain.specs.declared.actions.Change.{Change}
use Rattle.cam_plain.specs.declared.actions.Change.TheVariants as changes
use Rattle.cam_plain.specs.Lines.{asked_for}

-- whether the deed decides a child of the action
abbrev pub decides_child : Name → Deed → Bool
decides_child a (Commit b) = is_child a b
decides_child a (Abort b) = is_child a b
decides_child a _ = false

-- how many of its children are decided
abbrev pub decisions : List Deed → Name → ℕ
decisions L a = number_of (decides_child a) L

-- what the deeds say of an action
abbrev pub action_of : List Deed → Name → Action
action_of L a =
    record {
      is_asked_for = asked_for L a;
      is_created = created L a;
      asked_commit = asked_commit L a;
      asked_abort = asked_abort L a;
      is_committed = committed L a;
      is_aborted = aborted L a;
      asks = asks L a;
      decisions = decisions L a;
      calls = calls L a;
      open_call = open_call L a;
    }

-- of an action that no deed has named
abbrev pub unnamed : Action
unnamed =
    record {
      is_asked_for = false;
      is_created = false;
      asked_commit = false;
      asked_abort = false;
      is_committed = false;
      is_aborted = false;
      asks = 0;
      decisions = 0;
      calls = 0;
      open_call = None;
    }

abbrev pub action_in : {S : Type 0} → HashMap Name Action S → Name → Action
action_in table a = unwrap_or (get name_eq table a) unnamed

-- The table has of each action what the deeds say.
abbrev pub KeepsActions : {S : Type 0} → List Deed → HashMap Name Action S → Type 0
KeepsActions L table = (a : Name) → 1 ≤ length a → action_in table a ≡ action_of L a

-- what a change makes of what is kept
abbrev pub changed : Change → Action → Action
changed changes.AskedFor r = record r { is_asked_for = true }
changed changes.Created r = record r { is_created = true }
changed changes.AskedCommit r = record r { asked_commit = true }
changed changes.AskedAbort r = record r { asked_abort = true }
changed changes.Committed r = record r { is_committed = true }
changed changes.Aborted r = record r { is_aborted = true }
changed changes.ChildAsked r = record r { asks = r.asks + 1 }
changed changes.ChildDecided r = record r { decisions = r.decisions + 1 }
changed (changes.Called n) r = record r { calls = r.calls + 1; open_call = Some n }
changed changes.Got r = record r { open_call = None }

-- the new table has the change at one action
abbrev pub Changes : {S : Type 0} → Change → Name → HashMap Name Action S → HashMap Name Action S
    → Type 0
Changes change b old new =
    (a : Name)
    → action_in new a ≡ (if name_eq a b then changed change (action_in old a) else action_in old a)

-- the deed decides the action, with this outcome
abbrev pub IsDecision : Change → Name → Deed → Type 0
IsDecision changes.Committed a d = d ≡ Commit a
IsDecision changes.Aborted a d = d ≡ Abort a
IsDecision _ a d = ⊥
