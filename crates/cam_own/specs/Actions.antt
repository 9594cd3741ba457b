-- What is kept of each action, and what the deeds so far say of it.
use Rattle.std.specs.Prelude.{◌≡◌, ◌+◌, true, false, if◌then◌else◌, List, Some, None, unwrap_or}
use Rattle.std.specs.HashMap.{HashMap, get}
use Rattle.cam_names.specs.declared.name.Name.{Name}
use Rattle.cam_names.specs.Names.{name_eq}
use Rattle.cam_event.specs.declared.Deed.{Deed}
use Rattle.cam_event.specs.History.{created, asked_commit, asked_abort, asks, calls, open_call}
use Rattle.cam_own.specs.declared.actions.Action.{Action}
use Rattle.cam_own.specs.declared.actions.Change.{Change}
use Rattle.cam_own.specs.declared.actions.Change.TheVariants as changes

-- what the deeds say of an action
abbrev pub action_of : List Deed → Name → Action
action_of L a =
    record {
      is_created = created L a;
      asked_commit = asked_commit L a;
      asked_abort = asked_abort L a;
      asks = asks L a;
      calls = calls L a;
      open_call = open_call L a;
    }

-- of an action that no deed has named
abbrev pub unnamed : Action
unnamed =
    record {
      is_created = false;
      asked_commit = false;
      asked_abort = false;
      asks = 0;
      calls = 0;
      open_call = None;
    }

abbrev pub action_in : {S : Type 0} → HashMap Name Action S → Name → Action
action_in table a = unwrap_or (get name_eq table a) unnamed

-- The table has of each action what the deeds say.
abbrev pub KeepsActions : {S : Type 0} → List Deed → HashMap Name Action S → Type 0
KeepsActions L table = (a : Name) → action_in table a ≡ action_of L a

-- what a change makes of what is kept
abbrev pub changed : Change → Action → Action
changed changes.Created r = record r { is_created = true }
changed changes.AskedCommit r = record r { asked_commit = true }
changed changes.AskedAbort r = record r { asked_abort = true }
changed changes.ChildAsked r = record r { asks = r.asks + 1 }
changed (changes.Called n) r = record r { calls = r.calls + 1; open_call = Some n }
changed changes.Got r = record r { open_call = None }

-- the new table has the change at one action
abbrev pub Changes : {S : Type 0} → Change → Name → HashMap Name Action S → HashMap Name Action S
    → Type 0
Changes change b old new =
    (a : Name)
    → action_in new a ≡ (if name_eq a b then changed change (action_in old a) else action_in old a)
