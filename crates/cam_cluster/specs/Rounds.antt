-- Rounds of a play: each action with a body makes its next request where it may go on.
use Rattle.std.specs.Prelude.{◌≡◌, ℕ, Bool, true, false, ◌&&◌, if◌then◌else◌, List, Option}
use Rattle.std.specs.Prelude.{is_some, take}
use Rattle.std.specs.List.{AllByRecursion}
use Rattle.cam_names.specs.declared.name.Name.{Name}
use Rattle.cam_node.specs.Log.{Logged}
use Rattle.cam_runs.specs.Halts.{Halting}
use Rattle.cam_runs.specs.HaltedPlaying.{go, go_in_round, may_go_on}
use Rattle.cam_runs.specs.Standing.{Setting, Standing}
use Rattle.cam_script.specs.declared.Script.{Script}
use Rattle.cam_script.specs.declared.Statement.{Statement}
use Rattle.cam_script.specs.Law.{IsScript}
use Rattle.cam_histories.specs.InputLaws.{held_setting}
use Rattle.cam_cluster.specs.declared.workers.Workers.{Workers}
use Rattle.cam_cluster.specs.declared.works.Put.{Put}
use Rattle.cam_cluster.specs.declared.works.round.Outlook.{Outlook}
use Rattle.cam_cluster.specs.declared.works.round.Outlook.TheVariants as outlooks
use Rattle.cam_cluster.specs.Goes.{IsSaidOf, is_request, next_of}
use Rattle.cam_cluster.specs.Making.{HaveMade, Making}
use Rattle.cam_cluster.specs.Over.{is_over}
use Rattle.cam_cluster.specs.VariableLines.{IsAtNode}
use Rattle.cam_cluster.specs.Workers.{AreWorkers, HaveCaughtUp}
use Rattle.cam_cluster.specs.Works.{KeepsRun, WorksFields}

-- Some run of a script is kept of which the action's home is a node.
pub record IsAtNodeOfSome (a : Name) (works : WorksFields) (may_read : ℕ → Logged → Type 0)
    : Type 0 where
  pub script : Script
  pub standing : Standing
  pub is_script : IsScript script
  pub keeps : KeepsRun script standing works may_read
  pub placed : IsAtNode script.nodes a

-- what a round may expect of an action, where it is so
abbrev pub HasOutlook : Setting → Standing → Name → Outlook → Type 0
HasOutlook c st a outlooks.GoesOn = may_go_on c st a ≡ true
HasOutlook c st a outlooks.Waits = may_go_on c st a ≡ false
HasOutlook c st a outlooks.Over = is_over st.running.trace a ≡ true

-- THE CLAUSE of it: of each run that is kept, and of which the workers have taken in all.
abbrev pub IsOutlook :
    Name → WorksFields → (ℕ → Logged → Type 0) → Workers → Outlook → Type 0
IsOutlook a works may_read workers outlook =
    (script : Script) (st : Standing) (halts : Halting) (line : ℕ) (restarted : ℕ → Bool)
    → IsScript script → KeepsRun script st works may_read → HaveCaughtUp st workers
    → HasOutlook (held_setting script.objects halts line restarted) st a outlook

-- what stands after an action of a round, and whether it makes a request
abbrev pub after_name : Setting → List (List Statement) → Standing → Name → Standing
after_name c bodies st a = if may_go_on c st a then go c bodies st a else st

abbrev pub makes_one : Setting → List (List Statement) → Standing → Name → Bool
makes_one c bodies st a = may_go_on c st a && is_request (next_of bodies st a)

-- The action had its turn: its request was put, if it makes one, and the works and the workers are
-- those after it.
pub record HadTurn (script : Script) (st : Standing) (c : Setting) (a : Name) (done : Option Put)
    (new : WorksFields) (may_read : ℕ → Logged → Type 0) (behind : Workers) : Type 0 where
  pub made : is_some done ≡ makes_one c script.bodies st a
  pub runs :
      IsSaidOf c st a (next_of script.bodies st a) done
      → KeepsRun script (after_name c script.bodies st a) new may_read
  pub workers :
      IsSaidOf c st a (next_of script.bodies st a) done
      → AreWorkers (after_name c script.bodies st a) behind

-- THE CLAUSE of the turn of an action in a round, over what nodes hold.
abbrev pub HasHadTurn :
    ℕ → Name → List (List Statement) → WorksFields → (ℕ → Logged → Type 0) → Workers
    → Option Put → WorksFields → (ℕ → Logged → Type 0) → Workers → Type 0
HasHadTurn line a bodies old might_read old_workers done new may_read workers =
    (script : Script) (st : Standing) (halts : Halting) (restarted : ℕ → Bool)
    → IsScript script → bodies ≡ script.bodies → KeepsRun script st old might_read
    → AreWorkers st old_workers
    → HadTurn script st (held_setting script.objects halts line restarted) a done new may_read
    workers

-- Some run of a script with these bodies is kept of which these are the workers, and the action's
-- home is a node of it.
pub record IsTurnOfSome (a : Name) (bodies : List (List Statement)) (works : WorksFields)
    (may_read : ℕ → Logged → Type 0) (workers : Workers) : Type 0 where
  pub script : Script
  pub standing : Standing
  pub is_script : IsScript script
  pub bodies_are : bodies ≡ script.bodies
  pub keeps : KeepsRun script standing works may_read
  pub are_workers : AreWorkers standing workers
  pub placed : IsAtNode script.nodes a

-- the turns of these actions, one after another
abbrev pub turns_of : List Name → Making
turns_of names c bodies st = go_in_round c bodies names st

-- THE CLAUSE of the turns of actions, in order.
abbrev pub HaveHadTurns :
    ℕ → List Name → List (List Statement) → WorksFields → (ℕ → Logged → Type 0) → Workers
    → WorksFields → (ℕ → Logged → Type 0) → Workers → Type 0
HaveHadTurns line names bodies old might_read old_workers new may_read workers =
    HaveMade (turns_of names) line bodies old might_read old_workers new may_read workers

-- Memory ran out after the turns of the first of them.
pub record HaveHadSomeTurns (line : ℕ) (names : List Name) (bodies : List (List Statement))
    (old : WorksFields) (might_read : ℕ → Logged → Type 0) (old_workers : Workers)
    (new : WorksFields) (may_read : ℕ → Logged → Type 0) (workers : Workers) : Type 0 where
  pub many : ℕ
  pub first :
      HaveHadTurns line (take many names) bodies old might_read old_workers new may_read workers

-- Some run of a script with these bodies is kept of which these are the workers, and the homes of
-- these actions are nodes of it.
pub record AreTurnsOfSome (names : List Name) (bodies : List (List Statement))
    (works : WorksFields) (may_read : ℕ → Logged → Type 0) (workers : Workers) : Type 0 where
  pub script : Script
  pub standing : Standing
  pub is_script : IsScript script
  pub bodies_are : bodies ≡ script.bodies
  pub keeps : KeepsRun script standing works may_read
  pub are_workers : AreWorkers standing workers
  pub placed : AllByRecursion (IsAtNode script.nodes) names
