-- Lines whose input goes by what a variable stands for: which input it is, and what they owe.
use Rattle.std.specs.Prelude.{◌≡◌, ◌≤◌, ℕ, true, List, Option, Some, None, Result}
use Rattle.std.specs.Prelude.{option_map, option_and_then, slice_get, unwrap_or}
use Rattle.cam_names.specs.declared.name.Name.{Name}
use Rattle.cam_names.specs.Names.{family, home_node}
use Rattle.cam_event.specs.declared.Want.{Want}
use Rattle.cam_event.specs.declared.Want.TheVariants as wants
use Rattle.cam_event.specs.Inputs.{Input, Requests, Queries}
use Rattle.cam_event.specs.Readings.{by_knowledge}
use Rattle.cam_event.specs.Runs.{IsWant}
use Rattle.cam_node.specs.Log.{Logged}
use Rattle.cam_runs.specs.Halts.{Halting}
use Rattle.cam_runs.specs.HaltedLines.{act, of_variable, setting, take_request}
use Rattle.cam_runs.specs.InRange.{is_free}
use Rattle.cam_runs.specs.Requests.{variable}
use Rattle.cam_runs.specs.Standing.{Standing, Setting}
use Rattle.cam_runs.specs.UnderHalts.{IsNextStep}
use Rattle.cam_script.specs.declared.Act.{Act}
use Rattle.cam_script.specs.declared.Script.{Script}
use Rattle.cam_script.specs.declared.Step.{Step}
use Rattle.cam_script.specs.Law.{IsScript}
use Rattle.cam_histories.specs.Lines.{line_refusal, test_request, test_variable}
use Rattle.cam_cluster.specs.declared.LineFault.{LineFault}
use Rattle.cam_cluster.specs.declared.works.Put.{Put}
use Rattle.cam_cluster.specs.SoFar.{IsEnded, IsLineOfInput, KeepsLines, LinesFields}

-- the action of a variable; none if the line that binds it was refused or halted
abbrev pub action_of : List (Option Name) → ℕ → Option Name
action_of bound v = unwrap_or (slice_get bound v) None

-- the home of an action is among so many nodes; and so are those of the actions of variables
abbrev pub IsAtNode : ℕ → Name → Type 0
IsAtNode nodes a = (1 ≤ home_node a) × (home_node a ≤ nodes)

abbrev pub AreAtNodes : ℕ → List (Option Name) → Type 0
AreAtNodes nodes bound = (v : ℕ) (a : Name) → action_of bound v ≡ Some a → IsAtNode nodes a

-- Some run of a script is kept whose next line has this act, and whose variables stand for actions
-- of the script's nodes.
pub record IsNextOfSome (line : ℕ) (act_is : Act) (lines : LinesFields)
    (may_read : ℕ → Logged → Type 0) : Type 0 where
  pub script : Script
  pub standing : Standing
  pub is_script : IsScript script
  pub keeps : KeepsLines script standing lines may_read
  pub next : IsNextStep script standing (record { line = line; act = act_is })
  pub placed : AreAtNodes script.nodes standing.running.bound

-- THE INPUT of a line by the action of its variable: a request of it, or a query after its family
abbrev pub request_of : Option Name → Want → Option Input
request_of action want = option_map (λ a. Requests (record { action = a; want = want })) action

abbrev pub give_up_of : Option Name → Option Name → Option Input
give_up_of action child = option_and_then (λ b. request_of action (wants.GiveUp b)) child

abbrev pub query_of : ℕ → Option Name → Option Input
query_of s action = option_map (λ a. Queries s (family a)) action

-- Where no action stands for a variable the line is refused, and any input will do.
abbrev pub IsItsInput : Option Input → Input → Type 0
IsItsInput (Some its) input = its ≡ input
IsItsInput None input = Unit {0}

-- THE CLAUSE of a line that puts this input, if it puts one
abbrev pub IsVariableLine : ℕ → Act → Option Input → LinesFields → (ℕ → Logged → Type 0)
    → LinesFields → (ℕ → Logged → Type 0) → Result Put LineFault → Type 0
IsVariableLine line act_is its old might_read new may_read result =
    (input : Input) → IsItsInput its input
    → IsLineOfInput line act_is input old might_read new may_read result

-- A line of this act makes this request of the action that a variable stands for, which is no
-- variable of `start`.
pub record IsRequestBy (script : Script) (st : Standing) (act_is : Act) (v : ℕ)
    (want : Want) : Type 0 where
  pub free : is_free script v ≡ true
  pub in_range : IsWant script.objects want
  pub tests :
      line_refusal (by_knowledge script.objects) st act_is
      ≡ test_variable (variable st.running v)
      (λ a. test_request (by_knowledge script.objects) st a want)
  pub takes :
      (c : Setting)
      → act c script.bodies st act_is
      ≡ of_variable (variable st.running v) (λ a. take_request c st a want)

-- some run is kept whose next line makes it
pub record IsRequestBySome (v : ℕ) (want : Want) (lines : LinesFields)
    (may_read : ℕ → Logged → Type 0) : Type 0 where
  pub script : Script
  pub standing : Standing
  pub act_is : Act
  pub is_script : IsScript script
  pub keeps : KeepsLines script standing lines may_read
  pub placed : AreAtNodes script.nodes standing.running.bound
  pub is_request : IsRequestBy script standing act_is v want

-- THE CLAUSE of a request of a variable's action: of each line that makes it
abbrev pub IsRequestLine : ℕ → ℕ → Want → LinesFields → (ℕ → Logged → Type 0) → LinesFields
    → (ℕ → Logged → Type 0) → Result Put LineFault → Type 0
IsRequestLine line v want old might_read new may_read result =
    (script : Script) (st : Standing) (halts : Halting) (act_is : Act) (later : List Step)
    → IsScript script → KeepsLines script st old might_read
    → IsNextStep script st (record { line = line; act = act_is })
    → IsRequestBy script st act_is v want → (input : Input)
    → IsItsInput (request_of (action_of old.bound v) want) input
    → IsEnded script st
    (setting (by_knowledge script.objects) halts (record { line = line; act = act_is }) later)
    act_is input new may_read result
