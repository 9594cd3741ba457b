-- Lines of one input that is put unless it is refused, and what such a line owes.
--
-- The input comes to one node. It is refused where the node is halted, and else where something
-- stands against it at the node.
use Rattle.std.specs.Prelude.{◌≡◌, ◌≤◌, ℕ, List, Option, None, Result}
use Rattle.cam_type.specs.declared.ObjectDecl.{ObjectDecl}
use Rattle.cam_event.specs.declared.LineRefusal.{LineRefusal}
use Rattle.cam_event.specs.Inputs.{node_of}
use Rattle.cam_event.specs.Readings.{Reading, by_knowledge}
use Rattle.cam_event.specs.Refusals.{refusal, query_refusal, tell_refusal}
use Rattle.cam_event.specs.Runs.{IsNode, IsWant}
use Rattle.cam_node.specs.declared.Input.{Input}
use Rattle.cam_node.specs.declared.Input.TheVariants as inputs
use Rattle.cam_node.specs.Calls.{input_of}
use Rattle.cam_node.specs.Log.{Logged}
use Rattle.cam_runs.specs.Halts.{Halting}
use Rattle.cam_runs.specs.HaltedLines.{Passed, Led, act, halted_or, setting, unless}
use Rattle.cam_runs.specs.Standing.{Standing, Setting, made, put}
use Rattle.cam_runs.specs.UnderHalts.{IsNextStep}
use Rattle.cam_script.specs.declared.Act.{Act}
use Rattle.cam_script.specs.declared.Script.{Script}
use Rattle.cam_script.specs.declared.Step.{Step}
use Rattle.cam_script.specs.Law.{IsScript}
use Rattle.cam_histories.specs.InputLaws.{IsIdleFor}
use Rattle.cam_histories.specs.Lines.{line_refusal}
use Rattle.cam_cluster.specs.declared.LineFault.{LineFault}
use Rattle.cam_cluster.specs.declared.LineFault.TheVariants as line_faults
use Rattle.cam_cluster.specs.declared.works.Put.{Put}
use Rattle.cam_cluster.specs.SoFar.{HasRefused, IsEnded, KeepsLines, KeepsLinesAsBefore}
use Rattle.cam_cluster.specs.SoFar.{LinesFields, bound_by}

-- what stands against an input at a node that is not halted
abbrev pub refusal_of : Reading → Standing → ℕ → Input → Option LineRefusal
refusal_of reading st s (inputs.Request request) =
    refusal (reading.sight st.running.trace s) request.action request.want
refusal_of reading st s (inputs.Tell to) = tell_refusal s to
refusal_of reading st s (inputs.Query family) =
    query_refusal (reading.sight st.running.trace s) family
refusal_of reading st s _ = None

-- what the line comes to: the input is put, and the variable bound by what it made
abbrev pub led_by : Setting → Standing → ℕ → Input → Passed
led_by c st s input =
    let after = put c st (input_of s input) in Led after (bound_by input (made st after))

-- Such a line puts no letter. What its input speaks of is declared.
abbrev pub IsOwnInput : List ObjectDecl → Input → Type 0
IsOwnInput objects inputs.Begin = Unit {0}
IsOwnInput objects (inputs.Request request) = IsWant objects request.want
IsOwnInput objects (inputs.Letter id letter) = ⊥
IsOwnInput objects (inputs.Tell to) = IsNode to
IsOwnInput objects (inputs.Query family) = Unit {0}

-- A line of this act puts this input to the node of this number, unless it is refused.
pub record IsLineTo (script : Script) (st : Standing) (act_is : Act) (s : ℕ)
    (input : Input) : Type 0 where
  pub low : 1 ≤ s
  pub high : s ≤ script.nodes
  pub at : node_of st.running.trace (input_of s input) ≡ s
  pub own : IsOwnInput script.objects input
  pub idle : IsIdleFor st (input_of s input)
  pub tests :
      line_refusal (by_knowledge script.objects) st act_is
      ≡ halted_or st s (refusal_of (by_knowledge script.objects) st s input)
  pub takes :
      (c : Setting)
      → act c script.bodies st act_is
      ≡ unless (halted_or st s (refusal_of c.reading st s input)) (led_by c st s input)

-- some run is kept whose next line is such a line
pub record IsLineToSome (s : ℕ) (input : Input) (lines : LinesFields)
    (may_read : ℕ → Logged → Type 0) : Type 0 where
  pub script : Script
  pub standing : Standing
  pub act_is : Act
  pub is_script : IsScript script
  pub keeps : KeepsLines script standing lines may_read
  pub is_line : IsLineTo script standing act_is s input

-- THE CLAUSE of a line that puts an input unless it is refused: for each run whose next step is
-- such a line.
abbrev pub IsTriedLine : ℕ → ℕ → Input → LinesFields → (ℕ → Logged → Type 0) → LinesFields
    → (ℕ → Logged → Type 0) → Result Put LineFault → Type 0
IsTriedLine line s input old might_read new may_read result =
    (script : Script) (st : Standing) (halts : Halting) (act_is : Act) (later : List Step)
    → IsScript script → KeepsLines script st old might_read
    → IsNextStep script st (record { line = line; act = act_is })
    → IsLineTo script st act_is s input
    → IsEnded script st
    (setting (by_knowledge script.objects) halts (record { line = line; act = act_is }) later)
    act_is (input_of s input) new may_read result

-- the line was refused by this test, or memory ran out before
abbrev pub IsRefusedAs : ℕ → LineRefusal → LinesFields → (ℕ → Logged → Type 0) → LinesFields
    → (ℕ → Logged → Type 0) → LineFault → Type 0
IsRefusedAs line refusal old might_read new may_read (line_faults.Refused told) =
    (told ≡ refusal) × HasRefused line refusal old might_read new may_read
IsRefusedAs line refusal old might_read new may_read line_faults.NoMemory =
    KeepsLinesAsBefore old might_read new may_read
