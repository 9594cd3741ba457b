-- The lines of a script so far: the works, and the actions that their variables stand for; and what
-- a line of one input makes of them.
use Rattle.std.specs.Prelude.{◌≡◌, ℕ, ◌+◌, Bool, List, Option, Some, None, reverse}
use Rattle.std.specs.Prelude.{Result, Ok, Err}
use Rattle.cam_names.specs.declared.name.Name.{Name}
use Rattle.cam_event.specs.declared.Deed.{Deed}
use Rattle.cam_event.specs.declared.Event.{Event}
use Rattle.cam_event.specs.Inputs.{Input}
use Rattle.cam_event.specs.Readings.{by_knowledge}
use Rattle.cam_event.specs.declared.LineRefusal.{LineRefusal}
use Rattle.cam_node.specs.declared.Input.{Input as NodeInput}
use Rattle.cam_node.specs.declared.Input.TheVariants as inputs
use Rattle.cam_node.specs.Calls.{input_of, mail_of, load_of}
use Rattle.cam_node.specs.Log.{Logged}
use Rattle.cam_runs.specs.Halts.{Halting}
use Rattle.cam_runs.specs.HaltedLines.{Refused, act, after_line, setting}
use Rattle.cam_runs.specs.Requests.{created_in, asked_in, newest_deeds}
use Rattle.cam_runs.specs.Standing.{Standing, Setting, made, put, with_binding}
use Rattle.cam_runs.specs.UnderHalts.{IsNextStep, IsUnderHalts}
use Rattle.cam_script.specs.declared.Act.{Act}
use Rattle.cam_script.specs.declared.Script.{Script}
use Rattle.cam_script.specs.declared.Step.{Step}
use Rattle.cam_script.specs.Law.{IsScript}
use Rattle.cam_histories.specs.InputLaws.{held_setting, halt_of}
use Rattle.cam_histories.specs.Lines.{line_refusal}
use Rattle.cam_cluster.specs.declared.LineFault.{LineFault}
use Rattle.cam_cluster.specs.declared.LineFault.TheVariants as line_faults
use Rattle.cam_cluster.specs.declared.works.Put.{Put}
use Rattle.cam_cluster.specs.declared.works.Put.TheVariants as puts
use Rattle.cam_cluster.specs.Puts.{IsPutAt, as_halt}
use Rattle.cam_cluster.specs.Works.{WorksFields, KeepsRun}

pub record LinesFields : Type 0 where
  pub works : WorksFields
  -- for each line so far the action that its variable stands for
  pub bound : List (Option Name)

pub record KeepsLines (script : Script) (st : Standing) (lines : LinesFields)
    (may_read : ℕ → Logged → Type 0) : Type 0 where
  pub runs : KeepsRun script st lines.works may_read
  pub variables : lines.bound ≡ st.running.bound

-- the action that a variable stands for by what an input made: the one that it created, or the
-- child that it asked for
abbrev pub bound_by : NodeInput → List Deed → Option Name
bound_by inputs.Begin deeds = created_in deeds
bound_by (inputs.Request request) deeds = asked_in deeds
bound_by _ deeds = None

-- by how the input ended, and by the events after it, the oldest first
abbrev pub IsBinding : NodeInput → List Event → Put → Option Name → Type 0
IsBinding input events puts.Stood binds = binds ≡ bound_by input (newest_deeds (reverse events))
IsBinding input events puts.Halted binds = binds ≡ None

abbrev pub after_put : NodeInput → Standing → Standing → Standing
after_put input before after =
    record after { running = with_binding (bound_by input (made before after)) after.running }

-- An input was put, and the line's variable stands for what it made. What stands then is to be
-- under way, which the line's own law says.
abbrev pub HasLed : ℕ → ℕ → NodeInput → LinesFields → (ℕ → Logged → Type 0) → Put
    → LinesFields → (ℕ → Logged → Type 0) → Type 0
HasLed line place input old might_read done new may_read =
    (script : Script) (st : Standing) (halts : Halting) (restarted : ℕ → Bool)
    → IsScript script → KeepsLines script st old might_read
    → IsPutAt script st place (input_of (place + 1) input) (mail_of input) (load_of input)
    → halt_of (held_setting script.objects halts line restarted) st (input_of (place + 1) input)
    ≡ as_halt done
    → IsUnderHalts script
    (after_put input st
    (put (held_setting script.objects halts line restarted) st (input_of (place + 1) input)))
    → KeepsLines script
    (after_put input st
    (put (held_setting script.objects halts line restarted) st (input_of (place + 1) input))) new
    may_read

-- A line was refused.
abbrev pub HasRefused : ℕ → LineRefusal → LinesFields → (ℕ → Logged → Type 0) → LinesFields
    → (ℕ → Logged → Type 0) → Type 0
HasRefused line refusal old might_read new may_read =
    (script : Script) (st : Standing) → KeepsLines script st old might_read
    → IsUnderHalts script (after_line st line (Refused refusal))
    → KeepsLines script (after_line st line (Refused refusal)) new may_read

-- They keep the lines that they kept before.
abbrev pub KeepsLinesAsBefore : LinesFields → (ℕ → Logged → Type 0) → LinesFields
    → (ℕ → Logged → Type 0) → Type 0
KeepsLinesAsBefore old might_read new may_read =
    (script : Script) (st : Standing) → IsScript script → KeepsLines script st old might_read
    → KeepsLines script st new may_read

-- Some run of a script is kept: its lines so far.
pub record AreLinesOfSome (lines : LinesFields) (may_read : ℕ → Logged → Type 0) : Type 0 where
  pub script : Script
  pub standing : Standing
  pub is_script : IsScript script
  pub keeps : KeepsLines script standing lines may_read

-- What the next line of one input, of this act, comes to where the input's node halts or not.
pub record IsLed (script : Script) (st : Standing) (c : Setting) (act_is : Act) (input : Input)
    (done : Put) (new : LinesFields) (may_read : ℕ → Logged → Type 0) : Type 0 where
  pub passed : line_refusal (by_knowledge script.objects) st act_is ≡ None
  pub stands :
      halt_of c st input ≡ as_halt done
      → KeepsLines script (after_line st c.line (act c script.bodies st act_is)) new may_read

pub record IsRefused (script : Script) (st : Standing) (line : ℕ) (act_is : Act)
    (refusal : LineRefusal) (new : LinesFields) (may_read : ℕ → Logged → Type 0) : Type 0 where
  pub test : line_refusal (by_knowledge script.objects) st act_is ≡ Some refusal
  pub stands : KeepsLines script (after_line st line (Refused refusal)) new may_read

-- how a line of one input ends
abbrev pub IsEnded : Script → Standing → Setting → Act → Input → LinesFields
    → (ℕ → Logged → Type 0) → Result Put LineFault → Type 0
IsEnded script st c act_is input new may_read (Ok done) =
    IsLed script st c act_is input done new may_read
IsEnded script st c act_is input new may_read (Err (line_faults.Refused refusal)) =
    IsRefused script st c.line act_is refusal new may_read
IsEnded script st c act_is input new may_read (Err line_faults.NoMemory) =
    KeepsLines script st new may_read

-- THE CLAUSE of a line of one input, over what nodes hold: for each run whose next step it is.
abbrev pub IsLineOfInput : ℕ → Act → Input → LinesFields → (ℕ → Logged → Type 0) → LinesFields
    → (ℕ → Logged → Type 0) → Result Put LineFault → Type 0
IsLineOfInput line act_is input old might_read new may_read result =
    (script : Script) (st : Standing) (halts : Halting) (later : List Step)
    → IsScript script → KeepsLines script st old might_read
    → IsNextStep script st (record { line = line; act = act_is })
    → IsEnded script st
    (setting (by_knowledge script.objects) halts (record { line = line; act = act_is }) later)
    act_is input new may_read result
