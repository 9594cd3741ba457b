-- The status of the answer to a command.
use Rattle.std.proofs.Common.{◌≡◌, inl, inr, ℕ, Bool, true, false, if◌then◌else◌, List, Option}
use Rattle.std.proofs.Common.{Some, None, Result, Ok, Err, is_some, ap, ◌∙◌}
use Rattle.cam_know.specs.declared.Reason.{Reason}
use Rattle.cam_names.specs.declared.name.Name.{Name}
use Rattle.cam_event.specs.declared.Event.{Event}
use Rattle.cam_event.specs.declared.Mark.{Mark}
use Rattle.cam_args.specs.declared.Command.{Command}
use Rattle.cam_script.specs.declared.Script.{Script}
use Rattle.cam_script.specs.Grammar.{read_script}
use Rattle.cam_words.specs.declared.fault.ScriptFault.{ScriptFault}
use Rattle.cam_words.specs.declared.fault.ScriptFault.TheVariants.{Bad, NoMemory}
use Rattle.cam_timed.specs.declared.TimedScript.{TimedScript}
use Rattle.cam_timed.specs.TimedGrammar.{read_timed}
use Rattle.cam_run.specs.declared.question.Question.{Question}
use Rattle.cam_run.specs.declared.question.Question.TheVariants.{Report, Trace, Witness, Why}
use Rattle.cam_run.specs.declared.question.Question.TheVariants.{Summary}
use Rattle.cam_runs.specs.Standing.{Standing}
use Rattle.cam_why.specs.Causes.{stop_at}
use Rattle.cam_headline.specs.Headline.{halted_events, halted_run}
use Rattle.cam_run.specs.Told.{IsOfAction, IsOfStop, IsTold, has_action, told_status}
use Rattle.cam_image.specs.declared.fault.ImageFault.{ImageFault}
use Rattle.cam_image.specs.declared.fault.ImageFault.TheVariants.{NotALog, BadRecord}
use Rattle.cam_image.specs.declared.fault.ImageFault.TheVariants.{NoMemory as NoMemoryOfImage}
use Rattle.cam_run.specs.Commands.{Asked, asked_by, by_time, bytes_for, of_image, of_run, of_storm}
use Rattle.cam_run.specs.Image.{IsOfImage, image_status, made}
use Rattle.cam_run.specs.Disks.{DisksLeft, OneFailed}
use Rattle.cam_run.specs.Answer.{IsAsked, IsOfCommand, IsOfScript, IsOfTimed, IsRefused, Outcome}
use Rattle.cam_run.specs.Answer.{asked_nodes, asked_status, command_status, nodes_for, nodes_of}
use Rattle.cam_run.specs.Answer.{refused_status, status_of, timed_status}

-- the status of what is told
action_status : (b : Bool) (script : Script) (t : List Event) (a : Name) (status : ℕ)
    (text : List ℕ)
    → IsOfAction b script t a status text → status ≡ (if b then 0 else 8)
action_status true script t a status text told = told.0
action_status false script t a status text told = told.0

stop_status : (o : Option Reason) (t : List Event) (event status : ℕ) (text : List ℕ)
    → IsOfStop o t event status text → status ≡ (if is_some o then 0 else 8)
stop_status (Some reason) t event status text told = told.0
stop_status None t event status text told = told.0

told_has_status : (question : Question) (script : Script) (t : List Event) (marks : List Mark)
    (status : ℕ) (text : List ℕ)
    → IsTold question script t marks status text → status ≡ told_status question t
told_has_status Report script t marks status text told = told.0
told_has_status Trace script t marks status text told = told.0
told_has_status (Witness a) script t marks status text told =
    action_status (has_action t a) script t a status text told
told_has_status (Why event) script t marks status text told =
    stop_status (stop_at t event) t event status text told
told_has_status (Summary steps) script t marks status text told = told.0

refused_has_status : (fault : ScriptFault) (status : ℕ) (text : List ℕ)
    → IsRefused fault status text → status ≡ refused_status fault
refused_has_status (Bad line column cause) status text told = told.0
refused_has_status NoMemory status text told = absurd told

-- where no disk of the script's nodes failed
script_has_status : (question : Question) (read : Result Script ScriptFault) (disks : DisksLeft)
    (status : ℕ) (text : List ℕ)
    → IsOfScript question read disks status text → (OneFailed (nodes_of read) disks.failed → ⊥)
    → status ≡ status_of question read
script_has_status question (Ok script) disks status text (inl of_disk) none =
    absurd (none of_disk.one)
script_has_status question (Ok script) disks status text (inr of) none =
    told_has_status question script (halted_events script of.halts)
    (halted_run script of.halts).running.marks status text of.told
    ∙ ap (λ (st : Standing). told_status question st.running.trace)
    (of.known.one (λ s fell. none (record { node = s; high = fell.0; did = fell.1 })))
script_has_status question (Err fault) disks status text told none =
    refused_has_status fault status text told

timed_has_status : (read : Result TimedScript ScriptFault) (status : ℕ) (text : List ℕ)
    → IsOfTimed read status text → status ≡ timed_status read
timed_has_status (Ok script) status text told = told.0
timed_has_status (Err fault) status text told = refused_has_status fault status text told

image_has_status : (read : Result (List ℕ) ImageFault) (status : ℕ) (text : List ℕ)
    → IsOfImage read status text → status ≡ image_status read
image_has_status (Ok bytes) status text told = told.0
image_has_status (Err (NotALog at)) status text told = told.0
image_has_status (Err (BadRecord entry at)) status text told = told.0
image_has_status (Err NoMemoryOfImage) status text told = absurd told

-- the status of the answer to a command, where neither the source nor a disk of the script's nodes
-- failed
pub command_has_status : (command : Command) (outcome : Outcome) (input : List ℕ)
    (status : ℕ) (text : List ℕ) → IsOfCommand command outcome input status text
    → (outcome.source_failed → ⊥) → (OneFailed (nodes_for command input) outcome.disks.failed → ⊥)
    → status ≡ command_status command input
command_has_status command outcome input status text told whole none =
    by (asked_by command) told none
  where
    by : (asked : Asked) → IsAsked asked command outcome input status text
        → (OneFailed (asked_nodes asked command input) outcome.disks.failed → ⊥)
        → status ≡ asked_status asked command input
    by (of_run question) (inl (reading, failed, told)) none = absurd (whole failed)
    by (of_run question) (inr answer) none =
        script_has_status question (read_script (bytes_for command input)) outcome.disks status text
        answer none
    by (of_image making) (inl (failed, told)) none = absurd (whole failed)
    by (of_image making) (inr answer) none = image_has_status (made making input) status text answer
    by by_time (inl (failed, told)) none = absurd (whole failed)
    by by_time (inr answer) none = timed_has_status (read_timed input) status text answer
    by (of_storm storm) (inl of_disk) none = absurd (none of_disk.one)
    by (of_storm storm) (inr told) none = told.1.is
