-- What is told of a run of a script: a status and a text, by what is asked.
--
-- the report, the events, the numbers: 0 and the text
-- the witness of an action: 0 and the text, or 8 where the action was not created in the run
-- why an event stopped an action: 0 and the text, or 8 where the run has no such event, or it stopped none
use Rattle.std.specs.Prelude.{ℕ, ◌≡◌, ◌⊎◌, Bool, true, false, if◌then◌else◌, List, Option, Some, None, is_some}
use Rattle.cam_know.specs.declared.Reason.{Reason}
use Rattle.cam_names.specs.declared.name.Name.{Name}
use Rattle.cam_event.specs.declared.Event.{Event}
use Rattle.cam_event.specs.declared.Mark.{Mark}
use Rattle.cam_event.specs.History.{created}
use Rattle.cam_event.specs.Pasts.{plain_all}
use Rattle.cam_gen.specs.Digest.{digest_text}
use Rattle.cam_cut.specs.Witness.{witness}
use Rattle.cam_script.specs.declared.Script.{Script}
use Rattle.cam_runs.specs.Halts.{Halting}
use Rattle.cam_why.specs.Causes.{stop_at}
use Rattle.cam_report.specs.Report.{report}
use Rattle.cam_report.specs.Summary.{summary}
use Rattle.cam_report.specs.Traces.{trace_text, witness_text}
use Rattle.cam_report.specs.Whys.{IsWhyText}
use Rattle.cam_headline.specs.Headline.{halted_events, halted_run}
use Rattle.cam_run.specs.declared.status.Status.{Status}
use Rattle.cam_run.specs.declared.status.Status.TheVariants.{Done, DiskFault, Missing, ReadFault, Refused, Usage}
use Rattle.cam_run.specs.declared.question.Question.{Question}
use Rattle.cam_run.specs.declared.question.Question.TheVariants.{Report, Trace, Witness, Why, Summary}
use Rattle.cam_run.specs.Texts.{no_action_text, no_stop_text}

-- the report of a run of a script, by its events, the newest first, and its marks
abbrev pub report_of : Script → List Event → List Mark → List ℕ
report_of script t marks = report script.objects script.labels t marks

-- the numbers of a run of a script of so many steps, with the digest of its report
abbrev pub summary_of : Script → List Event → List Mark → ℕ → List ℕ
summary_of script t marks steps = summary t steps (digest_text (report_of script t marks))

-- whether the action was created in the run
abbrev pub has_action : List Event → Name → Bool
has_action t a = created (plain_all t) a

-- the answer on an action that was created, and on one that was not
abbrev pub IsOfAction : Bool → Script → List Event → Name → ℕ → List ℕ → Type 0
IsOfAction true script t a status text =
    (status ≡ 0) × (text ≡ witness_text script.labels (witness t a))
IsOfAction false script t a status text = (status ≡ 8) × (text ≡ no_action_text)

-- the answer on an event that stopped an action, and on one that stopped none
abbrev pub IsOfStop : Option Reason → List Event → ℕ → ℕ → List ℕ → Type 0
IsOfStop (Some reason) t event status text = (status ≡ 0) × IsWhyText t event text
IsOfStop None t event status text = (status ≡ 8) × (text ≡ no_stop_text)

-- The answer to a question about a run of a script, by its events and its marks.
abbrev pub IsTold : Question → Script → List Event → List Mark → ℕ → List ℕ → Type 0
IsTold Report script t marks status text = (status ≡ 0) × (text ≡ report_of script t marks)
IsTold Trace script t marks status text =
    (status ≡ 0) × (text ≡ trace_text script.labels t marks)
IsTold (Witness a) script t marks status text = IsOfAction (has_action t a) script t a status text
IsTold (Why event) script t marks status text = IsOfStop (stop_at t event) t event status text
IsTold (Summary steps) script t marks status text =
    (status ≡ 0) × (text ≡ summary_of script t marks steps)

-- its status
abbrev pub told_status : Question → List Event → ℕ
told_status (Witness a) t = if has_action t a then 0 else 8
told_status (Why event) t = if is_some (stop_at t event) then 0 else 8
told_status _ t = 0

-- The answer to a question about the run of a script in which these inputs are halts.
abbrev pub IsToldOf : Question → Script → Halting → ℕ → List ℕ → Type 0
IsToldOf question script halts status text =
    IsTold question script (halted_events script halts) (halted_run script halts).running.marks
    status text

-- a status with which a run is told of, and one to which a run comes
abbrev pub IsTelling : Status → Type 0
IsTelling status = (status ≡ Done) ⊎ (status ≡ Missing)

abbrev pub ComesOfRun : Status → Type 0
ComesOfRun status = IsTelling status ⊎ (status ≡ DiskFault)

-- a status with which a command but a storm is answered, and one with which words are
abbrev pub MayObey : Status → Type 0
MayObey status = ComesOfRun status ⊎ ((status ≡ Refused) ⊎ (status ≡ ReadFault))

abbrev pub MayAnswer : Status → Type 0
MayAnswer status = MayObey status ⊎ (status ≡ Usage)
