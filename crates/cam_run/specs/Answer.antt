-- What the program answers: a status and a text, by its words and by the input.
--
-- 0 the text of the command, of the run of the script, of its run by time, of the image of a log, or of a storm
-- 2 the usage text, where the words are no form
-- 3 where the script or the image is refused: the line of its first fault
-- 4 `read fault`, where the source failed
-- 5 a prefix of one of these texts, where the sink failed
-- 6 `disk fault NODE`, where the disk of that node failed by itself: while it was formatted, before a restart of
--   the node that failed, or in the storm
-- 7 nothing, where memory ran out
-- 8 where the run has no such action, or no such stop: a line that says so
use Rattle.std.specs.Prelude.{ℕ, ◌≡◌, ◌≤◌, ◌⊎◌, true, List, ◌++◌, length, take, Option, Result, Ok, Err}
use Rattle.cam_args.specs.declared.Command.{Command}
use Rattle.cam_args.specs.Forms.{IsForm as IsFormOf}
use Rattle.cam_base.specs.Told.{IfTold}
use Rattle.cam_event.specs.declared.Event.{Event}
use Rattle.cam_gen.specs.Storms.{Words}
use Rattle.cam_runs.specs.Halts.{Halting}
use Rattle.cam_script.specs.declared.Script.{Script}
use Rattle.cam_cluster.specs.KnownHalts.{AreKnown}
use Rattle.cam_headline.specs.Headline.{events}
use Rattle.cam_words.specs.declared.fault.ScriptFault.{ScriptFault}
use Rattle.cam_words.specs.declared.fault.ScriptFault.TheVariants.{Bad, NoMemory}
use Rattle.cam_words.specs.Causes.{cause_number}
use Rattle.cam_script.specs.Grammar.{read_script}
use Rattle.cam_timed.specs.declared.TimedScript.{TimedScript}
use Rattle.cam_timed.specs.TimedGrammar.{read_timed}
use Rattle.cam_timed.specs.TimedReport.{timed_text}
use Rattle.cam_run.specs.declared.question.Question.{Question}
use Rattle.cam_run.specs.Texts.{usage_text, read_fault_text, disk_fault_text, refused_text}
use Rattle.cam_run.specs.Commands.{Asked, IsForm, asked_by, bytes_for}
use Rattle.cam_run.specs.Commands.{by_time, of_image, of_run, of_storm, reads}
use Rattle.cam_run.specs.Disks.{DisksLeft, FailedAmong, NoneBefore, OneFailed}
use Rattle.cam_run.specs.Image.{IsOfImage, image_status, made}
use Rattle.cam_run.specs.Storm.{IsToldOfStorm}
use Rattle.cam_run.specs.Told.{IsToldOf, told_status}

-- what became of a call: whether its source failed, and what became of the disks
pub record Outcome : Type 1 where
  pub source_failed : Type 0
  pub disks : DisksLeft

-- the answer to a script that is refused
abbrev pub IsRefused : ScriptFault → ℕ → List ℕ → Type 0
IsRefused (Bad line column cause) status text =
    (status ≡ 3) × (text ≡ refused_text line column (cause_number cause))
IsRefused NoMemory status text = ⊥

-- the answer where the disk of one of so many nodes failed: it names the first of them
pub record IsOfDisk (nodes : ℕ) (failed : ℕ → Type 0) (status : ℕ) (text : List ℕ) : Type 0
  where
    pub one : OneFailed nodes failed
    pub first : NoneBefore failed one.node
    pub is : status ≡ 6
    pub names : text ≡ disk_fault_text one.node

-- the answer that names a disk that failed, of one of so many nodes
pub record NamesDisk (nodes : ℕ) (failed : ℕ → Type 0) (status : ℕ) (text : List ℕ) : Type 0 where
  pub one : OneFailed nodes failed
  pub is : status ≡ 6
  pub names : text ≡ disk_fault_text one.node

-- ONE RUN of a script, with halts that are known by which disks failed in it: it is told of, and the
-- disks keep it.
pub record IsToldRun (question : Question) (script : Script) (disks : DisksLeft) (status : ℕ)
    (text : List ℕ) : Type 0 where
  pub halts : Halting
  pub known : AreKnown script halts (FailedAmong script.nodes disks.failed)
  pub told : IsToldOf question script halts status text
  pub kept : disks.keep script halts

-- the answer to a question about a script
abbrev pub IsOfRun : Question → Script → DisksLeft → ℕ → List ℕ → Type 0
IsOfRun question script disks status text =
    NamesDisk script.nodes disks.failed status text ⊎ IsToldRun question script disks status text

-- the answer to a question, by what the bytes spell: a script, or a refusal
abbrev pub IsOfScript : Question → Result Script ScriptFault → DisksLeft → ℕ → List ℕ → Type 0
IsOfScript question (Ok script) disks status text = IsOfRun question script disks status text
IsOfScript question (Err fault) disks status text = IsRefused fault status text

-- the answer by a script by time, as the bytes spell it: the report of its run, or a refusal
abbrev pub IsOfTimed : Result TimedScript ScriptFault → ℕ → List ℕ → Type 0
IsOfTimed (Ok script) status text = (status ≡ 0) × (text ≡ timed_text script)
IsOfTimed (Err fault) status text = IsRefused fault status text

-- the answer to the words of a storm: what is told of it just where no disk failed in it
abbrev pub IsOfStorm : Words → (ℕ → Type 0) → (List Event → Type 0) → ℕ → List ℕ → Type 0
IsOfStorm storm failed keeps status text =
    IsOfDisk 4 failed status text
    ⊎ ((OneFailed 4 failed → ⊥) × IsToldOfStorm storm keeps status text)

-- the answer where the source failed
abbrev pub IsOfFault : ℕ → List ℕ → Type 0
IsOfFault status text = (status ≡ 4) × (text ≡ read_fault_text)

-- the answer to a question by the script that a source gives, which it may have failed to give
abbrev pub IsOfInput : Question → Outcome → List ℕ → ℕ → List ℕ → Type 0
IsOfInput question outcome input status text =
    (outcome.source_failed × IsOfFault status text)
    ⊎ IsOfScript question (read_script input) outcome.disks status text

-- the answer to words that are no form
abbrev pub IsOfWords : ℕ → List ℕ → Type 0
IsOfWords status text = (status ≡ 2) × (text ≡ usage_text)

-- The answer to a command, by what it asks: the source may have failed to give what it reads.
abbrev pub IsAsked : Asked → Command → Outcome → List ℕ → ℕ → List ℕ → Type 0
IsAsked (of_run question) command outcome input status text =
    ((reads command ≡ true) × outcome.source_failed × IsOfFault status text)
    ⊎ IsOfScript question (read_script (bytes_for command input)) outcome.disks status text
IsAsked (of_image making) command outcome input status text =
    (outcome.source_failed × IsOfFault status text) ⊎ IsOfImage (made making input) status text
IsAsked by_time command outcome input status text =
    (outcome.source_failed × IsOfFault status text) ⊎ IsOfTimed (read_timed input) status text
IsAsked (of_storm storm) command outcome input status text =
    IsOfStorm storm outcome.disks.failed (outcome.disks.keep_storm storm) status text

abbrev pub IsOfCommand : Command → Outcome → List ℕ → ℕ → List ℕ → Type 0
IsOfCommand command outcome input status text =
    IsAsked (asked_by command) command outcome input status text

-- The answer to words and an input, which a source may have failed to give.
abbrev pub IsAnswer : List (List ℕ) → Outcome → List ℕ → ℕ → List ℕ → Type 0
IsAnswer words outcome input status text =
    ((¬ IsForm words) × IsOfWords status text)
    ⊎ ((command : Command) × IsFormOf words command × IsOfCommand command outcome input status text)

-- What was written after what stood there, by which statuses and texts are answers: the whole text of
-- one; where the sink failed a prefix of some answer's text; where memory ran out nothing.
pub record IsWritten (answers : ℕ → List ℕ → Type 0) (status : ℕ)
    (before after : Option (List ℕ)) : Type 0 where
  pub whole :
      (status ≡ 5 → ⊥) → (status ≡ 7 → ⊥)
      → (text : List ℕ) × answers status text
      × IfTold before after (λ old new. new ≡ old ++ text)
  pub front :
      status ≡ 5
      → (meant : ℕ) × (text : List ℕ) × answers meant text
      × IfTold before after (λ old new. (n : ℕ) × (n ≤ length text) × (new ≡ old ++ take n text))
  pub nothing : status ≡ 7 → IfTold before after (λ old new. new ≡ old)

-- the status of a script that is refused; of a question about a script that was read, of a script by
-- time, and of a command, where nothing fails
abbrev pub refused_status : ScriptFault → ℕ
refused_status (Bad line column cause) = 3
refused_status NoMemory = 7

abbrev pub status_of : Question → Result Script ScriptFault → ℕ
status_of question (Ok script) = told_status question (events script)
status_of question (Err fault) = refused_status fault

abbrev pub timed_status : Result TimedScript ScriptFault → ℕ
timed_status (Ok script) = 0
timed_status (Err fault) = refused_status fault

abbrev pub asked_status : Asked → Command → List ℕ → ℕ
asked_status (of_run question) command input = status_of question (read_script (bytes_for command input))
asked_status (of_image making) command input = image_status (made making input)
asked_status by_time command input = timed_status (read_timed input)
asked_status (of_storm storm) command input = 0

abbrev pub command_status : Command → List ℕ → ℕ
command_status command input = asked_status (asked_by command) command input

-- how many nodes has the script that was read, and what a command runs over disks: so many of them
-- serve its run
abbrev pub nodes_of : Result Script ScriptFault → ℕ
nodes_of (Ok script) = script.nodes
nodes_of (Err fault) = 0

abbrev pub asked_nodes : Asked → Command → List ℕ → ℕ
asked_nodes (of_run question) command input = nodes_of (read_script (bytes_for command input))
asked_nodes (of_storm storm) command input = 4
asked_nodes _ command input = 0

abbrev pub nodes_for : Command → List ℕ → ℕ
nodes_for command input = asked_nodes (asked_by command) command input
