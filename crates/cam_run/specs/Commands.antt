-- The commands: what each asks, of the run of a script, of the run by time of one, of the image of a log, or of a storm, and where its bytes
-- come from.
use Rattle.std.specs.Prelude.{◌≡◌, ℕ, Bool, true, false, List}
use Rattle.cam_args.specs.declared.Command.{Command}
use Rattle.cam_args.specs.declared.Command.TheVariants.{Run, Trace, Witness, Gen, Storm, Inspect, Upgrade, Why, Timed}
use Rattle.cam_args.specs.Forms.{IsForm as IsFormOf}
use Rattle.cam_gen.specs.Script.{script_of as generated}
use Rattle.cam_gen.specs.Storms.{Words}
use Rattle.cam_run.specs.declared.question.Question.{Question}
use Rattle.cam_run.specs.declared.question.Question.TheVariants as questions
use Rattle.cam_run.specs.declared.image.Making.{Making}
use Rattle.cam_run.specs.declared.image.Making.TheVariants as makings

-- what is asked: of the run of a script, of the image of a log, the report of a run by time, or that of a storm
pub data Asked : Type 0 where
  of_run : Question → Asked
  of_image : Making → Asked
  by_time : Asked
  of_storm : Words → Asked

-- the words of a storm, but for how many threads each of its nodes has
abbrev pub storm_of : ℕ → ℕ → Bool → Words
storm_of seed actions calm = record { seed = seed; actions = actions; calm = calm }

abbrev pub asked_by : Command → Asked
asked_by Run = of_run questions.Report
asked_by Trace = of_run questions.Trace
asked_by (Witness a) = of_run (questions.Witness a)
asked_by (Why event) = of_run (questions.Why event)
asked_by (Gen seed size) = of_run (questions.Summary size)
asked_by Inspect = of_image makings.Text
asked_by Upgrade = of_image makings.Version2
asked_by Timed = by_time
asked_by (Storm seed actions threads calm) = of_storm (storm_of seed actions calm)

-- the bytes of the script that a command runs: the input, and for `gen` those that are made from its seed
abbrev pub bytes_for : Command → List ℕ → List ℕ
bytes_for (Gen seed size) input = generated seed size
bytes_for _ input = input

-- whether a command goes over disks: it runs a script or a storm
abbrev pub asks_of_disks : Asked → Bool
asks_of_disks (of_run question) = true
asks_of_disks (of_storm storm) = true
asks_of_disks _ = false

abbrev pub uses_disks : Command → Bool
uses_disks command = asks_of_disks (asked_by command)

-- whether a command needs threads, as a storm does
abbrev pub needs_threads : Command → Bool
needs_threads (Storm seed actions threads calm) = true
needs_threads _ = false

-- whether a command reads the source
abbrev pub reads : Command → Bool
reads Run = true
reads Trace = true
reads (Witness a) = true
reads (Why event) = true
reads Inspect = true
reads Upgrade = true
reads Timed = true
reads _ = false

-- the words are a form
abbrev pub IsForm : List (List ℕ) → Type 0
IsForm words = (command : Command) × IsFormOf words command

-- the words are the form of a command that goes over disks
abbrev pub UsesDisks : List (List ℕ) → Type 0
UsesDisks words = (command : Command) × IsFormOf words command × (uses_disks command ≡ true)

-- the words are the form of a command that reads the source
abbrev pub Reads : List (List ℕ) → Type 0
Reads words = (command : Command) × IsFormOf words command × (reads command ≡ true)
