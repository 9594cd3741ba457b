-- The lines that deliver, cut or lose a letter.
use Rattle.std.specs.Prelude.{◌≡◌, ℕ, suc, nat_lt, Bool, false, if◌then◌else◌, List, [], length}
use Rattle.std.specs.Prelude.{Option, Some, None, Result, Ok, Err}
use Rattle.cam_bytes.specs.declared.WireFault.{WireFault}
use Rattle.cam_bytes.specs.declared.WireFault.TheVariants as faults
use Rattle.cam_event.specs.declared.LetterId.{LetterId}
use Rattle.cam_event.specs.declared.LetterFault.TheVariants.{Short}
use Rattle.cam_event.specs.declared.LineRefusal.{LineRefusal}
use Rattle.cam_event.specs.declared.Mark.TheVariants as marks
use Rattle.cam_event.specs.Inputs.{Receives}
use Rattle.cam_event.specs.Readings.{Reading, by_knowledge}
use Rattle.cam_net.specs.Waiting as net
use Rattle.cam_node.specs.Log.{Logged}
use Rattle.cam_runs.specs.Halts.{Halting}
use Rattle.cam_runs.specs.HaltedLines.{Led, Refused, act, after_line, is_halted, setting}
use Rattle.cam_runs.specs.Running.{letter_of}
use Rattle.cam_runs.specs.Standing.{Standing, Setting, addressee, deliver, with_mark}
use Rattle.cam_runs.specs.UnderHalts.{IsNextStep, IsUnderHalts}
use Rattle.cam_script.specs.declared.Act.{Act}
use Rattle.cam_script.specs.declared.Act.TheVariants as acts
use Rattle.cam_script.specs.declared.Script.{Script}
use Rattle.cam_script.specs.declared.Step.{Step}
use Rattle.cam_script.specs.Law.{IsScript}
use Rattle.cam_wire.specs.OfTrace.{spelling_of}
use Rattle.cam_histories.specs.InputLaws.{held_setting, halt_of}
use Rattle.cam_histories.specs.Lines.{line_refusal, test_letter}
use Rattle.cam_cluster.specs.declared.LineFault.{LineFault}
use Rattle.cam_cluster.specs.declared.LineFault.TheVariants as line_faults
use Rattle.cam_cluster.specs.declared.lines.cut.CutLetter.{CutLetter}
use Rattle.cam_cluster.specs.declared.lines.cut.CutLetter.TheVariants as cuts
use Rattle.cam_cluster.specs.declared.works.Put.{Put}
use Rattle.cam_cluster.specs.declared.works.letters.Coming.{Coming}
use Rattle.cam_cluster.specs.Coming.{HasFound}
use Rattle.cam_cluster.specs.Puts.{as_halt}
use Rattle.cam_cluster.specs.SoFar.{IsLed, IsRefused, KeepsLines, KeepsLinesAsBefore, LinesFields}

-- How a line ends: it is done, which `ends` says; or it is refused by the first test that fails; or
-- memory ran out, and the lines keep what they kept.
abbrev pub IsEndedBy : {T : Type 0}
    → (Script → Standing → Setting → LinesFields → (ℕ → Logged → Type 0) → T → Type 0)
    → Script → Standing → Setting → Act → LinesFields → (ℕ → Logged → Type 0)
    → Result T LineFault → Type 0
IsEndedBy ends script st c act_is new may_read (Ok done) = ends script st c new may_read done
IsEndedBy ends script st c act_is new may_read (Err (line_faults.Refused refusal)) =
    IsRefused script st c.line act_is refusal new may_read
IsEndedBy ends script st c act_is new may_read (Err line_faults.NoMemory) =
    KeepsLines script st new may_read

-- THE CLAUSE of a line, over what nodes hold: for each run whose next step it is.
abbrev pub IsLineBy : {T : Type 0} → ℕ → Act
    → (Script → Standing → Setting → LinesFields → (ℕ → Logged → Type 0) → T → Type 0)
    → LinesFields → (ℕ → Logged → Type 0) → LinesFields → (ℕ → Logged → Type 0)
    → Result T LineFault → Type 0
IsLineBy line act_is ends old might_read new may_read result =
    (script : Script) (st : Standing) (halts : Halting) (later : List Step)
    → IsScript script → KeepsLines script st old might_read
    → IsNextStep script st (record { line = line; act = act_is })
    → IsEndedBy ends script st
    (setting (by_knowledge script.objects) halts (record { line = line; act = act_is }) later)
    act_is new may_read result

-- The letter of this number was handed over, whether its node halts or not.
pub record IsLedByLetter (script : Script) (st : Standing) (c : Setting) (act_is : Act)
    (number : ℕ) (done : Put) (new : LinesFields) (may_read : ℕ → Logged → Type 0) : Type 0 where
  pub letter : LetterId
  pub is_letter : letter_of st.running number ≡ Some letter
  pub led : IsLed script st c act_is (Receives letter) done new may_read

abbrev pub IsDelivery : ℕ → Script → Standing → Setting → LinesFields → (ℕ → Logged → Type 0)
    → Put → Type 0
IsDelivery number script st c new may_read done =
    IsLedByLetter script st c (acts.Deliver number) number done new may_read

-- The line is done, of no input.
pub record IsDone (script : Script) (st : Standing) (c : Setting) (act_is : Act)
    (new : LinesFields) (may_read : ℕ → Logged → Type 0) : Type 0 where
  pub passed : line_refusal (by_knowledge script.objects) st act_is ≡ None
  pub stands :
      KeepsLines script (after_line st c.line (act c script.bodies st act_is)) new may_read

abbrev pub IsLoss : ℕ → Script → Standing → Setting → LinesFields → (ℕ → Logged → Type 0)
    → Unit {0} → Type 0
IsLoss number script st c new may_read done = IsDone script st c (acts.Lose number) new may_read

-- The fault of a letter that a line cuts short: its bytes end too early, where the line ends them.
abbrev pub short_at : Reading → Standing → ℕ → Option LetterId → Option WireFault
short_at reading st bytes None = None
short_at reading st bytes (Some letter) =
    if nat_lt bytes (length (spelling_of reading st.running.trace letter))
    then Some (faults.Short bytes) else None

abbrev pub cut_fault : Reading → Standing → Act → Option WireFault
cut_fault reading st (acts.Cut k bytes) = short_at reading st bytes (letter_of st.running k)
cut_fault reading st _ = None

-- Fewer bytes are left than the letter has, and this fault is told of them; or it was handed over.
abbrev pub IsCut : ℕ → ℕ → Script → Standing → Setting → LinesFields → (ℕ → Logged → Type 0)
    → CutLetter → Type 0
IsCut number bytes script st c new may_read (cuts.Bad fault) =
    (cut_fault (by_knowledge script.objects) st (acts.Cut number bytes) ≡ Some fault)
    × IsDone script st c (acts.Cut number bytes) new may_read
IsCut number bytes script st c new may_read (cuts.Delivered done) =
    (cut_fault (by_knowledge script.objects) st (acts.Cut number bytes) ≡ None)
    × IsLedByLetter script st c (acts.Cut number bytes) number done new may_read

-- the test of a line that hands a letter over
abbrev pub letter_refusal : Standing → ℕ → Option LineRefusal
letter_refusal st number =
    test_letter (letter_of st.running number) (λ letter. is_halted st (addressee st letter))

-- A letter was found for such a line: nothing stands against it.
pub record IsTaken (number : ℕ) (old : LinesFields) (might_read : ℕ → Logged → Type 0)
    (new : LinesFields) (may_read : ℕ → Logged → Type 0) (coming : Coming) : Type 0 where
  pub as_before : KeepsLinesAsBefore old might_read new may_read
  pub all : new.works.outbox.unput ≡ []
  pub found : HasFound number new.works may_read (Some coming)
  pub awake : net.is_halted new.works.halted (suc coming.place) ≡ false

-- the line was refused by that test
pub record IsRefusedLetter (script : Script) (st : Standing) (line number : ℕ)
    (refusal : LineRefusal) (new : LinesFields) (may_read : ℕ → Logged → Type 0) : Type 0 where
  pub test : letter_refusal st number ≡ Some refusal
  pub stands :
      IsUnderHalts script (after_line st line (Refused refusal))
      → KeepsLines script (after_line st line (Refused refusal)) new may_read

abbrev pub HasTaken : ℕ → ℕ → LinesFields → (ℕ → Logged → Type 0) → LinesFields
    → (ℕ → Logged → Type 0) → Result Coming LineFault → Type 0
HasTaken line number old might_read new may_read (Ok coming) =
    IsTaken number old might_read new may_read coming
HasTaken line number old might_read new may_read (Err (line_faults.Refused refusal)) =
    (script : Script) (st : Standing) → IsScript script → KeepsLines script st old might_read
    → IsRefusedLetter script st line number refusal new may_read
HasTaken line number old might_read new may_read (Err line_faults.NoMemory) =
    KeepsLinesAsBefore old might_read new may_read

-- A letter was handed over, and the line's variable stands for nothing. What stands then is to be
-- under way, which the line's own law says.
abbrev pub HasLedLetter : ℕ → ℕ → LinesFields → (ℕ → Logged → Type 0) → Put → LinesFields
    → (ℕ → Logged → Type 0) → Type 0
HasLedLetter line number old might_read done new may_read =
    (script : Script) (st : Standing) (halts : Halting) (restarted : ℕ → Bool) (id : LetterId)
    → IsScript script → KeepsLines script st old might_read
    → letter_of st.running number ≡ Some id
    → halt_of (held_setting script.objects halts line restarted) st (Receives id) ≡ as_halt done
    → IsUnderHalts script (after_line st line
    (Led (deliver (held_setting script.objects halts line restarted) st number id) None))
    → KeepsLines script (after_line st line
    (Led (deliver (held_setting script.objects halts line restarted) st number id) None)) new
    may_read

-- A letter was cut short: its mark is left, and the line's variable stands for nothing.
abbrev pub with_cut : ℕ → ℕ → ℕ → Standing → Standing
with_cut line number bytes st =
    record st { running = with_mark (marks.Cut line number Short bytes) st.running }

abbrev pub HasMarkedCut : ℕ → ℕ → ℕ → LinesFields → (ℕ → Logged → Type 0) → LinesFields
    → (ℕ → Logged → Type 0) → Type 0
HasMarkedCut line number bytes old might_read new may_read =
    (script : Script) (st : Standing) → KeepsLines script st old might_read
    → IsUnderHalts script (after_line st line (Led (with_cut line number bytes st) None))
    → KeepsLines script (after_line st line (Led (with_cut line number bytes st) None)) new may_read
