-- Halts that agree with the stop lines of a script, as far as each is known.
--
-- While a node is halted nobody knows whether its log took the entry: its halt counts as lost so
-- far. The node's next restart shows what it was. Where no later line restarts the node, a halt of
-- a stop is lost for good.
use Rattle.std.specs.Prelude.{◌≡◌, ℕ, ◌≤◌, eqb, Bool, true, false, not, ◌&&◌, if◌then◌else◌}
use Rattle.std.specs.Prelude.{List, [], ◌∷◌, ◌++◌, Option, Some, None}
use Rattle.std.specs.List.{AllByRecursion, list_any}
use Rattle.cam_type.specs.declared.ObjectDecl.{ObjectDecl}
use Rattle.cam_event.specs.Inputs.{Input as NodeInput, node_of}
use Rattle.cam_event.specs.Readings.{Reading}
use Rattle.cam_script.specs.declared.Act.{Act}
use Rattle.cam_script.specs.declared.Act.TheVariants as acts
use Rattle.cam_script.specs.declared.Script.{Script}
use Rattle.cam_script.specs.declared.Statement.{Statement}
use Rattle.cam_script.specs.declared.Step.{Step}
use Rattle.cam_runs.specs.Running.{has_number}
use Rattle.cam_runs.specs.Halts.{Halt, Turn, Input, Stop, Restart, accepted}
use Rattle.cam_runs.specs.Halts.{Halting, appends, by_stops, calls_left, given}
use Rattle.cam_runs.specs.Standing.{Standing, Setting, put, ended_halt}
use Rattle.cam_runs.specs.HaltedLines.{act, after_line, is_restart, run_halting}
use Rattle.cam_runs.specs.HaltedLines.{run_with, setting}

-- the number of the last input of a node
abbrev pub last_input : List Turn → ℕ → Option ℕ
last_input [] s = None
last_input (Input m line appends restarted ∷ before) s =
    if eqb m s then Some (accepted before) else last_input before s
last_input (Stop m calls ∷ before) s = last_input before s
last_input (Restart m ∷ before) s = last_input before s

-- what a stop makes of it
abbrev pub last_stop : List Turn → ℕ → Option Bool
last_stop [] s = None
last_stop (Input m line appends restarted ∷ before) s =
    if eqb m s then by_stops before m appends restarted else last_stop before s
last_stop (Stop m calls ∷ before) s = last_stop before s
last_stop (Restart m ∷ before) s = last_stop before s

-- how many calls a stop had left before it
abbrev pub last_left : List Turn → ℕ → Option ℕ
last_left [] s = None
last_left (Input m line appends restarted ∷ before) s =
    if eqb m s then calls_left before m else last_left before s
last_left (Stop m calls ∷ before) s = last_left before s
last_left (Restart m ∷ before) s = last_left before s

-- whether a later line restarts the node, as the turn of its last input has it
abbrev pub told_last : List Turn → ℕ → Option Bool
told_last [] s = None
told_last (Input m line appends restarted ∷ before) s =
    if eqb m s then Some restarted else told_last before s
told_last (Stop m calls ∷ before) s = told_last before s
told_last (Restart m ∷ before) s = told_last before s

-- what is known of the halt of a stop: as long as its node is halted, that it is lost so far
abbrev pub known_of : Bool → Option Bool → Option Bool
known_of false halt = halt
known_of true None = None
known_of true (Some took) = Some false

-- these nodes but for one
abbrev pub but_for : ℕ → (ℕ → Bool) → ℕ → Bool
but_for s halted m = halted m && not (eqb m s)

-- The halts say of each input what is known of it by the stops: of the last input of a node that
-- is halted, whether it is a halt; of each other one, whether it is one that was taken too.
abbrev pub AgreesWithStops : Halting → List Turn → (ℕ → Bool) → Type 0
AgreesWithStops halts [] halted = Unit {0}
AgreesWithStops halts (Input s line appends restarted ∷ before) halted =
    (halts before s appends restarted
    ≡ known_of (halted s) (by_stops before s appends restarted))
    × AgreesWithStops halts before (but_for s halted)
AgreesWithStops halts (Stop s calls ∷ before) halted = AgreesWithStops halts before halted
AgreesWithStops halts (Restart s ∷ before) halted = AgreesWithStops halts before halted

abbrev pub Agrees : Halting → Standing → Type 0
Agrees halts st = AgreesWithStops halts st.turns (has_number st.halted)

-- What stands at the end of a script in agreement is its one run by its stop lines: of a node that
-- is halted then no later line restarts it, so its halt is lost.
abbrev pub AgreeingRunsAreByStops : Type 0
AgreeingRunsAreByStops =
    (reading : List ObjectDecl → Reading) (script : Script) (halts : Halting)
    → Agrees halts (run_halting reading halts script)
    → run_halting reading halts script ≡ run_halting reading by_stops script

-- An input of a node that is not halted keeps the agreement, where it is a halt, lost so far, just
-- where a stop makes it one. A line that stops a disk keeps it, too: it is no input.
abbrev pub PutsAgree : Type 0
PutsAgree =
    (c : Setting) (st : Standing) (input : NodeInput) → Agrees c.halts st
    → has_number st.halted (node_of st.running.trace input) ≡ false
    → c.halts st.turns (node_of st.running.trace input)
    (appends c.reading st.running.trace input)
    (c.restarted (node_of st.running.trace input))
    ≡ known_of true
    (by_stops st.turns (node_of st.running.trace input)
    (appends c.reading st.running.trace input)
    (c.restarted (node_of st.running.trace input)))
    → Agrees c.halts (put c st input)

-- So does the end of a halt, where the stop did not let it be taken;
abbrev pub LostHaltsAgree : Type 0
LostHaltsAgree =
    (halts : Halting) (st : Standing) (s : ℕ) → Agrees halts st
    → (has_number st.halted s ≡ true → last_stop st.turns s ≡ Some true → ⊥)
    → Agrees halts (ended_halt st s)

-- and where it did, the halts with that one found to be taken, which differ at its input alone.
abbrev pub FoundHaltsAgree : Type 0
FoundHaltsAgree =
    (halts found : Halting) (st : Standing) (s k : ℕ) → Agrees halts st
    → last_input st.turns s ≡ Some k → last_stop st.turns s ≡ Some true
    → ((turns : List Turn) (m : ℕ) (appends restarted : Bool) → (accepted turns ≡ k → ⊥)
    → halts turns m appends restarted ≡ found turns m appends restarted)
    → ((turns : List Turn) (m : ℕ) (appends restarted : Bool) → accepted turns ≡ k
    → found turns m appends restarted ≡ Some true)
    → Agrees found (ended_halt st s)

-- Halts at inputs that are still to come say nothing of those before.
abbrev pub LaterHaltsAgree : Type 0
LaterHaltsAgree =
    (more halts : List Halt) (st : Standing)
    → AllByRecursion (λ (h : Halt). accepted st.turns ≤ h.input) more
    → Agrees (given halts) st → Agrees (given (more ++ halts)) st

-- After each line the last inputs tell exactly which nodes the steps that are still to come restart.
-- So of a node that is restarted its last input told it; and the halt of a stop there was taken just
-- where three calls were left to it.
abbrev pub AreTold : List Turn → List Step → Type 0
AreTold turns steps =
    (s : ℕ) (restarted : Bool) → told_last turns s ≡ Some restarted
    → restarted ≡ list_any (is_restart s) steps

abbrev pub LinesTell : Type 0
LinesTell =
    (reading : Reading) (halts : Halting) (bodies : List (List Statement)) (st : Standing) (step : Step)
    (later : List Step) → AreTold st.turns (step ∷ later)
    → AreTold
    (after_line st step.line (act (setting reading halts step later) bodies st step.act)).turns later

abbrev pub ToldHaltsAreTaken : Type 0
ToldHaltsAreTaken =
    (turns : List Turn) (s : ℕ) (took : Bool) → told_last turns s ≡ Some true
    → last_stop turns s ≡ Some took
    → (left : ℕ) × (last_left turns s ≡ Some left) × (took ≡ eqb left 3)

-- a step that stops no disk
abbrev pub IsNoStop : Act → Type 0
IsNoStop (acts.Stop node calls) = ⊥
IsNoStop _ = Unit {0}

-- a script without a line that stops a disk
abbrev pub HasNoStop : Script → Type 0
HasNoStop script = AllByRecursion (λ (step : Step). IsNoStop step.act) script.steps

-- Of such a script the one run is the run without halts.
abbrev pub NoStopsNoHalts : Type 0
NoStopsNoHalts =
    (reading : List ObjectDecl → Reading) (script : Script) → HasNoStop script
    → run_halting reading by_stops script ≡ run_with reading script []
