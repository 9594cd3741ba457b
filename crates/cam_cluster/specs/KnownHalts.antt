-- Which inputs of a run are halts, node by node, as far as it is known: of a node whose disk has
-- not failed by itself, just those that the lines make which stop its disk.
use Rattle.std.specs.Prelude.{◌≡◌, ℕ, eqb, Bool, not, ◌&&◌, List, [], ◌∷◌, ◌++◌, ◌≤◌}
use Rattle.cam_event.specs.Readings.{by_pasts}
use Rattle.cam_runs.specs.Halts.{Halting, Turn, Input, Stop, Restart, by_stops}
use Rattle.cam_runs.specs.HaltedLines.{run_halting}
use Rattle.cam_runs.specs.Running.{has_number}
use Rattle.cam_runs.specs.Standing.{Standing}
use Rattle.cam_runs.specs.Stops.{known_of}
use Rattle.cam_script.specs.declared.Script.{Script}

-- The halts say of each input of a node what is known of it by the stops: of the last one, where
-- the node is halted, whether it is a halt; of each other one, whether it is one that was taken too.
abbrev pub AgreesWithStopsAt : ℕ → Halting → List Turn → Bool → Type 0
AgreesWithStopsAt s halts [] halted = Unit {0}
AgreesWithStopsAt s halts (Input m line appends restarted ∷ before) halted =
    (m ≡ s → halts before m appends restarted
    ≡ known_of halted (by_stops before m appends restarted))
    × AgreesWithStopsAt s halts before (halted && not (eqb s m))
AgreesWithStopsAt s halts (Stop m calls ∷ before) halted = AgreesWithStopsAt s halts before halted
AgreesWithStopsAt s halts (Restart m ∷ before) halted = AgreesWithStopsAt s halts before halted

abbrev pub AgreesAt : ℕ → Halting → Standing → Type 0
AgreesAt s halts st = AgreesWithStopsAt s halts st.turns (has_number st.halted s)

-- At each input of a node: it is a halt, taken or lost, exactly if a stop line makes it one.
abbrev pub HaltsByStops : ℕ → Halting → List Turn → Type 0
HaltsByStops s halts turns =
    (more before : List Turn) (line : ℕ) (appends restarted : Bool)
    → turns ≡ more ++ Input s line appends restarted ∷ before
    → halts before s appends restarted ≡ by_stops before s appends restarted

-- THE PREMISE on the halts of a run, by which disks failed by themselves in it: those of a node whose
-- disk did not are those that its stop lines make in this run. So a stop line's halt is among them
-- unless that node's own disk failed, and each further halt is of a node whose disk failed. If none
-- failed the run is the one run of the script.
pub record AreKnown (script : Script) (halts : Halting) (failed : ℕ → Type 0) : Type 0 where
  pub stops :
      (s : ℕ) → 1 ≤ s → (failed s → ⊥)
      → HaltsByStops s halts (run_halting by_pasts halts script).turns
  pub one :
      ((s : ℕ) → failed s → ⊥)
      → run_halting by_pasts halts script ≡ run_halting by_pasts by_stops script
