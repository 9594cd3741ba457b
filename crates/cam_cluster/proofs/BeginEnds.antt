-- How the line `begin` ends, at a node of this number.
use Rattle.std.proofs.Common.{◌≡◌, ℕ, ◌+◌, ◌<◌, true, false, length}
use Rattle.std.proofs.Common.{Ok, Err, Some, subst}
use Rattle.std.specs.Prelude.{slice_get}
use Rattle.cam_event.specs.declared.LineRefusal.TheVariants as refusals
use Rattle.cam_event.specs.Inputs.{Begins}
use Rattle.cam_net.specs.Waiting.{is_halted}
use Rattle.cam_node.specs.declared.Input.TheVariants as inputs
use Rattle.cam_node.specs.Log.{Logged}
use Rattle.cam_script.specs.declared.Act.TheVariants as acts
use Rattle.cam_cluster.specs.declared.LineFault.TheVariants as line_faults
use Rattle.cam_cluster.specs.declared.works.Put.{Put}
use Rattle.cam_cluster.specs.SoFar.{AreLinesOfSome, HasLed, HasRefused}
use Rattle.cam_cluster.specs.SoFar.{IsLineOfInput, KeepsLinesAsBefore}
use Rattle.cam_cluster.specs.SoFar.{LinesFields}
use Rattle.cam_cluster.specs.Works.{NodeFields}
use Rattle.cam_cluster.proofs.BegunLine.{begun, begun_refused, node_runs, within}

-- how the line ends, at the node of this number
module _ (line place node : ℕ) (back : place + 1 ≡ node) (old new : LinesFields)
    (might may : ℕ → Logged → Type 0) where
  pub begin_led : (done : Put) → place < length old.works.nodes
      → is_halted old.works.halted (place + 1) ≡ false
      → HasLed line place inputs.Begin old might done new may
      → IsLineOfInput line (acts.Begin node) (Begins node) old might new may (Ok done)
  begin_led done there runs has =
      rw (← back) (λ script st halts later is keeps next. begun _ _ halts later _ _ _ _ is
      keeps there next _ _ _ runs has)

  pub begin_refused : place < length old.works.nodes
      → is_halted old.works.halted (place + 1) ≡ true
      → HasRefused line refusals.Halted old might new may
      → IsLineOfInput line (acts.Begin node) (Begins node) old might new may
      (Err (line_faults.Refused refusals.Halted))
  begin_refused there stops has =
      rw (← back) (λ script st halts later is keeps next. begun_refused _ _ halts later _ _ _
      _ is keeps there next _ _ stops has)

  pub begin_wanting : KeepsLinesAsBefore old might new may
      → IsLineOfInput line (acts.Begin node) (Begins node) old might new may
      (Err line_faults.NoMemory)
  begin_wanting before script st halts later is keeps next = before script st is keeps

-- what its node gives for the step
pub begin_may : (lines : LinesFields) (might : ℕ → Logged → Type 0) (place : ℕ)
    → AreLinesOfSome lines might → place < length lines.works.nodes
    → is_halted lines.works.halted (place + 1) ≡ false → (node : NodeFields)
    → slice_get lines.works.nodes place ≡ Some node
    → (node.halted ≡ false) × (node.site.node.actions.tops < 1000000000)
begin_may lines might place some there awake =
    node_runs some.script some.standing _ might some.is_script some.keeps.runs _ there awake

pub begin_within : (lines : LinesFields) (might : ℕ → Logged → Type 0) (place : ℕ)
    → AreLinesOfSome lines might → place < length lines.works.nodes → place < 8
begin_within lines might place some there =
    within some.script some.standing lines.works might some.is_script some.keeps.runs _ there
