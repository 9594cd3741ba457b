-- The line `start`, at the node of a place, by how it ends.
use Rattle.std.proofs.Common.{◌≡◌, ℕ, ◌+◌, ◌<◌, true, false, length, Ok, Err, sym, subst}
use Rattle.cam_event.specs.declared.LineRefusal.{LineRefusal}
use Rattle.cam_event.specs.declared.LineRefusal.TheVariants as refusals
use Rattle.cam_event.specs.Inputs.{Begins}
use Rattle.cam_net.specs.Waiting.{is_halted}
use Rattle.cam_node.specs.declared.Input.TheVariants as inputs
use Rattle.cam_node.specs.Log.{Logged}
use Rattle.cam_script.specs.declared.Act.TheVariants as acts
use Rattle.cam_cluster.specs.declared.LineFault.{LineFault}
use Rattle.cam_cluster.specs.declared.LineFault.TheVariants as line_faults
use Rattle.cam_cluster.specs.declared.works.Put.{Put}
use Rattle.cam_cluster.specs.InputLines.{IsRefusedAs}
use Rattle.cam_cluster.specs.SoFar.{HasLed, IsLineOfInput, IsRefused, KeepsLinesAsBefore}
use Rattle.cam_cluster.specs.SoFar.{LinesFields}
use Rattle.std.specs.Prelude.{Result}
use Rattle.cam_cluster.proofs.StartedLine.{started, start_refused}

-- how the line ends, whichever body it names, at the node of this number
abbrev pub IsStart : ℕ → ℕ → LinesFields → (ℕ → Logged → Type 0) → LinesFields
    → (ℕ → Logged → Type 0) → Result Put LineFault → Type 0
IsStart line node old might new may result =
    (body : ℕ) → IsLineOfInput line (acts.Start node body) (Begins node) old might new may result

module _ (line place node : ℕ) (back : place + 1 ≡ node) (old new : LinesFields)
    (might may : ℕ → Logged → Type 0) where
  pub start_led : (done : Put) → place < length old.works.nodes
      → is_halted old.works.halted (place + 1) ≡ false
      → HasLed line place inputs.Begin old might done new may
      → IsStart line node old might new may (Ok done)
  start_led done there runs has =
      rw (← back) (λ body script st halts later is keeps next. started _ _ halts later _ _ _ _
      _ is keeps there next _ _ _ runs has)

  pub start_halted : place < length old.works.nodes
      → is_halted old.works.halted (place + 1) ≡ true → (fault : LineFault)
      → IsRefusedAs line refusals.Halted old might new may fault
      → IsStart line node old might new may (Err fault)
  start_halted there stops line_faults.NoMemory before =
      λ body script st halts later is keeps next. before script st is keeps
  start_halted there stops (line_faults.Refused told) has =
      rw (← back) (λ body script st halts later is keeps next. rw has.0 (start_refused _ _ halts
      later _ _ _ _ _ is keeps there next _ _ stops has.1))

  pub start_wanting : KeepsLinesAsBefore old might new may
      → IsStart line node old might new may (Err line_faults.NoMemory)
  start_wanting before body script st halts later is keeps next = before script st is keeps
