-- How a line ends that puts an input unless it is refused, at the node of a place.
use Rattle.std.proofs.Common.{◌≡◌, ℕ, ◌+◌, ◌<◌, true, false, List, length, Option, Ok, Err, Some}
use Rattle.std.proofs.Common.{None, sym, subst, arith}
use Rattle.std.specs.Prelude.{map, slice_get}
use Rattle.std.proofs.lemmas.List.{length-map}
use Rattle.cam_type.specs.declared.ObjectDecl.{ObjectDecl}
use Rattle.cam_event.specs.declared.LineRefusal.{LineRefusal}
use Rattle.cam_event.specs.declared.LineRefusal.TheVariants as refusals
use Rattle.cam_net.specs.Waiting.{is_halted}
use Rattle.cam_node.specs.declared.Input.{Input}
use Rattle.cam_node.specs.Log.{Logged}
use Rattle.cam_node.specs.MayStep.{MayStep}
use Rattle.cam_node.specs.Refused.{IsRefusalOf}
use Rattle.cam_cluster.specs.declared.LineFault.{LineFault}
use Rattle.cam_cluster.specs.declared.LineFault.TheVariants as line_faults
use Rattle.cam_cluster.specs.declared.works.Put.{Put}
use Rattle.cam_cluster.specs.InputLines.{IsLineToSome, IsRefusedAs, IsTriedLine}
use Rattle.cam_cluster.specs.SoFar.{AreLinesOfSome, HasLed, IsRefused, KeepsLinesAsBefore}
use Rattle.cam_cluster.specs.SoFar.{LinesFields}
use Rattle.cam_cluster.specs.Works.{NodeFields}
use Rattle.cam_cluster.proofs.TriedLine.{halted_refuses, leads_on, node_refuses}
use Rattle.cam_cluster.proofs.TriedNode.{numbers_left, refuses}

-- what a node says against an input, over whatever objects
abbrev pub IsSaid : NodeFields → Input → Option LineRefusal → Type 0
IsSaid node input refusal =
    (objects : List ObjectDecl) → IsRefusalOf objects node.site.node input refusal

module _ (line place : ℕ) (input : Input) (old new : LinesFields)
    (might may : ℕ → Logged → Type 0) (there : place < length old.works.nodes) where
  pub tried_halted : is_halted old.works.halted (place + 1) ≡ true → (fault : LineFault)
      → IsRefusedAs line refusals.Halted old might new may fault
      → IsTriedLine line (place + 1) input old might new may (Err fault)
  tried_halted stops line_faults.NoMemory before script st halts act_is later is keeps next to =
      before script st is keeps
  tried_halted stops (line_faults.Refused told) has script st halts act_is later is keeps next to =
      rw has.0 (halted_refuses _ _ halts later _ _ _ input _ _ is keeps there next to _ _
      stops has.1)

  pub tried_refused : (why : LineRefusal) → is_halted old.works.halted (place + 1) ≡ false
      → (node : NodeFields) → slice_get old.works.nodes place ≡ Some node
      → IsSaid node input (Some why) → (fault : LineFault)
      → IsRefusedAs line why old might new may fault
      → IsTriedLine line (place + 1) input old might new may (Err fault)
  tried_refused why runs node at said line_faults.NoMemory before script st halts act_is later is
      keeps next to = before script st is keeps
  tried_refused why runs node at said (line_faults.Refused told) has script st halts act_is later is
      keeps next to =
      rw has.0 (node_refuses _ _ halts later _ _ _ input _ _ is keeps there next to _ _ _
      runs (sym (refuses _ _ old.works might is keeps.runs _ there runs _ at _ _ to.at (said
      script.objects))) has.1)

  pub tried_led : (done : Put) → is_halted old.works.halted (place + 1) ≡ false
      → (node : NodeFields) → slice_get old.works.nodes place ≡ Some node
      → IsSaid node input None → HasLed line place input old might done new may
      → IsTriedLine line (place + 1) input old might new may (Ok done)
  tried_led done runs node at said has script st halts act_is later is keeps next to =
      leads_on script st halts later line place act_is input old might is keeps there next to done
      new may runs
      (sym (refuses script st old.works might is keeps.runs place there runs node at input None
      to.at (said script.objects))) has

  pub tried_wanting : KeepsLinesAsBefore old might new may
      → IsTriedLine line (place + 1) input old might new may (Err line_faults.NoMemory)
  tried_wanting before script st halts act_is later is keeps next to = before script st is keeps

  -- what its node gives for the step
  pub tried_may : IsLineToSome (place + 1) input old might
      → is_halted old.works.halted (place + 1) ≡ false → (node : NodeFields)
      → slice_get old.works.nodes place ≡ Some node → IsSaid node input None
      → MayStep node.site.node input
  tried_may some runs node at said =
      numbers_left _ _ old.works might some.is_script some.keeps.runs _ there runs _ at _
      some.is_line.at some.is_line.own (sym (refuses _ _ old.works might some.is_script
      some.keeps.runs _ there runs _ at _ _ some.is_line.at (said some.script.objects)))

-- the lines of some run
pub tried_lines : (s : ℕ) (input : Input) (lines : LinesFields) (may : ℕ → Logged → Type 0)
    → IsLineToSome s input lines may → AreLinesOfSome lines may
tried_lines s input lines may some = record {
  script = some.script;
  standing = some.standing;
  is_script = some.is_script;
  keeps = some.keeps;
}

pub tried_there : (place : ℕ) (input : Input) (lines : LinesFields) (may : ℕ → Logged → Type 0)
    → IsLineToSome (place + 1) input lines may → place < length lines.works.nodes
tried_there place input lines may some =
    let high = some.is_line.high in
    let each = some.keeps.runs.one_each in
    omega (arith, high, each)

-- a place of the nodes that are seen
pub place_of : {N F : Type 0} (f : N → F) (nodes : List N) (place : ℕ)
    → place < length (map f nodes) → place < length nodes
place_of f nodes place there = rw (← (length-map nodes f)) there
