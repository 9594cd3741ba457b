-- What the picture of a run is: its diagram, in a scene that shows what was asked for.
use Rattle.std.specs.Prelude.{◌≡◌, ℕ, List, map, reverse, string_bytes}
use Rattle.std.specs.List.{flat_map}
use Rattle.cam_event.specs.declared.RunRecord.{RunRecord}
use Rattle.cam_scope.specs.declared.scope.Scope.{Scope}
use Rattle.cam_script.specs.declared.Script.{Script}
use Rattle.cam_diagram.specs.declared.Scene.{Scene}
use Rattle.cam_diagram.specs.Diagram.{diagram}
use Rattle.cam_draw.specs.declared.light.Highlight.{Highlight}
use Rattle.cam_draw.specs.declared.light.Light.{Light}
use Rattle.cam_draw.specs.Light.{IsLight}
use Rattle.cam_draw.specs.Captions.{captions, saying}
use Rattle.cam_draw.specs.Stubs.{stubs}
use Rattle.cam_draw.specs.Surroundings.{halt_of, halt_saying, heads}

-- The scene of a run: each node with its objects, each event with what it did, each letter that no event received, each halt.
pub record IsScene (script : Script) (run : RunRecord) (scope : Scope) (light : Light) (scene : Scene) : Type 0 where
  pub heads : map string_bytes scene.heads ≡ heads script script.nodes
  pub captions : map saying scene.captions ≡ captions scope script.labels light (reverse run.trace)
  pub stubs : scene.stubs ≡ stubs run.trace light (reverse scope.letters)
  pub halts : map halt_saying scene.halts ≡ flat_map (halt_of scope.events) run.marks

-- The text is the diagram of the run, in a scene that lights up what was asked for.
pub record IsDrawing (script : Script) (run : RunRecord) (scope : Scope) (highlight : Highlight) (text : List ℕ) : Type 0 where
  pub light : Light
  pub asked : IsLight (reverse run.trace) highlight light
  pub scene : Scene
  pub set : IsScene script run scope light scene
  pub is : text ≡ diagram scene run.trace
