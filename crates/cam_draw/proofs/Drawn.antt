-- A diagram is a drawing of its run.
use Rattle.std.proofs.Common.{ℕ, ◌≡◌, List, map, reverse, string_bytes}
use Rattle.std.specs.List.{flat_map}
use Rattle.cam_event.specs.declared.RunRecord.{RunRecord}
use Rattle.cam_scope.specs.declared.scope.Scope.{Scope}
use Rattle.cam_script.specs.declared.Script.{Script}
use Rattle.cam_diagram.specs.declared.Scene.{Scene}
use Rattle.cam_diagram.specs.Diagram.{diagram}
use Rattle.cam_draw.specs.declared.light.Highlight.{Highlight}
use Rattle.cam_draw.specs.declared.light.Light.{Light}
use Rattle.cam_draw.specs.Light.{IsLight}
use Rattle.cam_draw.specs.Captions.{captions, saying}
use Rattle.cam_draw.specs.Drawing.{IsDrawing, IsScene}
use Rattle.cam_draw.specs.Stubs.{stubs}
use Rattle.cam_draw.specs.Surroundings.{halt_of, halt_saying, heads}

pub is_scene : (script : Script) (run : RunRecord) (scope : Scope) (light : Light) (scene : Scene)
    → map string_bytes scene.heads ≡ heads script script.nodes
    → map saying scene.captions ≡ captions scope script.labels light (reverse run.trace)
    → scene.stubs ≡ stubs run.trace light (reverse scope.letters)
    → map halt_saying scene.halts ≡ flat_map (halt_of scope.events) run.marks → IsScene script run scope light scene
is_scene script run scope light scene over said unheard halted =
    record { heads = over; captions = said; stubs = unheard; halts = halted }

pub is_drawing : (script : Script) (run : RunRecord) (scope : Scope) (highlight : Highlight) (light : Light) (scene : Scene) (text : List ℕ)
    → IsLight (reverse run.trace) highlight light → IsScene script run scope light scene → text ≡ diagram scene run.trace
    → IsDrawing script run scope highlight text
is_drawing script run scope highlight light scene text asked set is =
    record { light = light; asked = asked; scene = scene; set = set; is = is }
