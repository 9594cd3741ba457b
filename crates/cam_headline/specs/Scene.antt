-- A worked scene, from the bytes of its script to its report and a witness: an action that runs on after its parent has given it up.
-- `docs/HEADLINE.md` tells it.
use Rattle.std.specs.Prelude.{◌≡◌, ℕ, List, [], ◌∷◌, ◌++◌, Ok, codes, flat_map}
use Rattle.cam_names.specs.declared.name.Name.{Name}
use Rattle.cam_script.specs.declared.Script.{Script}
use Rattle.cam_script.specs.Grammar.{read_script}
use Rattle.cam_cut.specs.Witness.{witness}
use Rattle.cam_report.specs.Report.{report}
use Rattle.cam_report.specs.Traces.{witness_text}
use Rattle.cam_headline.specs.Headline.{one_run, events}

-- lines, each with its LF
abbrev pub text : List (List ℕ) → List ℕ
text lines = flat_map (λ l. l ++ 10 ∷ []) lines

-- P asks for C, which reads x; P gives C up; D writes x and y and commits; C asks for y.
abbrev pub scene : List ℕ
scene =
    text
    (codes "nodes 4" ∷ codes "object x 2 register 1" ∷ codes "object y 3 register 1" ∷ codes "begin P 1" ∷ codes "ask P C 4" ∷ codes "drain"
    ∷ codes "call C x read" ∷ codes "drain" ∷ codes "giveup P C" ∷ codes "begin D 1" ∷ codes "call D x write 2" ∷ codes "drain"
    ∷ codes "call D y write 2" ∷ codes "drain" ∷ codes "commit D 0" ∷ codes "drain" ∷ codes "call C y read" ∷ codes "drain" ∷ [])

-- C does not see y: the call is refused where its abort is known.
abbrev pub scene_report : List ℕ
scene_report =
    text
    (codes "action 1.1.1 open" ∷ codes "  created" ∷ codes "  asked 1.1.1/4.1.1" ∷ codes "  child 1.1.1/4.1.1 aborted"
    ∷ codes "action 1.1.1/4.1.1 aborted" ∷ codes "  created" ∷ codes "  called 1 x read" ∷ codes "  got 1 value 1" ∷ codes "  called 2 y read"
    ∷ codes "action 1.1.2 committed" ∷ codes "  created" ∷ codes "  called 1 x write 2" ∷ codes "  got 1 ok" ∷ codes "  called 2 y write 2"
    ∷ codes "  got 2 ok" ∷ codes "  commit 0" ∷ codes "stop 25 1.1.1/4.1.1 abort 1.1.1/4.1.1" ∷ codes "stop 26 1.1.1/4.1.1 abort 1.1.1/4.1.1"
    ∷ codes "value x 2" ∷ codes "value y 2" ∷ [])

-- the action C
abbrev pub orphan_of_scene : Name
orphan_of_scene = record { node = 1; count = 1; number = 1 } ∷ record { node = 4; count = 1; number = 1 } ∷ []

-- In C's witness there is no abort of it, and nothing of D.
abbrev pub scene_witness : List ℕ
scene_witness =
    text
    (codes "create 1.1.1" ∷ codes "ask 1.1.1 1.1.1/4.1.1" ∷ codes "create 1.1.1/4.1.1" ∷ codes "call 1.1.1/4.1.1 1 x read 1"
    ∷ codes "perform 1.1.1/4.1.1 1 value 1" ∷ codes "got 1.1.1/4.1.1 1 value 1" ∷ codes "call 1.1.1/4.1.1 2 y read 1" ∷ codes "legal" ∷ [])

-- The bytes spell a script, and these are the texts of its one run.
pub record IsWorked : Type 0 where
  pub script : Script
  pub spelled : read_script scene ≡ Ok script
  pub reported : report script.objects script.labels (events script) (one_run script).marks ≡ scene_report
  pub witnessed : witness_text script.labels (witness (events script) orphan_of_scene) ≡ scene_witness
