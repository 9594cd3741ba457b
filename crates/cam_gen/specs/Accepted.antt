-- The grammar accepts each script that is made.
use Rattle.std.specs.Prelude.{ℕ, ◌≤◌, IsOk}
use Rattle.cam_script.specs.Grammar.{read_script}
use Rattle.cam_gen.specs.Script.{script_of}

abbrev pub EachIsAccepted : Type 0
EachIsAccepted = (seed size : ℕ) → size ≤ 400 → IsOk (read_script (script_of seed size))
