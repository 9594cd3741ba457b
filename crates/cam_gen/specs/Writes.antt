-- What a step does to a script that is being written.
use Rattle.std.specs.Prelude.{◌≡◌, ℕ, ◌<◌, List, ◌++◌, string_bytes}
use Rattle.cam_gen.specs.declared.script.Writer.{Writer}
use Rattle.cam_gen.specs.Script.{Written, operation_step}

-- the step's line stands behind the text before it, its draws were made, and its variable is
-- counted
pub record Writes (before : List ℕ) (new : Writer) (step : Written) : Type 0 where
  pub text : string_bytes new.text ≡ before ++ step.text
  pub state : new.draws.state ≡ step.state
  pub variables : new.variables ≡ step.variables

-- a step that goes by the state and the number of variables before it
abbrev pub WritesStep : (ℕ → ℕ → Written) → Writer → Writer → Type 0
WritesStep step old new = Writes (string_bytes old.text) new (step old.draws.state old.variables)

-- an operation on a register, whichever it is
abbrev pub WritesOnRegister : ℕ → Writer → Writer → Type 0
WritesOnRegister op old new = (object : ℕ) → object < 3
    → WritesStep (operation_step object op) old new
