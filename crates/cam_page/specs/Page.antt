-- What `camelot` writes for a command over streams and disks in memory.
use Rattle.std.specs.Prelude.{ℕ, ◌≡◌, Bool, List, [], All, Some}
use Rattle.cam_args.specs.declared.Command.{Command}
use Rattle.cam_base.specs.Causes.{Rose}
use Rattle.cam_run.specs.Answer.{IsOfCommand, IsWritten}
use Rattle.cam_run.specs.Disks.{disks_left}

-- The status and the text. The source has failed so often, and
-- the disks, of which none had failed before, are these before and after.
pub record IsTold {D : Type 0} (tells : D → Bool) (faults moment : D → ℕ)
    (left_since : D → ℕ → List ℕ → Type 0)
    (command : Command) (script : List ℕ) (status : ℕ) (text : List ℕ) : Type 0 where
  pub source : ℕ
  pub before : List D
  pub after : List D
  pub fresh : All (λ d. faults d ≡ 0) before
  pub written :
      IsWritten (IsOfCommand command (record {
        source_failed = Rose 0 source;
        disks = disks_left tells faults moment left_since before after;
      }) script) status (Some []) (Some text)
