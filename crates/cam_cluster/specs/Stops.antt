-- The line that stops a node's disk after some calls more.
use Rattle.std.specs.Prelude.{ℕ}
use Rattle.cam_node.specs.Log.{Logged}
use Rattle.cam_runs.specs.Standing.{Standing, Setting}
use Rattle.cam_script.specs.declared.Act.TheVariants as acts
use Rattle.cam_script.specs.declared.Script.{Script}
use Rattle.cam_cluster.specs.LetterLines.{IsDone}
use Rattle.cam_cluster.specs.SoFar.{LinesFields}

abbrev pub IsStop : ℕ → ℕ → Script → Standing → Setting → LinesFields → (ℕ → Logged → Type 0)
    → Unit {0} → Type 0
IsStop s calls script st c new may_read done = IsDone script st c (acts.Stop s calls) new may_read
