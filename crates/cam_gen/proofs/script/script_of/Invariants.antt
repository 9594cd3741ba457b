use Rattle.std.proofs.Common.{◌≡◌, ◌++◌, ◌-◌, ◌≤◌, string_bytes}
use Rattle.cam_gen.specs.Script.{steps_from, declarations}
use Rattle.cam_gen.proofs.script.script_of.Given as goal

-- there are no more variables than steps so far, and the text and the steps that are left are the
-- whole
abbrev pub invariant-loop : goal.invariant-loop
invariant-loop l =
    (l.writer.variables ≤ l.counter)
    × (string_bytes l.writer.text ++ steps_from (l.size - l.counter) l.writer.draws.state
    l.writer.variables ≡ declarations ++ steps_from l.size l.seed 0)
