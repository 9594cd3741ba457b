use Rattle.std.proofs.Common.{◌≡◌, drop, string_bytes}
use Rattle.cam_recman.specs.Inspect.{inspect_from, inspect_text}
use Rattle.cam_image.proofs.inspecting.inspect_text.Given as goal

-- what is still to be shown gives what all gives
abbrev pub invariant-loop-number : goal.invariant-loop-number
invariant-loop-number l = inspect_from l.number l.version (string_bytes l.text)
    (drop l.number l.entries) ≡ inspect_text l.entries
