use Rattle.std.proofs.Common.{◌≡◌, drop}
use Rattle.cam_image.specs.Steps.{version_from}
use Rattle.cam_image.proofs.version.version_of.Given as goal

-- what is still to be read gives what all gives
abbrev pub invariant-loop-number : goal.invariant-loop-number
invariant-loop-number l = version_from l.number l.version (drop l.number l.entries)
    ≡ version_from 0 1 l.entries
