use Rattle.std.proofs.Common.{◌≡◌, drop}
use Rattle.cam_recman.specs.Versions.{version_behind}
use Rattle.cam_image.proofs.version.version_behind.Given as goal

-- the records still to come make of the version what all make
abbrev pub invariant-loop-one : goal.invariant-loop-one
invariant-loop-one l = version_behind l.version (drop l.one-index l.records)
    ≡ version_behind l.fn.version l.records
