-- What the calls that only a disk which can be stopped has leave of it. It tells what the inner disk tells, with its own faults, and
-- how many calls it still passes on.
use Rattle.std.specs.Prelude.{ℕ, Option, None}
use Rattle.cam_disk.specs.declared.stop.StopDisk.{StopDisk}

-- a disk over another, as it begins: it passes all calls on, and has no faults of its own
abbrev pub passing_on : {D : Type 0} → D → StopDisk D
passing_on inner = record { inner = inner; passes = None; own_faults = 0 }

-- the inner disk
abbrev pub within : {D : Type 0} → StopDisk D → D
within disk = disk.inner

-- the same disk, which passes this many calls on; None: all
abbrev pub with_passes : {D : Type 0} → Option ℕ → StopDisk D → StopDisk D
with_passes calls disk = record { inner = disk.inner; passes = calls; own_faults = disk.own_faults }
