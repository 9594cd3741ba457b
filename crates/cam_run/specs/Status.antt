-- The numbers of the statuses.
use Rattle.std.specs.Prelude.{ℕ}
use Rattle.cam_run.specs.declared.status.Status.{Status}
use Rattle.cam_run.specs.declared.status.Status.TheVariants.{Done, Usage, Refused, ReadFault, WriteFault, DiskFault, NoMemory, Missing}

abbrev pub number : Status → ℕ
number Done = 0
number Usage = 2
number Refused = 3
number ReadFault = 4
number WriteFault = 5
number DiskFault = 6
number NoMemory = 7
number Missing = 8
