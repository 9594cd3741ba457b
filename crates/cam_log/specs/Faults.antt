-- Why a log's call fails, by why its disk's call did.
use Rattle.std.specs.Prelude.{◌≡◌, Result, Err}
use Rattle.cam_disk.specs.declared.error.DiskError.{DiskError}
use Rattle.cam_disk.specs.declared.error.DiskError.TheVariants.{Failed, NoMemory as NoMemoryOfDisk}
use Rattle.cam_log.specs.declared.fault.LogFault.{LogFault}
use Rattle.cam_log.specs.declared.fault.LogFault.TheVariants.{DiskFault, NotALog, NoMemory}

abbrev pub fault_of : DiskError → LogFault
fault_of Failed = DiskFault
fault_of NoMemoryOfDisk = NoMemory

-- The bytes are refused with this fault as they are read, unless the disk failed or memory ran out.
abbrev pub Refuses : {A : Type 0} → LogFault → Result A LogFault → Type 0
Refuses (NotALog at) reading = reading ≡ Err (NotALog at)
Refuses DiskFault reading = Unit {0}
Refuses NoMemory reading = Unit {0}
