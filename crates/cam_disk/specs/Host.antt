-- A disk of this machine tells what its part in memory holds.
use Rattle.cam_disk.specs.declared.memory.MemoryDisk.{MemoryDisk}
use Rattle.cam_disk.specs.declared.host.HostDisk.{HostDisk}
use Rattle.cam_disk.specs.declared.host.HostDisk.TheVariants.{Memory, File}

-- the disk in memory, or the copy of the file
abbrev pub in_memory : HostDisk → MemoryDisk
in_memory (Memory disk) = disk
in_memory (File disk) = disk.copy
