-- What a node's fault says of a log's.
use Rattle.cam_log.specs.declared.fault.LogFault.{LogFault}
use Rattle.cam_log.specs.declared.fault.LogFault.TheVariants as log_faults
use Rattle.cam_node.specs.declared.fault.NodeFault.{NodeFault}
use Rattle.cam_node.specs.declared.fault.NodeFault.TheVariants.{DiskFault, NoMemory}

-- a log that is none is a fault of its disk
abbrev pub fault_of : LogFault → NodeFault
fault_of log_faults.DiskFault = DiskFault
fault_of (log_faults.NotALog at) = DiskFault
fault_of log_faults.NoMemory = NoMemory
