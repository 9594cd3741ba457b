-- Why there is no witness.
use Rattle.std.specs.Prelude.{◌≡◌, false, List}
use Rattle.cam_names.specs.declared.name.Name.{Name}
use Rattle.cam_event.specs.declared.Event.{Event}
use Rattle.cam_event.specs.History.{created}
use Rattle.cam_event.specs.Pasts.{plain_all}
use Rattle.cam_cut.specs.declared.witnesses.CutFault.{CutFault}
use Rattle.cam_cut.specs.declared.witnesses.CutFault.TheVariants.{NoSuchAction, NoMemory}

-- The action was not created in the trace; out of memory has no stated cause.
abbrev pub IsCause : List Event → Name → CutFault → Type 0
IsCause t a NoSuchAction = created (plain_all t) a ≡ false
IsCause t a NoMemory = Unit {0}
