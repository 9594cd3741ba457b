-- What a check that finds fault says.
use Rattle.std.specs.Prelude.{List}
use Rattle.cam_type.specs.declared.ObjectDecl.{ObjectDecl}
use Rattle.cam_event.specs.declared.Deed.{Deed}
use Rattle.cam_plain.specs.declared.legality.CheckFault.{CheckFault}
use Rattle.cam_plain.specs.declared.legality.CheckFault.TheVariants.{Illegal, NoMemory}
use Rattle.cam_plain.specs.Legal.{IsFirstIllegal}

-- It names the first deed that is not legal; running out of memory has no stated cause.
abbrev pub IsFault : List ObjectDecl → List Deed → CheckFault → Type 0
IsFault objects deeds (Illegal at cause) = IsFirstIllegal objects deeds at cause
IsFault objects deeds NoMemory = Unit {0}
