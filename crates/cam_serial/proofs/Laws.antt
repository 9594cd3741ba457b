-- The parts of the serial law, of the serial list.
use Rattle.std.proofs.Common.{List, Option, Some, None}
use Rattle.cam_names.specs.declared.name.Name.{Name}
use Rattle.cam_type.specs.declared.ObjectDecl.{ObjectDecl}
use Rattle.cam_event.specs.declared.Deed.{Deed}
use Rattle.cam_plain.specs.Legal.{Legal}
use Rattle.cam_serial.specs.Law.{ViewIsCovered}
use Rattle.cam_serial.specs.Serial.{serial, Replays}
use Rattle.cam_serial.proofs.Replaying.{committed_replays, serial_for_replays}
use Rattle.cam_serial.proofs.Covering.{serial_for_covers, committed_covers}

pub replay : (objects : List ObjectDecl) (L : List Deed) (name : Option Name) → Legal objects L → Replays objects (serial objects L name)
replay objects L None legal = committed_replays objects L legal
replay objects L (Some a) legal = serial_for_replays objects L a legal

pub view_is_covered : (objects : List ObjectDecl) (L : List Deed) (name : Option Name) → Legal objects L → ViewIsCovered objects L name (serial objects L name)
view_is_covered objects L None legal = λ a all. committed_covers objects L a legal all
view_is_covered objects L (Some a) legal = serial_for_covers objects L a legal
