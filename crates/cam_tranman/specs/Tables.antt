-- What the tables of the actions answer.
use Rattle.std.specs.Prelude.{min}
use Rattle.std.specs.HashMap.{get, spare}
use Rattle.cam_names.specs.Names.{name_eq}
use Rattle.cam_tranman.specs.declared.homed.Homed.{Homed}
use Rattle.cam_tranman.specs.Actions.{Actions}

abbrev pub answers : Homed → Actions
answers h =
    record {
      node = h.node;
      count = h.count;
      tops = h.tops;
      action = get name_eq h.actions;
      call = get name_eq h.calls;
      children = h.children.names;
      room = min (spare h.actions) (min (spare h.calls) h.children.room);
    }
