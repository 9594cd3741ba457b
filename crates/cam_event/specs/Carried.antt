-- An event of a node, with the letter that it received and the knowledge on that letter.
use Rattle.std.specs.Prelude.{List, map, Option}
use Rattle.cam_know.specs.Knowledge.{Knowledge}
use Rattle.cam_event.specs.declared.Event.{Event}
use Rattle.cam_event.specs.declared.Deed.{Deed}
use Rattle.cam_event.specs.Inputs.{Mail}
use Rattle.cam_event.specs.Sights.{Entry, own_deeds}

-- an event of a node, with the letter that it received and the knowledge on that letter
pub record Carried : Type 0 where
  pub event : Event
  pub mail : Option Mail
  pub brought : Knowledge

abbrev pub entry_of : Carried → Entry
entry_of c = record { event = c.event; mail = c.mail }

abbrev pub deeds_of : List Carried → List Deed
deeds_of history = own_deeds (map entry_of history)
