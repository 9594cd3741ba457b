-- What a node goes by where it takes no action for an orphan, and what the rule of a request wants.
use Rattle.std.specs.Prelude.{◌<◌, List, length, Option, None, option_map}
use Rattle.cam_names.specs.declared.name.Name.{Name}
use Rattle.cam_type.specs.declared.ObjectDecl.{ObjectDecl}
use Rattle.cam_event.specs.declared.Want.{Want}
use Rattle.cam_event.specs.declared.Want.TheVariants as wants
use Rattle.cam_event.specs.History.{Addressed}
use Rattle.cam_event.specs.Live.{site_of}
use Rattle.cam_event.specs.Runs.{IsNode}
use Rattle.cam_event.specs.Sights.{Sight}
use Rattle.cam_rules.specs.declared.sighted.Asked.{Asked}

-- the same, where no action is taken for an orphan
abbrev pub untested : Sight → Sight
untested g = record g { orphan = λ a visited. None }

-- A child is asked for at one of the eight nodes, of an action that is not as deep as can be; and a call
-- goes to one of them.
abbrev pub HasPlace : List ObjectDecl → Name → Want → Type 0
HasPlace objects a (wants.Ask m) = (length a < 8) × IsNode m
HasPlace objects a (wants.Call x op) = IsNode (site_of objects x)
HasPlace objects a (wants.Commit v) = Unit {0}
HasPlace objects a wants.Abort = Unit {0}
HasPlace objects a (wants.GiveUp b) = Unit {0}

-- what a call asked
abbrev pub addressed : Option Asked → Option Addressed
addressed asked =
    option_map (λ (a : Asked). record { object = a.object; op = a.op; count = a.count }) asked
