-- The order of what the log holds and of what is live goes on where a planned event stands.
use Rattle.std.specs.Prelude.{◌≡◌, Bool, true, false, List, [], Option}
use Rattle.cam_type.specs.declared.ObjectDecl.{ObjectDecl}
use Rattle.cam_know.specs.Knowledge.{Knowledge}
use Rattle.cam_event.specs.Inputs.{Input, Mail}
use Rattle.cam_event.specs.Loads.{Load}
use Rattle.cam_server.specs.Events.{AreQuiet}
use Rattle.cam_node.specs.declared.plan.Change.{Change}
use Rattle.cam_node.specs.declared.plan.Change.TheVariants as changes
use Rattle.cam_node.specs.declared.plan.Plan.{Plan}
use Rattle.cam_node.specs.Represents.{Node}
use Rattle.cam_node.specs.Calls.{AreSame}
use Rattle.cam_node.specs.Plans.{IsPlanGiven, KeepsOrder, held_in, nothing_given}

-- an event's change may put another server in the place of its own, or be of a call that was served
abbrev pub is_served : Change → Bool
is_served (changes.Served tables) = true
is_served (changes.WentAhead ahead) = true
is_served _ = false

-- THE LAW, of each event that performs, bounces and secures nothing, and is no crash.
abbrev pub PlansKeepOrder : Type 0
PlansKeepOrder =
    (objects : List ObjectDecl) (input : Input) (mail : Option Mail) (load : Load) (plan : Plan)
    (known : Knowledge) (old mid : Node)
    → is_served plan.change ≡ false → held_in plan.adds ≡ [] → AreSame old mid
    → AreQuiet old.number plan.stepped.event.deeds
    → IsPlanGiven nothing_given objects input mail load plan known old mid
    → KeepsOrder objects input mail load plan known old mid
