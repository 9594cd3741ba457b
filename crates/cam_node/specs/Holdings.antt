-- What the data servers hold that are handed in to a step, one of each kind. After an event that
-- performs a call, the server of the object's kind holds the value of the object at the site.
use Rattle.std.specs.Prelude.{◌≡◌, ℕ, Bool, if◌then◌else◌, List}
use Rattle.std.specs.List.{list_any}
use Rattle.cam_type.specs.declared.Kind.{Kind}
use Rattle.cam_type.specs.declared.Kind.TheVariants as kinds
use Rattle.cam_type.specs.declared.State.{State}
use Rattle.cam_type.specs.Objects.{start_of}
use Rattle.cam_type.specs.Table.{kind_of}
use Rattle.cam_know.specs.Knowledge.{Knowledge}
use Rattle.cam_event.specs.declared.Body.{Body}
use Rattle.cam_event.specs.declared.Body.TheVariants as bodies
use Rattle.cam_event.specs.declared.Deed.{Deed}
use Rattle.cam_event.specs.declared.Event.{Event}
use Rattle.cam_event.specs.HeldSites.{is_any_perform}
use Rattle.cam_locks.specs.Moss.{value}
use Rattle.cam_locks.specs.Site.{Site}
use Rattle.cam_server.specs.Calls.{answers, held_by}
use Rattle.cam_server.specs.Server.{Server}
use Rattle.cam_node.specs.declared.Input.{Input}
use Rattle.cam_node.specs.declared.Input.TheVariants as inputs
use Rattle.cam_node.specs.declared.Stepped.{Stepped}
use Rattle.cam_node.specs.declared.plan.Change.{Change}
use Rattle.cam_node.specs.declared.plan.Change.TheVariants as changes
use Rattle.cam_node.specs.declared.plan.Plan.{Plan}
use Rattle.cam_node.specs.Represents.{Node}
use Rattle.cam_node.specs.Standing.{Stands}

-- the states of the three
pub record Holdings : Type 0 where
  pub register : State
  pub queue : State
  pub counter : State

abbrev pub holdings : State → State → State → Holdings
holdings register queue counter = record { register = register; queue = queue; counter = counter }

-- what the server of a kind holds, and where it alone holds another state
abbrev pub held_of : Kind → Holdings → State
held_of kinds.Register all = all.register
held_of kinds.Queue all = all.queue
held_of kinds.Counter all = all.counter

abbrev pub with_held : Kind → State → Holdings → Holdings
with_held kinds.Register state old = record old { register = state }
with_held kinds.Queue state old = record old { queue = state }
with_held kinds.Counter state old = record old { counter = state }

-- whether an event with these deeds performs a call
abbrev pub performs : List Deed → Bool
performs deeds = list_any is_any_perform deeds

-- AFTER AN EVENT of a call on an object of this kind, and with this value then.
abbrev pub held_after_call : Kind → State → List Deed → Holdings → Holdings
held_after_call kind value deeds old = if performs deeds then with_held kind value old else old

-- by the body of its letter, and the site before it and after it
abbrev pub held_after_letter : Site → Site → Body → List Deed → Holdings → Holdings
held_after_letter before after (bodies.Call a n x op c counts) deeds old =
    held_after_call (kind_of (start_of before.objects x)) (value after x) deeds old
held_after_letter before after _ deeds old = old

-- of any input
abbrev pub held_after : Site → Site → Input → Event → Holdings → Holdings
held_after before after (inputs.Letter id letter) event old =
    held_after_letter before after letter.body event.deeds old
held_after before after _ event old = old

-- WHATEVER COMES OF IT, an event or an error: the server of the kind of the object that a letter
-- calls alone may hold another state.
abbrev pub HasChanged : Kind → Holdings → Holdings → Type 0
HasChanged kind old new = new ≡ with_held kind (held_of kind new) old

abbrev pub LeavesOthersOf : Site → Body → Holdings → Holdings → Type 0
LeavesOthersOf before (bodies.Call a n x op c counts) old new =
    HasChanged (kind_of (start_of before.objects x)) old new
LeavesOthersOf before _ old new = new ≡ old

abbrev pub LeavesOthers : Site → Input → Holdings → Holdings → Type 0
LeavesOthers before (inputs.Letter id letter) old new = LeavesOthersOf before letter.body old new
LeavesOthers before _ old new = new ≡ old

-- ON THE WAY: what one server holds, by the deeds of the event and the value of the object;
abbrev pub held_then : List Deed → State → State → State
held_then deeds value old = if performs deeds then value else old

-- by a call that went ahead of its news;
abbrev pub held_ahead : Change → State → State → State
held_ahead (changes.WentAhead ahead) value old = held_by ahead.done value old
held_ahead _ value old = old

-- the site where a change of what is served stands;
abbrev pub site_with : Change → Server → Site
site_with (changes.Served tables) server = (answers tables).table.site
site_with _ server = server.table.site

-- and by a planned event, for each node as it is when that stands: the server of the call, and all.
abbrev pub HoldsThen : ℕ → Plan → Knowledge → Node → State → State → Type 0
HoldsThen x plan known mid old new =
    (node : Node) → Stands plan.change plan.heard known mid node
    → new ≡ held_then plan.stepped.event.deeds (value node.server.table.site x) old

abbrev pub HoldThen : Kind → ℕ → Plan → Knowledge → Node → Holdings → Holdings → Type 0
HoldThen kind x plan known mid old new =
    (node : Node) → Stands plan.change plan.heard known mid node
    → new ≡ held_after_call kind (value node.server.table.site x) plan.stepped.event.deeds old

-- A plan was carried out: its event and letters are returned, and it stands.
pub record HasStood (plan : Plan) (known : Knowledge) (old : Node) (stepped : Stepped)
    (new : Node) : Type 0 where
  pub planned : stepped ≡ plan.stepped
  pub stands : Stands plan.change plan.heard known old new
