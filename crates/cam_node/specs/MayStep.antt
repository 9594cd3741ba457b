-- What may be put to a node: numbers are left for the input, and it is one that the step rules have
-- for the node.
use Rattle.std.specs.Prelude.{◌≡◌, ◌≤◌, ◌<◌, List, length}
use Rattle.cam_names.specs.declared.name.Name.{Name}
use Rattle.cam_names.specs.Names.{home_node}
use Rattle.cam_type.specs.declared.ObjectDecl.{ObjectDecl}
use Rattle.cam_event.specs.declared.Body.{Body}
use Rattle.cam_event.specs.declared.Body.TheVariants as bodies
use Rattle.cam_event.specs.declared.Letter.{Letter}
use Rattle.cam_event.specs.declared.Want.{Want}
use Rattle.cam_event.specs.declared.Want.TheVariants as wants
use Rattle.cam_event.specs.ByDeltas.{Received}
use Rattle.cam_event.specs.Runs.{IsNode, IsWant}
use Rattle.cam_comman.specs.Letters.{load_on}
use Rattle.cam_tranman.specs.Actions.{asks, calls}
use Rattle.cam_node.specs.declared.Input.{Input}
use Rattle.cam_node.specs.declared.Input.TheVariants as inputs
use Rattle.cam_node.specs.Calls.{input_of, load_of, mail_of, mail_on}
use Rattle.cam_node.specs.Halting.{IsThrough}
use Rattle.cam_node.specs.Keeping.{MayBePutThen}
use Rattle.cam_node.specs.Lawful.{IsLetter}
use Rattle.cam_node.specs.Refused.{IsNotRefused}
use Rattle.cam_node.specs.Represents.{Node, Represents}

-- the declared objects, as the node's lock table has them
abbrev pub objects_of : Node → List ObjectDecl
objects_of node = node.server.table.site.objects

-- A child that is asked for has a number, and so has a call.
abbrev pub HasNumber : Node → Name → Want → Type 0
HasNumber node a (wants.Ask m) = asks node.actions a < 1000000000
HasNumber node a (wants.Call x op) = calls node.actions a < 1000000000
HasNumber node a _ = Unit {0}

-- WHAT A REQUEST MUST BE: of an action whose home the node is; for a child at one of the eight
-- nodes, or for a call on an object of one of them, which its op fits; with a number left.
abbrev pub MayAsk : Node → Name → Want → Type 0
MayAsk node a want =
    (home_node a ≡ node.number) × IsWant (objects_of node) want × HasNumber node a want

-- What is secured of a family can be logged where at most 64 objects are declared.
abbrev pub HasFewObjects : Node → Body → Type 0
HasFewObjects node (bodies.Prepare f c) = length (objects_of node) ≤ 64
HasFewObjects node _ = Unit {0}

-- A call that comes gets an index, if it is performed.
abbrev pub HasIndex : Node → Body → Type 0
HasIndex node (bodies.Call a n x op c counts) = node.server.table.site.next ≤ 999999999
HasIndex node _ = Unit {0}

-- WHAT A LETTER MUST BE that comes: of one of the eight nodes, with an index left for a call, and
-- for a prepare with few enough objects; and one that may be handed to the node.
abbrev pub MayCome : Node → Letter → Type 0
MayCome node letter =
    IsNode letter.from × HasIndex node letter.body × HasFewObjects node letter.body
    × IsLetter (objects_of node) node.number (mail_on letter) (load_on letter)

-- Numbers are left; nodes are those from 1 to 8.
abbrev pub MayStep : Node → Input → Type 0
MayStep node inputs.Begin = node.actions.tops < 1000000000
MayStep node (inputs.Request request) = MayAsk node request.action request.want
MayStep node (inputs.Letter id letter) = MayCome node letter
MayStep node (inputs.Tell to) = IsNode to
MayStep node (inputs.Query family) = Unit {0}

-- Where nothing stands against the input, it may be put to the node after each history through
-- halts that the node represents.
abbrev pub MayBePutNow : Node → Input → Type 0
MayBePutNow node input =
    (objects : List ObjectDecl) (history : List Received)
    → IsThrough objects node.number history → Represents objects history node
    → IsNotRefused node input
    → MayBePutThen objects node.number history (input_of node.number input) (mail_of input)
    (load_of input)
