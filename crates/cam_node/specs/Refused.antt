-- What stands against an input, before it is put to a node.
use Rattle.std.specs.Prelude.{◌≡◌, not, ◌||◌, Bool, if◌then◌else◌, List, Option, Some, None}
use Rattle.cam_names.specs.declared.name.Name.{Name}
use Rattle.cam_type.specs.declared.ObjectDecl.{ObjectDecl}
use Rattle.cam_event.specs.declared.LineRefusal.{LineRefusal}
use Rattle.cam_event.specs.declared.LineRefusal.TheVariants as refusals
use Rattle.cam_event.specs.Refusals.{tell_refusal, where_so}
use Rattle.cam_commit.specs.Calls.{is_decided}
use Rattle.cam_locks.specs.Calls.{has_family}
use Rattle.cam_tranman.specs.Calls.{IsFree, refusal_by}
use Rattle.cam_node.specs.declared.Input.{Input}
use Rattle.cam_node.specs.declared.Input.TheVariants as inputs
use Rattle.cam_node.specs.Halting.{IsRefusal, IsQueryRefusal}
use Rattle.cam_node.specs.Represents.{Node}

-- It is the refusal of the definition, for each history through halts that the node represents.
-- Nothing stands against a begin, nor against a letter.
abbrev pub IsRefusalOf : List ObjectDecl → Node → Input → Option LineRefusal → Type 0
IsRefusalOf objects node (inputs.Request request) result =
    IsRefusal objects node request.action request.want result
IsRefusalOf objects node (inputs.Tell to) result = result ≡ tell_refusal node.number to
IsRefusalOf objects node (inputs.Query family) result = IsQueryRefusal objects node family result
IsRefusalOf objects node _ result = result ≡ None

-- what stands against a query, as the node's parts answer
abbrev pub query_refusal_by : Node → Name → Option LineRefusal
query_refusal_by node f =
    where_so
    (is_decided node.know f
    || not (node.families.is_secured f || has_family node.server.table.site f))
    refusals.NothingToDo

-- What stands against an input, as the node's parts answer. Of a request it is the first test that
-- holds, whatever the home of its action.
abbrev pub refused_by : Node → Input → Option LineRefusal
refused_by node (inputs.Request request) = refusal_by node.actions request.action request.want
refused_by node (inputs.Tell to) = tell_refusal node.number to
refused_by node (inputs.Query family) = query_refusal_by node family
refused_by node _ = None

-- A halted node takes no input.
abbrev pub refusal_of : Bool → Node → Input → Option LineRefusal
refusal_of halted node input =
    if halted then Some refusals.Halted else refused_by node input

-- nothing stands against the input, as the node's parts answer
abbrev pub IsNotRefused : Node → Input → Type 0
IsNotRefused node (inputs.Request request) = IsFree node.actions request.action request.want
IsNotRefused node (inputs.Tell to) = tell_refusal node.number to ≡ None
IsNotRefused node (inputs.Query family) = query_refusal_by node family ≡ None
IsNotRefused node _ = Unit {0}
