-- A call that goes ahead of the news that came with it.
use Rattle.std.specs.Prelude.{◌≡◌, Option, Some, None}
use Rattle.cam_know.specs.Knowledge.{Knowledge}
use Rattle.cam_event.specs.declared.LetterId.{LetterId}
use Rattle.cam_server.specs.declared.Performed.{Performed}
use Rattle.cam_server.specs.Calls as server
use Rattle.cam_server.specs.Calls.{Asked, performed_by, AfterPerformed}
use Rattle.cam_server.specs.Server.{Server}
use Rattle.cam_server.specs.Steps.{did_performed}
use Rattle.cam_node.specs.declared.call_ahead.Ahead.{Ahead}
use Rattle.cam_node.specs.declared.did.Doing.{Doing}
use Rattle.cam_node.specs.declared.learning.Learnt.{Learnt}
use Rattle.cam_node.specs.declared.plan.Change.{Change}
use Rattle.cam_node.specs.declared.plan.Change.TheVariants as changes
use Rattle.cam_node.specs.declared.plan.Plan.{Plan}
use Rattle.cam_node.specs.declared.state.Core.{Core}
use Rattle.cam_node.specs.Represents.{Node}
use Rattle.cam_node.specs.Calls.{answers, AreSame}
use Rattle.cam_node.specs.Planning.{IsMade}

-- the call, where one went ahead
abbrev pub ahead_of : Change → Option Ahead
ahead_of (changes.WentAhead ahead) = Some ahead
ahead_of _ = None

-- the plan of what a site did with a call
pub record IsAheadPlan (core : Core) (id : LetterId) (learnt : Learnt) (asked : Asked)
    (done : Performed) (plan : Plan) : Type 0 where
  pub doing : Doing
  pub made : IsMade core id learnt doing plan
  pub did : doing.did ≡ did_performed asked done
  pub change : doing.change ≡ changes.WentAhead
      (record { action = asked.action; number = asked.number; done = done })
  pub adds : doing.adds ≡ None

-- The site did with the call what it answers; all else is as it was, the room for outcomes too.
pub record HasGoneAhead (old new : Core) (id : LetterId) (learnt : Learnt) (asked : Asked)
    (plan : Plan) : Type 0 where
  pub done : Performed
  pub planned : IsAheadPlan new id learnt asked done plan
  pub value : done ≡ performed_by old.knowing.known (answers old).server asked
  pub after : AfterPerformed asked done (answers old).server (answers new).server
  pub rest : answers new ≡ record (answers old) { server = (answers new).server }
  pub knowing : new.knowing ≡ old.knowing
  pub spare : (answers new).server.table.spare ≡ (answers old).server.table.spare

-- What was done with it is taken back: the server answers as before, whatever it answered then.
pub record IsTakenBack (ahead : Ahead) (old new : Node) : Type 0 where
  pub rest : new ≡ record old { server = new.server }
  pub back :
      (k : Knowledge) (asked : Asked) (before : Server) → asked.action ≡ ahead.action
      → asked.number ≡ ahead.number
      → ahead.done ≡ performed_by k before asked → AfterPerformed asked ahead.done before old.server
      → server.AreSame before new.server

-- An event that was planned does not come to stand: what went ahead is taken back, and else nothing
-- happens.
abbrev pub IsForgotten : Option Ahead → Node → Node → Type 0
IsForgotten None old new = new ≡ old
IsForgotten (Some ahead) old new = IsTakenBack ahead old new

-- then the node answers as before
abbrev pub CanForget : Node → Node → Option Ahead → Type 0
CanForget first now ahead = (new : Node) → IsForgotten ahead now new → AreSame first new

abbrev pub MayBeForgotten : Node → Node → Change → Type 0
MayBeForgotten first now change = CanForget first now (ahead_of change)
