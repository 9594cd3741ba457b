-- What a node is when the event of a call stands that came to its site.
use Rattle.std.specs.Prelude.{◌≡◌, ◌⊎◌, ◌≤◌, Bool, true, false, List, length, Some, None}
use Rattle.cam_type.specs.declared.ObjectDecl.{ObjectDecl}
use Rattle.cam_type.specs.declared.Kind.{Kind}
use Rattle.cam_type.specs.Objects.{start_of}
use Rattle.cam_type.specs.Table.{kind_of}
use Rattle.cam_know.specs.Knowledge.{Knowledge}
use Rattle.cam_know.specs.Known.{news}
use Rattle.cam_know.specs.Order.{told_in_order}
use Rattle.cam_event.specs.declared.Body.{Body}
use Rattle.cam_event.specs.declared.Body.TheVariants as bodies
use Rattle.cam_event.specs.declared.Event.{Event}
use Rattle.cam_event.specs.declared.Letter.{Letter}
use Rattle.cam_event.specs.declared.LetterId.{LetterId}
use Rattle.cam_event.specs.Inputs.{Receives, Mail}
use Rattle.cam_event.specs.ByPast.{event_of}
use Rattle.cam_event.specs.ByKnowledge.{new_informs}
use Rattle.cam_event.specs.Loads.{Load, PlacesFields, noted_at, with_load}
use Rattle.cam_locks.specs.Site.{Site, fits_here}
use Rattle.cam_tranman.specs.Calls as tranman
use Rattle.cam_commit.specs.Calls as commit
use Rattle.cam_server.specs.declared.Performed.{Performed}
use Rattle.cam_server.specs.declared.server.Server.{Server as Tables}
use Rattle.cam_server.specs.Server.{Server}
use Rattle.cam_server.specs.Calls.{Asked, answers, tested_by}
use Rattle.cam_server.specs.Ahead.{CameAfter}
use Rattle.cam_server.specs.Steps.{did_performed}
use Rattle.cam_node.specs.declared.call_arrives.Called.{Called}
use Rattle.cam_node.specs.declared.did.Doing.{Doing}
use Rattle.cam_node.specs.declared.plan.Change.{Change}
use Rattle.cam_node.specs.declared.plan.Change.TheVariants as changes
use Rattle.cam_node.specs.Represents.{Node}
use Rattle.cam_node.specs.Halting.{IsStepThrough}

-- It knows and has noted this; its site was informed of the news, and then did with the call what
-- it answers; and all else is as it was.
pub record HasServed (asked : Asked) (done : Performed) (news known : Knowledge)
    (places : PlacesFields) (old new : Node) : Type 0 where
  pub number : new.number ≡ old.number
  pub count : new.count ≡ old.count
  pub know : new.know ≡ known
  pub places_are : new.places ≡ places
  pub actions : tranman.AreSame old.actions new.actions
  pub families : commit.AreSame old.families new.families
  pub server : CameAfter news known asked done old.server new.server

-- the call that a letter names; whether it is on the letter; and when a site may serve it, by a
-- server that is handed in: the object stands there and fits the op, an index is left, and the
-- server is of the object's kind
abbrev pub asked_of : Called → Asked
asked_of c = record {
  action = c.action;
  number = c.number;
  object = c.object;
  op = c.op;
  count = c.count;
  visited = c.deps;
}

abbrev pub IsCallOn : Letter → Asked → Type 0
IsCallOn letter asked = letter.body ≡ bodies.Call asked.action asked.number asked.object asked.op
    asked.count asked.visited

pub record MayBeServed (asked : Asked) (kind : Kind) (server : Server) : Type 0 where
  pub fits : fits_here server.table.site.objects server.table.site.node asked.object asked.op ≡ true
  pub index : server.table.site.next ≤ 999999999
  pub of_kind : kind ≡ kind_of (start_of server.table.site.objects asked.object)

abbrev pub is_call : Body → Bool
is_call (bodies.Call a n x op c counts) = true
is_call _ = false

-- a letter that is a call whose object does not stand at this site, or does not fit the op
pub record IsElsewhere (letter : Letter) (site : Site) : Type 0 where
  pub asked : Asked
  pub call : IsCallOn letter asked
  pub unfit : fits_here site.objects site.node asked.object asked.op ≡ false

-- What is done with it: nothing is changed where a test decides before the lock table; else the
-- server that stands in the place of the other was informed of the news, and then did with the call
-- what it answers.
abbrev pub ChangesTo : Change → Knowledge → Knowledge → Asked → Performed → Server → Type 0
ChangesTo change news known asked done server =
    ((change ≡ changes.Nothing) × (Some done
    ≡ tested_by known server asked.action asked.number asked.count asked.visited))
    ⊎ ((tables : Tables) × (change ≡ changes.Served tables)
    × CameAfter news known asked done server (answers tables))

pub record IsDone (news known : Knowledge) (asked : Asked) (server : Server) (doing : Doing)
    (done : Performed) : Type 0 where
  pub did : doing.did ≡ did_performed asked done
  pub adds : doing.adds ≡ None
  pub change : ChangesTo doing.change news known asked done server

-- The letter is this call, and that is what its event made of the node, by what it brought.
pub record CallStands (mail : Mail) (load : Load) (asked : Asked) (done : Performed)
    (old new : Node) : Type 0 where
  pub fresh : Knowledge
  pub know : Knowledge
  pub places : PlacesFields
  pub call : mail.body ≡ bodies.Call asked.action asked.number asked.object asked.op asked.count
      asked.visited
  pub know_is : know ≡ with_load old.know load
  pub fresh_is : fresh ≡ news know old.know
  pub places_are : places ≡ noted_at mail.to (length know.outcomes) old.places mail.from load
  pub served : HasServed asked done fresh know places old new

-- THE LAW. The event has the first Informs and what the site did with the call. It is the
-- definition's, and the node stands for the longer history.
abbrev pub CallsAreSteps : Type 0
CallsAreSteps =
    (objects : List ObjectDecl) (old new : Node) (id : LetterId) (mail : Mail) (load : Load)
    (asked : Asked) (done : Performed) (event : Event)
    → (1 ≤ mail.from) × (mail.from ≤ 8)
    → event ≡ event_of old.number (Some id)
    (new_informs old.number (told_in_order load.know) old.know) (did_performed asked done)
    → CallStands mail load asked done old new
    → IsStepThrough objects old new (Receives id) (Some mail) load event
