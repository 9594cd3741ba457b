-- How the event of a letter is planned: what is learnt first, and how what its rule makes becomes a
-- plan.
use Rattle.std.specs.Prelude.{◌≡◌, List, length, map, Some}
use Rattle.cam_know.specs.Known.{news, with_outcome}
use Rattle.cam_know.specs.Order.{told_in_order}
use Rattle.cam_know.specs.declared.Outcome.{Outcome}
use Rattle.cam_event.specs.declared.Letter.{Letter}
use Rattle.cam_event.specs.declared.LetterId.{LetterId}
use Rattle.cam_event.specs.declared.Note.{Note}
use Rattle.cam_event.specs.declared.Sent.{Sent}
use Rattle.cam_event.specs.ByPast.{event_of}
use Rattle.cam_event.specs.ByKnowledge.{new_informs}
use Rattle.cam_event.specs.Loads.{noted_at, with_load}
use Rattle.cam_comman.specs.Letters.{load_on, IsWithin}
use Rattle.cam_node.specs.declared.did.Doing.{Doing}
use Rattle.cam_node.specs.declared.learning.Learnt.{Learnt}
use Rattle.cam_node.specs.declared.plan.Plan.{Plan}
use Rattle.cam_node.specs.declared.state.Core.{Core}
use Rattle.cam_node.specs.Calls.{answers, letter_as, AreSame}
use Rattle.cam_node.specs.Opened.{IsKnowledge}
use Rattle.cam_node.specs.Standing.{deciding, places_heard, HasRoom, HasRoomForOne}

-- A letter was learnt: the node answers as before, and goes by this. Its actions and families are as they were,
-- and there is room at its site for the news.
pub record HasReceived (letter : Letter) (old new : Core) (learnt : Learnt) : Type 0 where
  pub same : AreSame (answers old) (answers new)
  pub actions : (answers new).actions ≡ (answers old).actions
  pub families : (answers new).families ≡ (answers old).families
  pub before : IsKnowledge (answers old).know
  pub after : IsKnowledge new.knowing.known
  pub known : new.knowing.known ≡ with_load (answers old).know (load_on letter)
  pub informs : learnt.informs ≡ new_informs old.number (told_in_order letter.know)
      (answers old).know
  pub news : learnt.heard.news ≡ news new.knowing.known (answers old).know
  pub places :
      learnt.heard.places
      ≡ noted_at letter.to (length new.knowing.known.outcomes) (answers old).places letter.from
      (load_on letter)
  pub within : IsWithin new.knowing.known learnt.heard.places
  pub room : HasRoom (Some learnt.heard) new.server

-- The plan of what a letter's rule makes, after the first Informs, by what the node knows with the
-- letter.
pub record IsMade (core : Core) (id : LetterId) (learnt : Learnt) (doing : Doing)
    (plan : Plan) : Type 0 where
  pub event : plan.stepped.event ≡ event_of core.number (Some id) learnt.informs doing.did
  pub letters :
      plan.stepped.letters
      ≡ map (letter_as core.knowing.known learnt.heard.places core.number core.count) doing.did.sent
  pub heard : plan.heard ≡ Some learnt.heard
  pub change : plan.change ≡ doing.change
  pub adds : plan.adds ≡ doing.adds

-- The plan of a letter by whose rule the node decides: it knows the outcome besides, and there is room at its site for one more.
pub record IsMadeDeciding (before core : Core) (id : LetterId) (learnt : Learnt) (o : Outcome) (sent : List Sent) (note : Note) (plan : Plan) : Type 0 where
  pub knows : core.knowing.known ≡ with_outcome o before.knowing.known
  pub made : IsMade core id learnt (deciding before.number o sent note) plan
  pub room : HasRoomForOne plan.heard core.server
  pub within : IsWithin core.knowing.known (places_heard plan.heard core.knowing.places)
