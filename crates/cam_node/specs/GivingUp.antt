-- An action gives up a child: the request, and its plan.
use Rattle.std.specs.Prelude.{◌≡◌, [], Some, None}
use Rattle.cam_names.specs.declared.name.Name.{Name}
use Rattle.cam_know.specs.Known.{with_outcome}
use Rattle.cam_know.specs.declared.Outcome.TheVariants.{Aborted}
use Rattle.cam_event.specs.declared.Want.TheVariants as wants
use Rattle.cam_event.specs.Inputs.{Input, Requests}
use Rattle.cam_event.specs.ByPast.{event_of}
use Rattle.cam_event.specs.Rules.{did}
use Rattle.cam_recman.specs.Snapshot.{outcome_record}
use Rattle.cam_server.specs.Events.{decision}
use Rattle.cam_node.specs.declared.plan.Change.TheVariants as changes
use Rattle.cam_node.specs.declared.plan.Plan.{Plan}
use Rattle.cam_node.specs.declared.state.Core.{Core}
use Rattle.cam_node.specs.Calls.{answers}
use Rattle.cam_node.specs.Standing.{places_heard, HasRoomForOne}
use Rattle.cam_comman.specs.Letters.{IsWithin}

-- the request
abbrev pub giving_up : Name → Name → Input
giving_up a b = Requests (record { action = a; want = wants.GiveUp b })

-- The node goes by the abort besides; its site has room for it; all else is as it was.
pub record IsGivenUp (a b : Name) (old core : Core) (plan : Plan) : Type 0 where
  pub knows : core.knowing.known ≡ with_outcome (Aborted b) old.knowing.known
  pub actions : (answers core).actions ≡ (answers old).actions
  pub event : plan.stepped.event ≡ event_of old.number None [] (did (decision old.number (Aborted b)) [])
  pub letters : plan.stepped.letters ≡ []
  pub heard : plan.heard ≡ None
  pub change : plan.change ≡ changes.GaveUp a b
  pub adds : plan.adds ≡ Some (outcome_record (Aborted b))
  pub room : HasRoomForOne plan.heard core.server
  pub within : IsWithin core.knowing.known (places_heard plan.heard core.knowing.places)
