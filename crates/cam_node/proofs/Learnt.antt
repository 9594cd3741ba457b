-- What one more event does to what is known and noted.
use Rattle.std.proofs.Common.{◌≡◌, ℕ, false, List, map, Option, Some, None, refl, ◌∙◌}
use Rattle.cam_type.specs.declared.ObjectDecl.{ObjectDecl}
use Rattle.cam_know.specs.Known.{new_aborts, new_commits}
use Rattle.cam_know.specs.Order.{told_in_order}
use Rattle.cam_event.specs.Inputs.{Input, Mail}
use Rattle.cam_event.specs.Loads.{Load, with_load}
use Rattle.cam_event.specs.ByDeltas.{Received, as_carried, known, crashed}
use Rattle.cam_commit.specs.Steps.{is_restarting}
use Rattle.cam_commit.proofs.StepKinds.{steps_are_of_kind}
use Rattle.cam_delta.proofs.OwnNamed.{skip_first}
use Rattle.cam_delta.proofs.NotedPlaces.{nothing_is_noted_without_letter, letters_are_noted, loads_follow}
use Rattle.cam_node.specs.Learning.{stepped, ruled, KnowledgeGrows, PlacesGrow, LoadsFollow}

pub knowledge_grows : KnowledgeGrows
knowledge_grows objects s history input mail load =
    skip_first objects (map as_carried history) mail (with_load (known objects history) load) s
    (new_aborts (told_in_order load.know) (known objects history)) (new_commits (told_in_order load.know) (known objects history))
    (ruled objects s history input mail load)

not_crashed : (objects : List ObjectDecl) (s : ℕ) (history : List Received) (input : Input) (mail : Option Mail) (load : Load)
    → is_restarting input ≡ false → crashed (stepped objects s history input mail load).event ≡ false
not_crashed objects s history input mail load goes_on =
    (steps_are_of_kind objects s (map as_carried history) input mail (told_in_order load.know)).restarts ∙ goes_on

pub places_grow : PlacesGrow
places_grow objects s history input None load goes_on from =
    nothing_is_noted_without_letter objects (stepped objects s history input None load) history (not_crashed objects s history input None load goes_on) refl
places_grow objects s history input (Some mail) load goes_on from =
    letters_are_noted objects (stepped objects s history input (Some mail) load) history mail
    (not_crashed objects s history input (Some mail) load goes_on) refl from.0 from.1

pub loads_go_on : LoadsFollow
loads_go_on = loads_follow
