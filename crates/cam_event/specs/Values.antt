-- What a walk over the deeds of a trace keeps for the view of an action.
use Rattle.std.specs.Prelude.{◌≡◌, ℤ, List, [], ◌∷◌, Option, Some, None}
use Rattle.std.specs.BTreeMap.{BTreeMap, get}
use Rattle.cam_names.specs.declared.name.Name.{Name}
use Rattle.cam_names.specs.Names.{name_cmp}
use Rattle.cam_event.specs.declared.Deed.{Deed}
use Rattle.cam_event.specs.declared.ViewStep.{ViewStep}
use Rattle.cam_event.specs.History.{commit_value}

-- the table has each action that asked to commit, with its value
abbrev pub HasValues : List Deed → BTreeMap Name ℤ → Type 0
HasValues L values = (b : Name) → get name_cmp values b ≡ commit_value L b

-- the step, if there is one
abbrev pub steps_in : Option ViewStep → List ViewStep
steps_in None = []
steps_in (Some step) = step ∷ []
