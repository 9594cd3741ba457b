-- What the passes over the deeds gather.
use Rattle.std.specs.Prelude.{◌≡◌, ℤ, ◌≤◌, List, [], ◌∷◌, length, if◌then◌else◌, Option, Some, None, option_map, unwrap_or}
use Rattle.std.specs.BTreeMap.{BTreeMap, get}
use Rattle.cam_names.specs.declared.name.Name.{Name}
use Rattle.cam_names.specs.Names.{name_cmp, name_eq, parent}
use Rattle.cam_event.specs.declared.Deed.{Deed}
use Rattle.cam_event.specs.declared.Deed.TheVariants.{Create, Ask, Call, Got, AskCommit, AskAbort, Commit, Abort}
use Rattle.cam_event.specs.declared.ViewStep.{ViewStep}
use Rattle.cam_event.specs.declared.ViewStep.TheVariants as steps
use Rattle.cam_event.specs.History.{commit_value}
use Rattle.cam_event.specs.Views.{view}
use Rattle.std.specs.List.{flat_map}
use Rattle.cam_event.specs.Rules.{sorted_names}
use Rattle.cam_report.specs.declared.action.Actions.{Actions}
use Rattle.cam_report.specs.declared.milestones.Milestone.{Milestone}
use Rattle.cam_report.specs.declared.milestones.Milestone.TheVariants.{Created, Committed, Aborted}

-- the action that the deed creates, commits or aborts
abbrev pub reached : Milestone → Deed → List Name
reached Created (Create a) = a ∷ []
reached Committed (Commit a) = a ∷ []
reached Aborted (Abort a) = a ∷ []
reached _ _ = []

-- a child's end is a step of its parent's
abbrev pub child_step : Name → Option ℤ → Option (Name × ViewStep)
child_step b v = option_map (λ a. (a, steps.Child b v)) (parent b)

abbrev pub committed_step : Name → Option ℤ → Option (Name × ViewStep)
committed_step b None = None
committed_step b (Some v) = child_step b (Some v)

-- the step that a deed gives to a view, and whose view it is, by the values with which actions asked to commit
abbrev pub step_gained : (Name → Option ℤ) → Deed → Option (Name × ViewStep)
step_gained values (Create a) = Some (a, steps.Created)
step_gained values (Ask a b) = Some (a, steps.Asked b)
step_gained values (Call a n object op count) = Some (a, steps.Called n object op)
step_gained values (Got a n seen) = Some (a, steps.Got n seen)
step_gained values (AskCommit a v) = Some (a, steps.CommitAsked v)
step_gained values (AskAbort a) = Some (a, steps.AbortAsked)
step_gained values (Commit b) = committed_step b (values b)
step_gained values (Abort b) = child_step b None
step_gained values _ = None

-- what a step, given to the view of some action, adds to the view of this one
abbrev pub steps_for : Name → Option (Name × ViewStep) → List ViewStep
steps_for a None = []
steps_for a (Some given) = if name_eq a given.0 then given.1 ∷ [] else []

-- the view that a table has of an action
abbrev pub view_in : BTreeMap Name (List ViewStep) → Name → List ViewStep
view_in views a = unwrap_or (get name_cmp views a) []

-- The table has the value with which each action asked to commit.
abbrev pub TellsValues : List Deed → BTreeMap Name ℤ → Type 0
TellsValues L values = (a : Name) → get name_cmp values a ≡ commit_value L a

-- The table has the view of each action.
abbrev pub TellsViews : List Deed → BTreeMap Name (List ViewStep) → Type 0
TellsViews L views = (a : Name) → 1 ≤ length a → view_in views a ≡ view L a

-- What is gathered of the actions: the names of those that were created, committed and aborted, in order, and the views.
pub record IsGathered (L : List Deed) (actions : Actions) : Type 0 where
  pub created : actions.created.keys ≡ sorted_names (flat_map (reached Created) L)
  pub committed : actions.committed.keys ≡ sorted_names (flat_map (reached Committed) L)
  pub aborted : actions.aborted.keys ≡ sorted_names (flat_map (reached Aborted) L)
  pub views : TellsViews L actions.views
