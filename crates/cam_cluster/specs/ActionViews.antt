-- What is kept of the views of actions over the events so far, and what one more event adds to a
-- view.
use Rattle.std.specs.Prelude.{◌≡◌, ℤ, ◌≤◌, Bool, false, if◌then◌else◌, List, [], ◌∷◌, ◌++◌, length}
use Rattle.std.specs.Prelude.{Option, Some, None, unwrap_or}
use Rattle.std.specs.BTreeMap.{BTreeMap, get}
use Rattle.std.specs.BTreeSet.{contains}
use Rattle.std.specs.List.{list_any}
use Rattle.cam_names.specs.declared.name.Name.{Name}
use Rattle.cam_names.specs.Names.{name_cmp, name_eq, is_child}
use Rattle.cam_event.specs.declared.Deed.{Deed}
use Rattle.cam_event.specs.declared.Deed.TheVariants.{Create, Ask, Call, Got, AskCommit}
use Rattle.cam_event.specs.declared.Deed.TheVariants.{AskAbort, Commit, Abort}
use Rattle.cam_event.specs.declared.Event.{Event}
use Rattle.cam_event.specs.declared.ViewStep.{ViewStep}
use Rattle.cam_event.specs.declared.ViewStep.TheVariants as steps
use Rattle.cam_event.specs.Pasts.{plain_all}
use Rattle.cam_event.specs.Values.{HasValues}
use Rattle.cam_event.specs.Views.{step_of, view}
use Rattle.cam_runs.specs.Playing.{is_stop_of}
use Rattle.cam_cluster.specs.declared.views.ActionViews.{ActionViews}

-- what the end of a child gives to the view of an action
abbrev pub child_end : Name → Name → Option ℤ → List ViewStep
child_end a b value = if is_child a b then steps.Child b value ∷ [] else []

-- what a step that is given to some action's view adds to the view of this one
abbrev pub steps_for : Name → Option (Name × ViewStep) → List ViewStep
steps_for a None = []
steps_for a (Some given) = if name_eq a given.0 then given.1 ∷ [] else []

-- the view that a table has of an action
abbrev pub view_in : BTreeMap Name (List ViewStep) → Name → List ViewStep
view_in views a = unwrap_or (get name_cmp views a) []

-- the views after these deeds, the newest first
pub record HasViews (L : List Deed) (seen : ActionViews) : Type 0 where
  pub views : (a : Name) → 1 ≤ length a → view_in seen.views a ≡ view L a
  pub values : HasValues L seen.values

-- what each action has seen in these events, the newest first, and whether one stopped it at its
-- home
pub record HasSeen (t : List Event) (seen : ActionViews) : Type 0 where
  pub views : HasViews (plain_all t) seen
  pub stopped : (a : Name) → contains name_cmp seen.stopped a ≡ list_any (is_stop_of a) t

-- the steps that these deeds, in their order, give to the view of an action after those before
-- them
abbrev pub steps_of_deeds : List Deed → List Deed → Name → List ViewStep
steps_of_deeds before [] a = []
steps_of_deeds before (d ∷ ds) a = step_of before d a ++ steps_of_deeds (d ∷ before) ds a

-- The view after one more event is the view before it, with the steps of the event at its end.
abbrev pub ViewsGoOn : Type 0
ViewsGoOn =
    (t : List Event) (e : Event) (a : Name)
    → view (plain_all (e ∷ t)) a
    ≡ view (plain_all t) a ++ steps_of_deeds (plain_all t) e.deeds a

-- a deed that an action does at its home, or that ends a child of it
abbrev pub concerns : Name → Deed → Bool
concerns a (Create b) = name_eq a b
concerns a (Ask p b) = name_eq a p
concerns a (Call b n object op count) = name_eq a b
concerns a (Got b n seen) = name_eq a b
concerns a (AskCommit b v) = name_eq a b
concerns a (AskAbort b) = name_eq a b
concerns a (Commit b) = is_child a b
concerns a (Abort b) = is_child a b
concerns a _ = false

-- An event of other actions changes no view of this one.
abbrev pub OthersChangeNoView : Type 0
OthersChangeNoView =
    (t : List Event) (e : Event) (a : Name) → list_any (concerns a) e.deeds ≡ false
    → view (plain_all (e ∷ t)) a ≡ view (plain_all t) a
