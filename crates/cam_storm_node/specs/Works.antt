-- What is kept of the actions that were created at a node: their bodies and their views, and which
-- of them were stopped there.
use Rattle.std.specs.Prelude.{◌≡◌, ℤ, ◌≤◌, if◌then◌else◌, cond, List, [], ◌∷◌, length, map}
use Rattle.std.specs.Prelude.{Option, Some, None}
use Rattle.std.specs.Ordering.{is_eq}
use Rattle.std.specs.BTreeMap.{BTreeMap, get}
use Rattle.std.specs.BTreeSet.{contains}
use Rattle.std.specs.List.{list_any}
use Rattle.cam_names.specs.declared.name.Name.{Name}
use Rattle.cam_names.specs.Names.{name_cmp, name_eq, is_child}
use Rattle.cam_event.specs.declared.ViewStep.{ViewStep}
use Rattle.cam_event.specs.declared.Want.{Want}
use Rattle.cam_body.specs.declared.Next.{Next}
use Rattle.cam_body.specs.declared.Next.TheVariants as nexts
use Rattle.cam_event.specs.declared.ViewStep.TheVariants as steps
use Rattle.cam_event.specs.ByDeltas.{Received}
use Rattle.cam_runs.specs.Playing.{is_stop_of}
use Rattle.cam_gen.specs.Storms.{Words, action_number, body_of}
use Rattle.cam_storm.specs.Own.{event_in, own_view}
use Rattle.cam_storm_node.specs.declared.works.Work.{Work}
use Rattle.cam_storm_node.specs.declared.works.Works.{Works}

-- what the end of a child gives to the view of an action
abbrev pub child_end : Name → Name → Option ℤ → List ViewStep
child_end a b value = if is_child a b then steps.Child b value ∷ [] else []

-- what a step that is given to some action's view adds to the view of this one
abbrev pub steps_for : Name → Option (Name × ViewStep) → List ViewStep
steps_for a None = []
steps_for a (Some given) = if name_eq a given.0 then given.1 ∷ [] else []

-- the view that a work has
abbrev pub view_of : Option Work → List ViewStep
view_of None = []
view_of (Some work) = work.view

-- the view that a table has of an action
abbrev pub view_in : BTreeMap Name Work → Name → List ViewStep
view_in works a = view_of (get name_cmp works a)

-- each has the body that its name gives, if its top action is one of the first 64
abbrev pub HaveBodies : Words → BTreeMap Name Work → Type 0
HaveBodies words works =
    (a : Name) (work : Work) → get name_cmp works a ≡ Some work → action_number a ≤ 64
    → work.body ≡ body_of words a

-- what the actions of a node have seen in its own events, and whether one stopped them there
pub record HaveSeen (words : Words) (own : List Received) (works : Works) : Type 0 where
  pub words_are : works.storm ≡ words
  pub bodies : HaveBodies words works.works
  pub views : (a : Name) → 1 ≤ length a → view_in works.works a ≡ own_view own a
  pub stopped :
      (a : Name)
      → contains name_cmp works.stopped a ≡ list_any (is_stop_of a) (map event_in own)

-- what an action asks for next, if it asks for anything
abbrev pub IsWanted : Next → Option Want → Type 0
IsWanted (nexts.Request want) asked = asked ≡ Some want
IsWanted nexts.Wait asked = asked ≡ None
IsWanted nexts.Over asked = asked ≡ None

-- a table without the work of an action
abbrev pub IsTakenOut : BTreeMap Name Work → BTreeMap Name Work → Name → Type 0
IsTakenOut old new b =
    (q : Name) → get name_cmp new q ≡ cond (is_eq (name_cmp b q)) None (get name_cmp old q)
