-- The actions that a node runs in its present incarnation, as the answers that are given when it is
-- asked for them, and what they must answer for the node to stand for its history.
use Rattle.std.specs.Prelude.{◌≡◌, ℕ, ◌≤◌, Bool, false, ◌&&◌, List, replicate, Option, Some}
use Rattle.std.specs.Prelude.{option_map, is_some, IfSome}
use Rattle.std.specs.List.{list_any}
use Rattle.std.specs.Option.{option_map_or}
use Rattle.cam_names.specs.declared.name.Name.{Name}
use Rattle.cam_names.specs.Names.{name_eq, is_child, home_node, home_count}
use Rattle.cam_names.specs.Dependencies.{as_counts}
use Rattle.cam_type.specs.declared.ObjectDecl.{ObjectDecl}
use Rattle.cam_event.specs.declared.Deed.{Deed}
use Rattle.cam_event.specs.History as history
use Rattle.cam_event.specs.History.{Addressed, call_of}
use Rattle.cam_event.specs.Live.{site_of}
use Rattle.cam_event.specs.Sights.{Sight}
use Rattle.cam_event.specs.ByKnowledge.{own_pairs}
use Rattle.cam_event.specs.Carried.{Carried, deeds_of}
use Rattle.cam_tranman.specs.declared.call.OpenCall.{OpenCall}
use Rattle.cam_tranman.specs.declared.action.Action.{Action}

pub record Actions : Type 0 where
  -- the node, and its present count
  pub node : ℕ
  pub count : ℕ
  -- how many top actions were begun
  pub tops : ℕ
  -- what is kept of an action, where it was created here
  pub action : Name → Option Action
  -- the call of an action that is not answered
  pub call : Name → Option OpenCall
  -- the open children of all actions
  pub children : List Name
  -- how many more of each can be noted without memory
  pub room : ℕ

-- whether an action was created, and whether it has ended
abbrev pub created : Actions → Name → Bool
created actions a = is_some (actions.action a)

abbrev pub ended : Actions → Name → Bool
ended actions a = option_map_or (λ kept. kept.ended) (actions.action a) false

-- how many children it has asked for, and how many calls it has made
abbrev pub asks : Actions → Name → ℕ
asks actions a = option_map_or (λ kept. kept.asks) (actions.action a) 0

abbrev pub calls : Actions → Name → ℕ
calls actions a = option_map_or (λ kept. kept.calls) (actions.action a) 0

-- what it depends on, as eight counts; all 0 where it was not created
abbrev pub deps : Actions → Name → List ℕ
deps actions a = option_map_or (λ kept. kept.deps) (actions.action a) (replicate 8 0)

-- the number of its open call, and what that call asked
abbrev pub open_call : Actions → Name → Option ℕ
open_call actions a = option_map (λ call. call.number) (actions.call a)

abbrev pub address : OpenCall → Addressed
address call = record { object = call.object; op = call.op; count = call.count }

abbrev pub open_address : Actions → Name → Option Addressed
open_address actions a = option_map address (actions.call a)

-- whether a child is open, and whether any is
abbrev pub is_open : Actions → Name → Bool
is_open actions b = list_any (name_eq b) actions.children

abbrev pub is_open_child : Actions → Name → Name → Bool
is_open_child actions a b = is_child a b && is_open actions b

abbrev pub has_open_child : Actions → Name → Bool
has_open_child actions a = list_any (is_child a) actions.children

-- An action may run here where this node is its home and its incarnation is no older than the
-- present one.
abbrev pub MayRunHere : List Deed → ℕ → Name → Type 0
MayRunHere own s a = (home_node a ≡ s) × (history.count own s ≤ home_count a)

-- The actions answer as these deeds of the node, and as what each action depends on.
pub record AnswersDeeds (objects : List ObjectDecl) (s : ℕ) (L : List Deed)
    (depends : Name → List ℕ) (actions : Actions) : Type 0 where
  pub node : actions.node ≡ s
  pub count : actions.count ≡ history.count L s
  pub tops : actions.tops ≡ history.tops L s (history.count L s)
  pub created : (a : Name) → MayRunHere L s a → created actions a ≡ history.created L a
  pub ended : (a : Name) → MayRunHere L s a → ended actions a ≡ history.ended L a
  pub asks : (a : Name) → MayRunHere L s a → asks actions a ≡ history.asks L a
  pub calls : (a : Name) → MayRunHere L s a → calls actions a ≡ history.calls L a
  pub open_call : (a : Name) → MayRunHere L s a → open_call actions a ≡ history.open_call L a
  pub open_address : (a : Name) (n : ℕ) → MayRunHere L s a → history.open_call L a ≡ Some n
      → open_address actions a ≡ call_of L a n
  pub open_site : (a : Name) → MayRunHere L s a
      → IfSome (actions.call a) (λ call. call.site ≡ site_of objects call.object)
  pub open_child : (a b : Name) → MayRunHere L s a
      → is_open_child actions a b ≡ history.is_open_child L a b
  pub any_open_child : (a : Name) → MayRunHere L s a
      → has_open_child actions a ≡ history.has_open_child L a
  pub deps : (a : Name) → MayRunHere L s a → deps actions a ≡ depends a

-- They answer as the history of their node,
abbrev pub RunsActions : List ObjectDecl → ℕ → List Carried → Actions → Type 0
RunsActions objects s before actions = AnswersDeeds objects s (deeds_of before)
    (λ a. as_counts (own_pairs objects before a)) actions

-- and as what the node goes by.
abbrev pub AnswersSight : List ObjectDecl → Sight → Actions → Type 0
AnswersSight objects g actions = AnswersDeeds objects g.node g.deeds g.deps actions
