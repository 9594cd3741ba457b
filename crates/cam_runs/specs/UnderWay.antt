-- What stands while the lines of a script are taken, after a line or within one.
--
-- It is a run. An action that works at a body has at most one call or one child open, and it has one exactly if the last of its tries is
-- open; the body nests no deeper than the action's name leaves room for. A variable that other lines may use stands for an action
-- without a body.
use Rattle.std.specs.Prelude.{◌≡◌, ◌⊎◌, ℕ, ◌-◌, Bool, true, false, List, [], ◌∷◌, length, Some, None, slice_get}
use Rattle.cam_names.specs.declared.name.Name.{Name}
use Rattle.cam_names.specs.Names.{is_ancestor, is_child}
use Rattle.cam_event.specs.declared.Deed.{Deed}
use Rattle.cam_event.specs.History.{created, open_call, open_children}
use Rattle.cam_event.specs.Views.{view}
use Rattle.cam_event.specs.Pasts.{plain_all}
use Rattle.cam_event.specs.Runs.{IsRun}
use Rattle.cam_plain.specs.Lines.{asked_for}
use Rattle.cam_script.specs.declared.Script.{Script}
use Rattle.cam_script.specs.declared.Statement.{Statement}
use Rattle.cam_body.specs.Work.{Try, Worked, Failed, Open, tries_after}
use Rattle.cam_runs.specs.Running.{Running}
use Rattle.cam_runs.specs.Playing.{body_number}
use Rattle.cam_runs.specs.InRange.{nests_within, is_free}

-- the action's tries so far, and whether the last of them is open
abbrev pub tries : List Deed → Name → List Try
tries L a = tries_after [] (view L a)

abbrev pub is_open_try : Try → Bool
is_open_try (Worked v) = false
is_open_try Failed = false
is_open_try Open = true

abbrev pub last_open : Bool → List Try → Bool
last_open before [] = before
last_open before (t ∷ ts) = last_open (is_open_try t) ts

-- nothing is open
pub record Idle (L : List Deed) (a : Name) : Type 0 where
  pub no_call : open_call L a ≡ None
  pub no_child : open_children L a ≡ []
  pub settled : last_open false (tries L a) ≡ false

-- a call is open, and no child
pub record Calling (L : List Deed) (a : Name) : Type 0 where
  pub no_child : open_children L a ≡ []
  pub waits : last_open false (tries L a) ≡ true

-- one child is open, and no call
pub record Asking (L : List Deed) (a : Name) : Type 0 where
  pub child : Name
  pub is_its : is_child a child ≡ true
  pub no_call : open_call L a ≡ None
  pub one : open_children L a ≡ child ∷ []
  pub waits : last_open false (tries L a) ≡ true

abbrev pub OneOpen : List Deed → Name → Type 0
OneOpen L a = Idle L a ⊎ (Calling L a ⊎ Asking L a)

-- an action that was created or asked for
abbrev pub Known : List Deed → Name → Type 0
Known L a = (created L a ≡ true) ⊎ (asked_for L a ≡ true)

-- an action that works at this body: actions nest eight deep, and a body within a body is one level more
pub record WorksAt (bodies : List (List Statement)) (L : List Deed) (a : Name) (body : ℕ) : Type 0 where
  pub nests : nests_within bodies (9 - length a) body ≡ true
  pub named : is_ancestor a a ≡ true
  pub known : Known L a
  pub one : OneOpen L a

-- an action that has no body
pub record IsBare (L : List Deed) (given : List (Name × ℕ)) (a : Name) : Type 0 where
  pub known : Known L a
  pub bare : body_number given a ≡ None

pub record IsUnderWay (script : Script) (r : Running) : Type 0 where
  pub run : IsRun script.objects r.trace
  pub works : (a : Name) (body : ℕ) → body_number r.bodies a ≡ Some body → WorksAt script.bodies (plain_all r.trace) a body
  pub bound : (v : ℕ) (a : Name) → is_free script v ≡ true → slice_get r.bound v ≡ Some (Some a) → IsBare (plain_all r.trace) r.bodies a
