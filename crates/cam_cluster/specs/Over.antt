-- Actions that are over: one that works at a body and has asked to commit or to abort, or was
-- stopped, or whose home has crashed, makes no request in a round any more.
use Rattle.std.specs.Prelude.{◌≡◌, ℕ, nat_lt, Bool, true, false, ◌||◌, List, ◌∷◌, filter}
use Rattle.std.specs.List.{list_any}
use Rattle.cam_names.specs.declared.name.Name.{Name}
use Rattle.cam_names.specs.Names.{home_count, home_node}
use Rattle.cam_type.specs.declared.ObjectDecl.{ObjectDecl}
use Rattle.cam_event.specs.declared.Deed.{Deed}
use Rattle.cam_event.specs.declared.Event.{Event}
use Rattle.cam_event.specs.History.{count, ended}
use Rattle.cam_event.specs.Sights.{entries, own_deeds}
use Rattle.cam_runs.specs.Halts.{Halting}
use Rattle.cam_runs.specs.HaltedPlaying.{go_in_round, may_go_on}
use Rattle.cam_runs.specs.Playing.{is_stop_of}
use Rattle.cam_runs.specs.Standing.{Standing}
use Rattle.cam_script.specs.declared.Statement.{Statement}
use Rattle.cam_histories.specs.InputLaws.{held_setting}

-- the deeds of the action's home
abbrev pub home_deeds : List Event → Name → List Deed
home_deeds t a = own_deeds (entries t (home_node a))

-- It has asked to commit or to abort, or its home has crashed since it was named, or an event
-- stopped it there.
abbrev pub is_over : List Event → Name → Bool
is_over t a =
    (ended (home_deeds t a) a || nat_lt (home_count a) (count (home_deeds t a) (home_node a)))
    || list_any (is_stop_of a) t

-- It stays so with each event,
abbrev pub OverStays : Type 0
OverStays = (e : Event) (t : List Event) (a : Name) → is_over t a ≡ true → is_over (e ∷ t) a ≡ true

-- and does not go on in a round, by what nodes hold.
abbrev pub OverGoesNotOn : Type 0
OverGoesNotOn =
    (objects : List ObjectDecl) (halts : Halting) (line : ℕ) (restarted : ℕ → Bool)
    (st : Standing) (a : Name) → is_over st.running.trace a ≡ true
    → may_go_on (held_setting objects halts line restarted) st a ≡ false

-- So a round may leave out those that are over before it.
abbrev pub RoundsPassOver : Type 0
RoundsPassOver =
    (objects : List ObjectDecl) (halts : Halting) (line : ℕ) (restarted : ℕ → Bool)
    (bodies : List (List Statement)) (st : Standing) (kept : Name → Bool) (names : List Name)
    → ((a : Name) → kept a ≡ false → is_over st.running.trace a ≡ true)
    → go_in_round (held_setting objects halts line restarted) bodies (filter kept names) st
    ≡ go_in_round (held_setting objects halts line restarted) bodies names st
