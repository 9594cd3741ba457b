-- The actions that work at a body, as they are kept for what stands: the bodies that were given to
-- them, of which the first are in a table, those of the table that play on, and what they have seen
-- in the first events.
use Rattle.std.specs.Prelude.{◌≡◌, ℕ, ◌≤◌, Bool, true, false, not, ◌||◌, List, length, map, reverse}
use Rattle.std.specs.Prelude.{take, None, Some, is_some, slice_get}
use Rattle.std.specs.BTreeMap.{BTreeMap, IsOrdered, get, keys}
use Rattle.std.specs.BTreeSet as sets
use Rattle.std.specs.BTreeSet.{contains}
use Rattle.std.specs.List.{AllByRecursion}
use Rattle.cam_names.specs.declared.name.Name.{Name}
use Rattle.cam_names.specs.Names.{name_cmp}
use Rattle.cam_event.specs.declared.Event.{Event}
use Rattle.cam_event.specs.Pasts.{plain_all}
use Rattle.cam_event.specs.Views.{view}
use Rattle.cam_body.specs.Work.{child_body, next}
use Rattle.cam_runs.specs.Playing.{body_number, body_of, in_order}
use Rattle.cam_runs.specs.Standing.{Standing}
use Rattle.cam_runs.specs.UnderHalts.{IsUnderHalts}
use Rattle.cam_script.specs.declared.Script.{Script}
use Rattle.cam_script.specs.declared.Statement.{Statement}
use Rattle.cam_cluster.specs.declared.workers.Intention.{Intention}
use Rattle.cam_cluster.specs.declared.workers.Workers.{Workers}
use Rattle.cam_cluster.specs.ActionViews.{HasSeen, view_in}
use Rattle.cam_cluster.specs.AtWork.{IsWorker, Worker}
use Rattle.cam_cluster.specs.Over.{is_over}

-- the first events of a trace, so many, the newest of them first
abbrev pub first_events : ℕ → List Event → List Event
first_events n t = reverse (take n (reverse t))

-- the table of these bodies, by name
pub record IsTableOf (given : List (Name × ℕ)) (bodies : BTreeMap Name ℕ) : Type 0 where
  pub names : keys bodies ≡ in_order given
  pub ordered : IsOrdered name_cmp bodies
  pub at : (a : Name) → get name_cmp bodies a ≡ body_number given a

-- no action is given a body twice
abbrev pub IsOnceEach : List (Name × ℕ) → Type 0
IsOnceEach given =
    (i : ℕ) (p : Name × ℕ) → slice_get given i ≡ Some p → body_number (take i given) p.0 ≡ None

-- the bodies that were given, of which the first ones are in the table
pub record IsGiven (given : List (Name × ℕ)) (workers : Workers) : Type 0 where
  pub all : workers.given.items ≡ given
  pub once : IsOnceEach given
  pub within : workers.placed ≤ length given
  pub table : IsTableOf (take workers.placed given) workers.bodies

-- It is among those that play on, or is not in the table.
abbrev pub plays_on : Workers → Name → Bool
plays_on workers a =
    contains name_cmp workers.playing a || not (is_some (get name_cmp workers.bodies a))

-- Those that play on are in order, and have bodies. Who does not play on is over.
pub record ArePlaying (st : Standing) (workers : Workers) : Type 0 where
  pub ordered : sets.IsOrdered name_cmp workers.playing
  pub at_body :
      (a : Name) → contains name_cmp workers.playing a ≡ true
      → is_some (body_number st.running.bodies a) ≡ true
  pub others : (a : Name) → plays_on workers a ≡ false → is_over st.running.trace a ≡ true

-- The workers of what stands.
pub record AreWorkers (st : Standing) (workers : Workers) : Type 0 where
  pub given : IsGiven st.running.bodies workers
  pub playing : ArePlaying st workers
  pub within : workers.events ≤ length st.running.trace
  pub seen : HasSeen (first_events workers.events st.running.trace) workers.seen

-- All bodies are in the table, and all events are taken in.
pub record HaveCaughtUp (st : Standing) (workers : Workers) : Type 0 where
  pub table : IsTableOf st.running.bodies workers.bodies
  pub playing : ArePlaying st workers
  pub seen : HasSeen st.running.trace workers.seen

-- each action with a body as one record
abbrev pub worker_of : Workers → Name × ℕ → Worker
worker_of workers entry =
    record {
      name = entry.0;
      body = entry.1;
      seen = view_in workers.seen.views entry.0;
      stopped = contains name_cmp workers.seen.stopped entry.0;
    }

abbrev pub workers_of : Workers → List Worker
workers_of workers = map (worker_of workers) workers.bodies.entries

-- They are in order of names, and each is a worker of what stands.
pub record AreAtWork (st : Standing) (workers : List Worker) : Type 0 where
  pub names : map (λ (w : Worker). w.name) workers ≡ in_order st.running.bodies
  pub each : AllByRecursion (IsWorker st) workers

abbrev pub AllWork : Type 0
AllWork =
    (script : Script) (st : Standing) (workers : Workers) → IsUnderHalts script st
    → HaveCaughtUp st workers → AreAtWork st (workers_of workers)

-- what an action does next by its body and its view, and the body of the child for which it asks
pub record IsIntention (bodies : List (List Statement)) (st : Standing) (a : Name)
    (intention : Intention) : Type 0 where
  pub next :
      intention.next
      ≡ next (body_of bodies st.running a) (view (plain_all st.running.trace) a)
  pub child :
      intention.child
      ≡ child_body (body_of bodies st.running a) (view (plain_all st.running.trace) a)
