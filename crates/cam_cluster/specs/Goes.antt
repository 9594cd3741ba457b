-- The next request of an action by its body, put to its home.
use Rattle.std.specs.Prelude.{◌≡◌, ◌≤◌, ℕ, Bool, true, false, List, Option, Some, None, is_some}
use Rattle.cam_names.specs.declared.name.Name.{Name}
use Rattle.cam_names.specs.Names.{home_node}
use Rattle.cam_event.specs.Inputs.{Requests}
use Rattle.cam_event.specs.Pasts.{plain_all}
use Rattle.cam_event.specs.Readings.{by_knowledge}
use Rattle.cam_event.specs.Refusals.{has_ended, is_not_open}
use Rattle.cam_event.specs.Views.{view}
use Rattle.cam_body.specs.declared.Next.{Next}
use Rattle.cam_body.specs.declared.Next.TheVariants as nexts
use Rattle.cam_body.specs.Work.{next}
use Rattle.cam_node.specs.Log.{Logged}
use Rattle.cam_runs.specs.Halts.{Halting}
use Rattle.cam_runs.specs.HaltedPlaying.{go}
use Rattle.cam_runs.specs.Playing.{body_of}
use Rattle.cam_runs.specs.Requests.{home_sight}
use Rattle.cam_runs.specs.Running.{has_number}
use Rattle.cam_runs.specs.Standing.{Setting, Standing}
use Rattle.cam_script.specs.declared.Script.{Script}
use Rattle.cam_script.specs.declared.Statement.{Statement}
use Rattle.cam_script.specs.Law.{IsScript}
use Rattle.cam_histories.specs.InputLaws.{halt_of, held_setting}
use Rattle.cam_cluster.specs.declared.works.Put.{Put}
use Rattle.cam_cluster.specs.declared.workers.Workers.{Workers}
use Rattle.cam_cluster.specs.Puts.{as_halt}
use Rattle.cam_cluster.specs.Workers.{AreWorkers}
use Rattle.cam_cluster.specs.Works.{KeepsRun, WorksFields}

-- The action runs at a home that is a node of the script and not halted.
pub record MayGo (script : Script) (st : Standing) (a : Name) : Type 0 where
  pub low : 1 ≤ home_node a
  pub high : home_node a ≤ script.nodes
  pub awake : has_number st.halted (home_node a) ≡ false
  pub running : has_ended (home_sight (by_knowledge script.objects) st.running a) a ≡ None
  pub is_open : is_not_open (home_sight (by_knowledge script.objects) st.running a) a ≡ None

-- what an action does next by its body
abbrev pub next_of : List (List Statement) → Standing → Name → Next
next_of bodies st a = next (body_of bodies st.running a) (view (plain_all st.running.trace) a)

abbrev pub is_request : Next → Bool
is_request (nexts.Request want) = true
is_request nexts.Wait = false
is_request nexts.Over = false

-- It is said of the request that it ended so, if there is one.
abbrev pub IsSaidOf : Setting → Standing → Name → Next → Option Put → Type 0
IsSaidOf c st a (nexts.Request want) (Some done) =
    halt_of c st (Requests (record { action = a; want = want })) ≡ as_halt done
IsSaidOf c st a _ _ = Unit {0}

-- The request was put, if the action makes one: the works and the workers are those after it.
pub record IsGone (script : Script) (st : Standing) (c : Setting) (a : Name) (done : Option Put)
    (new : WorksFields) (may_read : ℕ → Logged → Type 0) (behind : Workers) : Type 0 where
  pub made : is_some done ≡ is_request (next_of script.bodies st a)
  pub runs :
      IsSaidOf c st a (next_of script.bodies st a) done
      → KeepsRun script (go c script.bodies st a) new may_read
  pub workers :
      IsSaidOf c st a (next_of script.bodies st a) done
      → AreWorkers (go c script.bodies st a) behind

-- THE CLAUSE of the next request of an action, over what nodes hold.
abbrev pub HasGone :
    ℕ → Name → List (List Statement) → WorksFields → (ℕ → Logged → Type 0) → Workers
    → Option Put → WorksFields → (ℕ → Logged → Type 0) → Workers → Type 0
HasGone line a bodies old might_read old_workers done new may_read workers =
    (script : Script) (st : Standing) (halts : Halting) (restarted : ℕ → Bool)
    → IsScript script → bodies ≡ script.bodies → KeepsRun script st old might_read
    → AreWorkers st old_workers → MayGo script st a
    → IsGone script st (held_setting script.objects halts line restarted) a done new may_read
    workers

-- Some run of a script is kept in which the action may go on.
pub record GoesOfSome (a : Name) (bodies : List (List Statement)) (works : WorksFields)
    (may_read : ℕ → Logged → Type 0) (workers : Workers) : Type 0 where
  pub script : Script
  pub standing : Standing
  pub is_script : IsScript script
  pub bodies_are : bodies ≡ script.bodies
  pub keeps : KeepsRun script standing works may_read
  pub are_workers : AreWorkers standing workers
  pub may : MayGo script standing a

-- Of each run that the works kept they are the workers as before.
abbrev pub KeepsWorkersAsBefore :
    WorksFields → (ℕ → Logged → Type 0) → Workers → Workers → Type 0
KeepsWorkersAsBefore works may_read old new =
    (script : Script) (st : Standing) → KeepsRun script st works may_read → AreWorkers st old
    → AreWorkers st new
