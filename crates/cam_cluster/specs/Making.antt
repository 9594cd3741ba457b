-- Inputs that are put one after another while actions work at bodies: how each ended, by its
-- number, and what stands after them.
use Rattle.std.specs.Prelude.{◌≡◌, ℕ, suc, ◌+◌, Bool, List, [], ◌∷◌, length}
use Rattle.cam_node.specs.Log.{Logged}
use Rattle.cam_runs.specs.Halts.{Halting, Turn, accepted}
use Rattle.cam_runs.specs.Standing.{Setting, Standing}
use Rattle.cam_script.specs.declared.Script.{Script}
use Rattle.cam_script.specs.declared.Statement.{Statement}
use Rattle.cam_script.specs.Law.{IsScript}
use Rattle.cam_histories.specs.InputLaws.{held_setting}
use Rattle.cam_cluster.specs.declared.workers.Workers.{Workers}
use Rattle.cam_cluster.specs.declared.works.Put.{Put}
use Rattle.cam_cluster.specs.declared.works.Put.TheVariants as puts
use Rattle.cam_cluster.specs.Puts.{as_halt}
use Rattle.cam_cluster.specs.Workers.{AreWorkers}
use Rattle.cam_cluster.specs.Works.{KeepsRun, WorksFields}

-- It is said of the input of this number that it ended so: by whether it is a halt.
abbrev pub IsSaidAt : Halting → ℕ → Put → Type 0
IsSaidAt halts k end =
    (turns : List Turn) (s : ℕ) (appends restarted : Bool) → accepted turns ≡ k
    → halts turns s appends restarted ≡ as_halt end

-- and of the inputs from this number on, one after another
abbrev pub AreSaidFrom : Halting → ℕ → List Put → Type 0
AreSaidFrom halts k [] = Unit {0}
AreSaidFrom halts k (end ∷ ends) = IsSaidAt halts k end × AreSaidFrom halts (k + 1) ends

-- at how many of them a node halted
abbrev pub halted_in : List Put → ℕ
halted_in [] = 0
halted_in (puts.Stood ∷ ends) = halted_in ends
halted_in (puts.Halted ∷ ends) = suc (halted_in ends)

-- Each of them is accepted; it made an event, or left the mark of a halt.
pub record AreCounted (before after : Standing) (ends : List Put) : Type 0 where
  pub inputs : accepted after.turns ≡ accepted before.turns + length ends
  pub events :
      length after.running.trace + halted_in ends
      ≡ length before.running.trace + length ends
  pub marks :
      length after.running.marks ≡ length before.running.marks + halted_in ends

-- The works and the workers stand for what is under way.
pub record KeepsAtWork (script : Script) (st : Standing) (works : WorksFields)
    (may_read : ℕ → Logged → Type 0) (at_work : Workers) : Type 0 where
  pub runs : KeepsRun script st works may_read
  pub workers : AreWorkers st at_work

-- Inputs were put that ended so, and what stands after them is kept.
pub record HaveBeenPut (script : Script) (before after : Standing) (ends : List Put)
    (new : WorksFields) (may_read : ℕ → Logged → Type 0) (workers : Workers) : Type 0 where
  pub counted : AreCounted before after ends
  pub keeps : KeepsAtWork script after new may_read workers

-- what inputs make of what stands, by how they are taken and by the bodies of the script
abbrev pub Making : Type 0
Making = Setting → List (List Statement) → Standing → Standing

-- THE CLAUSE of inputs that are put one after another. There is a list of how each ended; of each
-- run that was kept, with halts that say exactly that of these inputs, what they make is kept.
pub record HaveMade (making : Making) (line : ℕ) (bodies : List (List Statement))
    (old : WorksFields) (might_read : ℕ → Logged → Type 0) (old_workers : Workers)
    (new : WorksFields) (may_read : ℕ → Logged → Type 0) (workers : Workers) : Type 0 where
  pub ends : List Put
  pub made :
      (script : Script) (st : Standing) (halts : Halting) (restarted : ℕ → Bool)
      → IsScript script → bodies ≡ script.bodies
      → KeepsAtWork script st old might_read old_workers
      → AreSaidFrom halts (accepted st.turns) ends
      → HaveBeenPut script st
      (making (held_setting script.objects halts line restarted) script.bodies st) ends new
      may_read workers
