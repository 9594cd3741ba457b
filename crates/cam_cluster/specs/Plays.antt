-- The line `play`: rounds, in each of which the actions with a body have their turns and the
-- letters that wait are handed over, until the first without an input.
use Rattle.std.specs.Prelude.{◌≡◌, ℕ, zero, suc, Bool, nat_lt, List, ◌++◌, length, take}
use Rattle.cam_event.specs.Readings.{by_knowledge}
use Rattle.cam_node.specs.Log.{Logged}
use Rattle.cam_runs.specs.Halts.{Halting, accepted}
use Rattle.cam_runs.specs.HaltedLines.{act, after_line, setting}
use Rattle.cam_runs.specs.HaltedPlaying.{go_in_round, play, round}
use Rattle.cam_runs.specs.Playing.{in_order}
use Rattle.cam_runs.specs.Standing.{Setting, Standing, deliveries}
use Rattle.cam_runs.specs.UnderHalts.{IsNextStep}
use Rattle.cam_script.specs.declared.Act.TheVariants as acts
use Rattle.cam_script.specs.declared.Script.{Script}
use Rattle.cam_script.specs.declared.Statement.{Statement}
use Rattle.cam_script.specs.declared.Step.{Step}
use Rattle.cam_script.specs.Law.{IsScript}
use Rattle.cam_histories.specs.InputLaws.{held_setting}
use Rattle.cam_cluster.specs.declared.workers.Workers.{Workers}
use Rattle.cam_cluster.specs.declared.works.Put.{Put}
use Rattle.cam_cluster.specs.Between.{halts_from}
use Rattle.cam_cluster.specs.BodiesAtNodes.{BodiesAreAtNodes}
use Rattle.cam_cluster.specs.GoLines.{KeepsLinesAtWork}
use Rattle.cam_cluster.specs.Making.{AreCounted, AreSaidFrom, HaveMade, KeepsAtWork, Making}
use Rattle.cam_cluster.specs.Seen.{Seen, setting_in}
use Rattle.cam_cluster.specs.SoFar.{LinesFields}
use Rattle.cam_cluster.specs.Works.{WorksFields}

-- Some run of a script with these bodies is kept of which these are the workers, and their homes
-- are nodes of it.
pub record IsPlayOfSome (bodies : List (List Statement)) (works : WorksFields)
    (may_read : ℕ → Logged → Type 0) (workers : Workers) : Type 0 where
  pub script : Script
  pub standing : Standing
  pub is_script : IsScript script
  pub bodies_are : bodies ≡ script.bodies
  pub keeps : KeepsAtWork script standing works may_read workers
  pub placed : BodiesAreAtNodes script.nodes standing.running.bodies

-- the turns of all actions with a body, in order of their names
abbrev pub all_turns : Making
all_turns c bodies st = go_in_round c bodies (in_order st.running.bodies) st

-- Some rounds whole; and of a round the first turns and some deliveries.
abbrev pub rounds_whole : Setting → List (List Statement) → ℕ → Standing → Standing
rounds_whole c bodies zero st = st
rounds_whole c bodies (suc n) st = rounds_whole c bodies n (round c bodies st)

abbrev pub part_of_round : Setting → List (List Statement) → ℕ → ℕ → Standing → Standing
part_of_round c bodies requests number st =
    deliveries c number (go_in_round c bodies (take requests (in_order st.running.bodies)) st)

-- so many turns of a round and then so many deliveries; and these after so many whole rounds
abbrev pub round_part : ℕ → ℕ → Making
round_part requests number c bodies st = part_of_round c bodies requests number st

abbrev pub play_part : ℕ → ℕ → ℕ → Making
play_part whole requests number c bodies st =
    part_of_round c bodies requests number (rounds_whole c bodies whole st)

-- THE CLAUSE of a round, and of whether an input was put in it.
pub record HasPlayedRound (line : ℕ) (bodies : List (List Statement)) (old : WorksFields)
    (might_read : ℕ → Logged → Type 0) (old_workers : Workers) (puts_one : Bool)
    (new : WorksFields) (may_read : ℕ → Logged → Type 0) (workers : Workers) : Type 0 where
  pub made : HaveMade round line bodies old might_read old_workers new may_read workers
  pub whether : puts_one ≡ nat_lt 0 (length made.ends)

-- Memory ran out in it.
pub record HasPlayedSome (line : ℕ) (bodies : List (List Statement)) (old : WorksFields)
    (might_read : ℕ → Logged → Type 0) (old_workers : Workers) (new : WorksFields)
    (may_read : ℕ → Logged → Type 0) (workers : Workers) : Type 0 where
  pub requests : ℕ
  pub number : ℕ
  pub made :
      HaveMade (round_part requests number) line bodies old might_read old_workers new may_read
      workers

-- Memory ran out in a round after so many whole ones.
pub record HasPlayedPart (line : ℕ) (bodies : List (List Statement)) (old : WorksFields)
    (might_read : ℕ → Logged → Type 0) (old_workers : Workers) (new : WorksFields)
    (may_read : ℕ → Logged → Type 0) (workers : Workers) : Type 0 where
  pub whole : ℕ
  pub requests : ℕ
  pub number : ℕ
  pub made :
      HaveMade (play_part whole requests number) line bodies old might_read old_workers new
      may_read workers

-- THE CLAUSES of the line `play`, over what nodes hold: for each run whose next step it is, with
-- halts that say of its inputs how they ended.
abbrev pub play_step : ℕ → Step
play_step line = record { line = line; act = acts.Play }

pub record IsPlayedLine (script : Script) (st : Standing) (c : Setting) (ends : List Put)
    (new : LinesFields) (may_read : ℕ → Logged → Type 0) (workers : Workers) : Type 0 where
  pub counted : AreCounted st (play c script.bodies st) ends
  pub stands :
      KeepsLinesAtWork script (after_line st c.line (act c script.bodies st acts.Play)) new
      may_read workers

pub record IsLineOfPlay (line : ℕ) (bodies : List (List Statement)) (old : LinesFields)
    (might_read : ℕ → Logged → Type 0) (old_workers : Workers) (new : LinesFields)
    (may_read : ℕ → Logged → Type 0) (workers : Workers) : Type 0 where
  pub ends : List Put
  pub played :
      (script : Script) (st : Standing) (halts : Halting) (later : List Step)
      → IsScript script → bodies ≡ script.bodies
      → KeepsLinesAtWork script st old might_read old_workers
      → IsNextStep script st (play_step line)
      → AreSaidFrom halts (accepted st.turns) ends
      → IsPlayedLine script st
      (setting (by_knowledge script.objects) halts (play_step line) later) ends new may_read
      workers

-- Memory ran out after some of its inputs.
pub record IsPlayedPart (script : Script) (before after : Standing) (ends : List Put)
    (new : LinesFields) (may_read : ℕ → Logged → Type 0) (workers : Workers) : Type 0 where
  pub counted : AreCounted before after ends
  pub stands : KeepsLinesAtWork script after new may_read workers

pub record IsPartOfPlay (line : ℕ) (bodies : List (List Statement)) (old : LinesFields)
    (might_read : ℕ → Logged → Type 0) (old_workers : Workers) (new : LinesFields)
    (may_read : ℕ → Logged → Type 0) (workers : Workers) : Type 0 where
  pub whole : ℕ
  pub requests : ℕ
  pub number : ℕ
  pub ends : List Put
  pub played :
      (script : Script) (st : Standing) (halts : Halting) (restarted : ℕ → Bool)
      → IsScript script → bodies ≡ script.bodies
      → KeepsLinesAtWork script st old might_read old_workers
      → AreSaidFrom halts (accepted st.turns) ends
      → IsPlayedPart script st
      (play_part whole requests number (held_setting script.objects halts line restarted)
      script.bodies st)
      ends new may_read workers

-- Memory ran out in the play of a cluster that is seen. What stands then is
-- no longer between lines.
pub record HasPlayedSoFar (seen : Seen) (step : Step) (new : LinesFields)
    (may_read : ℕ → Logged → Type 0) (workers : Workers) : Type 0 where
  pub whole : ℕ
  pub requests : ℕ
  pub number : ℕ
  pub ends : List Put
  pub stands :
      KeepsLinesAtWork seen.script
      (play_part whole requests number
      (setting_in by_knowledge seen
      (halts_from (accepted seen.standing.turns) ends ++ seen.halts) step)
      seen.script.bodies seen.standing)
      new may_read workers
