-- What is left of a storm when its nodes are at rest: its run, and its disks.
use Rattle.std.proofs.Common.{◌≡◌, ℕ, ◌+◌, ◌≤◌, Bool, List, sym, ap, ◌∙◌, subst, arith}
use Rattle.std.proofs.lemmas.Option.{slice_get_within}
use Rattle.cam_hall.specs.Ending.{IsLeft, Left}
use Rattle.cam_hall.proofs.Places.{place_of}
use Rattle.cam_gen.specs.Storms.{Words}
use Rattle.cam_storm.specs.Events.{Copied, Stepped}
use Rattle.cam_storm_node.specs.Playing.{IsCore, StormNodeFields}
use Rattle.cam_cluster.specs.Disks.{AreLogs, MayReadDisk}
use Rattle.cam_journal.specs.Gathered.{AreGathered, AreSeats}
use Rattle.cam_journal.specs.Seats.{Opened, Sitting}
use Rattle.cam_storm.specs.Lawful.{goes_to, lawful, names, sends}
use Rattle.cam_storm.specs.Laws.{IsGathered, events_of}
use Rattle.cam_storm.specs.Runs.{StormRun}
use Rattle.cam_storm.proofs.Gathered.{gathered_are_storms}
use Rattle.cam_storm_node.specs.Playing.{is_idle_by}
use Rattle.cam_workers.specs.Rest.{IsAtRest, stood}
use Rattle.cam_storm_run.specs.Disks.{AreOut, HaveFailedSince}
use Rattle.cam_storm_run.specs.Storms.{AreKept, AreRunning, IsSettled}
use Rattle.cam_storm_run.proofs.Kept.{are_kept, are_logs}
use Rattle.cam_storm_run.proofs.Rested.{settled}
use Rattle.cam_storm_run.proofs.Founded.{out_since}

pub failed_since : {S D : Type 0} (fields : S → StormNodeFields) (words : Words)
    (failures : ℕ → ℕ) (faults_of : D → ℕ) (moment : D → ℕ)
    (left_since : D → ℕ → List ℕ → Type 0) (left : Left S Stepped Copied)
    → IsLeft (λ core s history. IsCore words failures (fields core) s history) left
    → (disks : List D) → AreOut fields faults_of moment left_since left.cores disks
    → HaveFailedSince faults_of failures 1 disks
failed_since fields words failures faults_of moment left_since left is disks out =
    out_since fields faults_of moment left_since failures 1 left.cores disks out
    (λ at core there.
    let cores = is.cores in
    let seats = is.seats in
    let within = slice_get_within left.cores at core there in
    let seat = place_of left.seats at (omega (arith, within, cores, seats)) in
    let standing =
    is.each at (record { core = core; seat = seat.0 }) (record { core = there; seat = seat.1 }) in
    subst (λ (k : ℕ). failures k ≤ (fields core).faults) (omega arith) standing.replay.later)

module _ {S D : Type 0} (fields : S → StormNodeFields) (words : Words) (failures : ℕ → ℕ)
    (tells : D → Bool) (faults_of : D → ℕ) (moment : D → ℕ)
    (left_since : D → ℕ → List ℕ → Type 0) (ended : Left S Stepped Copied) (journal : Opened)
    (cores : List S) (seats : List (Sitting Stepped Copied)) (disks : List D)
    (parts : ended ≡ record { journal = journal; cores = cores; seats = seats })
    (is : IsLeft (λ core s history. IsCore words failures (fields core) s history) ended)
    (out : AreOut fields faults_of moment left_since cores disks) where
  abbrev left : Left S Stepped Copied
  left = record { journal = journal; cores = cores; seats = seats }

  is_left : IsLeft (λ core s history. IsCore words failures (fields core) s history) left
  is_left =
      subst
      (λ (l : Left S Stepped Copied).
      IsLeft (λ core s history. IsCore words failures (fields core) s history) l)
      parts is

  -- no disk has failed less often than before
  pub floor_at_end : HaveFailedSince faults_of failures 1 disks
  floor_at_end = failed_since fields words failures faults_of moment left_since left is_left disks out

  module _ (four : ended.journal.nodes ≡ 4) (shown : List S) (shown_are : shown ≡ ended.cores)
      (running : AreRunning fields shown) (gathered : List (ℕ × Stepped))
      (all : AreGathered names sends (lawful words) journal.nodes seats gathered) where
    four_nodes : journal.nodes ≡ 4
    four_nodes = sym (ap (λ (l : Left S Stepped Copied). l.journal.nodes) parts) ∙ four

    is_gathered : IsGathered words seats gathered
    is_gathered =
        subst (λ (n : ℕ). AreGathered names sends (lawful words) n seats gathered) four_nodes all

    running_left : AreRunning fields cores
    running_left =
        subst (AreRunning fields) (shown_are ∙ ap (λ (l : Left S Stepped Copied). l.cores) parts) running

    pub run_at_end : StormRun words (events_of gathered)
    run_at_end = gathered_are_storms words seats gathered is_gathered

    pub settled_at_end : AreSeats journal seats
        → IsAtRest sends goes_to (λ core input. is_idle_by (fields core) input) (stood ended)
        → IsSettled words (events_of gathered)
    settled_at_end own rest =
        settled fields words failures left is_left four_nodes running_left
        (subst
        (λ (l : Left S Stepped Copied).
        IsAtRest sends goes_to (λ core input. is_idle_by (fields core) input) (stood l))
        parts rest)
        gathered is_gathered own

    pub kept_at_end : AreKept words (events_of gathered) (MayReadDisk tells moment left_since disks)
    kept_at_end =
        are_kept fields words failures tells faults_of moment left_since left is_left running_left
        disks out gathered is_gathered

    pub logs_at_end : AreLogs tells moment left_since disks
    logs_at_end =
        are_logs fields words failures tells faults_of moment left_since left is_left running_left
        disks out
