-- What may be read from the disks that are taken out of nodes that run is what the nodes kept in the
-- run.
use Rattle.std.proofs.Common.{◌≡◌, ℕ, zero, suc, ◌+◌, ◌-◌, Bool, true, false, List, [], ◌∷◌, refl, sym, ap, ◌∙◌, subst, arith}
use Rattle.std.specs.Prelude.{Ok, Some, slice_get}
use Rattle.std.proofs.lemmas.Option.{none-some, same_Some, slice_get_within}
use Rattle.cam_agree.proofs.Ran.{plain_ran}
use Rattle.cam_ckpt.specs.Reading.{read_ckpt}
use Rattle.cam_log.specs.Moments.{Opened, OpeningsBy}
use Rattle.cam_cluster.specs.Disks.{AreLogs, MayReadDisk}
use Rattle.cam_event.specs.ByDeltas.{Received}
use Rattle.cam_delta.proofs.Growing.{history}
use Rattle.cam_headline.proofs.KeptIndices.{logs_keep}
use Rattle.cam_hall.specs.Ending.{IsLeft, Left}
use Rattle.cam_hall.proofs.Places.{place_of}
use Rattle.cam_node.specs.Keeping.{IsLogOf, KeepsHistory}
use Rattle.cam_node.specs.Opened.{is_readable}
use Rattle.cam_recman.specs.Says.{is_version2}
use Rattle.cam_journal.specs.Seats.{Sitting}
use Rattle.cam_node.specs.Log.{KeepsLog, Logged}
use Rattle.cam_gen.specs.Storms.{Words, objects_of}
use Rattle.cam_storm.specs.Events.{Copied, Stepped}
use Rattle.cam_storm.specs.Laws.{IsGathered, events_of}
use Rattle.cam_storm.specs.Lawful.{own_history}
use Rattle.cam_storm.proofs.Gathered.{gathered_are_storms, storms_are_runs}
use Rattle.cam_storm_node.specs.Playing.{IsCore, StormNodeFields, is_over}
use Rattle.cam_storm_node.proofs.Played.{runs_of}
use Rattle.cam_storm_node.proofs.Restarted.{read_is}
use Rattle.cam_storm_run.specs.Disks.{AreOut, IsOut}
use Rattle.cam_storm_run.specs.Storms.{AreKept}
use Rattle.cam_storm_run.proofs.InRun.{own_in_run}

-- the node out of which the disk at a place was taken
out_at : {N D : Type 0} (fields : N → StormNodeFields) (faults_of : D → ℕ) (moment : D → ℕ)
    (left_since : D → ℕ → List ℕ → Type 0) (nodes : List N) (disks : List D) (at : ℕ) (disk : D)
    → AreOut fields faults_of moment left_since nodes disks → slice_get disks at ≡ Some disk
    → (node : N) × (slice_get nodes at ≡ Some node)
    × IsOut faults_of moment left_since (fields node) disk
out_at fields faults_of moment left_since [] [] at disk out there = absurd (none-some disk there)
out_at fields faults_of moment left_since [] (d ∷ disks) at disk out there = absurd out
out_at fields faults_of moment left_since (n ∷ nodes) [] at disk out there = absurd out
out_at fields faults_of moment left_since (n ∷ nodes) (d ∷ disks) zero disk out there = (
  n,
  refl,
  subst (λ (one : _). IsOut faults_of moment left_since (fields n) one) (same_Some d disk there)
      out.0,
)
out_at fields faults_of moment left_since (n ∷ nodes) (d ∷ disks) (suc at) disk out there =
    out_at fields faults_of moment left_since nodes disks at disk out.1 there

module _ {S D : Type 0} (fields : S → StormNodeFields) (words : Words) (failures : ℕ → ℕ)
    (tells : D → Bool) (faults_of : D → ℕ) (moment : D → ℕ)
    (left_since : D → ℕ → List ℕ → Type 0) (left : Left S Stepped Copied)
    (is : IsLeft (λ core s history. IsCore words failures (fields core) s history) left)
    (on : (at : ℕ) (core : S) → slice_get left.cores at ≡ Some core → is_over (fields core) ≡ false)
    (disks : List D) (out : AreOut fields faults_of moment left_since left.cores disks) where
  -- what is known of a disk: the node out of which it was taken, with its history
  record KeptAt (at : ℕ) (disk : D) : Type 0 where
    seat : Sitting Stepped Copied
    seat_at : slice_get left.seats at ≡ Some seat
    number : seat.node ≡ at + 1
    node : StormNodeFields
    rest :
        (image : List ℕ) → left_since disk (moment disk) image → read_ckpt image ≡ Ok node.entries
    keeps : KeepsHistory (objects_of words) (at + 1) (own_history seat.history) node.entries

  kept_at : (at : ℕ) (disk : D) → slice_get disks at ≡ Some disk → KeptAt at disk
  kept_at at disk there =
      let its = out_at fields faults_of moment left_since left.cores disks at disk out there in
      let cores = is.cores in
      let seats = is.seats in
      let within = slice_get_within left.cores at its.0 its.1 in
      let seat = place_of left.seats at (omega (arith, within, cores, seats)) in
      let standing =
      is.each at (record { core = its.0; seat = seat.0 }) (record { core = its.1; seat = seat.1 }) in
      let plays = standing.replay.plays in
      let running = on at its.0 its.1 in
      let runs = runs_of words (fields its.0) (at + 1) seat.0.history plays running in
      record {
        seat = seat.0;
        seat_at = seat.1;
        number = standing.number;
        node = fields its.0;
        rest = its.2.rest running;
        keeps =
            subst
            (λ (s : ℕ).
            KeepsHistory (objects_of words) s (own_history seat.0.history) (fields its.0).entries)
            plays.replay.number runs.node.keeps;
      }

  -- whatever a crash now leaves of a disk is the log of a node
  pub are_logs : AreLogs tells moment left_since disks
  are_logs at disk image there told left_image =
      let its = kept_at at disk there in
      subst (λ (opened : Opened). is_readable opened ≡ true) (sym (its.rest image left_image))
      (ap is_version2 its.keeps.says)

  -- and what may be read from it is what its node kept in the run
  pub are_kept : (gathered : List (ℕ × Stepped)) → IsGathered words left.seats gathered
      → AreKept words (events_of gathered) (MayReadDisk tells moment left_since disks)
  are_kept gathered all s logged low high may =
      let its = kept_at (s - 1) may.disk may.at in
      let place : s - 1 + 1 ≡ s = omega (arith, low) in
      let log : IsLogOf (objects_of words) (s - 1 + 1) (own_history its.seat.history) logged =
      read_is (objects_of words) (s - 1 + 1) (own_history its.seat.history)
      (OpeningsBy read_ckpt (left_since may.disk)) (moment may.disk) its.node.entries logged
      (λ opened since. sym since.2 ∙ its.rest since.0 since.1) may.reads its.keeps in
      let own : own_history its.seat.history
      ≡ history (objects_of words) (events_of gathered) s =
      own_in_run words left.seats gathered all (s - 1) its.seat its.seat_at
      ∙ ap (λ (n : ℕ). history (objects_of words) (events_of gathered) n) (its.number ∙ place) in
      let run =
      storms_are_runs words (events_of gathered)
      (gathered_are_storms words left.seats gathered all) in
      let ran = plain_ran (objects_of words) (events_of gathered) run in
      logs_keep (objects_of words) ran.0 (events_of gathered) s logged ran.1
      (subst (λ (h : List Received). KeepsLog (objects_of words) s h logged) own
      (subst
      (λ (n : ℕ). KeepsLog (objects_of words) n (own_history its.seat.history) logged) place
      log.keeps))
