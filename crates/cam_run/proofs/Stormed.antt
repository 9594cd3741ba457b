-- What is told of a storm, and what its disks keep.
use Rattle.std.proofs.Common.{◌≡◌, inr, ℕ, Bool, List, ◌++◌, length, drop}
use Rattle.std.proofs.Common.{Result, Ok, Err, IfOk, sym, ap, subst}
use Rattle.std.specs.Prelude.{OnOk, reverse}
use Rattle.std.proofs.lemmas.List.{take_at}
use Rattle.cam_event.specs.declared.Event.{Event}
use Rattle.cam_gen.specs.Storms.{Words, objects_of}
use Rattle.cam_cluster.specs.Disks.{AreLogs, MayReadDisk}
use Rattle.cam_headline.proofs.Whole.{runs_keep_promises}
use Rattle.cam_storm.specs.Runs.{StormRun}
use Rattle.cam_storm.proofs.Gathered.{storms_are_runs}
use Rattle.cam_storm_run.specs.Storms.{AreKept, IsSettled}
use Rattle.cam_run.specs.declared.answer.Answer.{Answer}
use Rattle.cam_run.specs.declared.status.Status.TheVariants as statuses
use Rattle.cam_run.specs.Status.{number}
use Rattle.cam_run.specs.Disks.{OneFailed}
use Rattle.cam_run.specs.Storm.{KeepStorm, StormsKeepPromises, storm_report}
use Rattle.cam_run.specs.Answer.{IsOfStorm}
use Rattle.cam_run.proofs.FirstDisks.{IsOverFirst, first_length}
use Rattle.cam_run.proofs.LeftDisks.{reads_first}

-- A run of a storm is a run, and so keeps what runs promise.
pub storms_keep_promises : StormsKeepPromises
storms_keep_promises storm t run =
    runs_keep_promises (objects_of storm) t (storms_are_runs storm t run)

-- the answer where none of the disks failed
pub told_of_storm : {E : Type 0} (storm : Words) (failed : ℕ → Type 0) (keeps : List Event → Type 0)
    (t : List Event) (r : Result Answer E)
    → StormRun storm t → IsSettled storm t → keeps t → (OneFailed 4 failed → ⊥)
    → IfOk r (λ a. a.text.items ≡ storm_report storm t)
    → IfOk r (λ a. a.status ≡ statuses.Done)
    → IfOk r (λ a. IsOfStorm storm failed keeps (number a.status) a.text.items)
told_of_storm storm failed keeps t (Err e) run settled kept none text status = tt
told_of_storm storm failed keeps t (Ok a) run settled kept none text status = inr (
  none,
  record {
    trace = t;
    run = run;
    settled = settled;
    kept = kept;
    is = ap number status;
    told = text;
  },
)

-- the disks of the whole list, of which the first ones keep the run
keep_storm : {D : Type 0} (tells : D → Bool) (moment : D → ℕ) (left_since : D → ℕ → List ℕ → Type 0)
    (storm : Words) (t : List Event) (first rest : List D)
    → length first ≡ 4 → AreKept storm t (MayReadDisk tells moment left_since first)
    → AreLogs tells moment left_since first
    → KeepStorm tells moment left_since (first ++ rest) storm t
keep_storm tells moment left_since storm t first rest many kept logs = record {
  logs =
      subst (λ (disks : List _). AreLogs tells moment left_since disks)
      (sym (take_at first rest 4 many)) logs;
  kept = λ s logged low high reads.
      kept s logged low high
      (reads_first tells moment left_since 4 first rest s logged many low high reads);
}

pub storm_leaves : {D E : Type 0} (tells : D → Bool) (faults_of : D → ℕ) (moment : D → ℕ)
    (left_since : D → ℕ → List ℕ → Type 0) (storm : Words) (disks later whole : List D)
    (r : Result (List Event) E)
    → IsOverFirst tells faults_of 4 disks later whole
    → IfOk r (λ t. AreKept storm (reverse t) (MayReadDisk tells moment left_since later))
    → OnOk r (AreLogs tells moment left_since later)
    → IfOk r (λ t. KeepStorm tells moment left_since whole storm (reverse t))
storm_leaves tells faults_of moment left storm disks later whole (Err e) over kept logs = tt
storm_leaves tells faults_of moment left storm disks later whole (Ok t) over kept logs =
    subst (λ (xs : List _). KeepStorm tells moment left xs storm (reverse t)) (sym over.all)
    (keep_storm tells moment left storm (reverse t) later (drop 4 disks)
    (first_length tells faults_of 4 disks later over.enough over.back) kept logs)
