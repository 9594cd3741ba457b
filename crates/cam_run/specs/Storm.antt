-- What is told of a storm: the report of one run of it, which the disks keep.
--
-- Which run that is the threads decide; so it is some run of the storm, and the same one for the report and for the disks.
use Rattle.std.specs.Prelude.{◌≡◌, ℕ, Bool, List, [], take}
use Rattle.cam_cluster.specs.Disks.{AreLogs, MayReadDisk}
use Rattle.cam_event.specs.declared.Event.{Event}
use Rattle.cam_gen.specs.Storms.{Words, labels_of, objects_of}
use Rattle.cam_headline.specs.Headline.{KeepsPromises}
use Rattle.cam_report.specs.Report.{report}
use Rattle.cam_storm.specs.Runs.{StormRun}
use Rattle.cam_storm_run.specs.Storms.{AreKept, IsSettled}

-- the report of a run of a storm, the newest event first: no line is refused in it, and no node halts
abbrev pub storm_report : Words → List Event → List ℕ
storm_report storm t = report (objects_of storm) (labels_of storm) t []

-- What is told of a storm: a run of it, whose report the text is, and which the disks keep. `keeps` says whether they keep a run.
pub record IsToldOfStorm (storm : Words) (keeps : List Event → Type 0) (status : ℕ)
    (text : List ℕ) : Type 0 where
  -- the events of the run, the newest first
  pub trace : List Event
  -- Each event is one that the storm's words and the step rules allow then.
  pub run : StormRun storm trace
  -- All is done that could be done, unless a node has as many events as one can have.
  pub settled : IsSettled storm trace
  pub kept : keeps trace
  pub is : status ≡ 0
  pub told : text ≡ storm_report storm trace

-- What the disks keep of a storm's run: whatever a crash now leaves of one of the first four is the log of a node, of which what the node kept
-- in the run is recovered.
pub record KeepStorm {D : Type 0} (tells : D → Bool) (moment : D → ℕ)
    (left_since : D → ℕ → List ℕ → Type 0) (disks : List D) (storm : Words)
    (t : List Event) : Type 0 where
  pub logs : AreLogs tells moment left_since (take 4 disks)
  pub kept : AreKept storm t (MayReadDisk tells moment left_since disks)

-- Each run of a storm keeps what runs promise.
abbrev pub StormsKeepPromises : Type 0
StormsKeepPromises =
    (storm : Words) (t : List Event) → StormRun storm t → KeepsPromises (objects_of storm) t
