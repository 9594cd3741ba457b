-- What may be read of a disk is less, or stays.
use Rattle.std.proofs.Common.{ℕ, ◌+◌, ◌≤◌, List, Ok, subst, arith}
use Rattle.cam_log.specs.Moments.{Opened, Stays}
use Rattle.cam_node.specs.Log.{Logged}
use Rattle.cam_node.specs.Opened.{MayRead}
use Rattle.cam_runs.specs.Standing.{Standing}
use Rattle.cam_script.specs.declared.Script.{Script}
use Rattle.cam_cluster.specs.Works.{WorksFields, KeepsRun}
use Rattle.cam_cluster.proofs.HaltsKept.{halt_read}

-- less may be read
pub reads_less : (script : Script) (st : Standing) (works : WorksFields)
    (might may : ℕ → Logged → Type 0)
    → ((s : ℕ) (logged : Logged) → 1 ≤ s → may s logged → might s logged)
    → KeepsRun script st works might → KeepsRun script st works may
reads_less script st works might may less keeps = record {
  under = keeps.under;
  one_each = keeps.one_each;
  eight = keeps.eight;
  nodes = keeps.nodes;
  whole = keeps.whole;
  halts = λ place node at said. halt_read _ _ _ _ _ (might (place + 1)) (may (place + 1)) (λ
      logged read. less (place + 1) logged (omega arith) read) (keeps.halts place node at said);
  undecided = keeps.undecided;
  sent = keeps.sent;
  events = keeps.events;
  all_marks = keeps.all_marks;
  few = keeps.few;
  stops = keeps.stops;
}

-- a disk that stays may be read as before
pub stays_reads : (before now : ℕ) (past since : ℕ → Opened → Type 0) (was is : List ℕ)
    (failed fails : ℕ) (logged : Logged) → Stays before now past since was is failed fails
    → MayRead since now logged → MayRead past before logged
stays_reads before now past since was is failed fails logged stays read = record {
  entries = read.entries;
  opens =
      rw (← stays.untouched.moment) ((stays.untouched.outcomes now (Ok read.entries)).1 read.opens);
  recovered = read.recovered;
  recovers = read.recovers;
  is = read.is;
}
