-- Calls of a disk that a stop cuts off.
use Rattle.std.proofs.Common.{◌≡◌, ℕ, zero, suc, ◌+◌, ◌<◌, ◌≤◌, List, [], ◌∷◌, ◌++◌, length, Option, Some, None, Ok, refl, sym, ap, ◌∙◌, arith}
use Rattle.cam_base.specs.Causes.{Rose}
use Rattle.cam_disk.specs.declared.error.DiskError.{DiskError}
use Rattle.cam_disk.specs.declared.error.DiskError.TheVariants.{Failed, NoMemory}
use Rattle.cam_log.specs.declared.fault.LogFault.{LogFault}
use Rattle.cam_log.specs.declared.fault.LogFault.TheVariants.{DiskFault}
use Rattle.cam_log.specs.Faults.{fault_of}
use Rattle.cam_log.specs.Image.{appended}
use Rattle.cam_log.specs.Reading.{read_log}
use Rattle.cam_log.specs.Rest.{opens}
use Rattle.cam_log.specs.Moments.{IsAtRest}
use Rattle.cam_log.specs.Spent.{Spent}
use Rattle.cam_log.specs.CutOff.{IsCutOff, ForcedBy, entries_after}
use Rattle.cam_log.proofs.Stages.{Staged, at_rest, written_behind, written_gate}

-- a count that rose later rose
pub rose_later : (first second third : ℕ) → first ≤ second → Rose second third → Rose first third
rose_later first second third later rose = omega (arith, later, rose)

-- the first of several calls were cut off,
pub cut_sooner : (wanted more : ℕ) (before left : Option ℕ) (Did All : ℕ → Type 0) → wanted ≤ more → ((n : ℕ) → n < wanted → Did n → All n) → IsCutOff wanted before left Did → IsCutOff more before left All
cut_sooner wanted more before left Did All fits each cut = record {
  calls = cut.calls;
  had = cut.had;
  fewer = omega (arith, cut.fewer, fits);
  none = cut.none;
  did = each cut.calls cut.fewer cut.did;
}

some_is : (x y : ℕ) → Some x ≡ Some y → x ≡ y
some_is x y is = cc

-- or those behind the first
pub cut_later : (done wanted : ℕ) (before between left : Option ℕ) (Did All : ℕ → Type 0) → Spent done before between → ((n : ℕ) → n < wanted → Did n → All (done + n)) → IsCutOff wanted between left Did → IsCutOff (done + wanted) before left All
cut_later done wanted None between left Did All spent each cut = absurd (cc (spent, cut.had))
cut_later done wanted (Some n) between left Did All spent each cut =
    let same : spent.0 ≡ cut.calls = some_is spent.0 cut.calls (sym spent.2 ∙ cut.had) in
    record {
      calls = done + cut.calls;
      had = ap (λ (k : ℕ). Some k) (spent.1 ∙ ap (λ (k : ℕ). done + k) same);
      fewer = omega (arith, cut.fewer);
      none = cut.none;
      did = each cut.calls cut.fewer cut.did;
    }

-- a log's fault comes from a call of the disk that failed
pub failed_by : (error : DiskError) (fault : LogFault) → fault ≡ fault_of error → fault ≡ DiskFault → error ≡ Failed
failed_by Failed fault is failed = refl
failed_by NoMemory fault is failed = absurd (cc (is, failed))

-- the entry was being forced behind the closed gate
first_reads : (calls gate : ℕ) (entries : List (List ℕ)) (text old new : List ℕ) → gate < 18446744073709551616 → IsAtRest entries gate old → ForcedBy calls (gate + 1) text old new → read_log new ≡ Ok entries
first_reads zero gate entries text old new small rests did = ap read_log did ∙ opens entries gate old small rests
first_reads (suc calls) gate entries text old new small rests did =
    let staged : Staged entries gate text new = written_behind entries gate text old new rests did in
    opens entries gate new small (at_rest entries gate staged.g (text ++ staged.rest) new staged.place staged.is_closed staged.is)

pub first_cut : (calls gate : ℕ) (entries : List (List ℕ)) (entry text old new : List ℕ) → calls < 2 → gate < 18446744073709551616 → IsAtRest entries gate old → ForcedBy calls (gate + 1) text old new → read_log new ≡ Ok (entries_after calls entries entry)
first_cut zero gate entries entry text old new fewer small rests did = first_reads zero gate entries text old new small rests did
first_cut (suc zero) gate entries entry text old new fewer small rests did = first_reads (suc zero) gate entries text old new small rests did
first_cut (suc (suc n)) gate entries entry text old new fewer small rests did = absurd (omega (arith, fewer))

-- the gate was being opened
pub second_cut : (calls gate : ℕ) (entries : List (List ℕ)) (entry mid new : List ℕ) → calls < 2 → gate + length (appended entry) < 18446744073709551616 → Staged entries gate (appended entry) mid → ForcedBy calls gate (1 ∷ []) mid new → read_log new ≡ Ok (entries_after (2 + calls) entries entry)
second_cut zero gate entries entry mid new fewer small staged did =
    ap read_log did ∙ opens entries gate mid (omega (arith, small)) (at_rest entries gate staged.g (appended entry ++ staged.rest) mid staged.place staged.is_closed staged.is)
second_cut (suc zero) gate entries entry mid new fewer small staged did =
    opens (entries ++ entry ∷ []) (gate + length (appended entry)) new small (written_gate entries gate entry mid new staged did)
second_cut (suc (suc n)) gate entries entry mid new fewer small staged did = absurd (omega (arith, fewer))
