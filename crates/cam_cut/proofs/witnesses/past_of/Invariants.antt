use Rattle.std.proofs.Common.{◌≡◌, ℕ, ◌<◌, length, reverse}
use Rattle.cam_event.specs.Pasts.{in_past}
use Rattle.cam_cut.specs.Kept.{is_kept}
use Rattle.cam_cut.proofs.witnesses.past_of.Given as goal

abbrev pub invariant-loop-number : goal.invariant-loop-number
invariant-loop-number l = record {
  flags : length l.keep.items ≡ l.number;
  past : (i : ℕ) → i < l.number → is_kept l.keep.items i ≡ in_past (reverse l.trace) i l.last;
}
