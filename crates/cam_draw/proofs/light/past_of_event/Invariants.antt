use Rattle.std.proofs.Common.{◌≡◌, ℕ, ◌<◌, length, reverse}
use Rattle.cam_event.specs.Pasts.{in_past}
use Rattle.cam_draw.specs.Light.{is_set}
use Rattle.cam_draw.proofs.light.past_of_event.Given as goal

abbrev pub invariant-loop-number : goal.invariant-loop-number
invariant-loop-number l = record {
  flags : length l.flags.items ≡ l.number;
  past : (i : ℕ) → i < l.number → is_set l.flags.items i ≡ in_past (reverse l.trace) i l.last;
}
