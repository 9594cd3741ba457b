use Rattle.std.proofs.Common.{ℕ, suc, ◌<◌, ◌≡◌, length, slice_index}
use Rattle.cam_net.specs.Waiting.{first_for, NoneAfterFirst}
use Rattle.cam_net.proofs.in_flight.first_places.Given as goal

-- the places of the nodes so far are found
abbrev pub invariant-loop-place : goal.invariant-loop-place
invariant-loop-place l = record {
  eight : length l.places ≡ 8;
  after : NoneAfterFirst l.places l.letters;
  found : (place : ℕ) → place < l.place → slice_index l.places place ≡ first_for (suc place) l.letters;
}
