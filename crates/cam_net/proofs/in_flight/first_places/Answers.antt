-- One place is found, the others stay.
use Rattle.std.proofs.Common.{◌≡◌, ◌<◌, suc, ◌+◌, length, length-set, ap, ◌∙◌, arith}
use Rattle.cam_net.specs.Waiting.{first_for}
use Rattle.cam_net.proofs.Places.{places_found}
use Rattle.cam_net.proofs.in_flight.first_places.Goals as goal

pub loop-place-preserved : goal.loop-place-preserved
loop-place-preserved c =
    let places = c.loop-place.places in
    let at = c.loop-place.place in
    let next : at + 1 ≡ suc at = omega arith in
    let within : at < length places = omega (arith, c.loop-place.invariant.eight, c.loop-place-test.true) in
    let found : c.first_for.result ≡ first_for (suc at) c.args.letters.now = c.first_for.ensures ∙ ap (λ node. first_for node c.args.letters.now) next in
    let both = places_found c.args.letters.now places at c.first_for.result within found c.loop-place.invariant.after c.loop-place.invariant.found in
    record { eight = length-set places at c.first_for.result ∙ c.loop-place.invariant.eight; after = both.0; found = both.1 }
