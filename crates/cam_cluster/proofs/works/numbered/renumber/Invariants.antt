-- The events before the place have the numbers of now.
use Rattle.std.proofs.Common.{◌≡◌, ◌++◌, drop, take, map}
use Rattle.cam_cluster.specs.OpenHalts.{with_letter_renumbered}
use Rattle.cam_cluster.proofs.works.numbered.renumber.Given as goal

abbrev pub invariant-loop-event : goal.invariant-loop-event
invariant-loop-event l =
    take l.event-index l.events
    ++ map (with_letter_renumbered l.place) (drop l.event-index l.events)
    ≡ map (with_letter_renumbered l.place) l.initial.events
