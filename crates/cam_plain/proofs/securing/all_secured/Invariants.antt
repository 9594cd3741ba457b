use Rattle.std.proofs.Common.{◌≡◌, drop}
use Rattle.std.specs.List.{list_all}
use Rattle.cam_event.specs.History.{secured}
use Rattle.cam_plain.specs.Legal.{history}
use Rattle.cam_plain.proofs.securing.all_secured.Given as goal

abbrev pub invariant-loop-pair : goal.invariant-loop-pair
invariant-loop-pair l =
    list_all (λ p. secured (history l.before.deeds.now) l.family p.0 p.1) (drop l.pair-index l.pair-items) ≡ list_all (λ p. secured (history l.before.deeds.now) l.family p.0 p.1) l.pair-items
