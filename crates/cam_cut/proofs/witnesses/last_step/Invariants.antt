use Rattle.std.proofs.Common.{◌≡◌, reverse, take}
use Rattle.cam_event.specs.Pasts.{plain_all}
use Rattle.cam_cut.specs.Watched.{Watches}
use Rattle.cam_cut.specs.Witness.{last_step}
use Rattle.cam_cut.proofs.witnesses.last_step.Given as goal

abbrev pub invariant-loop-number : goal.invariant-loop-number
invariant-loop-number l = record {
  watched : Watches (plain_all (reverse (take l.number l.trace))) l.name l.watch;
  last : l.last ≡ last_step (reverse (take l.number l.trace)) l.name;
}
