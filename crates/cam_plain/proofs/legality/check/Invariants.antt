use Rattle.std.proofs.Common.{take}
use Rattle.cam_plain.specs.Legal.{history}
use Rattle.cam_plain.specs.Kept.{IsKnown}
use Rattle.cam_plain.specs.Sites.{KeepsSites}
use Rattle.cam_plain.proofs.legality.check.Given as goal

abbrev pub invariant-loop-at : goal.invariant-loop-at
invariant-loop-at l = record {
  known : IsKnown l.objects (history (take l.at l.list)) l.tables;
  sites : KeepsSites l.objects (history (take l.at l.list)) l.sites;
}
