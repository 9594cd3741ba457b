use Rattle.cam_own.proofs.Living.{LeftUpTo}
use Rattle.cam_own.proofs.live.note_abort.Given as goal

-- the objects before the place have what the abort leaves
abbrev pub invariant-loop-place : goal.invariant-loop-place
invariant-loop-place l = LeftUpTo l.objects l.site l.name l.place l.initial.live l.live
