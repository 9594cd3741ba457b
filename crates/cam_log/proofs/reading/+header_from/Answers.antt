use Rattle.std.proofs.Common.{◌∙◌, sym, arith}
use Rattle.cam_log.proofs.Loop.{header_step, header_differs, header_missing}
use Rattle.cam_log.proofs.reading.+header_from.Goals.{else-at-bytes-via-then-at-bytes+else-bytes-at, else-at-bytes-via-else-at-bytes}
use Rattle.cam_log.proofs.reading.+header_from.Goals as goal

pub returns-then-bytes-at-clause-exactly : goal.returns-then-bytes-at-clause-exactly
returns-then-bytes-at-clause-exactly t c =
    c.header_from.ensures.exactly ∙ header_step c.args.header.now c.args.bytes.now c.args.at (omega (arith, c.requires.place, c.if-at-header.false)) c.if-at-bytes.true c.if-bytes-at.true

pub returns-else-at-bytes-clause-exactly : goal.returns-else-at-bytes-clause-exactly
returns-else-at-bytes-clause-exactly t c = elim c.else-at-bytes.branch [
  | else-at-bytes-via-then-at-bytes+else-bytes-at w ↦ sym (header_differs c.args.header.now c.args.bytes.now c.args.at (omega (arith, c.requires.place, c.if-at-header.false)) w.if-at-bytes.true w.if-bytes-at.false)
  | else-at-bytes-via-else-at-bytes w ↦ sym (header_missing c.args.header.now c.args.bytes.now c.args.at (omega (arith, c.requires.place, c.if-at-header.false)) (omega (arith, w.if-at-bytes.false)))
]
