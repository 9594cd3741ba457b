use Rattle.std.proofs.Common.{arith}
use Rattle.cam_base.proofs.Told.{if_told_then}
use Rattle.cam_io.proofs.Moved.{read_past}
use Rattle.cam_io.proofs.source.read_all.Goals as goal

pub returns-then-count-limit-clause-read : goal.returns-then-count-limit-clause-read
returns-then-count-limit-clause-read g c =
    if_told_then (g.S.Source.left c.args.source.now) (g.S.Source.left c.loop-bytes.source) (g.S.Source.left c.read.new.self)
    (λ x y z before moved. read_past c.args.limit c.in_ok-count.count c.loop-bytes.bytes.items c.read.new.into x y z (omega arith) c.in_ok-count.ensures.count before moved)
    c.loop-bytes.invariant.front c.in_ok-count.ensures.bytes
