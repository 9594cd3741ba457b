-- Before the first line the cluster stands for what was seen of none.
use Rattle.cam_cluster.proofs.cluster.Cluster+Ckpt+StopDisk+D.new.Goals as goal

pub returns-clause-before_first : goal.returns-clause-before_first
returns-clause-before_first g c =
    c.over.ensures.before_first c.args.script.now c.in_ok-lines.ensures.before_first
    c.in_ok-lines.ensures.nothing
