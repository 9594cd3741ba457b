-- Whether something has failed by itself.
use Rattle.cam_cluster.proofs.AsSeen.{part}
use Rattle.cam_cluster.proofs.RunDisks.{all_tell, told_cause, told_none}
use Rattle.cam_cluster.proofs.cluster.Cluster.unfailing.Goals as goal

pub returns-clause-unfailing : goal.returns-clause-unfailing
returns-clause-unfailing g c =
    told_none c.args.self.now.course.lines.works.failed _ _ c.unfailing.ensures.nothing (all_tell _ (λ node. g.met.L.TellingLog.always
    node.log.log) _)

pub returns-clause-cause : goal.returns-clause-cause
returns-clause-cause g c = told_cause c.args.self.now.course.lines.works.failed _ c.unfailing.ensures.something
