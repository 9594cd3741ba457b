-- Lines before the first.
use Rattle.std.proofs.Common.{◌∙◌, ap, length, sym, subst}
use Rattle.cam_ckpt.specs.Reading.{read_ckpt}
use Rattle.cam_node.specs.Calls.{answers}
use Rattle.cam_cluster.specs.HandedBack.{AreLater}
use Rattle.cam_cluster.specs.Works.{WorksFields}
use Rattle.cam_cluster.proofs.BeforeFirst.{new_lines_keep}
use Rattle.cam_cluster.proofs.HandedBack.{all_same}
use Rattle.cam_cluster.proofs.FoundedDisks.{as_many_nodes}
use Rattle.cam_cluster.proofs.lines.new.Lines+Ckpt+StopDisk+D.new.Goals as goal

pub returns-in-Err-clause-back : goal.returns-in-Err-clause-back
returns-in-Err-clause-back g c = all_same _ _ _

pub returns-in-Ok-found-clause-before_first : goal.returns-in-Ok-found-clause-before_first
returns-in-Ok-found-clause-before_first g c =
    new_lines_keep _ _ _ c.requires.script c.in-Ok-found.ensures.new (c.in-Ok-found.ensures.count
    ∙ c.requires.one_each) c.new.ensures c.new-in-Ok-found.ensures.items

pub returns-in-Ok-found-clause-count : goal.returns-in-Ok-found-clause-count
returns-in-Ok-found-clause-count g c =
    as_many_nodes _ _ _ (ap (λ (w : WorksFields). length w.nodes) c.new.ensures) ∙
    c.in-Ok-found.ensures.count

pub returns-in-Ok-found-clause-later : goal.returns-in-Ok-found-clause-later
returns-in-Ok-found-clause-later g c =
    subst (λ (w : WorksFields). AreLater g.D.Disk.tells g.D.Disk.faults (λ n. n.tells)
    (λ n. n.failures) c.args.disks.now.items w.nodes) (sym c.new.ensures)
    c.in-Ok-found.ensures.later

pub returns-in-Ok-found-clause-nothing : goal.returns-in-Ok-found-clause-nothing
returns-in-Ok-found-clause-nothing g c =
    ap (λ (w : WorksFields). w.failed) c.new.ensures
