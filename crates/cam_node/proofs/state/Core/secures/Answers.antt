-- What is held of the family may be written.
use Rattle.std.proofs.Common.{◌≤◌, length, sym, subst}
use Rattle.cam_type.specs.declared.Held.{Held}
use Rattle.cam_locks.specs.Site.{TableView}
use Rattle.cam_recman.specs.Versions.{IsOf}
use Rattle.cam_recman.specs.Writable.{IsWritable}
use Rattle.cam_recman.specs.declared.Record.TheVariants.{Secure}
use Rattle.cam_node.proofs.HeldWritable.{held_writable, held_of_two}
use Rattle.cam_node.proofs.state.Core.secures.Goals as goal

pub returns-clause-writable : goal.returns-clause-writable
returns-clause-writable c = λ top number few.
    let site = c.table.result.now.site in
    let news = c.args.news.now in
    let f = c.args.family.now in
    subst (λ (h : Held). IsWritable (Secure h) × IsOf 2 (Secure h)) (sym c.in_ok-held.ensures.held) (
      held_writable site news f c.args.count c.in_ok-held.ensures.well_formed
          (subst (λ (table : TableView). length table.site.objects ≤ 64) (sym c.table.ensures) few) top number,
      held_of_two site news f c.args.count,
    )
