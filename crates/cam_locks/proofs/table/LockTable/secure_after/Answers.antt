use Rattle.std.proofs.Common.{◌≡◌, ℕ, ◌≤◌, List, not, map, ap, subst, ◌∙◌}
use Rattle.std.specs.Prelude.{filter}
use Rattle.cam_type.specs.declared.HeldOp.{HeldOp}
use Rattle.cam_locks.specs.declared.LiveOp.{LiveOp}
use Rattle.cam_locks.specs.Site.{Site, TableView, IndicesRise, AreFit}
use Rattle.cam_locks.specs.Secured.{IsWellFormed}
use Rattle.cam_locks.specs.Calls.{is_of, held_op, is_dropped_by}
use Rattle.cam_locks.proofs.Bools.{kept_among}
use Rattle.cam_locks.proofs.table.LockTable.secure_after.Goals as goal

pub returns-clause-held : goal.returns-clause-held
returns-clause-held c =
    let f = c.args.family.now in
    let news = c.args.news.now in
    let stays = λ (o : LiveOp). not (is_dropped_by news o) in
    ap (λ (ops : List HeldOp). record { family = f; count = c.args.count; ops = ops })
    (c.in_ok-ops.ensures
    ∙ ap (λ (os : List LiveOp). map held_op (filter (is_of f) os))
    (c.as_slice-2.ensures ∙ c.in_ok-left.ensures)
    ∙ ap (λ (os : List LiveOp). map held_op (filter (is_of f) (filter stays os)))
    (c.as_slice.ensures.value ∙ c.in_ok-live.ensures)
    ∙ ap (map held_op)
    (kept_among (is_of f) stays c.self.inside.kept.live.ops
    ∙ ap (λ v. filter (is_of f) (filter stays v.site.live)) c.self.view_is))

-- whatever the call answers, what is seen of the table is well formed
seen_well_formed : (site : Site) (spare : ℕ) (seen : TableView)
    → record { site = site; spare = spare } ≡ seen → IndicesRise 0 site.live site.next
    → site.next ≤ 1000000000 → AreFit site.objects site.node site.live → IsWellFormed seen.site
seen_well_formed site spare seen is order range fit =
    subst (λ (v : TableView). IsWellFormed v.site) is
    (record { rising = order; range = range; fits = fit })

pub returns-in_err-live-clause-well_formed : goal.returns-in_err-live-clause-well_formed
returns-in_err-live-clause-well_formed c =
    seen_well_formed _ _ _ c.self.view_is c.self.invariant.0.rising c.self.invariant.0.range c.self.invariant.1

pub returns-in_err-left-clause-well_formed : goal.returns-in_err-left-clause-well_formed
returns-in_err-left-clause-well_formed c =
    seen_well_formed _ _ _ c.self.view_is c.self.invariant.0.rising c.self.invariant.0.range c.self.invariant.1

pub returns-in_err-ops-clause-well_formed : goal.returns-in_err-ops-clause-well_formed
returns-in_err-ops-clause-well_formed c =
    seen_well_formed _ _ _ c.self.view_is c.self.invariant.0.rising c.self.invariant.0.range c.self.invariant.1

pub returns-clause-well_formed : goal.returns-clause-well_formed
returns-clause-well_formed c =
    seen_well_formed _ _ _ c.self.view_is c.self.invariant.0.rising c.self.invariant.0.range c.self.invariant.1
