use Rattle.std.proofs.Common.{◌≡◌, ap, ◌∙◌, sym, subst, List, ℕ}
use Rattle.std.specs.Prelude.{flat_map}
use Rattle.cam_type.specs.declared.Held.{Held}
use Rattle.cam_locks.specs.declared.LiveOp.{LiveOp}
use Rattle.cam_locks.specs.Site.{Site, IndicesRise, AreFit}
use Rattle.cam_locks.specs.Restored.{InRange, EachOnce, all_held, ops_of, in_order, next_of}
use Rattle.cam_locks.proofs.Fits.{fit_ordered}
use Rattle.cam_locks.proofs.HeldOperations.{fit_kept}
use Rattle.cam_locks.proofs.RestoredLists.{in_range}
use Rattle.cam_locks.proofs.HeldIndices.{once_kept, restored_rise}
use Rattle.cam_locks.proofs.table.LockTable.restore.Goals as goal

pub in_order-requires : goal.in_order-requires
in_order-requires c =
    subst EachOnce (sym (c.as_slice-2.ensures ∙ c.in_ok-kept.ensures ∙ ap (flat_map (ops_of c.args.know.now)) c.as_slice.ensures))
    (once_kept c.args.objects.now c.args.node c.args.know.now c.args.held.now c.requires)

pub next_of-requires : goal.next_of-requires
next_of-requires c =
    subst (λ (held : List Held). InRange (all_held held)) (sym c.as_slice-4.ensures) (in_range c.args.objects.now c.args.node (all_held c.args.held.now) c.requires)

pub take_over_all-requires-clause-order : goal.take_over_all-requires-clause-order
take_over_all-requires-clause-order c =
    let know = c.args.know.now in
    let held = c.args.held.now in
    let live_is : c.as_slice-3.result.now ≡ in_order (flat_map (ops_of know) held) =
    c.as_slice-3.ensures.value ∙ c.in_ok-ordered.ensures
    ∙ ap in_order (c.as_slice-2.ensures ∙ c.in_ok-kept.ensures ∙ ap (flat_map (ops_of know)) c.as_slice.ensures) in
    let next_is : c.next_of.result ≡ next_of (all_held held) =
    c.next_of.ensures.value ∙ ap (λ (gs : List Held). next_of (all_held gs)) c.as_slice-4.ensures in
    let from_is : c.in_ok-table.table.site.next ≡ 0 = ap (λ s. s.next) c.in_ok-table.ensures in
    subst (λ (n : ℕ). IndicesRise n c.as_slice-3.result.now c.next_of.result) (sym from_is)
    (subst (λ (os : List LiveOp). IndicesRise 0 os c.next_of.result) (sym live_is)
    (subst (λ (n : ℕ). IndicesRise 0 (in_order (flat_map (ops_of know) held)) n) (sym next_is)
    (restored_rise c.args.objects.now c.args.node know held c.requires)))

pub take_over_all-requires-clause-fits : goal.take_over_all-requires-clause-fits
take_over_all-requires-clause-fits c =
    let know = c.args.know.now in
    let held = c.args.held.now in
    let live_is : c.as_slice-3.result.now ≡ in_order (flat_map (ops_of know) held) =
    c.as_slice-3.ensures.value ∙ c.in_ok-ordered.ensures
    ∙ ap in_order (c.as_slice-2.ensures ∙ c.in_ok-kept.ensures ∙ ap (flat_map (ops_of know)) c.as_slice.ensures) in
    subst (λ (s : Site). AreFit s.objects s.node c.as_slice-3.result.now) (sym c.in_ok-table.ensures)
    (subst (AreFit c.args.objects.now c.args.node) (sym live_is)
    (fit_ordered c.args.objects.now c.args.node (flat_map (ops_of know) held) (fit_kept c.args.objects.now c.args.node know held c.requires)))
