use Rattle.std.proofs.Common.{◌≡◌, false, not, ◌&&◌, sym, ap, ◌∙◌}
use Rattle.std.specs.List.{list_any}
use Rattle.cam_names.specs.Names.{ancestors}
use Rattle.cam_event.specs.Live.{is_dropped}
use Rattle.cam_live.proofs.performed.is_live.Goals as goal

pub returns-then-stands : goal.returns-then-stands
returns-then-stands c = λ L tells.
    let p = c.args.performed.now in
    let dropped : c.has_ancestor.result ≡ is_dropped c.args.objects.now L p.operation =
    c.has_ancestor.ensures
    ∙ ap (λ t. list_any t (ancestors p.operation.action)) (λ i u. tells.aborted c.site_of-site.result u i)
    ∙ ap (λ s. list_any (λ u. Rattle.cam_event.specs.History.informed L s u false) (ancestors p.operation.action)) c.site_of-site.ensures
    in
    ap not dropped ∙ sym (ap (λ b. b && not (is_dropped c.args.objects.now L p.operation)) (sym (c.stands.ensures L tells) ∙ c.if-stands.true))
