use Rattle.std.proofs.Common.{◌≡◌, ap, ◌∙◌, rules}
use Rattle.cam_know.specs.Known.{lift_by}
use Rattle.cam_event.specs.Live.{lift, site_of}
use Rattle.cam_event.specs.Settled.{is_past_top}
use Rattle.cam_live.proofs.performed.is_past_top.Goals as goal

pub returns : goal.returns
returns c = λ L tells.
    let o = c.args.operation.now in
    let lifted : c.lift.result ≡ lift L (site_of c.args.objects.now o.object) o.action =
    c.lift.ensures ∙ ap (λ t. lift_by t o.action) (λ i u. tells.committed c.site_of-site.result u i)
    ∙ ap (λ s. lift L s o.action) c.site_of-site.ensures
    in
    let past : c.is_none.result ≡ is_past_top c.lift.result = search rules in
    past ∙ ap is_past_top lifted
