use Rattle.std.proofs.Common.{◌≤◌, length, sym, ◌∙◌, arith}
use Rattle.cam_names.specs.Names.{family, name_eq}
use Rattle.cam_event.specs.declared.Operation.{Operation}
use Rattle.cam_own.proofs.Sites.{kept_any, kept_none}
use Rattle.cam_own.proofs.live.has_live_of.Goals as goal

pub returns-then-has_family_at : goal.returns-then-has_family_at
returns-then-has_family_at c = λ L keeps.
    sym (kept_any c.args.objects.now L c.args.site c.loop-place.place
    (λ (o : Operation). name_eq c.args.family.now (family o.action)) c.args.live.now c.requires keeps
    (sym c.site_at.ensures ∙ c.if-site_at-site.true)
    (sym c.has_family_at.ensures ∙ c.if-has_family_at.true))

pub returns : goal.returns
returns c = λ L keeps.
    let all : length c.args.objects.now ≤ c.loop-place.place =
    omega (arith, c.loop-place-test.false, c.len-place-end.ensures) in
    sym (kept_none c.args.objects.now L c.args.site
    (λ (o : Operation). name_eq c.args.family.now (family o.action)) c.args.live.now c.requires keeps
    (λ x within at. c.loop-place.invariant x (omega (arith, within, all)) at))
