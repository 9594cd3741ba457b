use Rattle.std.proofs.Common.{◌≡◌, false, rules, ap, ◌∙◌}
use Rattle.std.specs.Option.{option_map_or}
use Rattle.cam_names.specs.Names.{name_eq}
use Rattle.cam_plain.specs.Legal.{history}
use Rattle.cam_plain.proofs.Replying.{holder_kept}
use Rattle.cam_plain.proofs.before.Before.is_bounced.Goals as goal

pub returns-in-Some : goal.returns-in-Some
returns-in-Some c =
    let L = history c.args.self.now.deeds.now in
    let same : c.eq.result ≡ name_eq c.args.holder.now c.in-Some.named = search rules in
    same ∙ ap (λ o. option_map_or (name_eq c.args.holder.now) o false) (c.in-Some.ensures L c.requires.kept.replies)
    ∙ holder_kept c.args.self.now.objects.now L c.args.action.now c.args.number c.args.holder.now c.requires.legal

pub returns-in-None : goal.returns-in-None
returns-in-None c =
    let L = history c.args.self.now.deeds.now in
    ap (λ o. option_map_or (name_eq c.args.holder.now) o false) (c.in-None.ensures L c.requires.kept.replies)
    ∙ holder_kept c.args.self.now.objects.now L c.args.action.now c.args.number c.args.holder.now c.requires.legal
