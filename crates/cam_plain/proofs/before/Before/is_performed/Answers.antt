use Rattle.std.proofs.Common.{◌≡◌, false, rules, ap, ◌∙◌}
use Rattle.std.specs.Option.{option_map_or}
use Rattle.cam_type.specs.Table.{answer_eq}
use Rattle.cam_plain.specs.Legal.{history}
use Rattle.cam_plain.proofs.Replying.{answer_kept}
use Rattle.cam_plain.proofs.before.Before.is_performed.Goals as goal

pub returns-in-Some : goal.returns-in-Some
returns-in-Some c =
    let L = history c.args.self.now.deeds.now in
    let same : c.eq.result ≡ answer_eq c.args.answer.now c.in-Some.given = search rules in
    same ∙ ap (λ o. option_map_or (answer_eq c.args.answer.now) o false) (c.in-Some.ensures L c.requires.kept.replies)
    ∙ answer_kept c.args.self.now.objects.now L c.args.action.now c.args.number c.args.answer.now c.requires.legal

pub returns-in-None : goal.returns-in-None
returns-in-None c =
    let L = history c.args.self.now.deeds.now in
    ap (λ o. option_map_or (answer_eq c.args.answer.now) o false) (c.in-None.ensures L c.requires.kept.replies)
    ∙ answer_kept c.args.self.now.objects.now L c.args.action.now c.args.number c.args.answer.now c.requires.legal
