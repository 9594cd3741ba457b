use Rattle.std.proofs.Common.{eqb, false, ap, ◌∙◌}
use Rattle.std.specs.Option.{option_map_or}
use Rattle.cam_plain.specs.Legal.{history}
use Rattle.cam_plain.proofs.SecuredOnce.{secured_kept}
use Rattle.cam_plain.proofs.before.Before.is_secured.Goals as goal

pub returns-in-Some : goal.returns-in-Some
returns-in-Some c =
    let L = history c.args.self.now.deeds.now in
    ap (λ o. option_map_or (eqb c.args.count) o false) (c.in-Some.ensures c.args.self.now.objects.now L c.requires.kept.ledger)
    ∙ secured_kept c.args.self.now.objects.now L c.args.family.now c.args.site c.args.count c.requires.legal

pub returns-in-None : goal.returns-in-None
returns-in-None c =
    let L = history c.args.self.now.deeds.now in
    ap (λ o. option_map_or (eqb c.args.count) o false) (c.in-None.ensures c.args.self.now.objects.now L c.requires.kept.ledger)
    ∙ secured_kept c.args.self.now.objects.now L c.args.family.now c.args.site c.args.count c.requires.legal
