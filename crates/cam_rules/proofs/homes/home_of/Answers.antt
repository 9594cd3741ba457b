use Rattle.std.proofs.Common.{ap, ◌∙◌}
use Rattle.cam_names.specs.Part.{PartFields}
use Rattle.cam_names.specs.Names.{last_part}
use Rattle.cam_rules.proofs.LastParts.{last_part_at}
use Rattle.cam_rules.proofs.homes.home_of.Goals as goal

pub returns-clause-value : goal.returns-clause-value
returns-clause-value c =
    ap (λ (p : PartFields). p.node)
    (c.last.view_is
    ∙ last_part_at c.parts-parts.result.now c.index-parts-parts.result c.parts-parts.ensures.from c.index-parts-parts.is
    ∙ ap last_part c.parts-parts.ensures.value)
