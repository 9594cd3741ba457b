-- The home stands in the last part of the name.
use Rattle.std.proofs.Common.{sym, ap, ◌∙◌}
use Rattle.cam_names.specs.Part.{PartFields}
use Rattle.cam_names.specs.Names.{last_part}
use Rattle.cam_orphan.proofs.Home.{last_at}
use Rattle.cam_node.proofs.homes.home_of.Goals as goal

pub returns-clause-value : goal.returns-clause-value
returns-clause-value c =
    ap (λ (p : PartFields). p.node)
    (c.part.view_is ∙ c.index-parts-parts.is ∙ sym (last_at c.parts-parts.result.now c.index-parts-parts.result c.parts-parts.ensures.from) ∙ ap last_part c.parts-parts.ensures.value)

pub returns-clause-range : goal.returns-clause-range
returns-clause-range c = (c.part.invariant.node_from, c.part.invariant.node_to)
