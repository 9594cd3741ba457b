use Rattle.std.proofs.Common.{◌≡◌, ◌-◌, length, suc, ap, sym, ◌∙◌, arith}
use Rattle.cam_names.specs.Part.{PartFields}
use Rattle.cam_names.specs.Names.{last_part}
use Rattle.cam_plain.proofs.LastPart.{last_at}
use Rattle.cam_plain.proofs.lines.number_of.Goals as goal

pub returns : goal.returns
returns c =
    let n = length c.parts-parts.result.now - 1 in
    let whole : length c.parts-parts.result.now ≡ suc n = omega (arith, c.parts-parts.ensures.from) in
    ap (λ (p : PartFields). p.number)
    (c.part.view_is ∙ c.index-parts-parts.is ∙ sym (last_at c.parts-parts.result.now n c.index-parts-parts.result whole) ∙ ap last_part c.parts-parts.ensures.value)
