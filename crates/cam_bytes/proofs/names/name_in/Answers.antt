-- A name is read part by part, the first of them at once.
use Rattle.std.proofs.Common.{sym, ◌∙◌}
use Rattle.std.proofs.lemmas.Result.{err_from_is_err_and}
use Rattle.cam_bytes.proofs.Steps.{name_read, name_fault}
use Rattle.cam_bytes.proofs.names.name_in.Goals as goal

pub returns-in_err-part-clause-value : goal.returns-in_err-part-clause-value
returns-in_err-part-clause-value c =
    let p = err_from_is_err_and c.from_residual-in_err-part.result c.from_residual-in_err-part.ensures.1 in
    rw (p.1, p.2)
    (sym (name_fault c.args.most c.args.at c.in_ok-parts.parts c.in_ok-parts.at c.args.bytes.now c.in_err-part.field-0.0
    (sym c.byte_in.ensures.value ∙ c.in_ok-parts.was) c.in_ok-parts.ensures.range.0 (sym c.part_at.ensures.value ∙ c.in_err-part.was)))

pub returns-clause-value : goal.returns-clause-value
returns-clause-value c =
    name_read c.args.most c.args.at c.in_ok-parts.parts c.in_ok-parts.at c.in_ok-part.at c.args.bytes.now c.in_ok-part.part c.top.result c.parts_from.result
    (sym c.byte_in.ensures.value ∙ c.in_ok-parts.was) c.in_ok-parts.ensures.range.0 (sym c.part_at.ensures.value ∙ c.in_ok-part.was)
    c.top.ensures c.parts_from.ensures.value
