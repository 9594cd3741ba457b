-- Nothing was known, and all of the outcomes were noted.
use Rattle.std.proofs.Common.{[], sym, subst, ◌∙◌}
use Rattle.cam_know.specs.Invariant.{NoTwice}
use Rattle.cam_know.proofs.Distinct.{known_more}
use Rattle.cam_know.proofs.know.Know.of.Goals as goal

pub invariant_of-result : goal.invariant_of-result
invariant_of-result c =
    known_more [] c.as_slice-all.result.now c.into_vec.result.items
    c.new-index.result c.reserve.new.index c.note_all.new.self
    c.new-commits.result c.reserve.new.commits c.note_all-2.new.self
    c.args.counts (c.into_vec.ensures ∙ sym c.as_slice-all.ensures)
    c.reserve.ensures.index c.note_all.ensures
    c.reserve.ensures.commits c.note_all-2.ensures
    (subst NoTwice (sym c.as_slice-all.ensures) c.requires.distinct)
    (record { distinct = tt; indexed = c.new-index.ensures; committed = c.new-commits.ensures; counted = c.requires.counts })
