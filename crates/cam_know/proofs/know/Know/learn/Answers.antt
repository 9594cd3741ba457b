use Rattle.std.proofs.Common.{List, ◌++◌, refl, sym, ap, subst}
use Rattle.cam_know.specs.declared.Outcome.{Outcome}
use Rattle.cam_know.specs.Invariant.{NoTwice}
use Rattle.cam_know.proofs.Distinct.{known_same, known_more}
use Rattle.cam_know.proofs.know.Know.learn.Goals as goal

pub invariant_of-self : goal.invariant_of-self
invariant_of-self c =
    known_same c.self.inside.outcomes.items c.self.inside.outcomes.items c.self.inside.index c.reserve.new.index
    c.self.inside.commits c.reserve.new.commits c.self.inside.counts
    refl c.reserve.ensures.index c.reserve.ensures.commits c.self.invariant

pub invariant_of-self-in_err-extend_from_slice : goal.invariant_of-self-in_err-extend_from_slice
invariant_of-self-in_err-extend_from_slice c =
    known_same c.self.inside.outcomes.items c.extend_from_slice.new.self.items c.self.inside.index c.reserve.new.index
    c.self.inside.commits c.reserve.new.commits c.self.inside.counts
    c.in_err-extend_from_slice.ensures.items c.reserve.ensures.index c.reserve.ensures.commits c.self.invariant

pub invariant_of-self-2 : goal.invariant_of-self-2
invariant_of-self-2 c =
    let fresh = c.args.fresh.now in
    known_more c.self.inside.outcomes.items fresh c.extend_from_slice.new.self.items
    c.self.inside.index c.reserve.new.index c.note_all.new.self
    c.self.inside.commits c.reserve.new.commits c.note_all-2.new.self
    c.self.inside.counts c.in_ok-extend_from_slice.ensures.items
    c.reserve.ensures.index c.note_all.ensures c.reserve.ensures.commits c.note_all-2.ensures
    (subst (λ (os : List Outcome). NoTwice (os ++ fresh)) (sym (ap (λ k. k.outcomes) c.self.view_is)) c.requires) c.self.invariant
