-- A lost letter waits for no node; where nothing can be lost the letter is lost already, or there is none.
use Rattle.std.proofs.Common.{◌-◌, ap, sym, ◌∙◌, arith}
use Rattle.cam_net.specs.Letters.{as_lost, changed, has_letter}
use Rattle.cam_net.specs.Waiting.{waits_for}
use Rattle.cam_net.proofs.Places.{still_before}
use Rattle.cam_net.proofs.Changes.{has_within, lost_before, set_is_changed, lost_waits_not}
use Rattle.cam_net.proofs.net.Net.lose.Goals as goal

pub returns-then-not-has-clause-lost : goal.returns-then-not-has-clause-lost
returns-then-not-has-clause-lost c = lost_before c.args.self.now c.args.number (sym c.has.ensures ∙ c.if-not-has.true)

pub index_mut-requires : goal.index_mut-requires
index_mut-requires c =
    let its = has_within c.self.inside.letters.items c.args.number (ap (λ letters. has_letter letters c.args.number) c.self.view_is ∙ sym c.has.ensures ∙ c.if-not-has.false) in
    omega (arith, its.0, its.1, c.self.inside.letters.ok)

pub first_places-self-inside-requires : goal.first_places-self-inside-requires
first_places-self-inside-requires c =
    rw c.as_slice.ensures.value
    (still_before c.self.inside.letters.items c.self.inside.first (c.args.number - 1) c.lose.new.self c.self.invariant.first
    (λ node. ap (waits_for node) c.lose.ensures ∙ lost_waits_not node c.index_mut.result.now))

pub returns-clause-lost : goal.returns-clause-lost
returns-clause-lost c =
    let its = has_within c.self.inside.letters.items c.args.number (ap (λ letters. has_letter letters c.args.number) c.self.view_is ∙ sym c.has.ensures ∙ c.if-not-has.false) in
    set_is_changed as_lost c.self.inside.letters.items c.args.number c.index_mut.result.now c.lose.new.self its.0 its.1
    c.index_mut.ensures.value c.lose.ensures ∙ ap (λ letters. changed as_lost letters c.args.number) c.self.view_is
