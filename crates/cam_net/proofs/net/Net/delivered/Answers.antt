-- A delivered letter waits for no node.
use Rattle.std.proofs.Common.{rules, ◌≡◌, ◌≤◌, ◌<◌, ◌-◌, length, ap, subst, ◌∙◌}
use Rattle.cam_net.specs.Letters.{as_delivered, changed}
use Rattle.cam_net.specs.Waiting.{waits_for}
use Rattle.cam_net.proofs.Places.{still_before}
use Rattle.cam_net.proofs.Changes.{none_changed, zero_changed, set_is_changed, delivered_waits_not}
use Rattle.cam_net.proofs.net.Net.delivered.Goals.{else-number-ge1-via-then-number-ge1+else-number-len, else-number-ge1-via-else-number-ge1}
use Rattle.cam_net.proofs.net.Net.delivered.Goals as goal

pub first_places-self-inside-requires : goal.first_places-self-inside-requires
first_places-self-inside-requires c =
    rw c.as_slice.ensures.value
    (still_before c.self.inside.letters.items c.self.inside.first (c.args.number - 1) c.deliver.new.self c.self.invariant.first
    (λ node. ap (waits_for node) c.deliver.ensures ∙ delivered_waits_not node c.index_mut.result.now))

pub returns-then-number-len : goal.returns-then-number-len
returns-then-number-len c =
    let high : c.args.number ≤ length c.self.inside.letters.items = search rules in
    set_is_changed as_delivered c.self.inside.letters.items c.args.number c.index_mut.result.now c.deliver.new.self c.if-number-ge1.true high
    c.index_mut.ensures.value c.deliver.ensures ∙ ap (λ letters. changed as_delivered letters c.args.number) c.self.view_is

pub returns-else-number-ge1 : goal.returns-else-number-ge1
returns-else-number-ge1 c =
    elim c.else-number-ge1.branch [
      | else-number-ge1-via-then-number-ge1+else-number-len w ↦
          let past : length c.self.inside.letters.items < c.args.number = search rules in
          subst (λ letters. letters ≡ changed as_delivered letters c.args.number) c.self.view_is (none_changed as_delivered c.self.inside.letters.items c.args.number past)
      | else-number-ge1-via-else-number-ge1 w ↦ zero_changed as_delivered c.args.self.now c.args.number (search rules)
    ]
