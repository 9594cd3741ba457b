-- One more event, and its count.
use Rattle.std.proofs.Common.{sym, ap, ◌∙◌, arith}
use Rattle.std.specs.Prelude.{min, ◌+◌, reverse}
use Rattle.std.proofs.lemmas.Grind.{common_steps}
use Rattle.cam_cluster.specs.LetterCounts.{count_before, letter_counts, most_letters}
use Rattle.cam_cluster.proofs.LetterCounts.{as_many, counts_with}
use Rattle.cam_cluster.proofs.works.numbered.NumberedEvents.push.Goals as goal

pub sent_before-before-requires : goal.sent_before-before-requires
sent_before-before-requires c =
    let many = as_many c.args.self.now.events.items c.args.self.now.counts.items
    c.args.self.now.counted in
    let len = c.len.ensures in
    grind (arith, common_steps, many, len)

pub invariant_of-self : goal.invariant_of-self
invariant_of-self c = record {
  counted =
      c.push_reserved.ensures ∙ counts_with _ _ _ _ _ c.args.self.now.counted
      (c.sent_before-before.ensures ∙ ap (count_before c.args.self.now.counts.items) c.len.ensures)
      (c.count_after-count.ensures ∙ ap (λ n. min most_letters (c.sent_before-before.result + n))
      c.len-2.ensures) ∙ ap (λ es. letter_counts (reverse es)) (sym c.push_event.ensures);
}
