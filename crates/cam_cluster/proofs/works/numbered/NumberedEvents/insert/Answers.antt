-- An event is put in, and its count.
use Rattle.std.proofs.Common.{◌≤◌, length, ◌∙◌, ap, arith}
use Rattle.std.specs.List.{insert}
use Rattle.std.proofs.lemmas.Grind.{common_steps}
use Rattle.cam_cluster.proofs.LetterCounts.{as_many}
use Rattle.cam_cluster.proofs.CountsPutIn.{counts_inserted, put_at_last, put_behind}
use Rattle.cam_cluster.proofs.works.numbered.NumberedEvents.insert.Goals as goal

pub sent_before-count-requires : goal.sent_before-count-requires
sent_before-count-requires c =
    let many = as_many c.args.self.now.events.items c.args.self.now.counts.items
    c.args.self.now.counted in
    let len = c.len.ensures in
    let least = c.min-at.ensures in
    grind (arith, common_steps, many, len, least)

pub insert_count-requires-clause-place : goal.insert_count-requires-clause-place
insert_count-requires-clause-place c =
    let many = as_many c.args.self.now.events.items c.args.self.now.counts.items
    c.args.self.now.counted in
    let len = c.len.ensures in
    let least = c.min-at.ensures in
    grind (arith, common_steps, many, len, least)

pub returns-clause-items : goal.returns-clause-items
returns-clause-items c =
    let len = c.len.ensures in
    let least = c.min-at.ensures in
    c.insert_event.ensures.items ∙ ap (λ xs. insert xs c.min-at.result c.args.event)
    c.renumber_from.ensures.items ∙ put_behind _ c.args.event _ _ (grind (
      arith,
      common_steps,
      len,
      least,
    )) ∙ put_at_last _ _ c.args.event _ (grind (arith, common_steps, len, least))

pub invariant_of-self : goal.invariant_of-self
invariant_of-self c =
    let es = c.args.self.now.events.items in
    let p = c.min-at.result in
    let len = c.len.ensures in
    let least = c.min-at.ensures in
    let low : p ≤ length es = grind (arith, common_steps, len, least) in
    record {
      counted =
          c.insert_count.ensures.items ∙ ap (insert c.args.self.now.counts.items p)
          c.sent_before-count.ensures ∙ counts_inserted _ _ _ _ _ _ c.args.self.now.counted
          c.requires.mute low (c.insert_event.ensures.items ∙ ap (λ xs. insert xs p c.args.event)
          c.renumber_from.ensures.items ∙ put_behind _ c.args.event _ _ low);
    }
