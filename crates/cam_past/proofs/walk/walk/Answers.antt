use Rattle.std.proofs.Common.{rules, List, ◌<◌, ◌∙◌, None, Some, refl, length, length-set, subst, get_or, ◌≡◌, ℕ}
use Rattle.std.proofs.lemmas.List.{get_or-replicate}
use Rattle.cam_past.specs.declared.clock.Clock.{Clock}
use Rattle.cam_past.specs.Tables.{next_latest}
use Rattle.cam_past.proofs.Tables.{no_nodes, nodes_further, no_table, table_length, table_further, last_further}
use Rattle.cam_past.proofs.walk.walk.Goals as goal

pub loop-event-init : goal.loop-event-init
loop-event-init c = (
  no_nodes c.in_ok-nodes.nodes.items c.in_ok-nodes.ensures.items,
  no_table c.args.table c.in_ok-clocks.clocks.items c.in_ok-clocks.ensures.items,
  refl,
  λ s small. get_or-replicate 256 s None None small,
)

pub loop-event-preserved : goal.loop-event-preserved
loop-event-preserved c =
    let events = c.as_slice-event-items.result.now in
    let k = c.loop-event.event-index in
    let e = c.event-item.result in
    let clocks = c.loop-event.clocks.items in
    let clock = c.next-clock.result in
    let node : e.node < 256 = search rules in
    let last = c.loop-event.last in
    let next = subst (λ (cs : List Clock). (place : ℕ) → place < 8 → get_or clock.latest place 0 ≡ next_latest cs c.args.table (get_or last e.node None) e place) c.deref.ensures.value c.next-clock.ensures in
    let count : c.len-in-loop-event.result ≡ length clocks = search rules in (
      nodes_further events k e c.loop-event.nodes.items c.push.new.self.items c.loop-event-test.true c.event-item.is c.in_ok-push.ensures.items c.loop-event.invariant.0,
      table_further events k c.args.table e clocks c.push-in-loop-event.new.self.items clock last c.loop-event-test.true c.event-item.is node
          c.in_ok-push-2.ensures.items c.loop-event.invariant.3 next c.loop-event.invariant.1,
      length-set last e.node (Some c.len-in-loop-event.result) ∙ c.loop-event.invariant.2,
      last_further events k e last c.len-in-loop-event.result c.loop-event-test.true c.event-item.is node c.loop-event.invariant.2
          (count ∙ table_length events k c.args.table clocks c.loop-event-test.true c.loop-event.invariant.1) c.loop-event.invariant.3,
    )
