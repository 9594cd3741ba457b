-- The newest operation is taken back.
use Rattle.std.proofs.Common.{◌≡◌, ℤ, ◌+◌, List, Option, ap, subst, sym, ◌∙◌, arith}
use Rattle.std.specs.Prelude.{MatchOption, vec_len, cond, false, filter}
use Rattle.std.specs.Ordering.{is_eq}
use Rattle.std.specs.BTreeSet.{contains}
use Rattle.cam_locks.specs.declared.LiveOp.{LiveOp}
use Rattle.cam_locks.specs.declared.live.Slot.{Slot}
use Rattle.cam_locks.specs.declared.placed.Placed.{Placed}
use Rattle.cam_locks.specs.Members.{In}
use Rattle.cam_locks.specs.Placed.{placed_cmp}
use Rattle.cam_locks.specs.Live.{LiveView, live_of, other}
use Rattle.cam_locks.specs.Sums.{added_of, with_less, AreSums}
use Rattle.cam_locks.proofs.ObjectSums.{sums_less}
use Rattle.cam_locks.proofs.Slots.{slots_rise}
use Rattle.cam_locks.proofs.TakenSlots.{is_live_popped}
use Rattle.cam_locks.proofs.live.Live.take_back.Goals as goal

pub invariant_of-self : goal.invariant_of-self
invariant_of-self c =
    let o = c.args.operation.now in
    let t = c.self.inside in
    let there : In o (live_of t.slots.items) =
    subst (λ (v : LiveView). In o v.ops) (sym c.self.view_is) c.requires.live in
    let next_is : t.next ≡ o.index + 1 =
    ap (λ (v : LiveView). v.next) c.self.view_is ∙ c.requires.newest in
    let r = is_live_popped t.slots.items c.pop.new.self.items c.pop.result t.by_name
    c.remove.new.self t.next o c.pop.ensures.items
    (λ is. let h = subst (λ (x : Option Slot). MatchOption x
    ((vec_len t.slots ≡ 0) × (vec_len c.pop.new.self ≡ 0))
    (λ _. vec_len c.pop.new.self + 1 ≡ vec_len t.slots)) is c.pop.ensures.cases in omega
    (arith, h.0, t.slots.ok))
    c.self.invariant.0 there next_is
    (λ q. c.remove.ensures.updates.0 q ∙ ap
    (λ (p : Placed). cond (is_eq (placed_cmp p q)) false (contains placed_cmp t.by_name q))
    c.of.ensures) in (
      r.0,
      subst (λ (sums : List ℤ). AreSums sums (live_of c.pop.new.self.items))
          (sym c.take_back.ensures.value)
          (subst (λ (os : List LiveOp). AreSums (with_less t.sums o.object (added_of o.op)) os)
          (sym r.1)
          (sums_less t.sums (live_of t.slots.items) t.next o (omega arith) c.take_back.ensures.range
          (slots_rise 0 t.slots.items t.next c.self.invariant.0.rising) there c.self.invariant.1)),
    )

pub returns-clause-ops : goal.returns-clause-ops
returns-clause-ops c =
    let o = c.args.operation.now in
    let t = c.self.inside in
    let there : In o (live_of t.slots.items) =
    subst (λ (v : LiveView). In o v.ops) (sym c.self.view_is) c.requires.live in
    let next_is : t.next ≡ o.index + 1 =
    ap (λ (v : LiveView). v.next) c.self.view_is ∙ c.requires.newest in
    (is_live_popped t.slots.items c.pop.new.self.items c.pop.result t.by_name c.remove.new.self
    t.next o c.pop.ensures.items
    (λ is. let h = subst (λ (x : Option Slot). MatchOption x
    ((vec_len t.slots ≡ 0) × (vec_len c.pop.new.self ≡ 0))
    (λ _. vec_len c.pop.new.self + 1 ≡ vec_len t.slots)) is c.pop.ensures.cases in omega
    (arith, h.0, t.slots.ok))
    c.self.invariant.0 there next_is
    (λ q. c.remove.ensures.updates.0 q ∙ ap
    (λ (p : Placed). cond (is_eq (placed_cmp p q)) false (contains placed_cmp t.by_name q))
    c.of.ensures)).1
    ∙ ap (λ (v : LiveView). filter (other o.index) v.ops) c.self.view_is
