use Rattle.std.proofs.Common.{◌≡◌, true, false, sym, ap, ◌∙◌}
use Rattle.std.proofs.lemmas.Result.{IfOk-weaker}
use Rattle.cam_type.specs.declared.State.{State}
use Rattle.cam_type.specs.Objects.{start_of}
use Rattle.cam_locks.specs.Holding.{LocksView, KeepsLocks}
use Rattle.cam_locks.specs.Changes.{state_of, is_current, last_current}
use Rattle.cam_locks.specs.Moss.{settled_of}
use Rattle.cam_locks.specs.Sums.{is_counter}
use Rattle.cam_locks.proofs.LockLaws.{settled_kept}
use Rattle.cam_locks.proofs.AllLocks.{at_place}
use Rattle.cam_locks.proofs.kept.Kept.settled.Goals as goal

pub returns-then-is_versioned : goal.returns-then-is_versioned
returns-then-is_versioned c =
    let x = c.args.object in
    let start = start_of c.args.self.now.objects x in
    let ns = c.args.self.now.committed.names in
    let os = c.args.self.now.live.ops in
    let next = c.args.self.now.live.next in
    let l = c.index.result.now in
    let fresh : l.stale ≡ false = ap (λ (k : LocksView). k.stale) c.index.ensures ∙ (c.is_versioned.ensures.fresh c.if-is_versioned.true).not_stale l in
    let keeps : KeepsLocks x start ns os next l = at_place c.args.self.now.objects ns os next c.args.self.now.locks.items x l (c.is_versioned.ensures.fresh c.if-is_versioned.true).within c.index.ensures c.requires.locks fresh in
    let kind : is_counter start ≡ false = ap is_counter (sym keeps.start_is ∙ ap (λ (k : LocksView). k.start) c.index.ensures) ∙ c.is_versioned.ensures.kind l c.if-is_versioned.true in
    IfOk-weaker c.settled.result (λ s. s ≡ state_of l.start (last_current (is_current ns os true) l.versions)) (λ s. s ≡ settled_of c.args.self.now.objects ns os x)
    (λ s h. h ∙ ap (λ (t : State). state_of t (last_current (is_current ns os true) l.versions)) keeps.start_is ∙ settled_kept x start ns os next l kind c.requires.rising keeps) c.settled.ensures
