use Rattle.std.proofs.Common.{ℕ, ◌≤◌, refl, ap, sym, subst}
use Rattle.cam_locks.specs.Site.{AreFit}
use Rattle.cam_locks.proofs.Indices.{rise_later}
use Rattle.cam_locks.proofs.AllLocks.{all_later}
use Rattle.cam_locks.proofs.Grants.{kept_at}
use Rattle.cam_locks.proofs.table.LockTable.raise.Goals as goal

pub invariant_of-self : goal.invariant_of-self
invariant_of-self c =
    let t = c.self.inside in
    let le = subst (λ (n : ℕ). n ≤ c.args.next) (sym (ap (λ v. v.site.next) c.self.view_is)) c.requires.order in (
      kept_at t.kept.objects t.kept.committed.names t.kept.live.ops c.args.next
          (record { objects = t.kept.objects; committed = t.kept.committed; live = c.raise.new.self; locks = t.kept.locks })
          refl refl c.raise.ensures.ops c.raise.ensures.next
          (rise_later 0 t.kept.live.ops t.kept.live.next c.args.next le c.self.invariant.0.rising) c.requires.range
          (all_later t.kept.objects t.kept.committed.names t.kept.live.ops t.kept.live.next c.args.next t.kept.locks.items le c.self.invariant.0.locks),
      subst (AreFit t.kept.objects t.node) (sym c.raise.ensures.ops) c.self.invariant.1,
    )
