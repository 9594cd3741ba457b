use Rattle.std.proofs.Common.{[], ◌∷◌, ◌++◌, ◌+◌, refl}
use Rattle.cam_locks.proofs.AllLocks.{all_spoiled_at}
use Rattle.cam_locks.proofs.Indices.{rise_above}
use Rattle.cam_locks.proofs.Grants.{kept_at, next_in_range}
use Rattle.cam_locks.proofs.kept.Kept.append.Goals as goal

pub returns : goal.returns
returns c =
    let old = c.args.self.now in
    let o = c.args.operation.now in
    record {
      kept = kept_at old.objects old.committed.names (old.live.ops ++ o ∷ []) (o.index + 1)
          (record { objects = old.objects; committed = old.committed; live = c.push.new.self; locks = c.spoil_at.new.locks })
          refl refl c.in_ok-push.ensures.ops c.in_ok-push.ensures.next
          (rise_above 0 old.live.ops old.live.next o c.requires.follows.index c.requires.kept.rising) (next_in_range o.index c.requires.follows.range)
          (all_spoiled_at old.objects old.committed.names old.live.ops old.live.next old.locks.items c.spoil_at.new.locks.items o
          c.requires.kept.rising c.requires.follows.index c.spoil_at.ensures c.requires.kept.locks);
      objects = refl;
      committed = refl;
      ops = c.in_ok-push.ensures.ops;
      next = c.in_ok-push.ensures.next;
      err_ops = tt;
      err_next = tt;
    }
