use Rattle.std.proofs.Common.{◌≡◌, List, ◌<◌, not, false, length, refl, ap, sym, ◌∙◌, subst}
use Rattle.std.specs.Prelude.{filter, IfNone}
use Rattle.cam_locks.specs.declared.LiveOp.{LiveOp}
use Rattle.cam_locks.specs.Members.{In}
use Rattle.cam_locks.specs.Calls.{is_below}
use Rattle.cam_locks.specs.Live.{other}
use Rattle.cam_locks.proofs.Indices.{rise_filter}
use Rattle.cam_locks.proofs.Members.{in_filter}
use Rattle.cam_locks.proofs.FewerOperations.{fewer}
use Rattle.cam_locks.proofs.DroppedSlots.{dropped_below, none_below}
use Rattle.cam_locks.proofs.EachObject.{SpoiledWhere, none_spoiled, spoiled_on, spoiled_off}
use Rattle.cam_locks.proofs.AllLocks.{all_gone}
use Rattle.cam_locks.proofs.Grants.{kept_at}
use Rattle.cam_locks.proofs.kept.Kept.abort.Goals as goal
use Rattle.cam_locks.proofs.kept.Kept.abort.Goals.{then-spoils, else-spoils}

pub loop-operation-init : goal.loop-operation-init
loop-operation-init c = record {
  among = λ o h. h;
  above = λ i. filter (λ o. not (is_below c.args.name.now o)) c.args.self.now.live.ops;
  next = λ i. c.args.self.now.live.next;
  spoiled = none_spoiled c.contains-spoils.result c.args.name.now c.args.self.now.live.ops c.args.self.now.locks.items;
}

pub loop-operation-smaller : goal.loop-operation-smaller
loop-operation-smaller c =
    subst (λ (ps : List LiveOp). length ps < length c.loop-operation.live.ops) (sym c.drop_one.ensures.ops) (fewer c.loop-operation.live.ops c.in-Some.operation c.in-Some.ensures.found.0)

pub loop-operation-preserved : goal.loop-operation-preserved
loop-operation-preserved c =
    let inv = c.loop-operation.invariant in
    let n = c.args.name.now in
    let os = c.args.self.now.live.ops in
    let ops = c.loop-operation.live.ops in
    let f = c.in-Some.operation in
    let there = c.in-Some.ensures.found.0 in
    let rise = c.requires.rising in
    let b = c.contains-spoils.result in
    let old = c.args.self.now.locks.items in
    let mid = c.loop-operation.locks.items in
    record {
      among = λ o h. inv.among o (in_filter (other f.index) o ops (subst (λ (ps : List LiveOp). In o ps) c.drop_one.ensures.ops h)).0;
      above = ap (filter (λ o. not (is_below n o))) c.drop_one.ensures.ops ∙ dropped_below n os ops c.args.self.now.live.next f rise inv.among there c.in-Some.ensures.found.1 ∙ inv.above;
      next = c.drop_one.ensures.next ∙ inv.next;
      spoiled = subst (λ (ps : List LiveOp). SpoiledWhere b n os ps old c.if-spoils.locks.items) (sym c.drop_one.ensures.ops) (elim c.if-spoils.branch [
        | then-spoils w ↦
            subst (λ v. SpoiledWhere b n os (filter (other f.index) ops) old v.items) (sym w.locks-is)
            (spoiled_on b n os ops c.args.self.now.live.next f old mid w.spoil_at.new.locks.items w.if-spoils.true rise inv.among there inv.spoiled w.spoil_at.ensures)
        | else-spoils w ↦
            subst (λ v. SpoiledWhere b n os (filter (other f.index) ops) old v.items) (sym w.locks-is)
            (spoiled_off b n os ops (filter (other f.index) ops) old mid w.if-spoils.false inv.spoiled)
      ]);
    }

pub returns : goal.returns
returns c =
    let inv = c.loop-operation.invariant in
    let old = c.args.self.now in
    let ns = old.committed.names in
    let os = old.live.ops in
    let ops = c.loop-operation.live.ops in
    let n = c.args.name.now in
    let new = c.loop-operation.locks in
    let none = subst (λ r. IfNone r ((o : LiveOp) → In o ops → is_below n o ≡ false)) c.in_default.is c.one_below.ensures.none in
    let ops_is = sym (none_below n ops none) ∙ inv.above in
    record {
      kept = kept_at old.objects ns (filter (λ o. not (is_below n o)) os) old.live.next
          (record { objects = old.objects; committed = old.committed; live = c.loop-operation.live; locks = new }) refl refl ops_is inv.next
          (rise_filter (λ o. not (is_below n o)) 0 os old.live.next c.requires.rising) c.requires.range
          (all_gone c.contains-spoils.result old.objects ns os ops old.live.next old.locks.items new.items n c.contains-spoils.ensures inv.spoiled none
          c.requires.rising c.requires.locks);
      objects = refl;
      committed = refl;
      ops = ops_is;
      next = inv.next;
    }
