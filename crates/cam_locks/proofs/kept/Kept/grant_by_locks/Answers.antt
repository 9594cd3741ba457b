use Rattle.std.proofs.Common.{[], ◌∷◌, ◌++◌, ◌+◌, Option, refl, ap, sym, ◌∙◌, rules}
use Rattle.cam_names.specs.declared.name.Name.{Name}
use Rattle.cam_type.specs.declared.State.{State}
use Rattle.cam_type.specs.Objects.{start_of}
use Rattle.cam_type.specs.Table.{kind_of, fits, state_after, answer_of}
use Rattle.cam_locks.specs.declared.Grant.TheVariants.{Done}
use Rattle.cam_locks.specs.Calls.{grant_by}
use Rattle.cam_locks.specs.Changes.{by_holder}
use Rattle.cam_locks.specs.Granted.{value_in}
use Rattle.cam_locks.specs.Holding.{fresh}
use Rattle.cam_locks.proofs.AllLocks.{all_tidied}
use Rattle.cam_locks.proofs.Indices.{rise_above}
use Rattle.cam_locks.proofs.Grants.{start_kept, kept_at, next_in_range, kept_done, kept_undone, answer_kept}
use Rattle.cam_locks.proofs.ServedStates.{state_kept}
use Rattle.cam_locks.proofs.kept.Kept.grant_by_locks.Goals as goal

pub perform-requires-clause-kind : goal.perform-requires-clause-kind
perform-requires-clause-kind g c = λ l.
    let old = c.args.self.now in
    c.requires.asked.same_kind
    ∙ ap (λ (s : State). kind_of s) (sym (start_kept old.objects old.committed.names old.live.ops old.live.next old.locks.items c.holder-holder.new.locks.items
    c.args.operation.now.object c.requires.fresh.within c.requires.fresh.not_stale c.holder-holder.ensures.tidied c.requires.kept.locks l))

pub perform-requires-clause-fits : goal.perform-requires-clause-fits
perform-requires-clause-fits g c = λ l.
    let old = c.args.self.now in
    let o = c.args.operation.now in
    ap (λ (s : State). fits (kind_of s) o.op) (start_kept old.objects old.committed.names old.live.ops old.live.next old.locks.items c.holder-holder.new.locks.items
    o.object c.requires.fresh.within c.requires.fresh.not_stale c.holder-holder.ensures.tidied c.requires.kept.locks l)
    ∙ c.requires.asked.fit

pub returns-in-Some-clause-granted : goal.returns-in-Some-clause-granted
returns-in-Some-clause-granted g c =
    let old = c.args.self.now in
    let o = c.args.operation.now in
    let held = g.T.DataType.held c.args.server.now in
    let holder_is = sym c.in-Some.is ∙ c.holder-holder.ensures.value old.objects c.requires.kept.rising c.requires.kept.locks in
    record {
      kept = record {
        rising = c.requires.kept.rising;
        range = c.requires.kept.range;
        locks = all_tidied old.objects old.committed.names old.live.ops old.live.next old.locks.items c.holder-holder.new.locks.items
            c.holder-holder.ensures.tidied c.requires.kept.locks;
      };
      objects = refl;
      committed = refl;
      grant = ap (λ (r : Option Name). grant_by r (answer_of (value_in old o) o.op)) holder_is;
      served = ap (λ (r : Option Name). by_holder r held (state_after (value_in old o) o.op)) holder_is;
      ops = ap (λ (r : Option Name). by_holder r old.live.ops (old.live.ops ++ o ∷ [])) holder_is;
      next = ap (λ (r : Option Name). by_holder r old.live.next (o.index + 1)) holder_is;
      err_ops = tt;
      err_next = tt;
    }

pub returns-in_err-answer-clause-granted : goal.returns-in_err-answer-clause-granted
returns-in_err-answer-clause-granted g c =
    let old = c.args.self.now in
    let tidied = all_tidied old.objects old.committed.names old.live.ops old.live.next old.locks.items c.holder-holder.new.locks.items
    c.holder-holder.ensures.tidied c.requires.kept.locks in
    record {
      kept = record {
        rising = c.requires.kept.rising;
        range = c.requires.kept.range;
        locks = all_tidied old.objects old.committed.names old.live.ops old.live.next c.holder-holder.new.locks.items c.perform.new.locks.items
            c.in_err-answer.ensures.err tidied;
      };
      objects = refl;
      committed = refl;
      grant = search rules;
      served = search rules;
      ops = search rules;
      next = search rules;
      err_ops = search rules;
      err_next = search rules;
    }

pub returns-in-Err-clause-granted : goal.returns-in-Err-clause-granted
returns-in-Err-clause-granted g c =
    let old = c.args.self.now in
    record {
      kept = kept_at old.objects old.committed.names old.live.ops old.live.next
          (record { objects = old.objects; committed = old.committed; live = c.push.new.self; locks = c.spoil_at.new.locks })
          refl refl c.in-Err.ensures.err_ops c.in-Err.ensures.err_next c.requires.kept.rising c.requires.kept.range
          (kept_undone old.objects old.committed.names old.live.ops old.live.next
          old.locks.items c.holder-holder.new.locks.items c.perform.new.locks.items c.spoil_at.new.locks.items c.args.operation.now c.in_ok-answer.answer
          c.holder-holder.ensures.tidied c.in_ok-answer.ensures.done c.spoil_at.ensures c.requires.kept.locks);
      objects = refl;
      committed = refl;
      grant = tt;
      served = tt;
      ops = tt;
      next = tt;
      err_ops = c.in-Err.ensures.err_ops;
      err_next = c.in-Err.ensures.err_next;
    }

pub returns-clause-granted : goal.returns-clause-granted
returns-clause-granted g c =
    let old = c.args.self.now in
    let ns = old.committed.names in
    let os = old.live.ops in
    let o = c.args.operation.now in
    let held = g.T.DataType.held c.args.server.now in
    let mid = c.holder-holder.new.locks.items in
    let none = sym (c.holder-holder.ensures.value old.objects c.requires.kept.rising c.requires.kept.locks) ∙ c.in_default.is in
    record {
      kept = kept_at old.objects ns (os ++ o ∷ []) (o.index + 1)
          (record { objects = old.objects; committed = old.committed; live = c.push.new.self; locks = c.perform.new.locks })
          refl refl c.in_default-push.ensures.ops c.in_default-push.ensures.next
          (rise_above 0 os old.live.next o c.requires.asked.index c.requires.kept.rising) (next_in_range o.index c.requires.asked.range)
          (kept_done old.objects ns os old.live.next old.locks.items mid c.perform.new.locks.items o c.in_ok-answer.answer
          c.requires.kept.rising c.requires.asked.index none c.holder-holder.ensures.tidied c.in_ok-answer.ensures.done c.requires.kept.locks);
      objects = refl;
      committed = refl;
      grant =
          ap Done (answer_kept old.objects ns os old.live.next old.locks.items mid c.perform.new.locks.items o c.in_ok-answer.answer
          c.requires.asked.fit c.requires.fresh.within c.requires.fresh.not_stale c.holder-holder.ensures.tidied c.in_ok-answer.ensures.done c.requires.kept.locks)
          ∙ ap (λ (r : Option Name). grant_by r (answer_of (value_in old o) o.op)) (sym none);
      served =
          state_kept old.objects ns os old.live.next old.locks.items mid o (g.T.DataType.held c.perform.new.server) (fresh (start_of old.objects o.object))
          c.requires.fresh.within c.requires.fresh.not_stale c.holder-holder.ensures.tidied (c.in_ok-answer.ensures.served (fresh (start_of old.objects o.object))) c.requires.kept.locks
          ∙ ap (λ (r : Option Name). by_holder r held (state_after (value_in old o) o.op)) (sym none);
      ops = c.in_default-push.ensures.ops ∙ ap (λ (r : Option Name). by_holder r os (os ++ o ∷ [])) (sym none);
      next = c.in_default-push.ensures.next ∙ ap (λ (r : Option Name). by_holder r old.live.next (o.index + 1)) (sym none);
      err_ops = tt;
      err_next = tt;
    }
