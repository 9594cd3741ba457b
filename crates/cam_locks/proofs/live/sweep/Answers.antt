use Rattle.std.proofs.Common.{List, not, subst, sym, ap, ◌∙◌, rules}
use Rattle.std.proofs.lemmas.Fn.{filter_same}
use Rattle.cam_locks.specs.declared.live.Slot.{Slot}
use Rattle.cam_locks.specs.Site.{IndicesRise}
use Rattle.cam_locks.specs.Live.{all_of, live_of}
use Rattle.cam_locks.proofs.DroppedSlots.{live_swept}
use Rattle.cam_locks.proofs.LiveOperations.{swept_rise}
use Rattle.cam_locks.proofs.live.sweep.Goals as goal

pub returns-clause-live : goal.returns-clause-live
returns-clause-live c =
    ap live_of (filter_same _ (λ s. not s.is_dropped) _ (λ x b f' k. search rules) c.args.slots.now.items c.retain.new.self.items c.retain.ensures.filtered) ∙ live_swept c.args.slots.now.items

pub returns-clause-order : goal.returns-clause-order
returns-clause-order c = λ next h.
    subst (λ (ss : List Slot). IndicesRise 0 (all_of ss) next) (sym (filter_same _ (λ s. not s.is_dropped) _ (λ x b f' k. search rules) c.args.slots.now.items c.retain.new.self.items c.retain.ensures.filtered))
    (swept_rise 0 c.args.slots.now.items next h)
