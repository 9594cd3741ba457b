-- A node that halted, for histories that differ in the numbers of their letters alone.
use Rattle.std.proofs.Common.{◌⊎◌, inl, inr, ℕ, zero, suc, List, [], ◌∷◌, None}
use Rattle.std.proofs.Common.{sym, ap, ◌∙◌, subst}
use Rattle.std.specs.List.{list_any}
use Rattle.cam_type.specs.declared.ObjectDecl.{ObjectDecl}
use Rattle.cam_know.specs.Known.{nothing}
use Rattle.cam_event.specs.History.{count, is_crash}
use Rattle.cam_event.specs.Inputs.{Restarts}
use Rattle.cam_event.specs.Loads.{no_load}
use Rattle.cam_event.specs.ByDeltas.{Received}
use Rattle.cam_node.specs.Found.{after_restarts}
use Rattle.cam_node.specs.Halting.{IsThrough, IsTakenOf, Restarted, taken}
use Rattle.cam_node.specs.Opened.{IsKnowledge}
use Rattle.cam_histories.specs.Alike.{AreAlike, HistoriesGoThroughAlike, HaltsStandAlike}
use Rattle.cam_histories.specs.Alike.{HaltedLogsKeepAlike}
use Rattle.cam_histories.specs.PutIn.{nameless}
use Rattle.cam_histories.proofs.Alike.{step_stays, logs_keep_alike}
use Rattle.cam_histories.proofs.NamelessNodes.{deeds_alike, held_alike}
use Rattle.cam_histories.proofs.PutIn.{step_alike}
use Rattle.cam_histories.proofs.StepsAlike.{older_alike, newest_alike, steps_alike, taken_alike}

-- a history through halts
pub histories_go_through_alike : HistoriesGoThroughAlike
histories_go_through_alike objects s [] [] same through = tt
histories_go_through_alike objects s [] (d ∷ j) same through = cc
histories_go_through_alike objects s (c ∷ h) [] same through = cc
histories_go_through_alike objects s (c ∷ []) (d ∷ []) same through =
    steps_alike objects s c d [] [] same through
histories_go_through_alike objects s (c ∷ []) (d ∷ l ∷ j) same through = cc
histories_go_through_alike objects s (c ∷ k ∷ h) (d ∷ []) same through = cc
histories_go_through_alike objects s (c ∷ k ∷ h) (d ∷ l ∷ j) same through = (
  steps_alike objects s c d (k ∷ h) (l ∷ j) same through.0,
  by through.1 (histories_go_through_alike objects s (k ∷ h) (l ∷ j) older)
      (histories_go_through_alike objects s h j (older_alike k l h j older)),
)
  where
    older : AreAlike (k ∷ h) (l ∷ j)
    older = older_alike c d (k ∷ h) (l ∷ j) same

    by : (IsThrough objects s (k ∷ h)
        ⊎ (Restarted s c × IsTakenOf objects s h k × IsThrough objects s h))
        → (IsThrough objects s (k ∷ h) → IsThrough objects s (l ∷ j))
        → (IsThrough objects s h → IsThrough objects s j)
        → (IsThrough objects s (l ∷ j)
        ⊎ (Restarted s d × IsTakenOf objects s j l × IsThrough objects s j))
    by (inl whole) one two = inl (one whole)
    by (inr halted) one two = inr (
      ap (λ (x : Received). list_any (is_crash s) x.event.deeds)
          (sym (newest_alike c d (k ∷ h) (l ∷ j) same))
          ∙ halted.0,
      taken_alike objects s k l h j older halted.1,
      two halted.2,
    )

-- a node that halted
pub halts_stand_alike : HaltsStandAlike
halts_stand_alike objects one other whole node event same halted = record {
  through = histories_go_through_alike objects node.number one other same halted.through;
  step = step_stays objects node.number one other whole same halted.step;
  goes_on = halted.goes_on;
  count = halted.count ∙ ap (λ L. count L node.number) (deeds_alike objects one other same);
  before = subst IsKnowledge (held_alike objects one other same) halted.before;
  know =
      halted.know
      ∙ held_alike objects (whole ∷ one) (whole ∷ other) (ap (λ h. nameless whole ∷ h) same);
  knows = halted.knows;
  is_taken = halted.is_taken;
}

-- and its log
restarts_alike : (objects : List ObjectDecl) (s n : ℕ) (one other : List Received)
    → AreAlike one other
    → AreAlike (after_restarts objects s n one) (after_restarts objects s n other)
restarts_alike objects s zero one other same = same
restarts_alike objects s (suc n) one other same = more (restarts_alike objects s n one other same)
  where
    more : AreAlike (after_restarts objects s n one) (after_restarts objects s n other)
        → AreAlike (after_restarts objects s (suc n) one) (after_restarts objects s (suc n) other)
    more rest =
        λ i. nameless (record {
          event =
              step_alike objects s (after_restarts objects s n one)
              (after_restarts objects s n other) (Restarts s) None nothing rest i;
          mail = None;
          load = no_load;
        })
        ∷ rest i

pub halted_logs_keep_alike : HaltedLogsKeepAlike
halted_logs_keep_alike objects s one other whole n logged same (inl keeps) =
    inl (logs_keep_alike objects s (after_restarts objects s n one)
    (after_restarts objects s n other) logged (restarts_alike objects s n one other same) keeps)
halted_logs_keep_alike objects s one other whole n logged same (inr keeps) =
    inr (logs_keep_alike objects s (after_restarts objects s n (taken whole ∷ one))
    (after_restarts objects s n (taken whole ∷ other)) logged
    (restarts_alike objects s n (taken whole ∷ one) (taken whole ∷ other)
    (ap (λ h. nameless (taken whole) ∷ h) same)) keeps)
