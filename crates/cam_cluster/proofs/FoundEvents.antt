-- The event that a restart finds is the event of the halt, and the log that was read keeps it.
use Rattle.std.proofs.Common.{◌≡◌, ℕ, zero, ◌+◌, List, length, Some, Option, ap, ◌∙◌, subst}
use Rattle.std.specs.Prelude.{slice_get}
use Rattle.cam_event.specs.declared.Event.{Event}
use Rattle.cam_event.specs.ByDeltas.{Received}
use Rattle.cam_node.specs.declared.found.Found.{Found}
use Rattle.cam_node.specs.Found.{IsFoundEvent, TellsWhich}
use Rattle.cam_node.specs.Halting.{taken}
use Rattle.cam_node.specs.Keeping.{IsLogOf}
use Rattle.cam_node.specs.Log.{Logged}
use Rattle.cam_runs.specs.Standing.{Standing, Undecided}
use Rattle.cam_script.specs.declared.Script.{Script}
use Rattle.cam_histories.specs.Found.{IsBeyond}
use Rattle.cam_histories.specs.Laws.{history_of}
use Rattle.cam_histories.specs.PutIn.{nameless}
use Rattle.cam_histories.specs.Undecided.{received_at}
use Rattle.cam_cluster.specs.OpenHalts.{taken_with}
use Rattle.cam_cluster.specs.Works.{IsHaltOf, KeepsRun, NodeFields, WorksFields}
use Rattle.cam_cluster.proofs.TakenHalts.{taken_alike, taken_log}

-- the event that the works put in
taken_is : (g : Event) (c u : Received) → g ≡ (taken c).event
    → nameless (taken c) ≡ nameless u → taken_with u.event.got g ≡ u.event
taken_is g c u is alike =
    ap (taken_with u.event.got) is
    ∙ ap (λ (r : Received). taken_with u.event.got r.event) alike
    ∙ ap (λ sent. record u.event { sent = sent })
    (ap (λ (r : Received). r.event.sent) alike)

module _ (script : Script) (st found : Standing) (place : ℕ) (k : ℕ) (before : List Event)
    (e : Event) (works : WorksFields) (might : ℕ → Logged → Type 0)
    (keeps : KeepsRun script st works might)
    (beyond : IsBeyond script.objects k (place + 1) before e st found) where
  abbrev s : ℕ
  s = place + 1

  abbrev u : Undecided
  u = record { node = s; before = length before; event = e }

  -- the event stands at its place
  module _ (node : NodeFields) (there : slice_get works.nodes place ≡ Some node) where
    abbrev halt : IsHaltOf script.objects st.running.trace st.undecided s node (might s)
    halt = keeps.halts place node there beyond.stands.halted

    -- the log that was read has it
    module _ (logged : Logged) (answer : Found) (event : Event)
        (read : might s logged) (says : answer.event ≡ Some event)
        (which : TellsWhich script.objects s node.site.node node.halted_at logged answer) where
      told : IsFoundEvent script.objects s (history_of script.objects st.running.trace s) halt.whole
          zero logged (Some event)
      told =
          subst (IsFoundEvent script.objects s (history_of script.objects st.running.trace s)
          halt.whole zero logged) says
          (subst (λ (o : Option Event). TellsWhich script.objects s node.site.node o logged answer)
          halt.kept which (history_of script.objects st.running.trace s) halt.whole zero halt.halted
          (halt.either logged read)).event

      pub event_is : taken_with e.got event ≡ e
      event_is =
          taken_is _ halt.whole _ told.0 (taken_alike script st found s k before e node (might s)
          beyond halt)

      pub log_is : IsLogOf script.objects s (history_of script.objects found.running.trace s) logged
      log_is = taken_log script st _ _ k before e node (might s) beyond halt _ told.1
