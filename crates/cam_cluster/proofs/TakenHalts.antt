-- The log of a node that halted, in the run and in the one in which its halt was taken.
use Rattle.std.proofs.Common.{◌≡◌, ◌⊎◌, inl, inr, ℕ, List, ◌∷◌, length, sym, ap, ◌∙◌, subst}
use Rattle.std.specs.Prelude.{map}
use Rattle.std.proofs.lemmas.Option.{same_Some}
use Rattle.cam_event.specs.declared.Event.{Event}
use Rattle.cam_event.specs.ByDeltas.{Received}
use Rattle.cam_node.specs.Halting.{taken}
use Rattle.cam_node.specs.Keeping.{IsLogOf}
use Rattle.cam_node.specs.Log.{Logged}
use Rattle.cam_runs.specs.Standing.{Standing, Undecided}
use Rattle.cam_script.specs.declared.Script.{Script}
use Rattle.cam_histories.specs.Found.{IsBeyond}
use Rattle.cam_histories.specs.Laws.{history_of}
use Rattle.cam_histories.specs.PutIn.{nameless}
use Rattle.cam_histories.specs.Undecided.{received_at}
use Rattle.cam_histories.proofs.Alike.{logs_keep_alike}
use Rattle.cam_histories.proofs.UndecidedEvents.{found_events_are_undecided}
use Rattle.cam_cluster.specs.Disks.{KeepsHistoryOf}
use Rattle.cam_cluster.specs.Works.{IsHaltOf, NodeFields}

module _ (script : Script) (st found : Standing) (s k : ℕ) (before : List Event) (e : Event)
    (node : NodeFields) (may : Logged → Type 0)
    (beyond : IsBeyond script.objects k s before e st found)
    (halt : IsHaltOf script.objects st.running.trace st.undecided s node may) where
  abbrev u : Undecided
  u = record { node = s; before = length before; event = e }

  abbrev history : List Received
  history = history_of script.objects st.running.trace s

  -- The run has what was taken of its event, but for the number of the letter.
  pub taken_alike : nameless (taken halt.whole)
      ≡ nameless (received_at script.objects st.running.trace u)
  taken_alike =
      halt.alike
      ∙ ap (λ v. nameless (received_at script.objects st.running.trace v))
      (same_Some halt.halt u (sym halt.newest ∙ beyond.undecided))

  -- A log that has the event keeps the history of the run in which it was taken.
  pub taken_log : (logged : Logged) → IsLogOf script.objects s (taken halt.whole ∷ history) logged
      → IsLogOf script.objects s (history_of script.objects found.running.trace s) logged
  taken_log logged is =
      rw (found_events_are_undecided script.objects k s before e st found u beyond beyond.undecided)
      (logs_keep_alike script.objects s (taken halt.whole ∷ history) (received_at script.objects
      st.running.trace u ∷ history) logged (ap (λ r. r ∷ map nameless history) taken_alike) is)

  -- So what may be read of it keeps the history of the one run or of the other.
  pub either_kept : (logged : Logged) → may logged
      → KeepsHistoryOf script s st logged ⊎ KeepsHistoryOf script s found logged
  either_kept logged read = by (halt.either logged read)
    where
      by : IsLogOf script.objects s history logged
          ⊎ IsLogOf script.objects s (taken halt.whole ∷ history) logged
          → KeepsHistoryOf script s st logged ⊎ KeepsHistoryOf script s found logged
      by (inl is) = inl is.keeps
      by (inr is) = inr (taken_log logged is).keeps
