-- A node restarts: what is known of its stopped disk is over, and that of the others stays.
use Rattle.std.proofs.Common.{◌≡◌, ℕ, ◌+◌, eqb, Bool, true, false, if◌then◌else◌, List, ◌∷◌, set}
use Rattle.std.proofs.Common.{Some, None, refl, sym, ap, ◌∙◌, subst}
use Rattle.std.specs.Prelude.{map, slice_get}
use Rattle.std.proofs.lemmas.Bool.{true≢false, ne_eqb, eq-eqb}
use Rattle.cam_event.specs.declared.Event.{Event}
use Rattle.cam_event.specs.Inputs.{Restarts}
use Rattle.cam_node.specs.Log.{Logged}
use Rattle.cam_runs.specs.Halts.{Halting, Restart, after_append, appends, calls_left}
use Rattle.cam_runs.specs.Running.{has_number}
use Rattle.cam_runs.specs.Standing.{Standing, Setting, ended_halt, put}
use Rattle.cam_script.specs.declared.Script.{Script}
use Rattle.cam_histories.specs.InputLaws.{held_setting, halt_of}
use Rattle.cam_histories.specs.Laws.{history_of}
use Rattle.cam_histories.specs.LineLaws.{HasRestarted}
use Rattle.cam_histories.specs.PutIn.{nameless}
use Rattle.cam_histories.proofs.HaltedLists.{without}
use Rattle.cam_histories.proofs.OneInput.{plain_put, put_plain}
use Rattle.cam_cluster.specs.Stopping.{IsAsStopped, ends_by, stopped_at, too_few}
use Rattle.cam_cluster.specs.Works.{NodeFields, WorksFields, AreStoppedIf, HasTellingDisk}
use Rattle.cam_cluster.specs.Works.{IsUnfailing, sites_of}
use Rattle.cam_cluster.proofs.StopTurns.{ended_as, other_calls, other_stopped, own_calls, stood_as}
use Rattle.cam_cluster.proofs.StoppedWorks.{nodes_stopped, unfailing_before}
use Rattle.cam_cluster.proofs.KeptButOne.{KeepsBut}

module _ (script : Script) (st : Standing) (place : ℕ) (works : WorksFields)
    (might : ℕ → Logged → Type 0) (old : NodeFields) (keeps : KeepsBut script st place works might)
    (there : slice_get works.nodes place ≡ Some old) (halts : Halting) (line : ℕ)
    (restarted : ℕ → Bool) (new : NodeFields) (nodes : List NodeFields)
    (are : nodes ≡ set works.nodes place new) (event : Event)
    (none : halt_of (held_setting script.objects halts line restarted) (ended_halt st (place + 1))
    (Restarts (place + 1)) ≡ None)
    (has : HasRestarted script (held_setting script.objects halts line restarted) st (place + 1)
    (sites_of works.nodes) works.outbox.net works.halted new.site event)
    (passes : new.passes ≡ None)
    (less : HasTellingDisk new → HasTellingDisk old) where
  abbrev c : Setting
  c = held_setting script.objects halts line restarted

  abbrev after : Standing
  after = put c (ended_halt st (place + 1)) (Restarts (place + 1))

  is : after ≡ plain_put script c (ended_halt st (place + 1)) (Restarts (place + 1))
  is = put_plain script c (ended_halt st (place + 1)) (Restarts (place + 1)) none

  abbrev w : Bool
  w = appends c.reading st.running.trace (Restarts (place + 1))

  abbrev ended : Standing
  ended = plain_put script c (ended_halt st (place + 1)) (Restarts (place + 1))

  apart : (m : ℕ) → (m ≡ place + 1 → ⊥) → eqb (place + 1) m ≡ false
  apart m away = ne_eqb (place + 1) m (λ e. away (sym e))

  ended_calls : (m : ℕ) → eqb (place + 1) m ≡ false
      → calls_left (Restart (place + 1) ∷ st.turns) m ≡ calls_left st.turns m
  ended_calls m off = rw off refl

  ended_stopped : (m : ℕ) → eqb (place + 1) m ≡ false
      → stopped_at (Restart (place + 1) ∷ st.turns) m ≡ stopped_at st.turns m
  ended_stopped m off = rw off refl

  own_none : None ≡ calls_left (Restart (place + 1) ∷ st.turns) (place + 1)
  own_none = sym (rw (eq-eqb (place + 1) (place + 1) refl) refl)

  awake_now : has_number ended.halted (place + 1) ≡ false
  awake_now =
      without st.halted (place + 1) (place + 1)
      ∙ ap (λ (b : Bool). if b then false else has_number st.halted (place + 1))
      (eq-eqb (place + 1) (place + 1) refl)

  none_ends : calls_left (Restart (place + 1) ∷ st.turns) (place + 1) ≡ None
      → ends_by (Restart (place + 1) ∷ st.turns) (place + 1) w ≡ None
  none_ends none = by w
    where
      by : (b : Bool) → ends_by (Restart (place + 1) ∷ st.turns) (place + 1) b ≡ None
      by true = ap too_few none
      by false = refl

  none_left_now : calls_left ended.turns (place + 1) ≡ None
  none_left_now =
      own_calls (Restart (place + 1) ∷ st.turns) (place + 1) line w (restarted (place + 1))
      ∙ by w
    where
      by : (b : Bool)
          → (if b then after_append (calls_left (Restart (place + 1) ∷ st.turns) (place + 1))
          else calls_left (Restart (place + 1) ∷ st.turns) (place + 1)) ≡ None
      by true = ap after_append (sym own_none)
      by false = sym own_none

  so_before : (m : ℕ) → IsUnfailing works.failed nodes m → IsUnfailing works.failed works.nodes m
  so_before = unfailing_before works.failed works.nodes nodes place old new there are less

  pub restart_stops : AreStoppedIf (IsUnfailing works.failed nodes) script.objects
      after.running.trace after.halted after.turns nodes
  restart_stops =
      subst (λ (z : Standing). AreStoppedIf (IsUnfailing works.failed nodes) script.objects
      z.running.trace z.halted z.turns nodes)
      (sym is) (nodes_stopped _ _ _ _ _ _ _ _ _ _ old _ there are (λ m away. ap (λ h. map
      nameless h) (sym (ap (λ (z : Standing). history_of script.objects z.running.trace m) (sym is)
      ∙ ap (λ (t : List Event). history_of script.objects t m) has.trace ∙ has.stepped.others m (λ
      e. away (sym e ∙ has.stepped.node))))) (λ m away. without st.halted (place + 1) m ∙ ap (λ (b :
      Bool). if b then false else has_number st.halted m) (apart m away)) (λ m away. other_calls
      (Restart (place + 1) ∷ st.turns) _ line w (restarted (place + 1)) _ (λ e. away (sym e)) ∙
      ended_calls m (apart m away)) (λ m away. other_stopped (Restart (place + 1) ∷ st.turns) _
      line w (restarted (place + 1)) _ (λ e. away (sym e)) ∙ ended_stopped m (apart m away))
      (λ (s : ℕ). (s ≡ place + 1 → ⊥) × IsUnfailing works.failed works.nodes s)
      (IsUnfailing works.failed nodes) (λ m away all. (away, so_before m all))
      (λ m all. stood_as _ _ line _ (restarted (place + 1)) (has_number ended.halted) m awake_now
      (ended_as st.turns (has_number ended.halted) (place + 1) m (λ away. subst (λ (b : Bool).
      IsAsStopped b st.turns m) (sym (without st.halted (place + 1) m ∙ ap (λ (b : Bool). if b then
      false else has_number st.halted m) (ne_eqb (place + 1) m away))) (keeps.stops.said m (
        λ e. away
            (sym e),
        so_before m all,
      ))) awake_now) (λ same. none_ends (sym own_none)))
      (λ all. record {
        awake = λ runs. passes ∙ sym none_left_now;
        by_stop = λ said. absurd (true≢false (sym said ∙ awake_now));
      }) keeps.stops)
