-- An input put to a node of works, by the lines that stop its disk.
use Rattle.std.proofs.Common.{◌≡◌, ℕ, ◌+◌, eqb, Bool, true, false, ◌||◌, List, ◌∷◌, map, set}
use Rattle.std.proofs.Common.{Option, Some, None, refl, sym, ap, ◌∙◌, subst}
use Rattle.std.specs.Prelude.{slice_get}
use Rattle.std.proofs.lemmas.Bool.{eq-eqb, ne_eqb, or_left, true≢false}
use Rattle.cam_event.specs.declared.Event.{Event}
use Rattle.cam_event.specs.Inputs.{Input as NodeInput, Mail, node_of}
use Rattle.cam_event.specs.Loads.{Load}
use Rattle.cam_event.specs.Readings.{by_knowledge}
use Rattle.cam_commit.specs.Steps.{is_restarting}
use Rattle.cam_delta.proofs.Growing.{history_there}
use Rattle.cam_log.specs.CutOff.{IsCutOff}
use Rattle.cam_node.specs.Appending.{HasAppended, OpensAfter}
use Rattle.cam_node.specs.Found.{HaltsAt}
use Rattle.cam_node.specs.Halting.{IsStepThrough}
use Rattle.cam_node.specs.Log.{Logged}
use Rattle.cam_runs.specs.Running.{has_number}
use Rattle.cam_runs.specs.Halts.{Turn, Input, appends, calls_left}
use Rattle.cam_runs.specs.Standing.{Standing}
use Rattle.cam_script.specs.declared.Script.{Script}
use Rattle.cam_histories.specs.Laws.{history_of}
use Rattle.cam_histories.specs.PutIn.{nameless}
use Rattle.cam_cluster.specs.declared.works.failing.Failed.{Failed}
use Rattle.cam_cluster.specs.Failing.{KnowsMore}
use Rattle.cam_cluster.specs.Puts.{IsPutAt}
use Rattle.cam_cluster.specs.Stopped.{IsHaltByStop}
use Rattle.cam_cluster.specs.Stopping.{IsAsStopped, ends_by}
use Rattle.cam_cluster.specs.Works.{NodeFields, WorksFields, KeepsRun, AreStoppedIf, IsUnfailing}
use Rattle.cam_cluster.specs.Works.{HasTellingDisk}
use Rattle.cam_cluster.proofs.Failures.{knows_same, unfailing_more}
use Rattle.cam_cluster.proofs.PutNode.{site_is, node_keeps, may_then}
use Rattle.cam_cluster.proofs.StopTurns.{halted_as, other_calls, other_stopped, stood_as}
use Rattle.cam_cluster.proofs.StoppedSteps.{ends_there, halted_by_stop, stood_as_stopped}
use Rattle.cam_cluster.proofs.StoppedWorks.{nodes_stopped, unfailing_before}

module _ (script : Script) (st : Standing) (place : ℕ) (input : NodeInput) (mail : Option Mail)
    (load : Load) (works : WorksFields) (might : ℕ → Logged → Type 0) (old : NodeFields)
    (keeps : KeepsRun script st works might) (put_so : IsPutAt script st place input mail load)
    (there : slice_get works.nodes place ≡ Some old) (new : NodeFields) (nodes : List NodeFields)
    (are : nodes ≡ set works.nodes place new) (line : ℕ) (again : Bool)
    (less : HasTellingDisk new → HasTellingDisk old) where
  abbrev t : List Event
  t = st.running.trace

  abbrev r : ℕ
  r = node_of t input

  abbrev w : Bool
  w = appends (by_knowledge script.objects) t input

  abbrev next : Event
  next = (by_knowledge script.objects).next t input

  abbrev pub turns_now : List Turn
  turns_now = Input r line w again ∷ st.turns

  before_so : (failed : Failed) → KnowsMore works.failed failed → (m : ℕ)
      → IsUnfailing failed nodes m → IsUnfailing works.failed works.nodes m
  before_so failed more m all =
      unfailing_before works.failed works.nodes nodes place old new there are less m
      (unfailing_more works.failed failed nodes m more all)

  passes_is : IsUnfailing works.failed works.nodes (place + 1) → old.passes ≡ calls_left st.turns r
  passes_is so =
      (keeps.stops.each place old there so).awake
      (ap (has_number st.halted) (sym put_so.at) ∙ put_so.coming.awake)
      ∙ ap (calls_left st.turns) (sym put_so.at)

  own_number : old.site.node.number ≡ r
  own_number = (site_is _ _ place _ mail load works might _ keeps put_so there).number

  away_from : (m : ℕ) → (m ≡ place + 1 → ⊥) → r ≡ m → ⊥
  away_from m away e = away (sym e ∙ put_so.at)

  -- its event stands
  pub stood_stops : (event : Event)
      → IsStepThrough script.objects old.site.node new.site.node input mail load event
      → HasAppended script.objects old.site.node input mail load event old.site.entries
      new.site.entries old.passes new.passes
      → AreStoppedIf (IsUnfailing works.failed nodes) script.objects (next ∷ t) st.halted turns_now
      nodes
  stood_stops event step appended =
      nodes_stopped script.objects t (next ∷ t) st.halted st.halted st.turns turns_now place
      works.nodes nodes old new there are
      (λ m away. ap (λ h. map nameless h) (sym (history_there script.objects _ t _ (ne_eqb r m
      (away_from m away)))))
      (λ m away. refl) (λ m away. other_calls st.turns _ line w again _ (away_from m away))
      (λ m away. other_stopped st.turns _ line w again _ (away_from m away))
      (IsUnfailing works.failed works.nodes) (IsUnfailing works.failed nodes)
      (λ m away all. so_before m all)
      (λ m all. stood_as st.turns r line w again (has_number st.halted) m put_so.coming.awake
      (keeps.stops.said m (so_before m all)) (λ same. (done (here m same all)).0))
      (λ all. record {
        awake = λ runs. (done all).1 ∙ ap (calls_left turns_now) put_so.at;
        by_stop = λ said. absurd (true≢false (sym said ∙ ap (has_number st.halted) (sym put_so.at) ∙
            put_so.coming.awake));
      }) keeps.stops
    where
      so_before : (m : ℕ) → IsUnfailing works.failed nodes m
          → IsUnfailing works.failed works.nodes m
      so_before = before_so works.failed (knows_same works.failed)

      here : (m : ℕ) → r ≡ m → IsUnfailing works.failed nodes m
          → IsUnfailing works.failed nodes (place + 1)
      here m same all = subst (IsUnfailing works.failed nodes) (sym same ∙ put_so.at) all

      done : IsUnfailing works.failed nodes (place + 1)
          → (ends_by st.turns r w ≡ None) × (new.passes ≡ calls_left turns_now r)
      done all =
          stood_as_stopped _ (has_number st.taken) t _ _ _ _ _ keeps.under.run
          put_so.coming.may put_so.is_put own_number (node_keeps _ _ place _ mail load works might _
          keeps put_so there) (may_then _ _ place _ _ _ works might _ keeps put_so there) _ _ _
          _ line again _ _ step appended (passes_is (so_before (place + 1) all))

  -- it halted, and its append was cut off by a stop
  pub halted_stops : (failed : Failed) → KnowsMore works.failed failed
      → is_restarting input ≡ false
      → HaltsAt script.objects old.site.node old.site.entries input mail load new.site.node
      new.halted_at
      → (IsUnfailing failed nodes (place + 1)
      → IsCutOff 4 old.passes new.passes (λ calls. OpensAfter calls script.objects old.site.node
      old.site.entries input mail load new.reads))
      → AreStoppedIf (IsUnfailing failed nodes) script.objects t (r ∷ st.halted) turns_now nodes
  halted_stops failed more goes_on halts cut =
      nodes_stopped script.objects t t st.halted (r ∷ st.halted) st.turns turns_now place
      works.nodes nodes old new there are (λ m away. refl) (λ m away. ap (λ (b : Bool). b ||
      has_number st.halted m) (ne_eqb r m (away_from m away))) (λ m away. other_calls st.turns
      _ line w again _ (away_from m away)) (λ m away. other_stopped st.turns _ line w again
      _ (away_from m away))
      (IsUnfailing works.failed works.nodes) (IsUnfailing failed nodes)
      (λ m away all. before_so failed more m all)
      (λ m all. halted_as st.turns r line w again st.halted m put_so.coming.awake
      (keeps.stops.said m (before_so failed more m all)) (λ same. (
        (cut (here m same all)).calls,
        ends (here m same all),
      )))
      (λ all. record {
        awake = λ runs. absurd (true≢false (sym (or_left (eqb r (place + 1)) (has_number
            st.halted (place + 1)) (eq-eqb r (place + 1) put_so.at)) ∙ runs));
        by_stop = λ said. rw (← put_so.at) (halt all);
      }) keeps.stops
    where
      here : (m : ℕ) → r ≡ m → IsUnfailing failed nodes m → IsUnfailing failed nodes (place + 1)
      here m same all = subst (IsUnfailing failed nodes) (sym same ∙ put_so.at) all

      so_before : IsUnfailing failed nodes (place + 1)
          → IsUnfailing works.failed works.nodes (place + 1)
      so_before all = before_so failed more (place + 1) all

      ends : (all : IsUnfailing failed nodes (place + 1))
          → ends_by st.turns r w ≡ Some (cut all).calls
      ends all =
          ends_there _ (has_number st.taken) t _ _ _ _ _ keeps.under.run put_so.coming.may
          put_so.is_put own_number (node_keeps _ _ place _ mail load works might _ keeps
          put_so there) (may_then _ _ place _ _ _ works might _ keeps put_so there) _ _
          _ _ (cut all).did (passes_is (so_before all)) (cut all).had (cut all).fewer

      halt : IsUnfailing failed nodes (place + 1)
          → IsHaltByStop script.objects (history_of script.objects t r) turns_now r
          new.site.node new.halted_at new.reads
      halt all =
          halted_by_stop script.objects (has_number st.taken) t input mail load old.site.node
          old.site.entries keeps.under.run put_so.coming.may put_so.is_put own_number
          (node_keeps script st place input mail load works might old keeps put_so there)
          (may_then script st place input mail load works might old keeps put_so there)
          (cut all).calls new.reads st.turns old.passes line again new.site.node new.halted_at
          goes_on (cut all).did halts (passes_is (so_before all)) (cut all).had (cut all).fewer
          (subst (λ (b : Bool). IsAsStopped b st.turns r) put_so.coming.awake
          (keeps.stops.said r (subst (IsUnfailing works.failed works.nodes) (sym put_so.at)
          (so_before all))))
