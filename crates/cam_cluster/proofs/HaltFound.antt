-- A restart finds the event at which its node halted: what is kept of the run in which that halt
-- was taken.
use Rattle.std.proofs.Common.{◌≡◌, ℕ, ◌+◌, ◌≤◌, ◌<◌, List, ◌++◌, length, Some, Option, refl, sym}
use Rattle.std.proofs.Common.{ap, ◌∙◌, subst, arith}
use Rattle.std.specs.Prelude.{map, reverse, slice_get}
use Rattle.std.specs.List.{AllByRecursion}
use Rattle.std.proofs.lemmas.List.{length-reverse}
use Rattle.cam_event.specs.declared.Event.{Event}
use Rattle.cam_node.specs.declared.found.Found.{Found}
use Rattle.cam_node.specs.Found.{TellsWhich}
use Rattle.cam_node.specs.Halting.{taken}
use Rattle.cam_node.specs.Log.{Logged}
use Rattle.cam_runs.specs.Running.{has_number}
use Rattle.cam_runs.specs.Standing.{Standing, Undecided}
use Rattle.cam_runs.specs.UnderHalts.{IsUnderHalts}
use Rattle.cam_runs.proofs.Undecided.{without_node}
use Rattle.cam_script.specs.declared.Script.{Script}
use Rattle.cam_histories.specs.Found.{IsBeyond, undecided_beside, with_mark_taken}
use Rattle.cam_histories.specs.PutIn.{put_in}
use Rattle.cam_histories.proofs.Alike.{other_histories_stay}
use Rattle.cam_histories.proofs.FoundWhole.{wholes_stand}
use Rattle.cam_histories.proofs.Numbers.{put_in_length}
use Rattle.cam_histories.proofs.UndecidedEvents.{others_stay_undecided}
use Rattle.cam_cluster.specs.declared.works.undecided.OpenHalt.{OpenHalt}
use Rattle.cam_cluster.specs.OpenHalts.{events_found, halts_found, marks_found, open_beside}
use Rattle.cam_cluster.specs.OpenHalts.{open_halt_of, put_in_at}
use Rattle.cam_cluster.specs.Works.{IsSentBefore, KeepsRun, NodeFields, WorksFields, open_halt}
use Rattle.std.proofs.lemmas.Bool.{eq-eqb, true≢false}
use Rattle.cam_runs.specs.Halts.{Turn, calls_left}
use Rattle.cam_cluster.specs.Stopping.{IsAsStopped, stopped_at}
use Rattle.cam_cluster.proofs.StoppedWorks.{stopped_alike}
use Rattle.cam_cluster.proofs.HaltsKept.{halt_stays, open_without, others_all, others_open}
use Rattle.cam_cluster.proofs.PutInWorks.{beside_open, beside_sent, newest_open, put_in_reversed}
use Rattle.cam_cluster.proofs.PutInWorks.{run_sent, sent_front}
use Rattle.cam_cluster.proofs.KeptButOne.{KeepsBut}
use Rattle.cam_cluster.proofs.FoundEvents.{event_is}

module _ (script : Script) (st found : Standing) (place : ℕ) (k : ℕ) (before : List Event)
    (e : Event) (works : WorksFields) (might : ℕ → Logged → Type 0)
    (keeps : KeepsRun script st works might) (under : IsUnderHalts script found)
    (beyond : IsBeyond script.objects k (place + 1) before e st found) where
  abbrev s : ℕ
  s = place + 1

  abbrev p : ℕ
  p = length before

  abbrev u : Undecided
  u = record { node = s; before = p; event = e }

  -- the works' own record of the halt
  newest : open_halt_of s works.undecided ≡ Some (open_halt u)
  newest = ap (open_halt_of s) keeps.undecided ∙ newest_open s st.undecided _ beyond.undecided

  trace_is : found.running.trace ≡ put_in beyond.stands.behind e before
  trace_is = ap (λ (z : Standing). z.running.trace) beyond.stands.is

  marks_are : found.running.marks ≡ with_mark_taken s st.running.marks
  marks_are = ap (λ (z : Standing). z.running.marks) beyond.stands.is

  halted_are : found.halted ≡ st.halted
  halted_are = ap (λ (z : Standing). z.halted) beyond.stands.is

  turns_are : found.turns ≡ st.turns
  turns_are = ap (λ (z : Standing). z.turns) beyond.stands.is

  undecided_are : found.undecided ≡ undecided_beside s p st.undecided
  undecided_are = ap (λ (z : Standing). z.undecided) beyond.stands.is

  few : length st.running.trace < 1000000000
  few =
      let low = keeps.few in
      let same = ap (λ (es : List Event). length es) keeps.events
      ∙ length-reverse st.running.trace in
      omega (arith, low, same)

  long : length found.running.trace ≡ length st.running.trace + 1
  long =
      ap (λ (t : List Event). length t) trace_is
      ∙ longer beyond.stands.behind
      ∙ ap (λ (t : List Event). length t + 1) (sym beyond.stands.was)
    where
      longer : (behind : List Event) → length (put_in behind e before)
          ≡ length (behind ++ before) + 1
      longer behind = put_in_length before e behind

  -- the event stands at its place
  module _ (node : NodeFields) (there : slice_get works.nodes place ≡ Some node) (logged : Logged)
      (answer : Found) (event : Event) (read : might s logged) (says : answer.event ≡ Some event)
      (which : TellsWhich script.objects s node.site.node node.halted_at logged answer) where
    abbrev o : Option OpenHalt
    o = open_halt_of s works.undecided

    events_are : events_found o event works.events ≡ reverse found.running.trace
    events_are =
        ap (λ (x : Option OpenHalt). events_found x event works.events) newest ∙ (λ i. put_in_at p
        (event_is script st found place k before e works might keeps beyond node there logged answer
        event read says which i) ((keeps.events ∙ ap (λ (t : List Event). reverse t)
        beyond.stands.was) i)) ∙ put_in_reversed _ beyond.stands.behind e before (sent_front
        (length st.running.trace) beyond.stands.behind before (subst (AllByRecursion (λ (x : Event).
        IsSentBefore (length st.running.trace) x.got)) beyond.stands.was (run_sent script.objects
        (has_number st.taken) _ keeps.under.run))) few ∙ ap (λ (t : List Event). reverse t) (sym
        trace_is)

    pub found_kept : length works.events + 2 < 1000000000
        → KeepsBut script found place
        (record works {
          undecided = halts_found s o works.undecided;
          events = events_found o event works.events;
          marks = marks_found s o works.marks;
        }) might
    found_kept room = record {
      under = under;
      kept = record {
        one_each = keeps.one_each;
        nodes = keeps.nodes;
        halts = λ q n at away said.
            let off : s ≡ q + 1 → ⊥ =
            λ is. away (let back : q ≡ place = omega (arith, is) in back) in
            halt_stays _ _ _ _ _ (might (q + 1)) (might (q + 1)) (other_histories_stay
            script.objects s (q + 1) before e st found beyond.stands off) (λ v is.
            others_stay_undecided script.objects k s (q + 1) before e st found v beyond
            keeps.under.placed off is) (λ logged was. was) (keeps.halts q n at (ap (λ (hs : List ℕ).
            has_number hs (q + 1)) (sym halted_are) ∙ said));
      };
      eight = keeps.eight;
      whole =
          wholes_stand script.objects s before e st found _ works.outbox.net works.outbox.unput
          works.halted beyond.stands keeps.whole;
      undecided =
          ap (λ (x : Option OpenHalt). open_without s (halts_found s x works.undecided)) newest ∙ ap
          (λ (hs : List OpenHalt). open_without s (open_beside s p hs)) keeps.undecided ∙ ap
          (open_without s) (beside_open s p _ _ _ keeps.sent keeps.under.placed (let low : length
          st.running.trace ≤ length st.running.trace = omega arith in low) few) ∙ sym (others_open s
          (undecided_beside s p st.undecided)) ∙ ap (λ (us : List Undecided). map open_halt
          (without_node s us)) (sym undecided_are);
      sent =
          subst (λ (z : ℕ × List Undecided). AllByRecursion (λ (v : Undecided). IsSentBefore z.0
          v.event.got) (without_node s z.1)) (λ i. (sym long i, sym undecided_are i)) (others_all (λ
          (v : Undecided). IsSentBefore (length st.running.trace + 1) v.event.got) _ _
          (beside_sent _ _ _ _ keeps.sent));
      events = events_are;
      all_marks =
          ap (λ (x : Option OpenHalt). marks_found s x works.marks) newest ∙ ap (with_mark_taken s)
          keeps.all_marks ∙ sym marks_are;
      few =
          let many = ap (λ (es : List Event). length es) events_are ∙ length-reverse
          found.running.trace in
          let more = long in
          let old = ap (λ (es : List Event). length es) keeps.events ∙ length-reverse
          st.running.trace in
          omega (arith, room, many, more, old);
      stops = record {
        said = λ m so. subst (λ (z : List ℕ × List Turn). IsAsStopped (has_number z.0 m) z.1
            m) (λ i. (sym halted_are i, sym turns_are i)) (keeps.stops.said m so.1);
        each = λ q n at so.
            let off : s ≡ q + 1 → ⊥ = λ is. so.0 (sym is) in
            stopped_alike _ _ _ _ _ _ _ _ n (other_histories_stay script.objects s (q +
            1) before e st found beyond.stands off) (ap (λ (hs : List ℕ). has_number hs (q + 1))
            halted_are) (ap (λ (ts : List Turn). calls_left ts (q + 1)) turns_are) (ap (λ (ts :
            List Turn). stopped_at ts (q + 1)) turns_are) (keeps.stops.each q n at so.1);
      };
    }
