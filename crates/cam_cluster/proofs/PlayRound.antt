-- A round of a play: after the turns of the actions with a body the letters are drained.
use Rattle.std.proofs.Common.{◌≡◌, inl, inr, ℕ, zero, suc, ◌+◌, ◌≤◌, Bool, false, ◌||◌, List}
use Rattle.std.proofs.Common.{length}
use Rattle.std.proofs.Common.{refl, sym, ap, ◌∙◌, subst, arith}
use Rattle.std.specs.Prelude.{nat_lt}
use Rattle.std.proofs.lemmas.Bool.{cases_lt, le-ltb, lt-ltb, or_from, or_left, or_right}
use Rattle.std.proofs.lemmas.List.{length-reverse, take_all}
use Rattle.cam_event.specs.declared.Event.{Event}
use Rattle.cam_event.specs.declared.Mark.{Mark}
use Rattle.cam_node.specs.Log.{Logged}
use Rattle.cam_runs.specs.Halts.{accepted}
use Rattle.cam_runs.specs.HaltedPlaying.{go_in_round, round}
use Rattle.cam_runs.specs.Playing.{in_order}
use Rattle.cam_runs.specs.Running.{waiting_weight}
use Rattle.cam_runs.specs.Standing.{Standing, deliveries, drain}
use Rattle.cam_runs.proofs.DrainsGoOn.{halted_drains_go_on}
use Rattle.cam_script.specs.declared.Statement.{Statement}
use Rattle.cam_histories.specs.InputLaws.{held_setting}
use Rattle.cam_cluster.specs.declared.workers.Workers.{Workers}
use Rattle.cam_cluster.specs.Coming.{AreWorksOfSome}
use Rattle.cam_cluster.specs.Drains.{HasDeliveredSome, HasDrained}
use Rattle.cam_cluster.specs.Making.{AreCounted, HaveMade, halted_in}
use Rattle.cam_cluster.specs.Plays.{HasPlayedRound, HasPlayedSome, IsPlayOfSome, all_turns}
use Rattle.cam_cluster.specs.Plays.{round_part}
use Rattle.cam_cluster.specs.Works.{WorksFields}
use Rattle.cam_cluster.proofs.Counts.{deliveries_counted, halted_most}
use Rattle.cam_cluster.proofs.Drains.{drain_is}
use Rattle.cam_cluster.proofs.EndsSaid.{deliveries_said}
use Rattle.cam_cluster.proofs.Made.{made_as, made_on, stands_behind}
use Rattle.cam_cluster.proofs.PlayPlaced.{deliveries_stay}

-- Letters that were handed over are inputs that were put.
delivered_made : (line : ℕ) (bodies : List (List Statement)) (old new : WorksFields)
    (might may : ℕ → Logged → Type 0) (workers : Workers)
    (has : HasDeliveredSome line old might new may)
    → HaveMade (λ c bs st. deliveries c (length has.ends) st) line bodies old might workers new may
    workers
delivered_made line bodies old new might may workers has = record {
  ends = has.ends;
  made = λ script st halts restarted is bodies_are keeps said.
      let c = held_setting script.objects halts line restarted in
      let said_so = deliveries_said c (accepted st.turns) has.ends st refl said in
      let so = has.delivered script st halts restarted is keeps.runs said_so in
      record {
        counted = deliveries_counted c has.ends st so.due said_so;
        keeps = record {
          runs = so.stands;
          workers = deliveries_stay c (length has.ends) st workers keeps.workers;
        };
      };
}

drained_made : (line : ℕ) (bodies : List (List Statement)) (old new : WorksFields)
    (might may : ℕ → Logged → Type 0) (workers : Workers) → HasDrained line old might new may
    → HaveMade (λ c bs st. drain c st) line bodies old might workers new may workers
drained_made line bodies old new might may workers has = record {
  ends = has.ends;
  made = λ script st halts restarted is bodies_are keeps said.
      let c = held_setting script.objects halts line restarted in
      let said_so = deliveries_said c (accepted st.turns) has.ends st refl said in
      let so = has.drained script st halts restarted is keeps.runs said_so in
      let drained =
      drain_is c (λ z w waits. (halted_drains_go_on script.objects).1 halts line restarted z w
      waits) has.ends st so.due so.over in
      record {
        counted =
            subst (λ (z : Standing). AreCounted st z has.ends) (sym drained)
            (deliveries_counted c has.ends st so.due said_so);
        keeps = record {
          runs = so.stands;
          workers = deliveries_stay c (waiting_weight st.running) st workers keeps.workers;
        };
      };
}

-- whether there are more events or marks, by how many inputs were put
more_of : (events marks inputs halted events_now marks_now : ℕ) → halted ≤ inputs
    → events_now + halted ≡ events + inputs → marks_now ≡ marks + halted
    → (nat_lt events events_now || nat_lt marks marks_now) ≡ nat_lt 0 inputs
more_of events marks zero halted events_now marks_now most are_events are_marks =
    or_from (nat_lt events events_now) (nat_lt marks marks_now)
    (le-ltb events events_now (omega (arith, most, are_events)))
    (le-ltb marks marks_now (omega (arith, most, are_marks)))
more_of events marks (suc inputs) halted events_now marks_now most are_events are_marks =
    elim (cases_lt events events_now) [
      | inl more ↦
          or_left (nat_lt events events_now) (nat_lt marks marks_now)
          (lt-ltb events events_now more)
          ∙ sym (lt-ltb 0 (suc inputs) (omega arith))
      | inr same ↦
          or_right (nat_lt events events_now) (nat_lt marks marks_now)
          (lt-ltb marks marks_now (omega (arith, same, are_events, are_marks)))
          ∙ sym (lt-ltb 0 (suc inputs) (omega arith))
    ]

-- The drain after the turns of all.
module _ (line : ℕ) (bodies : List (List Statement)) (old mid new : WorksFields)
    (might mays may : ℕ → Logged → Type 0) (before after : Workers)
    (some : IsPlayOfSome bodies old might before)
    (had : HaveMade all_turns line bodies old might before mid mays after) where
  pub some_behind_turns : AreWorksOfSome mid mays
  some_behind_turns =
      let behind =
      stands_behind all_turns line _ _ _ _ _ _ after had _ _ some.is_script some.bodies_are
      some.keeps in
      record {
        script = some.script;
        standing =
            all_turns (held_setting some.script.objects behind.halts line (λ s. false))
            some.script.bodies some.standing;
        is_script = some.is_script;
        keeps = behind.put.keeps.runs;
      }

  -- memory ran out in it
  pub drain_wanting : HasDeliveredSome line mid mays new may
      → HasPlayedSome line bodies old might before new may after
  drain_wanting has = record {
    requests = length (in_order before.given.items);
    number = length has.ends;
    made =
        made_as (λ c bs st. deliveries c (length has.ends) (all_turns c bs st))
        (round_part (length (in_order before.given.items)) (length has.ends)) line bodies old new
        might may before after
        (λ script halts restarted st keeps.
        let c = held_setting script.objects halts line restarted in
        ap (λ ns. deliveries c (length has.ends) (go_in_round c script.bodies ns st))
        (sym (take_all (length (in_order before.given.items)) (in_order st.running.bodies)
        (let same = ap (λ given. length (in_order given)) keeps.workers.given.all in
        omega (arith, same)))))
        (made_on all_turns (λ c bs st. deliveries c (length has.ends) st) line bodies old mid new
        might mays may before after after had
        (delivered_made line bodies mid new mays may after has));
  }

  pub round_made : HasDrained line mid mays new may
      → HaveMade round line bodies old might before new may after
  round_made has =
      made_on all_turns (λ c bs st. drain c st) line bodies old mid new might mays may before after
      after had (drained_made _ _ _ _ _ _ _ has)

  -- and whether an input was put is told by the events and the marks
  pub round_told : (b : Bool)
      → b ≡ (nat_lt (length old.events) (length new.events)
      || nat_lt (length old.marks) (length new.marks))
      → HasDrained line mid mays new may
      → HasPlayedRound line bodies old might before b new may after
  round_told b told has =
      let made = round_made has in
      let behind =
      stands_behind round line bodies old new might may before after made some.script some.standing
      some.is_script some.bodies_are some.keeps in
      let st = some.standing in
      let now =
      round (held_setting some.script.objects behind.halts line (λ s. false)) some.script.bodies
      st in
      let events_old : length old.events ≡ length st.running.trace =
      ap (λ (es : List Event). length es) some.keeps.runs.events
      ∙ length-reverse st.running.trace in
      let events_new : length new.events ≡ length now.running.trace =
      ap (λ (es : List Event). length es) behind.put.keeps.runs.events
      ∙ length-reverse now.running.trace in
      let marks_old : length old.marks ≡ length st.running.marks =
      ap (λ (ms : List Mark). length ms) some.keeps.runs.all_marks in
      let marks_new : length new.marks ≡ length now.running.marks =
      ap (λ (ms : List Mark). length ms) behind.put.keeps.runs.all_marks in
      let events = behind.put.counted.events in
      let marks = behind.put.counted.marks in
      record {
        made = made;
        whether =
            told
            ∙ more_of (length old.events) (length old.marks) (length made.ends)
            (halted_in made.ends) (length new.events) (length new.marks) (halted_most made.ends)
            (omega (arith, events_old, events_new, events))
            (omega (arith, marks_old, marks_new, marks));
      }
