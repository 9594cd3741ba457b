-- The actions that work at a body, as they are kept while events come and are taken in.
use Rattle.std.proofs.Common.{◌≡◌, ℕ, ◌≤◌, ◌+◌, ◌-◌, true, false, cond, List, [], ◌++◌, length}
use Rattle.std.proofs.Common.{take, drop, reverse, length-drop, sym, ap, ◌∙◌, subst, arith}
use Rattle.std.specs.BTreeMap as maps
use Rattle.std.specs.BTreeMap.{BTreeMap, IsOrdered, is_at}
use Rattle.std.specs.BTreeSet as sets
use Rattle.std.specs.BTreeSet.{contains}
use Rattle.std.specs.Ordering.{is_eq}
use Rattle.std.specs.Map.{keys_of, lookup}
use Rattle.std.proofs.lemmas.List.{length-append, length-reverse, reverse-append, reverse-reverse}
use Rattle.std.proofs.lemmas.List.{take-append-drop, take-append-le, take_all}
use Rattle.cam_names.specs.declared.name.Name.{Name}
use Rattle.cam_names.specs.Names.{name_cmp}
use Rattle.cam_event.specs.declared.Event.{Event}
use Rattle.cam_runs.specs.Standing.{Standing}
use Rattle.cam_cluster.specs.declared.workers.Workers.{Workers}
use Rattle.cam_cluster.specs.ActionViews.{HasSeen}
use Rattle.cam_cluster.specs.Workers.{AreWorkers, IsGiven, IsTableOf, first_events}
use Rattle.cam_cluster.specs.Over.{is_over}
use Rattle.cam_cluster.proofs.Playing.{none_playing, one_passed_over, playing_stay, same_playing}

-- all events are the first ones, as many as there are
pub all_first : (t : List Event) → first_events (length t) t ≡ t
all_first t =
    ap (λ (es : List Event). reverse es)
    (take_all (length t) (reverse t) (let long = length-reverse t in omega (arith, long)))
    ∙ reverse-reverse t

-- the first events, and those after them
pub first_and_others : (n : ℕ) (events t : List Event) → events ≡ reverse t
    → reverse (drop n events) ++ first_events n t ≡ first_events (length events) t
first_and_others n events t is =
    ap (λ (es : List Event). reverse (drop n events) ++ reverse (take n es)) (sym is)
    ∙ sym (reverse-append (take n events) (drop n events))
    ∙ ap (λ (es : List Event). reverse es)
    (take-append-drop n events ∙ sym (take_all (length events) events (omega arith)))
    ∙ ap (λ (es : List Event). reverse (take (length events) es)) is

-- further events change nothing of the first ones
pub first_stay : (n : ℕ) (more t : List Event) → n ≤ length t
    → first_events n (more ++ t) ≡ first_events n t
first_stay n more t within =
    ap (λ (es : List Event). reverse (take n es)) (reverse-append more t)
    ∙ ap (λ (es : List Event). reverse es)
    (take-append-le n (reverse t) (reverse more)
    (let long = length-reverse t in omega (arith, long, within)))

-- Further events leave them as they were, over the first ones.
pub workers_stay : (old new : Standing) (workers : Workers) (more : List Event)
    → new.running.bodies ≡ old.running.bodies → new.running.trace ≡ more ++ old.running.trace
    → AreWorkers old workers → AreWorkers new workers
workers_stay old new workers more bodies trace are = record {
  given = rw bodies are.given;
  playing = playing_stay _ _ _ _ bodies trace are.playing;
  within =
      let within = are.within in
      let long : length new.running.trace ≡ length more + length old.running.trace =
      ap (λ (t : List Event). length t) trace ∙ length-append more old.running.trace in
      omega (arith, within, long);
  seen = rw (ap (first_events workers.events) trace ∙ first_stay _ more _ are.within) are.seen;
}

-- as many events as are given in order
pub as_many : (events t : List Event) → events ≡ reverse t → length events ≡ length t
as_many events t is = ap (λ (es : List Event). length es) is ∙ length-reverse t

-- the others as a slice has them
all_behind : (n : ℕ) (events : List Event)
    → take (length events - n) (drop n events) ≡ drop n events
all_behind n events =
    take_all (length events - n) (drop n events)
    (let long = length-drop n events in omega (arith, long))

-- the same bodies are given, and the same of them are in the table
same_given : (given : List (Name × ℕ)) (old new : Workers) → new.given.items ≡ old.given.items
    → new.placed ≡ old.placed → new.bodies ≡ old.bodies → IsGiven given old → IsGiven given new
same_given given old new items placed bodies is = record {
  all = items ∙ is.all;
  once = is.once;
  within = let within = is.within in omega (arith, within, placed);
  table = rw bodies (rw placed is.table);
}

-- The same workers stand, with room for more.
pub same_workers : (st : Standing) (old new : Workers) → new.given.items ≡ old.given.items
    → new.placed ≡ old.placed → new.bodies ≡ old.bodies → new.playing ≡ old.playing
    → new.seen ≡ old.seen → new.events ≡ old.events → AreWorkers st old → AreWorkers st new
same_workers st old new items placed bodies playing seen events are = record {
  given = same_given _ _ _ items placed bodies are.given;
  playing = same_playing _ _ _ bodies playing are.playing;
  within = let within = are.within in omega (arith, within, events);
  seen = rw seen (rw events are.seen);
}

-- One that is over does not play on.
pub passed_over : (st : Standing) (a : Name) (old new : Workers)
    → new.given.items ≡ old.given.items → new.placed ≡ old.placed → new.bodies ≡ old.bodies
    → new.seen ≡ old.seen → new.events ≡ old.events → sets.IsOrdered name_cmp new.playing
    → ((q : Name) → contains name_cmp new.playing q
    ≡ cond (is_eq (name_cmp a q)) false (contains name_cmp old.playing q))
    → is_over st.running.trace a ≡ true → AreWorkers st old → AreWorkers st new
passed_over st a old new items placed bodies seen events ordered taken over are = record {
  given = same_given _ _ _ items placed bodies are.given;
  playing = one_passed_over _ _ _ _ bodies ordered taken over are.playing;
  within = let within = are.within in omega (arith, within, events);
  seen = rw seen (rw events are.seen);
}

-- The events that were missing are taken in.
pub taken_in : (st : Standing) (old new : Workers) (events : List Event)
    → events ≡ reverse st.running.trace → new.given.items ≡ old.given.items
    → new.placed ≡ old.placed → new.bodies ≡ old.bodies → new.playing ≡ old.playing
    → new.events ≡ length events
    → HasSeen (reverse (take (length events - old.events) (drop old.events events))
    ++ first_events old.events st.running.trace) new.seen
    → AreWorkers st old → AreWorkers st new
taken_in st old new events is items placed bodies playing counted seen are = record {
  given = same_given st.running.bodies old new items placed bodies are.given;
  playing = same_playing st old new bodies playing are.playing;
  within = let many = as_many events st.running.trace is in omega (arith, many, counted);
  seen =
      rw (← (ap (λ (es : List Event). reverse es ++ first_events old.events st.running.trace)
      (all_behind old.events events) ∙ first_and_others old.events events st.running.trace is ∙ ap
      (λ n. first_events n st.running.trace) (sym counted))) seen;
}

-- No event is taken in, and no body is in the table.
pub forgotten : (st : Standing) (old new : Workers) → new.given.items ≡ old.given.items
    → new.placed ≡ 0 → maps.IsEmpty new.bodies → IsOrdered name_cmp new.bodies
    → sets.IsEmpty new.playing → sets.IsOrdered name_cmp new.playing
    → new.events ≡ 0 → HasSeen [] new.seen
    → IsGiven st.running.bodies old → AreWorkers st new
forgotten st old new items placed bare ordered none set_ordered events seen is = record {
  given = record {
    all = items ∙ is.all;
    once = is.once;
    within = omega (arith, placed);
    table =
        rw placed (record {
          names = ap (λ (es : List (Name × ℕ)). keys_of es) bare;
          ordered = ordered;
          at = λ a. ap (λ (es : List (Name × ℕ)). lookup (is_at (name_cmp a)) es) bare;
        });
  };
  playing = none_playing _ _ bare none set_ordered;
  within = omega (arith, events);
  seen = rw events seen;
}
