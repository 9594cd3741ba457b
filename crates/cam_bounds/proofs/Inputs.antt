-- What an input costs: one event, and the weight of its letters. A drain costs nothing.
use Rattle.std.proofs.Common.{◌≡◌, inl, inr, ℕ, zero, suc, ◌+◌, ◌≤◌, eqb, Bool, true, false, ◌||◌, List, [], ◌∷◌, length, Option, Some, None, refl, subst, sym, arith}
use Rattle.std.specs.List.{list_any}
use Rattle.cam_names.specs.declared.name.Name.{Name}
use Rattle.cam_event.specs.declared.Event.{Event}
use Rattle.cam_event.specs.declared.LetterId.{LetterId}
use Rattle.cam_event.specs.ByPast.{next as next_past}
use Rattle.cam_event.specs.Inputs.{node_of, Input, Receives}
use Rattle.cam_event.specs.Readings.{by_pasts}
use Rattle.cam_event.specs.Taken.{taken_of}
use Rattle.cam_event.proofs.Members.{In}
use Rattle.cam_script.specs.declared.Script.{Script}
use Rattle.cam_script.specs.SoFar.{Size}
use Rattle.cam_runs.specs.Halts.{accepted, appends}
use Rattle.cam_runs.specs.Playing.{is_stop_of}
use Rattle.cam_runs.specs.RequestsLeft.{sum_in}
use Rattle.cam_runs.specs.Running.{has_number, ids_from, letters, waiting_weight, weight_from, weight_of, Running}
use Rattle.cam_runs.specs.Standing.{after_input, deliver, deliver_waiting, deliveries, drain, put, waiting, Setting, Standing}
use Rattle.cam_runs.proofs.Delivering.{letters_sent}
use Rattle.cam_runs.proofs.Drained.{is_done, new_weigh, parts_weigh, pasts_fall, same_weight, sent_weigh}
use Rattle.cam_runs.proofs.HaltedDrained.{halted_lowers}
use Rattle.cam_runs.proofs.HaltedPuts.{pasts}
use Rattle.cam_runs.proofs.Light.{sent_weight}
use Rattle.cam_runs.proofs.LinesSpend.{put_keeps, Keeps}
use Rattle.cam_runs.proofs.RequestsKept.{flag_lowers, no_more, sum_lowers}
use Rattle.cam_bounds.proofs.Dues.{all_due, due, due_lowers, StaysStopped}
use Rattle.cam_bounds.proofs.Weights.{next_light}

-- LETTERS: those of which as many are delivered or lost weigh no more.
abbrev pub DoesMore : Running → Running → Type 0
DoesMore r new = (k : ℕ) → is_done r k ≡ true → is_done new k ≡ true

most_equal : (x y : ℕ) → x ≡ y → x ≤ y
most_equal x y h = omega (arith, h)

weigh_less : (r new : Running) (k : ℕ) (ls : List LetterId) → DoesMore r new
    → ((l : LetterId) → In l ls → weight_of new.trace l ≡ weight_of r.trace l)
    → weight_from new k ls ≤ weight_from r k ls
weigh_less r new k [] done same = no_more 0
weigh_less r new k (l ∷ ls) done same =
    let here = flag_lowers (is_done r k) (is_done new k) (weight_of r.trace l)
    (weight_of new.trace l) (done k) (most_equal _ _ (same l (inl refl))) in
    let rest = weigh_less r new (k + 1) ls done (λ x there. same x (inr there)) in
    omega (arith, here, rest)

-- one event more
event_weighs : (r : Running) (e : Event)
    → waiting_weight (record r { trace = e ∷ r.trace }) ≤ waiting_weight r + sent_weight e.sent
event_weighs r e =
    let new : Running = record r { trace = e ∷ r.trace } in
    let all = parts_weigh new 1 (sent_weight e.sent) (letters r.trace)
    (ids_from (length r.trace) 0 e.sent)
    (λ j. new_weigh new (length r.trace) 0 j e.sent (λ q. sent_weigh e r.trace q)) in
    let old = weigh_less r new 1 (letters r.trace) (λ k h. h)
    (λ l has. same_weight e r.trace l (letters_sent r.trace l has)) in
    omega (arith, all, old)

-- one letter more is delivered
delivered_weighs : (r : Running) (k : ℕ)
    → waiting_weight (record r { delivered = k ∷ r.delivered }) ≤ waiting_weight r
delivered_weighs r k =
    weigh_less r (record r { delivered = k ∷ r.delivered }) 1 (letters r.trace)
    (λ j h. behind (eqb k j) (has_number r.delivered j) (has_number r.lost j) h) (λ l has. refl)
  where
    behind : (a b c : Bool) → (b || c) ≡ true → ((a || b) || c) ≡ true
    behind true b c h = refl
    behind false b c h = h

-- one letter more is lost
pub lost_weighs : (r : Running) (k : ℕ)
    → waiting_weight (record r { lost = k ∷ r.lost }) ≤ waiting_weight r
lost_weighs r k =
    weigh_less r (record r { lost = k ∷ r.lost }) 1 (letters r.trace)
    (λ j h. behind (has_number r.delivered j) (eqb k j) (has_number r.lost j) h) (λ l has. refl)
  where
    behind : (a b c : Bool) → (a || c) ≡ true → (a || (b || c)) ≡ true
    behind true b c h = refl
    behind false true c h = refl
    behind false false c h = h

-- WHAT AN INPUT does: it counts, makes an event at most, and no action runs again that was stopped.
pub record Takes (old new : Standing) : Type 0 where
  pub count : accepted new.turns ≡ accepted old.turns + 1
  pub events : length new.running.trace ≤ length old.running.trace + 1
  pub stopped : StaysStopped old.running.trace new.running.trace
  pub keeps : Keeps old new
  pub halted : (s : ℕ) → has_number old.halted s ≡ true → has_number new.halted s ≡ true

any_later : (b c : Bool) → c ≡ true → (b || c) ≡ true
any_later true c h = refl
any_later false c h = h

input_takes : (line : ℕ) (again : Bool) (st : Standing) (s : ℕ) (e : Event) (w : Bool)
    (o : Option Bool) → Keeps st (after_input line again st s e w o)
    → Takes st (after_input line again st s e w o)
input_takes line again st s e w None keeps = record {
  count = refl;
  events = omega arith;
  stopped = λ a h. any_later (is_stop_of a e) (list_any (is_stop_of a) st.running.trace) h;
  keeps = keeps;
  halted = λ m h. h;
}
input_takes line again st s e w (Some true) keeps = record {
  count = refl;
  events = omega arith;
  stopped = λ a h.
      any_later (is_stop_of a (taken_of e)) (list_any (is_stop_of a) st.running.trace) h;
  keeps = keeps;
  halted = λ m h. any_later (eqb s m) (has_number st.halted m) h;
}
input_takes line again st s e w (Some false) keeps = record {
  count = refl;
  events = omega arith;
  stopped = λ a h. h;
  keeps = keeps;
  halted = λ m h. any_later (eqb s m) (has_number st.halted m) h;
}

pub put_takes : (c : Setting) (st : Standing) (input : Input) → Takes st (put c st input)
put_takes c st input = input_takes c.line _ st _ _ _ _ (put_keeps c st input)

-- and its letters weigh no more than those of its event
input_weighs : (line : ℕ) (again : Bool) (st : Standing) (s : ℕ) (e : Event) (w : Bool)
    (o : Option Bool)
    → waiting_weight (after_input line again st s e w o).running
    ≤ waiting_weight st.running + sent_weight e.sent
input_weighs line again st s e w None = event_weighs st.running e
input_weighs line again st s e w (Some true) =
    let one = event_weighs st.running (taken_of e) in
    omega (arith, one)
input_weighs line again st s e w (Some false) = omega arith

-- at a halt there are none
pub halt_weighs : (line : ℕ) (again : Bool) (st : Standing) (s : ℕ) (e : Event) (w took : Bool)
    → waiting_weight (after_input line again st s e w (Some took)).running
    ≤ waiting_weight st.running
halt_weighs line again st s e w true =
    let one = event_weighs st.running (taken_of e) in omega (arith, one)
halt_weighs line again st s e w false = omega arith

pub put_weighs : (script : Script) (c : Setting) (st : Standing) (input : Input) (n : ℕ)
    → sent_weight (next_past script.objects st.running.trace input).sent ≤ n
    → waiting_weight (put (pasts script c) st input).running ≤ waiting_weight st.running + n
put_weighs script c st input n most =
    let t = st.running.trace in
    let one = input_weighs c.line (c.restarted (node_of t input)) st (node_of t input)
    (next_past script.objects t input) (appends (by_pasts script.objects) t input)
    (c.halts st.turns (node_of t input) (appends (by_pasts script.objects) t input)
    (c.restarted (node_of t input))) in
    omega (arith, one, most)

-- WHAT IS SPENT, and what may still be spent.
module _ (sizes : List Size) (script : Script) where
  abbrev pub spent : Standing → ℕ
  spent st = accepted st.turns + waiting_weight st.running + all_due sizes script.bodies st

  pub record Spends (k : ℕ) (old new : Standing) : Type 0 where
    pub less : spent new ≤ spent old + k
    pub events :
        length new.running.trace + accepted old.turns
        ≤ length old.running.trace + accepted new.turns

  pub none_spent : (k : ℕ) (st : Standing) → Spends k st st
  none_spent k st = record { less = omega arith; events = omega arith }

  pub spends_then : (j k : ℕ) (one two three : Standing) → Spends j one two → Spends k two three
      → Spends (j + k) one three
  spends_then j k one two three first second = record {
    less = let x = first.less in let y = second.less in omega (arith, x, y);
    events = let x = first.events in let y = second.events in omega (arith, x, y);
  }

  -- what no input adds to
  pub due_falls : (old new : Standing) → Takes old new
      → all_due sizes script.bodies new ≤ all_due sizes script.bodies old
  due_falls old new takes =
      subst (λ (ps : List (Name × ℕ)). sum_in (due sizes script.bodies new.running.trace) ps
      ≤ all_due sizes script.bodies old) (sym takes.keeps.bodies)
      (sum_lowers (due sizes script.bodies old.running.trace)
      (due sizes script.bodies new.running.trace) old.running.bodies
      (due_lowers sizes script.bodies old.running.trace new.running.trace
      (takes.keeps.left sizes script.bodies) takes.stopped))

  -- An input
  pub put_spends : (c : Setting) (st : Standing) (input : Input) (n : ℕ)
      → sent_weight (next_past script.objects st.running.trace input).sent ≤ n
      → Spends (1 + n) st (put (pasts script c) st input)
  put_spends c st input n most =
      let takes = put_takes (pasts script c) st input in
      let due = due_falls st (put (pasts script c) st input) takes in
      let weighs = put_weighs script c st input n most in
      let count = takes.count in
      let events = takes.events in
      record {
        less = omega (arith, due, weighs, count);
        events = omega (arith, count, events);
      }

  pub any_put_spends : (c : Setting) (st : Standing) (input : Input)
      → Spends 82 st (put (pasts script c) st input)
  any_put_spends c st input =
      put_spends c st input 81 (next_light script.objects st.running.trace input)

  -- a delivery that a line makes
  pub deliver_spends : (c : Setting) (st : Standing) (k : ℕ) (letter : LetterId)
      → Spends 82 st (deliver (pasts script c) st k letter)
  deliver_spends c st k letter =
      let one = any_put_spends c st (Receives letter) in
      let weighs = delivered_weighs (put (pasts script c) st (Receives letter)).running k in
      record {
        less = let less = one.less in omega (arith, less, weighs);
        events = one.events;
      }

  -- a delivery of a letter that waits
  waiting_spends : (c : Setting) (st : Standing) (w : ℕ × LetterId) → waiting st ≡ Some w
      → Spends 0 st (deliver (pasts script c) st w.0 w.1)
  waiting_spends c st w at =
      let takes = put_takes (pasts script c) st (Receives w.1) in
      let due = due_falls st (put (pasts script c) st (Receives w.1)) takes in
      let falls = halted_lowers (by_pasts script.objects) (pasts_fall script.objects) c.halts
      c.line c.restarted st w at in
      let count = takes.count in
      let events = takes.events in
      record {
        less = omega (arith, due, falls, count);
        events = omega (arith, count, events);
      }

  deliveries_spend : (c : Setting) (n : ℕ) (st : Standing)
      → Spends 0 st (deliveries (pasts script c) n st)
  deliveries_spend c zero st = none_spent 0 st
  deliveries_spend c (suc n) st =
      spends_then 0 0 st (deliver_waiting (pasts script c) st (waiting st))
      (deliveries (pasts script c) (suc n) st) (one (waiting st) refl)
      (deliveries_spend c n (deliver_waiting (pasts script c) st (waiting st)))
    where
      one : (o : Option (ℕ × LetterId)) → waiting st ≡ o
          → Spends 0 st (deliver_waiting (pasts script c) st o)
      one None at = none_spent 0 st
      one (Some w) at = waiting_spends c st w at

  pub drain_spends : (c : Setting) (st : Standing) → Spends 0 st (drain (pasts script c) st)
  drain_spends c st = deliveries_spend c (waiting_weight st.running) st
