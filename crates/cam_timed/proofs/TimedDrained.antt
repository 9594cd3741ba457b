-- Each delivery in a run by time lowers the weight of the letters that wait, so a drain leaves none.
use Rattle.std.proofs.Common.{◌≡◌, ◌<◌, ◌≤◌, ℕ, zero, suc, ◌+◌, true, ◌||◌, if◌then◌else◌, List, [], ◌∷◌, ◌++◌, Option, Some, None, is_some, refl, sym, ap, subst, ◌∙◌, arith}
use Rattle.cam_type.specs.declared.ObjectDecl.{ObjectDecl}
use Rattle.cam_event.specs.declared.LetterId.{LetterId}
use Rattle.cam_event.specs.Inputs.{Receives, letter_at, node_of}
use Rattle.cam_event.specs.Rules.{Did, arrives_mail}
use Rattle.cam_event.proofs.Members.{In}
use Rattle.cam_runs.specs.Running as untimed
use Rattle.cam_runs.specs.Running.{Running, ids_from, has_number}
use Rattle.cam_runs.proofs.Light.{sent_weight}
use Rattle.cam_runs.proofs.Drained.{mail_falls, one_lowers}
use Rattle.cam_timed.specs.declared.Pause.{Pause}
use Rattle.cam_timed.specs.declared.TimedEvent.{TimedEvent}
use Rattle.cam_timed.specs.Moments.{events}
use Rattle.cam_timed.specs.TimedSights.{timed_sight}
use Rattle.cam_timed.specs.TimedRules.{WithoutTime, paused, timed_next}
use Rattle.cam_timed.specs.TimedRunning.{TimedRunning, by_time, deliver, letters, waiting_from, waiting, weight_of, weight_from, waiting_weight, deliver_waiting, deliveries}
use Rattle.cam_timed.specs.TimedDraining.{TimedDeliveriesLower, TimedDrainsLeaveNone}
use Rattle.cam_timed.proofs.Delivering.{letters_sent, waiting_numbered}
use Rattle.cam_timed.proofs.MomentsRise.{events_length}

-- the same without moments
abbrev plainly : TimedRunning → Running
plainly r =
    record {
      trace = events r.trace;
      marks = [];
      delivered = r.delivered;
      lost = r.lost;
      bound = r.bound;
      bodies = [];
    }

same_letters : (T : List TimedEvent) → letters T ≡ untimed.letters (events T)
same_letters [] = refl
same_letters (e ∷ T) = λ i. same_letters T i ++ ids_from (sym (events_length T) i) 0 e.event.sent

same_weight : (r : TimedRunning) (k : ℕ) (ls : List LetterId) → weight_from r k ls ≡ untimed.weight_from (plainly r) k ls
same_weight r k [] = refl
same_weight r k (l ∷ ls) =
    ap (λ n. (if has_number r.delivered k || has_number r.lost k then 0 else weight_of r.trace l) + n) (same_weight r (k + 1) ls)

same_waiting : (r : TimedRunning) (k : ℕ) (ls : List LetterId) → waiting_from r k ls ≡ untimed.waiting_from (plainly r) k ls
same_waiting r k [] = refl
same_waiting r k (l ∷ ls) =
    ap (λ o. if has_number r.delivered k || has_number r.lost k then o else Some (k, l)) (same_waiting r (k + 1) ls)

weighs : (r : TimedRunning) → waiting_weight r ≡ untimed.waiting_weight (plainly r)
weighs r = same_weight r 1 (letters r.trace) ∙ ap (untimed.weight_from (plainly r) 1) (same_letters r.trace)

waits : (r : TimedRunning) → waiting r ≡ untimed.waiting (plainly r)
waits r = same_waiting r 1 (letters r.trace) ∙ ap (untimed.waiting_from (plainly r) 1) (same_letters r.trace)

-- A paused event sends nothing.
paused_light : (o : Option Pause) (d : Did) (n : ℕ) → sent_weight d.sent < n → sent_weight (paused o d).sent < n
paused_light None d n h = h
paused_light (Some pause) d n h = omega (arith, h)

-- What is sent weighs less than what is received.
falls : (objects : List ObjectDecl) (t : List TimedEvent) (letter : LetterId) → is_some (letter_at (events t) letter) ≡ true → sent_weight (timed_next objects t (WithoutTime (Receives letter) 0)).event.sent < weight_of t letter
falls objects t letter there =
    let e : TimedEvent = timed_next objects t (WithoutTime (Receives letter) 0) in
    let d : Did = arrives_mail objects (timed_sight objects (events t) (node_of (events t) (Receives letter)) (Some letter)) (letter_at (events t) letter) in
    paused_light e.pause d (weight_of t letter)
    (mail_falls objects (timed_sight objects (events t) (node_of (events t) (Receives letter)) (Some letter)) (letter_at (events t) letter) (λ a. omega arith) there)

pub deliveries_lower : TimedDeliveriesLower
deliveries_lower objects r w at =
    let e : TimedEvent = timed_next objects r.trace (WithoutTime (Receives w.1) 0) in
    let there : In w.1 (letters r.trace) = waiting_numbered r 1 (letters r.trace) w at in
    let less = one_lowers (plainly r) e.event w (sym (waits r) ∙ at) (falls objects r.trace w.1 (letters_sent r.trace w.1 there)) in
    omega (arith, less, weighs r, weighs (deliver (by_time objects) r w.0 w.1))

-- if none waits, deliveries change nothing
idle : (objects : List ObjectDecl) (n : ℕ) (r : TimedRunning) → waiting r ≡ None → waiting (deliveries (by_time objects) n r) ≡ None
idle objects zero r none = none
idle objects (suc n) r none = subst (λ o. waiting (deliveries (by_time objects) n (deliver_waiting (by_time objects) r o)) ≡ None) (sym none) (idle objects n r none)

-- deliveries as many as the weight leave none waiting
ends : (objects : List ObjectDecl) (n : ℕ) (r : TimedRunning) → waiting_weight r ≤ n → waiting (deliveries (by_time objects) n r) ≡ None
ends objects zero r most = by (waiting r) refl
  where
    by : (o : Option (ℕ × LetterId)) → waiting r ≡ o → o ≡ None
    by None at = refl
    by (Some w) at = let less = deliveries_lower objects r w at in absurd (omega (arith, less, most))
ends objects (suc n) r most = by (waiting r) refl (λ next less. ends objects n next less)
  where
    by : (o : Option (ℕ × LetterId)) → waiting r ≡ o → ((next : TimedRunning) → waiting_weight next ≤ n → waiting (deliveries (by_time objects) n next) ≡ None) → waiting (deliveries (by_time objects) n (deliver_waiting (by_time objects) r o)) ≡ None
    by None at rest = idle objects n r at
    by (Some w) at rest = let less = deliveries_lower objects r w at in rest (deliver (by_time objects) r w.0 w.1) (omega (arith, less, most))

pub drains_leave_none : TimedDrainsLeaveNone
drains_leave_none objects r = ends objects (waiting_weight r) r (omega arith)
