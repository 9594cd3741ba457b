-- Each delivery lowers the weight of the letters that wait, at a halt too, so a drain leaves none.
use Rattle.std.proofs.Common.{◌≡◌, inl, inr, ℕ, zero, suc, ◌+◌, ◌<◌, ◌≤◌, eqb, Bool, true, false, ◌||◌, if◌then◌else◌, List, [], ◌∷◌, length, Option, Some, None, refl, sym, ap, ◌∙◌, subst, arith}
use Rattle.std.specs.Prelude.{nat_lt}
use Rattle.std.proofs.lemmas.Bool.{true≢false, eq-eqb}
use Rattle.std.proofs.lemmas.Option.{same_Some}
use Rattle.cam_event.specs.declared.LetterId.{LetterId}
use Rattle.cam_event.specs.declared.Event.{Event}
use Rattle.cam_event.specs.Inputs.{Receives, node_of}
use Rattle.cam_event.specs.Readings.{Reading, by_pasts, by_knowledge}
use Rattle.cam_event.specs.Taken.{taken_of}
use Rattle.cam_event.proofs.Members.{In}
use Rattle.cam_script.specs.declared.Statement.{Statement}
use Rattle.cam_runs.specs.Running.{Running, letters, ids_from, has_number, weight_of, weight_from, waiting_weight}
use Rattle.cam_runs.specs.Playing.{in_order}
use Rattle.cam_runs.specs.Halts.{Halting, accepted, appends}
use Rattle.cam_runs.specs.Standing.{Standing, Setting, after_input, deliver, addressee, waiting_from, waiting, deliver_waiting, deliveries, drain}
use Rattle.cam_runs.specs.HaltedPlaying.{go_in_round, round, rounds}
use Rattle.cam_runs.proofs.Delivering.{letters_sent}
use Rattle.cam_runs.specs.HaltedDraining.{setting_of, HaltedLowers, HaltedLeavesNone, HaltedPlayLeavesNone, HaltedDeliveriesLower, HaltedDrainsLeaveNone, HaltedPlaysLeaveNone}
use Rattle.cam_runs.proofs.Drained.{is_done, Falls, pasts_fall, held_fall, same_weight, parts_weigh, new_weigh, sent_weigh, IsLater, one_less, rest_later, old_weigh}
use Rattle.cam_runs.proofs.Light.{sent_weight}

-- that which is delivered weighs nothing more, whatever was passed over
halted_weigh : (st : Standing) (new : Running) (w : ℕ × LetterId) (j : ℕ) (ls : List LetterId) → IsLater st.running new w.0 ls → waiting_from st j ls ≡ Some w → weight_from new j ls + weight_of st.running.trace w.1 ≤ weight_from st.running j ls
halted_weigh st new w j [] h at = cc
halted_weigh st new w j (l ∷ ls) h at = by (has_number st.running.delivered j || has_number st.running.lost j || has_number st.halted (addressee st l)) refl at (halted_weigh st new w (j + 1) ls (rest_later st.running new w.0 l ls h))
  where
    r : Running
    r = st.running

    awake : (a b d : Bool) → (a || b || d) ≡ false → (a || b) ≡ false
    awake true b d e = absurd (true≢false e)
    awake false true d e = absurd (true≢false e)
    awake false false d e = refl

    by : (b : Bool) → (has_number r.delivered j || has_number r.lost j || has_number st.halted (addressee st l)) ≡ b → (if b then waiting_from st (j + 1) ls else Some (j, l)) ≡ Some w
        → (waiting_from st (j + 1) ls ≡ Some w → weight_from new (j + 1) ls + weight_of r.trace w.1 ≤ weight_from r (j + 1) ls)
        → weight_from new j (l ∷ ls) + weight_of r.trace w.1 ≤ weight_from r j (l ∷ ls)
    by true was g rest =
        let here = one_less (is_done r j) (is_done new j) (eqb w.0 j) (weight_of r.trace l) (weight_of new.trace l) (h.done j) (h.same l (inl refl)) in
        let less = rest g in
        omega (arith, here, less)
    by false was g rest =
        let pair : (j, l) ≡ w = same_Some (j, l) w g in
        let number : eqb w.0 j ≡ true = eq-eqb w.0 j (ap (λ (p : ℕ × LetterId). p.0) (sym pair)) in
        let gone : is_done new j ≡ true = h.done j ∙ ap (λ b. b || is_done r j) number in
        let waits : is_done r j ≡ false = awake (has_number r.delivered j) (has_number r.lost j) (has_number st.halted (addressee st l)) was in
        let letter : weight_of r.trace w.1 ≡ weight_of r.trace l = ap (λ (p : ℕ × LetterId). weight_of r.trace p.1) (sym pair) in
        let less = old_weigh r new w.0 (j + 1) ls (rest_later r new w.0 l ls h) in
        let now : (if is_done new j then 0 else weight_of new.trace l) ≡ 0 = ap (λ (b : Bool). if b then 0 else weight_of new.trace l) gone in
        let before : (if is_done r j then 0 else weight_of r.trace l) ≡ weight_of r.trace l = ap (λ (b : Bool). if b then 0 else weight_of r.trace l) waits in
        omega (arith, less, letter, now, before)

-- the letter that waits is numbered
halted_numbered : (st : Standing) (k : ℕ) (ls : List LetterId) (w : ℕ × LetterId) → waiting_from st k ls ≡ Some w → In w.1 ls
halted_numbered st k [] w h = cc
halted_numbered st k (l ∷ ls) w h = by (has_number st.running.delivered k || has_number st.running.lost k || has_number st.halted (addressee st l)) h (halted_numbered st (k + 1) ls w)
  where
    by : (b : Bool) → (if b then waiting_from st (k + 1) ls else Some (k, l)) ≡ Some w → (waiting_from st (k + 1) ls ≡ Some w → In w.1 ls) → In w.1 (l ∷ ls)
    by true g rest = inr (rest g)
    by false g rest = inl (ap (λ (p : ℕ × LetterId). p.1) (sym (same_Some (k, l) w g)))

or_moves : (a b d : Bool) → ((a || b) || d) ≡ (a || (b || d))
or_moves true b d = refl
or_moves false b d = refl

pub halted_lowers : (reading : Reading) → Falls reading → HaltedLowers reading
halted_lowers reading falls halts line restarted st w at =
    by (halts st.turns s (appends reading t (Receives w.1)) (restarted s))
  where
    t : List Event
    t = st.running.trace

    s : ℕ
    s = node_of t (Receives w.1)

    e : Event
    e = reading.next t (Receives w.1)

    there : In w.1 (letters t)
    there = halted_numbered st 1 (letters t) w at

    after : Option Bool → Running
    after o = let x = after_input line (restarted s) st s e (appends reading t (Receives w.1)) o in record x.running { delivered = w.0 ∷ x.running.delivered }

    done : (j : ℕ) → (has_number (w.0 ∷ st.running.delivered) j || has_number st.running.lost j) ≡ (eqb w.0 j || is_done st.running j)
    done j = or_moves (eqb w.0 j) (has_number st.running.delivered j) (has_number st.running.lost j)

    falls_here : sent_weight e.sent < weight_of t w.1
    falls_here = falls t w.1 (letters_sent t w.1 there)

    by : (o : Option Bool) → waiting_weight (after o) < waiting_weight st.running
    by None =
        let new : Running = after None in
        let later : IsLater st.running new w.0 (letters t) = record { done = done; same = λ l has. same_weight e t l (letters_sent t l has) } in
        let all = parts_weigh new 1 (sent_weight e.sent) (letters t) (ids_from (length t) 0 e.sent) (λ j. new_weigh new (length t) 0 j e.sent (λ q. sent_weigh e t q)) in
        let less = halted_weigh st new w 1 (letters t) later at in
        omega (arith, all, less, falls_here)
    by (Some true) =
        let new : Running = after (Some true) in
        let later : IsLater st.running new w.0 (letters t) = record { done = done; same = λ l has. same_weight (taken_of e) t l (letters_sent t l has) } in
        let all = parts_weigh new 1 0 (letters t) [] (λ j. omega arith) in
        let less = halted_weigh st new w 1 (letters t) later at in
        omega (arith, all, less, falls_here)
    by (Some false) =
        let new : Running = after (Some false) in
        let later : IsLater st.running new w.0 (letters t) = record { done = done; same = λ l has. refl } in
        let less = halted_weigh st new w 1 (letters t) later at in
        omega (arith, less, falls_here)

-- where none waits, deliveries change nothing
idle : (c : Setting) (n : ℕ) (st : Standing) → waiting st ≡ None → waiting (deliveries c n st) ≡ None
idle c zero st none = none
idle c (suc n) st none = subst (λ o. waiting (deliveries c n (deliver_waiting c st o)) ≡ None) (sym none) (idle c n st none)

-- deliveries as many as the weight leave none waiting
ends : (reading : Reading) → Falls reading → (halts : Halting) (line : ℕ) (restarted : ℕ → Bool) (n : ℕ) (st : Standing) → waiting_weight st.running ≤ n → waiting (deliveries (setting_of reading halts line restarted) n st) ≡ None
ends reading falls halts line restarted zero st most = by (waiting st) refl
  where
    by : (o : Option (ℕ × LetterId)) → waiting st ≡ o → o ≡ None
    by None at = refl
    by (Some w) at = let less = halted_lowers reading falls halts line restarted st w at in absurd (omega (arith, less, most))
ends reading falls halts line restarted (suc n) st most = by (waiting st) refl (λ next less. ends reading falls halts line restarted n next less)
  where
    by : (o : Option (ℕ × LetterId)) → waiting st ≡ o → ((next : Standing) → waiting_weight next.running ≤ n → waiting (deliveries (setting_of reading halts line restarted) n next) ≡ None)
        → waiting (deliveries (setting_of reading halts line restarted) n (deliver_waiting (setting_of reading halts line restarted) st o)) ≡ None
    by None at rest = idle (setting_of reading halts line restarted) n st at
    by (Some w) at rest = let less = halted_lowers reading falls halts line restarted st w at in rest (deliver (setting_of reading halts line restarted) st w.0 w.1) (omega (arith, less, most))

halted_leaves_none : (reading : Reading) → Falls reading → HaltedLeavesNone reading
halted_leaves_none reading falls halts line restarted st = ends reading falls halts line restarted (waiting_weight st.running) st (omega arith)

-- and so do rounds, of which each ends with a drain
rounds_none : (c : Setting) → ((st : Standing) → waiting (drain c st) ≡ None) → (bodies : List (List Statement)) (n : ℕ) (st : Standing) → waiting st ≡ None → waiting (rounds c bodies n st) ≡ None
rounds_none c none bodies zero st h = h
rounds_none c none bodies (suc n) st h =
    let after : Standing = round c bodies st in
    let here : waiting after ≡ None = none (go_in_round c bodies (in_order st.running.bodies) st) in
    let rest : waiting (rounds c bodies n after) ≡ None = rounds_none c none bodies n after here in
    elim (nat_lt (accepted st.turns) (accepted after.turns)) as (λ (b : Bool). waiting (if b then rounds c bodies n after else after) ≡ None) [ true ↦ rest | false ↦ here ]

first_round : (c : Setting) → ((st : Standing) → waiting (drain c st) ≡ None) → (bodies : List (List Statement)) (n : ℕ) (st : Standing) → waiting (rounds c bodies (suc n) st) ≡ None
first_round c none bodies n st =
    let after : Standing = round c bodies st in
    let here : waiting after ≡ None = none (go_in_round c bodies (in_order st.running.bodies) st) in
    let rest : waiting (rounds c bodies n after) ≡ None = rounds_none c none bodies n after here in
    elim (nat_lt (accepted st.turns) (accepted after.turns)) as (λ (b : Bool). waiting (if b then rounds c bodies n after else after) ≡ None) [ true ↦ rest | false ↦ here ]

halted_play : (reading : Reading) → Falls reading → HaltedPlayLeavesNone reading
halted_play reading falls halts line restarted bodies st = first_round (setting_of reading halts line restarted) (halted_leaves_none reading falls halts line restarted) bodies 513 st

pub halted_deliveries_lower : HaltedDeliveriesLower
halted_deliveries_lower objects = (halted_lowers (by_pasts objects) (pasts_fall objects), halted_lowers (by_knowledge objects) (held_fall objects))

pub halted_drains_leave_none : HaltedDrainsLeaveNone
halted_drains_leave_none objects = (halted_leaves_none (by_pasts objects) (pasts_fall objects), halted_leaves_none (by_knowledge objects) (held_fall objects))

pub halted_plays_leave_none : HaltedPlaysLeaveNone
halted_plays_leave_none objects = (halted_play (by_pasts objects) (pasts_fall objects), halted_play (by_knowledge objects) (held_fall objects))
