-- Each delivery lowers the weight of the letters that wait, so a drain leaves none.
use Rattle.std.proofs.Common.{◌≡◌, ◌≤◌, ◌<◌, inl, inr, ℕ, zero, suc, ◌+◌, eqb, Bool, true, false, ◌||◌, if◌then◌else◌, List, [], ◌∷◌, ◌++◌, length, map, Option, Some, None, is_some, refl, sym, ap, ◌∙◌, subst, arith}
use Rattle.std.specs.Prelude.{nat_lt, slice_get, option_map, option_and_then}
use Rattle.std.specs.Option.{option_map_or}
use Rattle.std.proofs.lemmas.Bool.{or_right, eq-eqb}
use Rattle.std.proofs.lemmas.Option.{same_Some}
use Rattle.cam_know.proofs.Or.{or_associates}
use Rattle.cam_type.specs.declared.ObjectDecl.{ObjectDecl}
use Rattle.cam_event.specs.declared.LetterId.{LetterId}
use Rattle.cam_event.specs.declared.Event.{Event}
use Rattle.cam_event.specs.declared.Sent.{Sent}
use Rattle.cam_event.specs.Inputs.{Receives, Mail, mail_of, event_at, letter_at, node_of}
use Rattle.cam_event.specs.ByPast.{sight}
use Rattle.cam_event.specs.ByKnowledge.{held_sight}
use Rattle.cam_know.specs.Order.{told_in_order}
use Rattle.cam_event.specs.ByDeltas.{as_carried, of_node, load_by, received_of}
use Rattle.cam_event.specs.Sights.{Sight}
use Rattle.cam_event.specs.Rules.{arrives_mail}
use Rattle.cam_event.specs.Readings.{Reading, by_pasts, by_knowledge}
use Rattle.cam_event.proofs.Members.{In}
use Rattle.cam_cut.proofs.Families.{letter_older}
use Rattle.cam_runs.specs.Running.{Running, ids_from, has_number, deliver, waiting_from, waiting, deliver_waiting, deliveries, weight_of, weight_from, waiting_weight, letters, weight}
use Rattle.cam_runs.specs.Playing.{go_in_round, round, rounds, in_order}
use Rattle.cam_script.specs.declared.Statement.{Statement}
use Rattle.cam_runs.proofs.Delivering.{letters_sent, waiting_numbered}
use Rattle.cam_runs.specs.Draining.{PlayLeavesNone, PlaysLeaveNone, Lowers, LeavesNone, EachDeliveryLowers, DrainsLeaveNone}
use Rattle.cam_runs.proofs.Light.{sent_weight, FewDeps}
use Rattle.cam_runs.proofs.Lighter.{arrives_lighter}

-- the number was delivered or lost
abbrev pub is_done : Running → ℕ → Bool
is_done r k = has_number r.delivered k || has_number r.lost k

-- What is sent weighs less than what is received.
abbrev pub Falls : Reading → Type 0
Falls reading = (t : List Event) (letter : LetterId) → is_some (letter_at t letter) ≡ true → sent_weight (reading.next t (Receives letter)).sent < weight_of t letter

pub mail_falls : (objects : List ObjectDecl) (g : Sight) (o : Option Mail) → FewDeps g → is_some o ≡ true → sent_weight (arrives_mail objects g o).sent < option_map_or (λ mail. weight mail.body) o 0
mail_falls objects g None few h = cc
mail_falls objects g (Some mail) few h = arrives_lighter objects g mail.from mail.body few

pub pasts_fall : (objects : List ObjectDecl) → Falls (by_pasts objects)
pasts_fall objects t letter h = mail_falls objects (sight objects t (node_of t (Receives letter)) (Some letter)) (letter_at t letter) (λ a. omega arith) h

pub held_fall : (objects : List ObjectDecl) → Falls (by_knowledge objects)
held_fall objects t letter h =
    mail_falls objects (held_sight objects (node_of t (Receives letter)) (map as_carried (of_node (received_of objects t) (node_of t (Receives letter)))) (told_in_order (load_by objects (received_of objects t) (Some letter) (letter_at t letter)).know)) (letter_at t letter) (λ a. omega arith) h

-- a letter keeps its weight behind one more event
pub same_weight : (e : Event) (t : List Event) (letter : LetterId) → is_some (letter_at t letter) ≡ true → weight_of (e ∷ t) letter ≡ weight_of t letter
same_weight e t letter h = by (letter_at t letter) refl h
  where
    by : (o : Option Mail) → letter_at t letter ≡ o → is_some o ≡ true → weight_of (e ∷ t) letter ≡ weight_of t letter
    by None at g = cc
    by (Some mail) at g = ap (λ o. option_map_or (λ (m : Mail). weight m.body) o 0) (letter_older e t letter mail at ∙ sym at)

-- the letters of two parts, where those of the second weigh so much at most
pub parts_weigh : (r : Running) (k n : ℕ) (xs ys : List LetterId) → ((j : ℕ) → weight_from r j ys ≤ n) → weight_from r k (xs ++ ys) ≤ weight_from r k xs + n
parts_weigh r k n [] ys most = let m = most k in omega (arith, m)
parts_weigh r k n (x ∷ xs) ys most = let rest = parts_weigh r (k + 1) n xs ys most in omega (arith, rest)

-- what an event sends weighs at most what is sent, whichever of it waits
waits_less : (b : Bool) (w : ℕ) → (if b then 0 else w) ≤ w
waits_less true w = omega arith
waits_less false w = omega arith

pub new_weigh : (r : Running) (event place j : ℕ) (ms : List Sent) → ((q : ℕ) → weight_of r.trace (record { event = event; place = place + q }) ≡ option_map_or (λ (m : Sent). weight m.body) (slice_get ms q) 0) → weight_from r j (ids_from event place ms) ≤ sent_weight ms
new_weigh r event place j [] at = omega arith
new_weigh r event place j (m ∷ ms) at =
    let first : weight_of r.trace (record { event = event; place = place }) ≡ weight m.body = ap (λ p. weight_of r.trace (record { event = event; place = p })) (omega arith) ∙ at 0 in
    let next : (q : ℕ) → weight_of r.trace (record { event = event; place = (place + 1) + q }) ≡ option_map_or (λ (x : Sent). weight x.body) (slice_get ms q) 0 = λ q. ap (λ p. weight_of r.trace (record { event = event; place = p })) (omega arith) ∙ at (suc q) in
    let rest = new_weigh r event (place + 1) (j + 1) ms next in
    let here = waits_less (is_done r j) (weight_of r.trace (record { event = event; place = place })) in
    omega (arith, first, rest, here)

pub sent_weigh : (e : Event) (t : List Event) (q : ℕ) → weight_of (e ∷ t) (record { event = length t; place = 0 + q }) ≡ option_map_or (λ (m : Sent). weight m.body) (slice_get e.sent q) 0
sent_weigh e t q =
    ap (λ (b : Bool). option_map_or (λ (m : Mail). weight m.body) (option_and_then (λ (x : Event). option_map (mail_of x) (slice_get x.sent (0 + q))) (if b then Some e else event_at t (length t))) 0) (eq-eqb (length t) (length t) refl)
    ∙ ap (λ p. option_map_or (λ (m : Mail). weight m.body) (option_map (mail_of e) (slice_get e.sent p)) 0) (omega arith)
    ∙ by (slice_get e.sent q)
  where
    by : (o : Option Sent) → option_map_or (λ (m : Mail). weight m.body) (option_map (mail_of e) o) 0 ≡ option_map_or (λ (m : Sent). weight m.body) o 0
    by None = refl
    by (Some m) = refl

-- Of old letters each weighs what it did, and none waits that did not.
pub record IsLater (r new : Running) (k : ℕ) (ls : List LetterId) : Type 0 where
  pub done : (j : ℕ) → is_done new j ≡ (eqb k j || is_done r j)
  pub same : (l : LetterId) → In l ls → weight_of new.trace l ≡ weight_of r.trace l

pub one_less : (old new once : Bool) (w v : ℕ) → new ≡ (once || old) → v ≡ w → (if new then 0 else v) ≤ (if old then 0 else w)
one_less true new once w v e same = by once e
  where
    by : (once : Bool) → new ≡ (once || true) → (if new then 0 else v) ≤ 0
    by true e = rw e (omega arith)
    by false e = rw e (omega arith)
one_less false new once w v e same = let less = waits_less new v in omega (arith, less, same)

pub rest_later : (r new : Running) (k : ℕ) (l : LetterId) (ls : List LetterId) → IsLater r new k (l ∷ ls) → IsLater r new k ls
rest_later r new k l ls h = record { done = h.done; same = λ x there. h.same x (inr there) }

pub old_weigh : (r new : Running) (k j : ℕ) (ls : List LetterId) → IsLater r new k ls → weight_from new j ls ≤ weight_from r j ls
old_weigh r new k j [] h = omega arith
old_weigh r new k j (l ∷ ls) h =
    let here = one_less (is_done r j) (is_done new j) (eqb k j) (weight_of r.trace l) (weight_of new.trace l) (h.done j) (h.same l (inl refl)) in
    let rest = old_weigh r new k (j + 1) ls (rest_later r new k l ls h) in
    omega (arith, here, rest)

-- that which is delivered weighs nothing more
delivered_weigh : (r new : Running) (w : ℕ × LetterId) (j : ℕ) (ls : List LetterId) → IsLater r new w.0 ls → waiting_from r j ls ≡ Some w → weight_from new j ls + weight_of r.trace w.1 ≤ weight_from r j ls
delivered_weigh r new w j [] h at = cc
delivered_weigh r new w j (l ∷ ls) h at = by (is_done r j) refl at (delivered_weigh r new w (j + 1) ls (rest_later r new w.0 l ls h))
  where
    by : (b : Bool) → is_done r j ≡ b → (if b then waiting_from r (j + 1) ls else Some (j, l)) ≡ Some w → (waiting_from r (j + 1) ls ≡ Some w → weight_from new (j + 1) ls + weight_of r.trace w.1 ≤ weight_from r (j + 1) ls)
        → ((if is_done new j then 0 else weight_of new.trace l) + weight_from new (j + 1) ls) + weight_of r.trace w.1 ≤ (if b then 0 else weight_of r.trace l) + weight_from r (j + 1) ls
    by true was g rest =
        let gone : is_done new j ≡ true = h.done j ∙ or_right (eqb w.0 j) (is_done r j) was in
        let less = rest g in
        rw gone (omega (arith, less))
    by false was g rest =
        let pair : (j, l) ≡ w = same_Some (j, l) w g in
        let number : eqb w.0 j ≡ true = eq-eqb w.0 j (ap (λ (p : ℕ × LetterId). p.0) (sym pair)) in
        let gone : is_done new j ≡ true = h.done j ∙ ap (λ b. b || is_done r j) number in
        let letter : weight_of r.trace w.1 ≡ weight_of r.trace l = ap (λ (p : ℕ × LetterId). weight_of r.trace p.1) (sym pair) in
        let less = old_weigh r new w.0 (j + 1) ls (rest_later r new w.0 l ls h) in
        rw gone (omega (arith, less, letter))

-- The event that receives the letter that waits, and sends what weighs less, lowers the weight.
pub one_lowers : (r : Running) (e : Event) (w : ℕ × LetterId) → waiting r ≡ Some w → sent_weight e.sent < weight_of r.trace w.1 → waiting_weight (record r { trace = e ∷ r.trace; delivered = w.0 ∷ r.delivered }) < waiting_weight r
one_lowers r e w at sent =
    let new : Running = record r { trace = e ∷ r.trace; delivered = w.0 ∷ r.delivered } in
    let later : IsLater r new w.0 (letters r.trace) = record { done = λ j. or_associates (eqb w.0 j) (has_number r.delivered j) (has_number r.lost j); same = λ l has. same_weight e r.trace l (letters_sent r.trace l has) } in
    let all = parts_weigh new 1 (sent_weight e.sent) (letters r.trace) (ids_from (length r.trace) 0 e.sent) (λ j. new_weigh new (length r.trace) 0 j e.sent (λ q. sent_weigh e r.trace q)) in
    let less = delivered_weigh r new w 1 (letters r.trace) later at in
    omega (arith, all, less, sent)

lowers : (reading : Reading) → Falls reading → Lowers reading
lowers reading falls r w at =
    let there : In w.1 (letters r.trace) = waiting_numbered r 1 (letters r.trace) w at in
    one_lowers r (reading.next r.trace (Receives w.1)) w at (falls r.trace w.1 (letters_sent r.trace w.1 there))

-- where none waits, deliveries change nothing
idle : (reading : Reading) (n : ℕ) (r : Running) → waiting r ≡ None → waiting (deliveries reading n r) ≡ None
idle reading zero r none = none
idle reading (suc n) r none = subst (λ o. waiting (deliveries reading n (deliver_waiting reading r o)) ≡ None) (sym none) (idle reading n r none)

-- deliveries as many as the weight leave none waiting
ends : (reading : Reading) → Falls reading → (n : ℕ) (r : Running) → waiting_weight r ≤ n → waiting (deliveries reading n r) ≡ None
ends reading falls zero r most = by (waiting r) refl
  where
    by : (o : Option (ℕ × LetterId)) → waiting r ≡ o → o ≡ None
    by None at = refl
    by (Some w) at = let less = lowers reading falls r w at in absurd (omega (arith, less, most))
ends reading falls (suc n) r most = by (waiting r) refl (λ next less. ends reading falls n next less)
  where
    by : (o : Option (ℕ × LetterId)) → waiting r ≡ o → ((next : Running) → waiting_weight next ≤ n → waiting (deliveries reading n next) ≡ None) → waiting (deliveries reading n (deliver_waiting reading r o)) ≡ None
    by None at rest = idle reading n r at
    by (Some w) at rest = let less = lowers reading falls r w at in rest (deliver reading r w.0 w.1) (omega (arith, less, most))

leaves_none : (reading : Reading) → Falls reading → LeavesNone reading
leaves_none reading falls r = ends reading falls (waiting_weight r) r (omega arith)

pub each_delivery_lowers : EachDeliveryLowers
each_delivery_lowers objects = (lowers (by_pasts objects) (pasts_fall objects), lowers (by_knowledge objects) (held_fall objects))

pub drains_leave_none : DrainsLeaveNone
drains_leave_none objects = (leaves_none (by_pasts objects) (pasts_fall objects), leaves_none (by_knowledge objects) (held_fall objects))

-- and so do rounds, of which each ends with a drain
rounds_none : (reading : Reading) → LeavesNone reading → (bodies : List (List Statement)) (n : ℕ) (r : Running) → waiting r ≡ None → waiting (rounds reading bodies n r) ≡ None
rounds_none reading none bodies zero r h = h
rounds_none reading none bodies (suc n) r h =
    let after : Running = round reading bodies r in
    let here : waiting after ≡ None = none (go_in_round reading bodies (in_order r.bodies) r) in
    let rest : waiting (rounds reading bodies n after) ≡ None = rounds_none reading none bodies n after here in
    elim (nat_lt (length r.trace) (length after.trace)) as (λ (b : Bool). waiting (if b then rounds reading bodies n after else after) ≡ None) [ true ↦ rest | false ↦ here ]

-- after the first round none waits, whatever did before
first_round : (reading : Reading) → LeavesNone reading → (bodies : List (List Statement)) (n : ℕ) (r : Running) → waiting (rounds reading bodies (suc n) r) ≡ None
first_round reading none bodies n r =
    let after : Running = round reading bodies r in
    let here : waiting after ≡ None = none (go_in_round reading bodies (in_order r.bodies) r) in
    let rest : waiting (rounds reading bodies n after) ≡ None = rounds_none reading none bodies n after here in
    elim (nat_lt (length r.trace) (length after.trace)) as (λ (b : Bool). waiting (if b then rounds reading bodies n after else after) ≡ None) [ true ↦ rest | false ↦ here ]

play_leaves_none : (reading : Reading) → Falls reading → PlayLeavesNone reading
play_leaves_none reading falls bodies r = first_round reading (leaves_none reading falls) bodies 513 r

pub plays_leave_none : PlaysLeaveNone
plays_leave_none objects = (play_leaves_none (by_pasts objects) (pasts_fall objects), play_leaves_none (by_knowledge objects) (held_fall objects))
