-- Deliveries, drains and plays lead on to a run.
use Rattle.std.proofs.Common.{◌≡◌, ◌⊎◌, inl, inr, ℕ, zero, suc, ◌+◌, ◌-◌, eqb, Bool, true, false, ◌||◌, if◌then◌else◌, List, [], ◌∷◌, length, Option, Some, None, is_some, refl, sym, ap, ◌∙◌, arith, subst}
use Rattle.std.specs.Prelude.{nat_lt, slice_get, option_map, option_and_then}
use Rattle.std.proofs.lemmas.Bool.{eq-eqb}
use Rattle.std.proofs.lemmas.Option.{same_Some}
use Rattle.cam_names.specs.declared.name.Name.{Name}
use Rattle.cam_event.specs.declared.LetterId.{LetterId}
use Rattle.cam_event.specs.declared.Event.{Event}
use Rattle.cam_event.specs.declared.Sent.{Sent}
use Rattle.cam_event.specs.Inputs.{Input, Receives, Mail, mail_of, event_at, letter_at}
use Rattle.cam_event.specs.Readings.{by_pasts}
use Rattle.cam_event.specs.Runs.{MayCome}
use Rattle.cam_event.proofs.Members.{In, in_append}
use Rattle.cam_cut.proofs.Families.{letter_older}
use Rattle.cam_cut.proofs.Lists.{slice_in}
use Rattle.cam_agree.proofs.RunAsks.{AsksOf}
use Rattle.cam_script.specs.declared.Script.{Script}
use Rattle.cam_runs.specs.Running.{Running, ids_from, letters, has_number, letter_of, with_event, deliver, waiting_from, waiting, deliver_waiting, deliveries, drain, waiting_weight}
use Rattle.cam_runs.specs.Playing.{go_in_round, in_order, round, rounds, play}
use Rattle.cam_runs.specs.InRange.{IsInRange}
use Rattle.cam_runs.proofs.OnEvents.{led_event}
use Rattle.cam_runs.proofs.Going.{Leads, round_leads}
use Rattle.cam_runs.specs.UnderWay.{IsUnderWay}

-- a numbered letter stands at its place in its event
ids_at : (event place : ℕ) (sent : List Sent) (letter : LetterId) → In letter (ids_from event place sent) → (k : ℕ) × (letter ≡ record { event = event; place = place + k }) × (is_some (slice_get sent k) ≡ true)
ids_at event place [] letter h = absurd h
ids_at event place (s ∷ sent) letter (inl e) = (0, e ∙ ap (λ (p : ℕ). record { event = event; place = p }) (omega arith), refl)
ids_at event place (s ∷ sent) letter (inr r) =
    let rest = ids_at event (place + 1) sent letter r in
    (suc rest.0, rest.1 ∙ ap (λ (p : ℕ). record { event = event; place = p }) (omega arith), rest.2)

-- each numbered letter was sent
pub letters_sent : (t : List Event) (letter : LetterId) → In letter (letters t) → is_some (letter_at t letter) ≡ true
letters_sent [] letter h = absurd h
letters_sent (e ∷ t) letter h = elim (in_append (letters t) (ids_from (length t) 0 e.sent) letter h) [
  | inl old ↦ by (letter_at t letter) refl (letters_sent t letter old)
  | inr new ↦
      let at = ids_at (length t) 0 e.sent letter new in
      subst (λ (x : LetterId). is_some (letter_at (e ∷ t) x) ≡ true) (sym (at.1 ∙ ap (λ (p : ℕ). record { event = length t; place = p }) (plus at.0))) (here at.0 at.2)
]
  where
    by : (o : Option Mail) → letter_at t letter ≡ o → is_some o ≡ true → is_some (letter_at (e ∷ t) letter) ≡ true
    by None f g = cc
    by (Some mail) f g = ap is_some (letter_older e t letter mail f)

    mapped : (k : ℕ) (o : Option Sent) → is_some o ≡ true → is_some (option_map (mail_of e) o) ≡ true
    mapped k None g = cc
    mapped k (Some s) g = refl

    plus : (k : ℕ) → 0 + k ≡ k
    plus k = omega arith

    here : (k : ℕ) → is_some (slice_get e.sent k) ≡ true → is_some (letter_at (e ∷ t) (record { event = length t; place = k })) ≡ true
    here k g =
        ap (λ (b : Bool). is_some (option_and_then (λ (x : Event). option_map (mail_of x) (slice_get x.sent k)) (if b then Some e else event_at t (length t)))) (eq-eqb (length t) (length t) refl)
        ∙ mapped k (slice_get e.sent k) g

-- an input that is no request
pub led_input : (script : Script) (r : Running) (input : Input) → IsUnderWay script r → MayCome script.objects r.trace input → ((a : Name) → AsksOf a input → ⊥) → Leads script r (with_event (by_pasts script.objects) r input)
led_input script r input led may none = (led_event script r input led may (λ a n at asks. absurd (none a asks)), refl)

pub deliver_leads : (script : Script) (r : Running) (k : ℕ) (letter : LetterId) → IsUnderWay script r → In letter (letters r.trace) → Leads script r (deliver (by_pasts script.objects) r k letter)
deliver_leads script r k letter led there =
    let after = (led_input script r (Receives letter) led (letters_sent r.trace letter there) (λ a asks. asks)).0 in
    (record { run = after.run; works = after.works; bound = after.bound }, refl)

-- the letter of a number, and the one that waits, are numbered letters
pub letter_numbered : (r : Running) (k : ℕ) (letter : LetterId) → letter_of r k ≡ Some letter → In letter (letters r.trace)
letter_numbered r k letter h = by (eqb k 0 || has_number r.lost k) h
  where
    by : (b : Bool) → (if b then None else slice_get (letters r.trace) (k - 1)) ≡ Some letter → In letter (letters r.trace)
    by true g = cc
    by false g = slice_in (letters r.trace) (k - 1) letter g

pub waiting_numbered : (r : Running) (k : ℕ) (ls : List LetterId) (w : ℕ × LetterId) → waiting_from r k ls ≡ Some w → In w.1 ls
waiting_numbered r k [] w h = cc
waiting_numbered r k (l ∷ ls) w h = by (has_number r.delivered k || has_number r.lost k) h (waiting_numbered r (k + 1) ls w)
  where
    by : (b : Bool) → (if b then waiting_from r (k + 1) ls else Some (k, l)) ≡ Some w → (waiting_from r (k + 1) ls ≡ Some w → In w.1 ls) → (w.1 ≡ l) ⊎ In w.1 ls
    by true g rest = inr (rest g)
    by false g rest = inl (ap (λ (p : ℕ × LetterId). p.1) (sym (same_Some (k, l) w g)))

pub one_delivery : (script : Script) (r : Running) → IsUnderWay script r → Leads script r (deliver_waiting (by_pasts script.objects) r (waiting r))
one_delivery script r led = by (waiting r) refl
  where
    by : (o : Option (ℕ × LetterId)) → waiting r ≡ o → Leads script r (deliver_waiting (by_pasts script.objects) r o)
    by None e = (led, refl)
    by (Some w) e = deliver_leads script r w.0 w.1 led (waiting_numbered r 1 (letters r.trace) w e)

pub deliveries_lead : (script : Script) (n : ℕ) (r : Running) → IsUnderWay script r → Leads script r (deliveries (by_pasts script.objects) n r)
deliveries_lead script zero r led = (led, refl)
deliveries_lead script (suc n) r led =
    let one = one_delivery script r led in
    let rest = deliveries_lead script n (deliver_waiting (by_pasts script.objects) r (waiting r)) one.0 in
    (rest.0, rest.1 ∙ one.1)

pub drain_leads : (script : Script) (r : Running) → IsUnderWay script r → Leads script r (drain (by_pasts script.objects) r)
drain_leads script r led = deliveries_lead script (waiting_weight r) r led

-- rounds, each with a drain behind it
pub whole_round_leads : (script : Script) (r : Running) → IsInRange script → IsUnderWay script r → Leads script r (round (by_pasts script.objects) script.bodies r)
whole_round_leads script r range led =
    let first = round_leads script (in_order r.bodies) r range led in
    let second = drain_leads script (go_in_round (by_pasts script.objects) script.bodies (in_order r.bodies) r) first.0 in
    (second.0, second.1 ∙ first.1)

rounds_lead : (script : Script) (n : ℕ) (r : Running) → IsInRange script → IsUnderWay script r → Leads script r (rounds (by_pasts script.objects) script.bodies n r)
rounds_lead script zero r range led = (led, refl)
rounds_lead script (suc n) r range led =
    let after : Running = round (by_pasts script.objects) script.bodies r in
    let here : Leads script r after = whole_round_leads script r range led in
    let rest = rounds_lead script n after range here.0 in
    elim (nat_lt (length r.trace) (length after.trace)) as (λ (b : Bool). Leads script r (if b then rounds (by_pasts script.objects) script.bodies n after else after)) [
      | true ↦ (rest.0, rest.1 ∙ here.1)
      | false ↦ here
    ]

pub play_leads : (script : Script) (r : Running) → IsInRange script → IsUnderWay script r → Leads script r (play (by_pasts script.objects) script.bodies r)
play_leads script r range led = rounds_lead script 514 r range led
