-- The letters that one event sent, and the node to which a letter was sent.
use Rattle.std.proofs.Common.{◌≡◌, ℕ, zero, suc, ◌+◌, ◌<◌, List, []}
use Rattle.std.proofs.Common.{◌∷◌, get_or, length, Option, Some, None, refl, sym, ap, ◌∙◌}
use Rattle.std.proofs.Common.{true, false, arith}
use Rattle.std.specs.Prelude.{nat_lt, reverse, slice_get, option_map, option_and_then}
use Rattle.std.proofs.lemmas.Option.{slice_get_past}
use Rattle.cam_event.specs.declared.Event.{Event}
use Rattle.cam_event.specs.declared.LetterId.{LetterId}
use Rattle.cam_event.specs.declared.Sent.{Sent}
use Rattle.cam_event.specs.Inputs.{Mail, letter_at}
use Rattle.cam_runs.specs.Running.{ids_from}
use Rattle.cam_cluster.proofs.Letters.{read_letter, sent_of}
use Rattle.cam_cluster.proofs.PlacedNodes.{taken_there}

-- the letters of one event
pub ids_many : (event place : ℕ) (sent : List Sent) → length (ids_from event place sent)
    ≡ length sent
ids_many event place [] = refl
ids_many event place (s ∷ sent) = ap (λ (n : ℕ). suc n) (ids_many event (place + 1) sent)

pub id_there : (event place : ℕ) (sent : List Sent) (k : ℕ) → k < length sent
    → slice_get (ids_from event place sent) k ≡ Some (record { event = event; place = place + k })
id_there event place [] k less = absurd (omega (arith, less))
id_there event place (s ∷ sent) zero less =
    ap (λ (p : ℕ). Some (record { event = event; place = p })) (omega arith)
id_there event place (s ∷ sent) (suc k) less =
    id_there event (place + 1) sent k (omega (arith, less))
    ∙ ap (λ (p : ℕ). Some (record { event = event; place = p })) (omega arith)

-- the node to which a letter was sent
pub receiver_of : (events : List Event) (id : LetterId)
    → option_map (λ (m : Mail). m.to) (letter_at (reverse events) id)
    ≡ option_map (λ (s : Sent). s.to)
    (option_and_then (λ (e : Event). slice_get e.sent id.place) (slice_get events id.event))
receiver_of events id =
    by (letter_at (reverse events) id)
    ∙ ap (option_map (λ (s : Sent). s.to)) (read_letter events id)
  where
    by : (o : Option Mail) → option_map (λ (m : Mail). m.to) o
        ≡ option_map (λ (s : Sent). s.to) (option_map sent_of o)
    by None = refl
    by (Some m) = refl

pub no_event : (events : List Event) (id : LetterId) → false ≡ nat_lt id.event (length events)
    → option_map (λ (m : Mail). m.to) (letter_at (reverse events) id) ≡ None
no_event events id past =
    receiver_of events id
    ∙ ap (λ (o : Option Event). option_map (λ (s : Sent). s.to)
    (option_and_then (λ (e : Event). slice_get e.sent id.place) o))
    (slice_get_past events id.event (grind (arith, past)))

pub of_event : (events : List Event) (id : LetterId) (e : Event) (o : Option Sent)
    → true ≡ nat_lt id.event (length events) → e ≡ get_or events id.event e
    → o ≡ slice_get e.sent id.place
    → option_map (λ (m : Mail). m.to) (letter_at (reverse events) id)
    ≡ option_map (λ (s : Sent). s.to) o
of_event events id e o within is sent =
    receiver_of events id
    ∙ ap (λ (x : Option Event). option_map (λ (s : Sent). s.to)
    (option_and_then (λ (y : Event). slice_get y.sent id.place) x))
    (taken_there events id.event e (grind (arith, within)) is)
    ∙ ap (option_map (λ (s : Sent). s.to)) (sym sent)
