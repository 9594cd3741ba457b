-- A letter is what its event sent, and stays so.
use Rattle.std.proofs.Common.{◌≡◌, if◌then◌else◌, ◌<◌, eqb, Bool, false, List, ◌∷◌, length, Option, Some, refl, sym, ap, ◌∙◌, arith}
use Rattle.std.specs.Prelude.{slice_get, option_map, option_and_then}
use Rattle.std.proofs.lemmas.Bool.{eq-eqb, ne_eqb}
use Rattle.cam_event.specs.declared.Event.{Event}
use Rattle.cam_event.specs.declared.Sent.{Sent}
use Rattle.cam_event.specs.Inputs.{mail_of, event_at, letter_at}
use Rattle.cam_event.specs.ByDeltas.{Received, of_node, up_to, load_for, load_by, received_of}
use Rattle.cam_event.proofs.Members.{event_below}
use Rattle.cam_cut.proofs.Families.{sent_by, letter_older}
use Rattle.cam_delta.proofs.Growing.{received_length}
use Rattle.cam_histories.specs.Sending.{new_letter, LettersAreSent, LettersStay}

pub letters_are_sent : LettersAreSent
letters_are_sent objects t e place sent at = (mail, ap (load_by objects all (Some (new_letter t place))) mail ∙ ap (λ (l : List Received). load_for objects e.node (of_node l e.node) sent.to) whole)
  where
    all : List Received
    all = received_of objects (e ∷ t)

    mail : letter_at (e ∷ t) (new_letter t place) ≡ Some (mail_of e sent)
    mail =
        ap (λ (b : Bool). option_and_then (λ (x : Event). option_map (mail_of x) (slice_get x.sent place)) (if b then Some e else event_at t (length t))) (eq-eqb (length t) (length t) refl)
        ∙ ap (λ (o : Option Sent). option_map (mail_of e) o) at

    whole : up_to all (length t) ≡ all
    whole = ap (λ (b : Bool). if b then all else up_to (received_of objects t) (length t)) (eq-eqb (length t) (length (received_of objects t)) (sym (received_length objects t)))

pub letters_stay : LettersStay
letters_stay objects t e letter mail at =
    (older, ap (load_by objects (received_of objects (e ∷ t)) (Some letter)) older ∙ ap (λ (l : List Received). load_for objects mail.from (of_node l mail.from) mail.to) front ∙ sym (ap (load_by objects (received_of objects t) (Some letter)) at))
  where
    older : letter_at (e ∷ t) letter ≡ Some mail
    older = letter_older e t letter mail at

    below : letter.event < length t
    below = let from = sent_by t letter mail at in event_below t letter.event from.event from.at

    other : eqb letter.event (length (received_of objects t)) ≡ false
    other = ap (eqb letter.event) (received_length objects t) ∙ ne_eqb letter.event (length t) (λ (same : letter.event ≡ length t). let less = below in omega (arith, same, less))

    front : up_to (received_of objects (e ∷ t)) letter.event ≡ up_to (received_of objects t) letter.event
    front = ap (λ (b : Bool). if b then received_of objects (e ∷ t) else up_to (received_of objects t) letter.event) other
