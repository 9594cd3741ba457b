-- What a letter carries from when it is sent.
use Rattle.std.specs.Prelude.{◌≡◌, ℕ, List, ◌∷◌, length, Some, slice_get}
use Rattle.cam_type.specs.declared.ObjectDecl.{ObjectDecl}
use Rattle.cam_event.specs.declared.LetterId.{LetterId}
use Rattle.cam_event.specs.declared.Event.{Event}
use Rattle.cam_event.specs.declared.Sent.{Sent}
use Rattle.cam_event.specs.Inputs.{Mail, mail_of, letter_at}
use Rattle.cam_event.specs.ByDeltas.{load_for, load_at}
use Rattle.cam_histories.specs.Laws.{history_of}

-- the letter at this place among those of the event that comes next
abbrev pub new_letter : List Event → ℕ → LetterId
new_letter t place = record { event = length t; place = place }

-- The letters of an event are those that it sent, with what the history of its node up to it lets them carry,
abbrev pub LettersAreSent : Type 0
LettersAreSent =
    (objects : List ObjectDecl) (t : List Event) (e : Event) (place : ℕ) (sent : Sent) → slice_get e.sent place ≡ Some sent
    → (letter_at (e ∷ t) (new_letter t place) ≡ Some (mail_of e sent)) × (load_at objects (e ∷ t) (new_letter t place) ≡ load_for objects e.node (history_of objects (e ∷ t) e.node) sent.to)

-- and stay so, whatever comes after.
abbrev pub LettersStay : Type 0
LettersStay =
    (objects : List ObjectDecl) (t : List Event) (e : Event) (letter : LetterId) (mail : Mail) → letter_at t letter ≡ Some mail
    → (letter_at (e ∷ t) letter ≡ Some mail) × (load_at objects (e ∷ t) letter ≡ load_at objects t letter)
