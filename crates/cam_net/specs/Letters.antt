-- The letters of a network, in order of sending, and what becomes of them. They are numbered from 1.
use Rattle.std.specs.Prelude.{ℕ, zero, suc, ◌-◌, eqb, Bool, true, false, if◌then◌else◌, List, [], ◌∷◌, take, Option, Some, None, slice_get}
use Rattle.std.specs.Option.{option_map, is_some}
use Rattle.cam_event.specs.declared.Letter.{Letter}
use Rattle.cam_wire.specs.Spelling.{spelled}

-- a letter that was put: its receiver, its bytes, whether it is lost, whether it was delivered
pub record InFlightFields : Type 0 where
  pub receiver : ℕ
  pub bytes : List ℕ
  pub lost : Bool
  pub delivered : Bool

-- what stands for a letter that was put and of which nothing is told yet
abbrev pub put_as : Letter → InFlightFields
put_as letter = record { receiver = letter.to; bytes = spelled letter; lost = false; delivered = false }

-- a letter unless it is lost
abbrev pub unless_lost : Option InFlightFields → Option InFlightFields
unless_lost None = None
unless_lost (Some letter) = if letter.lost then None else Some letter

-- the letter of a number, where one was put under it and is not lost
abbrev pub letter_of : List InFlightFields → ℕ → Option InFlightFields
letter_of letters number = if eqb number 0 then None else unless_lost (slice_get letters (number - 1))

-- whether a letter was put under the number and is not lost
abbrev pub has_letter : List InFlightFields → ℕ → Bool
has_letter letters number = is_some (letter_of letters number)

-- all bytes of the letter of a number
abbrev pub whole_of : List InFlightFields → ℕ → Option (List ℕ)
whole_of letters number = option_map (λ letter. letter.bytes) (letter_of letters number)

-- its first bytes, or all where it has no more
abbrev pub cut_of : List InFlightFields → ℕ → ℕ → Option (List ℕ)
cut_of letters number bytes = option_map (λ letter. take bytes letter.bytes) (letter_of letters number)

-- the letters with the one at a place changed
abbrev pub changed_at : (InFlightFields → InFlightFields) → List InFlightFields → ℕ → List InFlightFields
changed_at change [] place = []
changed_at change (letter ∷ letters) zero = change letter ∷ letters
changed_at change (letter ∷ letters) (suc place) = letter ∷ changed_at change letters place

-- the letters with the one of a number changed, where one was put under it
abbrev pub changed : (InFlightFields → InFlightFields) → List InFlightFields → ℕ → List InFlightFields
changed change letters number = if eqb number 0 then letters else changed_at change letters (number - 1)

-- the letter is lost for good
abbrev pub as_lost : InFlightFields → InFlightFields
as_lost letter = record letter { lost = true }

-- the letter was delivered, once at least
abbrev pub as_delivered : InFlightFields → InFlightFields
as_delivered letter = record letter { delivered = true }
