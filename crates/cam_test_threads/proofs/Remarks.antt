-- Remarks that stand in the histories of what is left.
use Rattle.std.proofs.Common.{◌≡◌, ℕ, ◌<◌, List, length, get_or, sym, ap, ◌∙◌}
use Rattle.std.specs.Prelude.{Some, slice_get}
use Rattle.std.proofs.lemmas.Option.{slice_get-get_or}
use Rattle.cam_journal.specs.declared.entry.NumberedEvent.{NumberedEvent}
use Rattle.cam_journal.specs.Seats.{Sitting, letter_at}
use Rattle.cam_hall.specs.Ending.{HasLetter}
use Rattle.cam_test_threads.specs.declared.speaker.Remark.{Remark}
use Rattle.cam_test_threads.specs.declared.speaker.Speech.{Speech}
use Rattle.cam_test_threads.specs.declared.speaker.Speech.TheVariants.{Spoken}
use Rattle.cam_test_threads.specs.Speaking.{sends, HasRemark}

-- an event that spoke to the node
pub remark_found : (history : List (NumberedEvent Speech Remark)) (node number : ℕ) (speech : Speech)
    (remark : Remark)
    → ((place : ℕ) → letter_at sends history number place ≡ slice_get (sends speech) place)
    → speech ≡ Spoken remark → remark.to ≡ node → HasRemark history node number
remark_found history node number speech remark letters is to =
    (remark, letters 0 ∙ ap (λ (s : Speech). slice_get (sends s) 0) is, to)

-- a remark in the history of a seat is a letter of the seats
pub letter_found : (seats : List (Sitting Speech Remark)) (at node number : ℕ)
    (seat : Sitting Speech Remark) → at < length seats → seat ≡ get_or seats at seat
    → HasRemark seat.history node number
    → HasLetter sends (λ remark. remark.to) seats node number 0
letter_found seats at node number seat within is has = (
  has.0,
  record {
    at = at;
    seat = seat;
    stands = slice_get-get_or seats at seat within ∙ ap Some (sym is);
    is = has.1;
    goes = has.2;
  },
)
