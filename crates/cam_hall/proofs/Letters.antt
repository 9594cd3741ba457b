-- Letters that stand in the histories of what is left.
use Rattle.std.proofs.Common.{◌≡◌, ℕ, ◌+◌, ◌≤◌, List, length, sym, ap, ◌∙◌, inl, inr, arith}
use Rattle.std.specs.Prelude.{Some, None, slice_get}
use Rattle.std.proofs.lemmas.Bool.{cases_lt}
use Rattle.std.proofs.lemmas.Option.{slice_get_within}
use Rattle.atomic_table.specs.Seated.{TableId}
use Rattle.cam_journal.specs.Seats.{Sitting, letter_at}
use Rattle.cam_hall.specs.Ending.{IsFound, HasNone, HasLetter}

module _ {E L : Type 0} (sends : E → List L) (goes_to : L → ℕ) where
  -- one seat more has no such letter
  pub none_more : (journal : TableId) (seats : List (Sitting E L)) (node number place at : ℕ)
      (seat : Sitting E L) → slice_get seats at ≡ Some seat
      → HasNone sends goes_to seats node number place at
      → IsFound sends goes_to journal seat.history node number place None
      → HasNone sends goes_to seats node number place (at + 1)
  none_more journal seats node number place at seat stands before none other one letter below there
      is =
      elim (cases_lt other at) [
        | inl less ↦ before other one letter less there is
        | inr more ↦
            let same : other ≡ at = omega (arith, below, more) in
            let both : Some seat ≡ Some one =
            sym stands ∙ ap (slice_get seats) (sym same) ∙ there in
            let one_is : seat ≡ one = cc in
            none letter
            (ap (λ (s : Sitting E L). letter_at sends s.history number place) one_is ∙ is)
      ]

  -- where none of the seats has such a letter, there is none
  pub none_never : (seats : List (Sitting E L)) (node number place count : ℕ) → length seats ≤ count
      → HasNone sends goes_to seats node number place count
      → HasLetter sends goes_to seats node number place → ⊥
  none_never seats node number place count all none has =
      let letter = has.1 in
      let within = slice_get_within seats letter.at letter.seat letter.stands in
      none letter.at letter.seat has.0 (omega (arith, within, all)) letter.stands letter.is
      letter.goes
