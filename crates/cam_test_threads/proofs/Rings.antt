-- The seats of a new journal, from the last one on.
use Rattle.std.proofs.Common.{◌≡◌, ℕ, ◌+◌, ◌-◌, List, [], ◌∷◌, ◌++◌, length, ap, ◌∙◌, arith, length-append}
use Rattle.std.specs.Prelude.{Some, slice_get}
use Rattle.atomic_table.specs.Seated.{TableId}
use Rattle.cam_journal.specs.Seats.{Sitting, AreNew}
use Rattle.cam_journal.proofs.Lists.{slice_get-longer, slice_get-end}

-- the last seat, and those before it
pub last_of : {E L : Type 0} (journal : TableId) (nodes : ℕ) (seats front : List (Sitting E L))
    (seat : Sitting E L) → AreNew journal nodes seats → seats ≡ front ++ seat ∷ []
    → (seat.journal ≡ journal) × (seat.node ≡ nodes) × (seat.history ≡ [])
    × AreNew journal (nodes - 1) front
last_of journal nodes seats front seat new is =
    let long = ap length is in
    let count = new.count in
    let more : length front + 1 ≡ nodes =
    omega (arith, long, count, length-append front (seat ∷ [])) in
    let there : slice_get seats (length front) ≡ Some seat =
    ap (λ (s : List (Sitting _ _)). slice_get s (length front)) is ∙ slice_get-end front seat in
    let last = new.each (length front) seat there in (
      last.0,
      last.1 ∙ more,
      last.2,
      record {
        count = omega (arith, more);
        each = λ at one within.
            new.each at one
            (ap (λ (s : List (Sitting _ _)). slice_get s at) is
            ∙ slice_get-longer front (seat ∷ []) at one within);
      },
    )
