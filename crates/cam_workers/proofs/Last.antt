-- The last core and the last seat of some nodes, and those before them.
use Rattle.std.proofs.Common.{◌≡◌, ℕ, ◌+◌, ◌-◌, ◌<◌, List, [], ◌∷◌, ◌++◌, length, map, ap, sym, ◌∙◌, subst, arith, length-append}
use Rattle.std.specs.Prelude.{Some, slice_get}
use Rattle.std.proofs.lemmas.List.{map-append}
use Rattle.atomic_table.specs.Seated.{TableId}
use Rattle.cam_journal.specs.declared.entry.NumberedEvent.{NumberedEvent}
use Rattle.cam_journal.specs.Seats.{Sitting}
use Rattle.cam_journal.proofs.Lists.{slice_get-longer, slice_get-end}
use Rattle.cam_hall.specs.Turns.{IsStanding}
use Rattle.cam_workers.specs.Standing.{AreStanding}

-- what is seen of a list with one more, the last
pub seen_last : {X Y : Type 0} (f : X → Y) (xs all : List X) (x : X) → all ≡ xs ++ x ∷ []
    → map f all ≡ map f xs ++ f x ∷ []
seen_last f xs all x is = ap (map f) is ∙ map-append f xs (x ∷ [])

module _ {S E L : Type 0} (is_replay : S → ℕ → List (NumberedEvent E L) → Type 0)
    (journal : TableId) (nodes : ℕ) (cores before : List S) (core : S)
    (seats front : List (Sitting E L)) (seat : Sitting E L)
    (standing : AreStanding is_replay journal nodes cores seats)
    (cores_are : cores ≡ before ++ core ∷ []) (seats_are : seats ≡ front ++ seat ∷ []) where
  many_cores : length before + 1 ≡ nodes
  many_cores =
      let long = ap length cores_are in
      let count = standing.cores in
      omega (arith, long, count, length-append before (core ∷ []))

  many_seats : length front + 1 ≡ nodes
  many_seats =
      let long = ap length seats_are in
      let count = standing.seats in
      omega (arith, long, count, length-append front (seat ∷ []))

  -- they stand for the last node
  pub last_stands : IsStanding is_replay journal nodes (record { core = core; seat = seat })
  last_stands =
      let one = many_cores in
      let other = many_seats in
      let same : length front ≡ length before = omega (arith, one, other) in
      subst
      (λ (n : ℕ). IsStanding is_replay journal n (record { core = core; seat = seat })) one
      (standing.each (length before) (record { core = core; seat = seat }) (record {
        core = ap (λ (xs : List S). slice_get xs (length before)) cores_are ∙ slice_get-end before core;
        seat =
            ap (λ (xs : List (Sitting E L)). slice_get xs (length before)) seats_are
            ∙ ap (slice_get (front ++ seat ∷ [])) (sym same)
            ∙ slice_get-end front seat;
      }))

  -- and the others for those before it
  pub others_stand : AreStanding is_replay journal (nodes - 1) before front
  others_stand =
      let one = many_cores in
      let other = many_seats in
      record {
        cores = omega (arith, one);
        seats = omega (arith, other);
        each = λ at slot there.
            standing.each at slot (record {
              core =
                  ap (λ (xs : List S). slice_get xs at) cores_are
                  ∙ slice_get-longer before (core ∷ []) at slot.core there.core;
              seat =
                  ap (λ (xs : List (Sitting E L)). slice_get xs at) seats_are
                  ∙ slice_get-longer front (seat ∷ []) at slot.seat there.seat;
            });
      }
