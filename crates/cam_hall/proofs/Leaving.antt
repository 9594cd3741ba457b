-- What is left when the workers have ended: a core and a seat for each node, in order.
use Rattle.std.proofs.Common.{◌≡◌, ◌≢◌, ℕ, zero, suc, ◌+◌, ◌-◌, ◌<◌, ◌≤◌, List, [], ◌∷◌, length, get_or, set, map, refl, sym, ap, ◌∙◌, subst, inl, inr, arith}
use Rattle.std.specs.Prelude.{All, Contains, Some, slice_get}
use Rattle.std.proofs.lemmas.Bool.{cases_eq}
use Rattle.std.proofs.lemmas.List.{length-set, length-map}
use Rattle.std.proofs.lemmas.List.Elements.{All-nil, All-cons, Contains-get_or}
use Rattle.std.proofs.lemmas.Option.{slice_get_within, slice_get-get_or}
use Rattle.cam_journal.specs.declared.entry.NumberedEvent.{NumberedEvent}
use Rattle.cam_journal.specs.Seats.{Sitting}
use Rattle.cam_journal.specs.Gathered.{AreSeats, IsApart}
use Rattle.cam_hall.specs.Turns.{Standing, IsStanding}
use Rattle.cam_hall.specs.Ending.{Left, StandsAt, IsLeft, IsMoved}
use Rattle.cam_hall.proofs.Places.{here, place_of, set_here, set_there}

module _ {S E L : Type 0} (is_replay : S → ℕ → List (NumberedEvent E L) → Type 0) where
  -- the core beside a seat, and what holds of both
  beside : (left : Left S E L) → IsLeft is_replay left → (at : ℕ) (seat : Sitting E L)
      → slice_get left.seats at ≡ Some seat
      → (core : S)
      × IsStanding is_replay left.journal.id (at + 1) (record { core = core; seat = seat })
  beside left is at seat there =
      let within = slice_get_within left.seats at seat there in
      let cores = is.cores in
      let seats = is.seats in
      let core = place_of left.cores at (omega arith) in
      let slot : Standing S E L = record { core = core.0; seat = seat } in
      (core.0, is.each at slot (record { core = core.1; seat = there }))

  -- the core and the seat at a place, read as code reads them
  pub read_at : (left : Left S E L) → IsLeft is_replay left → (at : ℕ) (core : S)
      (seat : Sitting E L) → at < left.journal.nodes → core ≡ get_or left.cores at core
      → seat ≡ get_or left.seats at seat
      → StandsAt left at (record { core = core; seat = seat })
  read_at left is at core seat within core_is seat_is =
      let cores = is.cores in
      let seats = is.seats in
      record {
        core = here left.cores at core core_is (omega (arith, within, cores));
        seat = here left.seats at seat seat_is (omega (arith, within, seats));
      }

  -- each seat is of the journal
  pub own_seats : (left : Left S E L) → IsLeft is_replay left
      → All (λ seat. seat.journal ≡ left.journal.id) left.seats
  own_seats left is =
      λ at default within.
      (beside left is at (get_or left.seats at default)
      (slice_get-get_or left.seats at default within)).1.own

  -- a core and a seat that take the place of those of a node
  pub left_after : (left : Left S E L) (at : ℕ) (before after : Standing S E L)
      → IsLeft is_replay left → StandsAt left at before
      → IsStanding is_replay left.journal.id (at + 1) after
      → IsLeft is_replay (record {
        journal = left.journal;
        cores = set left.cores at after.core;
        seats = set left.seats at after.seat;
      })
  left_after left at before after is stood standing = record {
    cores = length-set left.cores at after.core ∙ is.cores;
    seats = length-set left.seats at after.seat ∙ is.seats;
    each = λ other slot there.
        elim (cases_eq other at) [
          | inl same ↦
              let core_there : slice_get (set left.cores at after.core) other ≡ Some after.core =
              ap (slice_get (set left.cores at after.core)) same
              ∙ set_here left.cores at after.core
              (slice_get_within left.cores at before.core stood.core) in
              let seat_there : slice_get (set left.seats at after.seat) other ≡ Some after.seat =
              ap (slice_get (set left.seats at after.seat)) same
              ∙ set_here left.seats at after.seat
              (slice_get_within left.seats at before.seat stood.seat) in
              let core_both : Some after.core ≡ Some slot.core = sym core_there ∙ there.core in
              let seat_both : Some after.seat ≡ Some slot.seat = sym seat_there ∙ there.seat in
              let core_is : after.core ≡ slot.core = cc in
              let seat_is : after.seat ≡ slot.seat = cc in
              subst (λ (n : ℕ). IsStanding is_replay left.journal.id (n + 1) slot) (sym same)
              (subst
              (λ (c : S).
              IsStanding is_replay left.journal.id (at + 1) (record { core = c; seat = slot.seat }))
              core_is
              (subst
              (λ (s : Sitting E L).
              IsStanding is_replay left.journal.id (at + 1)
              (record { core = after.core; seat = s }))
              seat_is standing))
          | inr apart ↦
              is.each other slot (record {
                core = sym (set_there left.cores at other after.core apart) ∙ there.core;
                seat = sym (set_there left.seats at other after.seat apart) ∙ there.seat;
              })
        ];
  }

  -- the seats are those of the nodes behind this one, in order
  abbrev NumberedFrom : ℕ → List (Sitting E L) → Type 0
  NumberedFrom base seats =
      (at : ℕ) (seat : Sitting E L) → slice_get seats at ≡ Some seat → seat.node ≡ base + at + 1

  other_nodes : (base low : ℕ) (seats : List (Sitting E L)) → NumberedFrom base seats → low ≤ base
      → All (λ other. other ≢ low) (map (λ seat. seat.node) seats)
  other_nodes base low [] each below = All-nil (λ (other : ℕ). other ≢ low)
  other_nodes base low (seat ∷ seats) each below =
      let first = each 0 seat refl in
      All-cons (λ (other : ℕ). other ≢ low) seat.node (map (λ (s : Sitting E L). s.node) seats)
      (λ same. omega (arith, first, below, same))
      (other_nodes (base + 1) low seats (λ at one there. each (suc at) one there ∙ omega arith)
      (omega arith))

  apart_nodes : (base : ℕ) (seats : List (Sitting E L)) → NumberedFrom base seats
      → IsApart (map (λ seat. seat.node) seats)
  apart_nodes base [] each = tt
  apart_nodes base (seat ∷ seats) each =
      let rest : NumberedFrom (base + 1) seats =
      λ at one there. each (suc at) one there ∙ omega arith in
      let first = each 0 seat refl in
      let others = other_nodes (base + 1) seat.node seats rest (omega (arith, first)) in
      (others, apart_nodes (base + 1) seats rest)

  node_at : (seats : List (Sitting E L)) (at : ℕ) (seat : Sitting E L)
      → slice_get seats at ≡ Some seat → get_or (map (λ one. one.node) seats) at 0 ≡ seat.node
  node_at [] at seat there = absurd (cc)
  node_at (one ∷ seats) zero seat there =
      let is : one ≡ seat = cc in ap (λ (s : Sitting E L). s.node) is
  node_at (one ∷ seats) (suc at) seat there = node_at seats at seat there

  -- The seats are those of the journal, one for each node.
  pub left_are_seats : (left : Left S E L) → IsLeft is_replay left
      → AreSeats left.journal left.seats
  left_are_seats left is =
      let placed : NumberedFrom 0 left.seats =
      λ at seat there. (beside left is at seat there).1.number ∙ omega arith in
      let nodes = map (λ (seat : Sitting E L). seat.node) left.seats in
      let count = is.seats in
      let long = length-map left.seats (λ (s : Sitting E L). s.node) in
      record {
        count = count;
        own = own_seats left is;
        apart = apart_nodes 0 left.seats placed;
        each = λ node is_node.
            let low = is_node.0 in
            let high = is_node.1 in
            let seat = place_of left.seats (node - 1) (omega (arith, low, high, count)) in
            let numbered = placed (node - 1) seat.0 seat.1 in
            let same : get_or nodes (node - 1) 0 ≡ node =
            node_at left.seats (node - 1) seat.0 seat.1 ∙ numbered ∙ omega (arith, low) in
            subst (Contains nodes) same
            (Contains-get_or nodes (node - 1) 0 (omega (arith, low, high, count, long)));
      }

  -- nothing but the core and the seat of a node was changed
  pub moved_at : (left : Left S E L) (at : ℕ) (before after : Standing S E L)
      → StandsAt left at before
      → IsMoved left (record {
        journal = left.journal;
        cores = set left.cores at after.core;
        seats = set left.seats at after.seat;
      }) at before after
  moved_at left at before after stood = record {
    stood = stood;
    stands = record {
      core =
          set_here left.cores at after.core
          (slice_get_within left.cores at before.core stood.core);
      seat =
          set_here left.seats at after.seat
          (slice_get_within left.seats at before.seat stood.seat);
    };
    journal = refl;
    others = λ other slot apart there. record {
      core = set_there left.cores at other after.core apart ∙ there.core;
      seat = set_there left.seats at other after.seat apart ∙ there.seat;
    };
  }
