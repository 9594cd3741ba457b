-- A turn of a node of what is left: an event comes, or all is as it was and the node is done with
-- the item.
use Rattle.std.proofs.Common.{◌≡◌, ◌≢◌, ◌⊎◌, inl, inr, ℕ, ◌+◌, ◌<◌, Bool, List, [], ◌∷◌, ◌++◌, length, get_or, map, set, Option, refl, sym, ap, ◌∙◌, subst, arith}
use Rattle.std.specs.Prelude.{Ok, Some, option_map, slice_get, true}
use Rattle.std.specs.List.{sum_by}
use Rattle.std.proofs.lemmas.Bool.{cases_lt}
use Rattle.std.proofs.lemmas.List.{length-append, length-map, map-set}
use Rattle.std.proofs.lemmas.List.Sums.{sum_by-set}
use Rattle.std.proofs.lemmas.Option.{get_or_from_slice_get, same_Some, slice_get-map, slice_get_past, slice_get_within}
use Rattle.cam_journal.specs.declared.entry.NumberedEvent.{NumberedEvent}
use Rattle.cam_journal.specs.declared.input.CoreInput.{CoreInput}
use Rattle.cam_journal.specs.Seats.{Mention, Sitting}
use Rattle.cam_journal.specs.Taking.{AnswerLaw, entry}
use Rattle.cam_journal.specs.Trace.{EventLaw}
use Rattle.cam_hall.specs.declared.item.ItemOf.{ItemOf}
use Rattle.cam_hall.specs.declared.turned.TurnedOf.{TurnedOf}
use Rattle.cam_hall.specs.declared.turned.TurnedOf.TheVariants.{Did, Full, Nothing}
use Rattle.cam_hall.specs.Turns.{Standing, core_input}
use Rattle.cam_hall.specs.Ending.{IsItem, IsLeft, IsMoved, IsTaken, Left, StandsAt}
use Rattle.cam_hall.proofs.Places.{place_of, put_back}
use Rattle.cam_workers.specs.Rest.{HasPassed, IsDone, Stood, events, stood}
use Rattle.cam_workers.proofs.Placed.{set_is}
use Rattle.cam_workers.proofs.Passing.{comes, stood_still}

module _ {S E L : Type 0} (is_replay : S → ℕ → List (NumberedEvent E L) → Type 0) where
  -- what stood elsewhere stands there
  elsewhere : (old new : Left S E L) (at : ℕ) (before after : Standing S E L)
      → IsLeft is_replay old → IsLeft is_replay new → IsMoved old new at before after → (other : ℕ)
      → other ≢ at
      → (slice_get new.cores other ≡ slice_get old.cores other)
      × (slice_get new.seats other ≡ slice_get old.seats other)
  elsewhere old new at before after was is moved other apart =
      let old_cores = was.cores in
      let old_seats = was.seats in
      let new_cores = is.cores in
      let new_seats = is.seats in
      let same = ap (λ (j : _). j.nodes) moved.journal in
      elim (cases_lt other old.journal.nodes) [
        | inl within ↦
            let core = place_of old.cores other (omega (arith, within, old_cores)) in
            let seat = place_of old.seats other (omega (arith, within, old_seats)) in
            let there =
            moved.others other (record { core = core.0; seat = seat.0 }) apart
            (record { core = core.1; seat = seat.1 }) in
            (there.core ∙ sym core.1, there.seat ∙ sym seat.1)
        | inr past ↦ (
          slice_get_past new.cores other (omega (arith, past, new_cores, same))
              ∙ sym (slice_get_past old.cores other (omega (arith, past, old_cores))),
          slice_get_past new.seats other (omega (arith, past, new_seats, same))
              ∙ sym (slice_get_past old.seats other (omega (arith, past, old_seats))),
        )
      ]

  -- so what stands now is what stood, with the core and the history of the node
  pub set_at : (old new : Left S E L) (at : ℕ) (before after : Standing S E L)
      → IsLeft is_replay old → IsLeft is_replay new → IsMoved old new at before after
      → stood new
      ≡ record {
        cores = set (stood old).cores at after.core;
        histories = set (stood old).histories at after.seat.history;
      }
  set_at old new at before after was is moved =
      let old_cores = was.cores in
      let old_seats = was.seats in
      let new_cores = is.cores in
      let new_seats = is.seats in
      let same = ap (λ (j : _). j.nodes) moved.journal in
      let cores : new.cores ≡ set old.cores at after.core =
      set_is old.cores new.cores at after.core (omega (arith, old_cores, new_cores, same))
      moved.stands.core
      (λ other apart. (elsewhere old new at before after was is moved other apart).0) in
      let seats : new.seats ≡ set old.seats at after.seat =
      set_is old.seats new.seats at after.seat (omega (arith, old_seats, new_seats, same))
      moved.stands.seat
      (λ other apart. (elsewhere old new at before after was is moved other apart).1) in
      let histories : (stood new).histories ≡ set (stood old).histories at after.seat.history =
      ap (map (λ (seat : Sitting E L). seat.history)) seats
      ∙ map-set (λ (seat : Sitting E L). seat.history) old.seats at after.seat in
      (λ i. record { cores = cores i; histories = histories i })

  -- the history that stood at a place
  pub history_at : (left : Left S E L) (at : ℕ) (slot : Standing S E L) → StandsAt left at slot
      → slice_get (stood left).histories at ≡ Some slot.seat.history
  history_at left at slot stands =
      slice_get-map (λ (seat : Sitting E L). seat.history) left.seats at
      ∙ (λ i. option_map (λ (seat : Sitting E L). seat.history) (stands.seat i))

  -- a core and a history that are as they were: so is all that stands
  unchanged : (old new : Left S E L) (at : ℕ) (before after : Standing S E L)
      → IsLeft is_replay old → IsLeft is_replay new → IsMoved old new at before after
      → after.seat.history ≡ before.seat.history → after.core ≡ before.core
      → stood new ≡ stood old
  unchanged old new at before after was is moved history core =
      let there = history_at old at before moved.stood in
      let cores : set (stood old).cores at after.core ≡ (stood old).cores =
      put_back (stood old).cores at before.core after.core core
      (sym (get_or_from_slice_get old.cores at before.core before.core moved.stood.core)) in
      let histories : set (stood old).histories at after.seat.history ≡ (stood old).histories =
      put_back (stood old).histories at before.seat.history after.seat.history history
      (sym
      (get_or_from_slice_get (stood old).histories at before.seat.history before.seat.history
      there)) in
      set_at old new at before after was is moved
      ∙ (λ i. record { cores = cores i; histories = histories i })

  -- A turn of a node: an event came; or all is as it was, and the node is done with the item.
  pub turn_passes : (faults : S → ℕ) (names : E → Option (ℕ × ℕ)) (sends : E → List L)
      (goes_to : L → ℕ) (lawful : EventLaw E L) (answers : AnswerLaw E L)
      (is_idle : S → CoreInput L → Bool) (Done : Stood S E L → Type 0) (node : ℕ)
      (old new : Left S E L) (letter : Option (ℕ × ℕ)) (turned : TurnedOf (Mention L))
      → IsLeft is_replay old → IsLeft is_replay new
      → IsTaken faults names sends goes_to lawful answers is_idle node old new letter (Ok turned)
      → ((item : ItemOf (Mention L)) (at : ℕ) → at + 1 ≡ node
      → IsItem sends goes_to old.journal.id old.seats node letter item
      → IsDone is_idle (stood old) at (core_input item) → Done (stood old))
      → HasPassed Done (stood old) (stood new)
  turn_passes faults names sends goes_to lawful answers is_idle Done node old new letter
      (Did number notes short) was is taken then =
      let at = taken.at in
      let hs = (stood old).histories in
      let h = taken.before.seat.history in
      let now = taken.after.seat.history in
      let there = history_at old at taken.before taken.moved.stood in
      let one = taken.turn.history.more.history in
      let sum =
      sum_by-set (λ (history : List (NumberedEvent E L)). length history) hs at now h
      (slice_get_within hs at h there) in
      let had : length (get_or hs at h) ≡ length h =
      ap (λ (history : List (NumberedEvent E L)). length history)
      (get_or_from_slice_get hs at h h there) in
      let long : length now ≡ length h + 1 =
      ap (λ (history : List (NumberedEvent E L)). length history) one ∙ length-append h (_ ∷ []) in
      let all =
      ap events (set_at old new at taken.before taken.after was is taken.moved) in
      comes Done (stood old) (stood new) (omega (arith, sum, had, long, all))
  turn_passes faults names sends goes_to lawful answers is_idle Done node old new letter Nothing was
      is taken then =
      stood_still Done (stood old) (stood new)
      (unchanged old new taken.at taken.before taken.after was is taken.moved taken.turn.history
      taken.turn.ends.rest)
      (then taken.item taken.at taken.place taken.is_item (λ core history core_at history_is.
      inl
      (subst (λ (k : S). is_idle k (core_input taken.item) ≡ true)
      (same_Some taken.before.core core (sym taken.moved.stood.core ∙ core_at))
      taken.turn.ends.exact)))
  turn_passes faults names sends goes_to lawful answers is_idle Done node old new letter Full was is
      taken then =
      stood_still Done (stood old) (stood new)
      (unchanged old new taken.at taken.before taken.after was is taken.moved taken.turn.history
      taken.turn.ends.rest)
      (then taken.item taken.at taken.place taken.is_item (λ core history core_at history_is.
      inr
      (ap (λ (h : List (NumberedEvent E L)). length h)
      (same_Some history taken.before.seat.history
      (sym history_is ∙ history_at old taken.at taken.before taken.moved.stood))
      ∙ taken.turn.ends.exact.1)))
