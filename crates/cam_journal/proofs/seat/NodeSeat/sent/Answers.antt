use Rattle.std.proofs.Common.{◌≡◌, ℕ, zero, suc, ◌<◌, List, [], ◌∷◌, length, refl, sym, ap, subst, arith}
use Rattle.std.proofs.lemmas.Bool.Decides.{nat_tests}
use Rattle.std.specs.Prelude.{IsSome, IsTrue, Option, nat_lt, slice_get}
use Rattle.cam_journal.specs.declared.entry.NumberedEvent.{NumberedEvent}
use Rattle.cam_journal.specs.Seats.{letter_at}
use Rattle.cam_journal.proofs.Letters.{seat_rises, sender_kept, letter_of, place_within}
use Rattle.cam_journal.proofs.seat.NodeSeat.sent.Goals as goal

some_within : {A : Type 0} (xs : List A) (k : ℕ) → k < length xs → IsSome (slice_get xs k)
some_within [] k within = absurd (omega arith)
some_within (x ∷ xs) zero within = refl
some_within (x ∷ xs) (suc k) within = some_within xs k (omega arith)

below : (a b c : ℕ) → b ≡ c → IsTrue (nat_lt a b) → a < c
below a b c same less = grind (arith, nat_tests)

is_below : (a b c : ℕ) → b ≡ c → a < c → IsTrue (nat_lt a b)
is_below a b c same less = grind (arith, nat_tests)

pub event_of-requires : goal.event_of-requires
event_of-requires g c =
    let core = g.C.Core in
    seat_rises core.sends core.lawful c.self.inside.entries.items c.self.inside.token.me.0
    c.self.invariant.1

pub returns-in-Some : goal.returns-in-Some
returns-in-Some g c =
    let core = g.C.Core in
    let seat = c.self.inside in
    let number = c.args.number in
    let place = c.args.place in
    let history = ap (λ s. s.history) c.self.view_is in
    let sent = core.sends c.in-Some.event.now in
    let there = c.in-Some.ensures in
    let same =
    letter_of core.sends core.lawful seat.entries.items seat.token.me.0 number place there.0
    c.in-Some.event.now c.self.invariant.1 there.1 in
    let Is : List (NumberedEvent g.row.C-Event.Denot g.row.C-Letter.Denot) → Type 0 =
    λ h. IsSome (letter_at core.sends h number place) in
    let IsThere : Option g.row.C-Letter.Denot → Type 0 = λ o. IsSome o in (
      (λ less.
          subst Is history
          (subst IsThere (sym same)
          (some_within sent place (below place _ (length sent) c.letters.ensures less)))),
      (λ is.
          is_below place _ (length sent) c.letters.ensures
          (place_within core.sends core.lawful seat.entries.items seat.token.me.0 number place
          there.0 c.in-Some.event.now c.self.invariant.1 there.1 (subst Is (sym history) is))),
    )

pub returns-in-None : goal.returns-in-None
returns-in-None g c =
    let core = g.C.Core in
    let seat = c.self.inside in
    let Is : List (NumberedEvent g.row.C-Event.Denot g.row.C-Letter.Denot) → Type 0 =
    λ h. IsSome (letter_at core.sends h c.args.number c.args.place) in
    let history = ap (λ s. s.history) c.self.view_is in (
      (λ no. absurd (cc)),
      (λ is.
          absurd
          (sender_kept core.sends core.lawful seat.entries.items seat.token.me.0 c.args.number
          c.args.place c.self.invariant.1 (subst Is (sym history) is) c.in-None.ensures)),
    )
