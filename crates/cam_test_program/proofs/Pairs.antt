-- A journal of two nodes.
use Rattle.std.proofs.Common.{◌≡◌, ◌≢◌, ℕ, ◌==◌, List, [], ◌∷◌, ◌++◌, length, sym, ap, ◌∙◌, subst, inl, inr, arith, length-append}
use Rattle.std.specs.Prelude.{Contains, Some, None, IsSome, slice_get}
use Rattle.std.proofs.lemmas.Bool.{cases_lt}
use Rattle.std.proofs.lemmas.Bool.Decides.{nat_tests}
use Rattle.std.proofs.lemmas.List.Elements.{All-nil, All-cons, Contains-get_or}
use Rattle.atomic_table.specs.Seated.{TableId}
use Rattle.cam_journal.specs.declared.entry.NumberedEvent.{NumberedEvent}
use Rattle.cam_journal.specs.Seats.{Opened, Sitting, AreNew, letter_at}
use Rattle.cam_journal.specs.Gathered.{AreSeats}
use Rattle.cam_journal.proofs.Lists.{slice_get-longer, slice_get-end}
use Rattle.cam_journal.proofs.Histories.{if_here}

-- the seats of a new journal of two nodes, from the last on
pub last_two : {E L : Type 0} (journal : TableId) (seats front rest : List (Sitting E L)) (one two : Sitting E L) → AreNew journal 2 seats → seats ≡ front ++ two ∷ [] → front ≡ rest ++ one ∷ []
    → (one.journal ≡ journal) × (one.node ≡ 1) × (one.history ≡ []) × (two.journal ≡ journal) × (two.node ≡ 2)
last_two journal seats front rest one two new last before =
    let long = ap length last in
    let longer = ap length before in
    let count = new.count in
    let front_long : length front ≡ 1 = omega (arith, long, count, length-append front (two ∷ [])) in
    let rest_long : length rest ≡ 0 = omega (arith, longer, front_long, length-append rest (one ∷ [])) in
    let two_at : slice_get seats 1 ≡ Some two = ap (λ (s : List (Sitting _ _)). slice_get s 1) last ∙ ap (slice_get (front ++ two ∷ [])) (sym front_long) ∙ slice_get-end front two in
    let one_in : slice_get front 0 ≡ Some one = ap (λ (s : List (Sitting _ _)). slice_get s 0) before ∙ ap (slice_get (rest ++ one ∷ [])) (sym rest_long) ∙ slice_get-end rest one in
    let one_at : slice_get seats 0 ≡ Some one = ap (λ (s : List (Sitting _ _)). slice_get s 0) last ∙ slice_get-longer front (two ∷ []) 0 one one_in in
    let first = new.each 0 one one_at in
    let second = new.each 1 two two_at in
    (first.0, first.1, first.2, second.0, second.1)

-- the seats of both nodes, the second first, are those of the journal
pub two_are_seats : {E L : Type 0} (journal : Opened) (seats : List (Sitting E L)) (one two : Sitting E L) → seats ≡ two ∷ one ∷ [] → journal.nodes ≡ 2 → one.journal ≡ journal.id → one.node ≡ 1 → two.journal ≡ journal.id → two.node ≡ 2 → AreSeats journal seats
two_are_seats {E} {L} journal seats one two are nodes one_own one_node two_own two_node =
    subst (AreSeats journal) (sym are) record {
      count = sym nodes;
      own = All-cons (λ (s : Sitting E L). s.journal ≡ journal.id) two (one ∷ []) two_own (All-cons (λ (s : Sitting E L). s.journal ≡ journal.id) one [] one_own (All-nil (λ (s : Sitting E L). s.journal ≡ journal.id)));
      apart = (
        All-cons (λ (n : ℕ). n ≢ two.node) one.node [] (λ same. omega (arith, one_node, two_node, same)) (All-nil (λ (n : ℕ). n ≢ two.node)),
        (All-nil (λ (n : ℕ). n ≢ one.node), tt),
      );
      each = λ node is.
          let low = is.0 in
          let high = is.1 in
          elim (cases_lt node 2) [
            | inl below ↦ let here : one.node ≡ node = omega (arith, low, below, one_node) in subst (Contains (two.node ∷ one.node ∷ [])) here (Contains-get_or (two.node ∷ one.node ∷ []) 1 0 (omega arith))
            | inr above ↦ let here : two.node ≡ node = omega (arith, high, above, nodes, two_node) in subst (Contains (two.node ∷ one.node ∷ [])) here (Contains-get_or (two.node ∷ one.node ∷ []) 0 0 (omega arith))
          ];
    }

-- the letter of the one event of a history
pub first_letter : {E L : Type 0} (sends : E → List L) (history : List (NumberedEvent E L)) (entry : NumberedEvent E L) (number : ℕ) → history ≡ entry ∷ [] → entry.number ≡ number → IsSome (slice_get (sends entry.event) 0) → IsSome (letter_at sends history number 0)
first_letter sends history entry number is same sent =
    subst (λ h. IsSome (letter_at sends h number 0)) (sym is)
    (subst IsSome (sym (if_here (entry.number == number) (slice_get (sends entry.event) 0) None (grind (arith, nat_tests)))) sent)
