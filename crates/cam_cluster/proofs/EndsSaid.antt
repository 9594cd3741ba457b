-- The ends of letters that were handed over one after another, as halts that are known.
use Rattle.std.proofs.Common.{◌≡◌, ℕ, suc, ◌+◌, ◌<◌, ◌≤◌, List, [], ◌∷◌, ◌++◌, length, Option}
use Rattle.std.proofs.Common.{Some, None, is_some, true, false, refl, sym, ap, ◌∙◌, subst, arith}
use Rattle.std.proofs.Common.{true≢false}
use Rattle.std.specs.List.{AllByRecursion}
use Rattle.std.proofs.lemmas.Bool.{eq-eqb}
use Rattle.std.proofs.lemmas.List.{append_assoc}
use Rattle.cam_event.specs.declared.LetterId.{LetterId}
use Rattle.cam_event.specs.Inputs.{Receives, node_of}
use Rattle.cam_runs.specs.Halts.{Halt, accepted, appends, given, halt_at}
use Rattle.cam_runs.specs.Standing.{Standing, Setting, deliver, deliver_waiting}
use Rattle.cam_runs.specs.Standing.{deliveries, waiting}
use Rattle.cam_runs.proofs.HaltGrows.{after_turns}
use Rattle.cam_cluster.specs.declared.works.Put.{Put}
use Rattle.cam_cluster.specs.declared.works.Put.TheVariants as puts
use Rattle.cam_cluster.specs.Between.{halts_from}
use Rattle.cam_cluster.specs.Drains.{AreDue, AreSaid, IsSaid}
use Rattle.cam_cluster.specs.FoundHalts.{AreNewestFirst}
use Rattle.cam_cluster.specs.Making.{AreSaidFrom}
use Rattle.cam_cluster.specs.Puts.{as_halt}
use Rattle.cam_cluster.proofs.GoesOn.{all_behind, all_so, newest_behind}
use Rattle.cam_cluster.proofs.NextLine.{unsaid}
use Rattle.cam_cluster.proofs.LaterHalts.{later_says}

-- The halts are at inputs from this number on,
pub from_low : (k : ℕ) (ends : List Put)
    → AllByRecursion (λ (h : Halt). k ≤ h.input) (halts_from k ends)
from_low k [] = tt
from_low k (puts.Stood ∷ ends) =
    all_so (λ (h : Halt). k + 1 ≤ h.input) (λ (h : Halt). k ≤ h.input) (halts_from (k + 1) ends) (λ
    h low. omega (arith, low)) (from_low (k + 1) ends)
from_low k (puts.Halted ∷ ends) =
    all_behind (λ (h : Halt). k ≤ h.input) _ _ (all_so (λ (h : Halt). k + 1 ≤ h.input) (λ (h :
    Halt). k ≤ h.input) _ (λ h low. omega (arith, low)) (from_low (k + 1) ends)) (omega arith, tt)

-- as many as there are,
pub from_high : (k n : ℕ) (ends : List Put) → k + length ends ≤ n
    → AllByRecursion (λ (h : Halt). h.input < n) (halts_from k ends)
from_high k n [] most = tt
from_high k n (puts.Stood ∷ ends) most = from_high (k + 1) n ends (omega (arith, most))
from_high k n (puts.Halted ∷ ends) most =
    all_behind (λ (h : Halt). h.input < n) _ _ (from_high (k + 1) n ends (omega (arith, most)))
    (omega (arith, most), tt)

-- lost so far,
pub from_lost : (k : ℕ) (ends : List Put)
    → AllByRecursion (λ (h : Halt). h.took ≡ false) (halts_from k ends)
from_lost k [] = tt
from_lost k (puts.Stood ∷ ends) = from_lost (k + 1) ends
from_lost k (puts.Halted ∷ ends) =
    all_behind (λ (h : Halt). h.took ≡ false) _ _ (from_lost (k + 1) ends) (refl, tt)

-- the newest first.
pub from_newest : (k : ℕ) (ends : List Put) → AreNewestFirst (halts_from k ends)
from_newest k [] = tt
from_newest k (puts.Stood ∷ ends) = from_newest (k + 1) ends
from_newest k (puts.Halted ∷ ends) =
    newest_behind (k + 1) (halts_from (k + 1) ends) (record { input = k; took = false } ∷ [])
    (from_newest (k + 1) ends) (tt, tt) (from_low (k + 1) ends) (omega arith, tt)

-- Of the first input they say how it ended.
first_said : (k : ℕ) (end : Put) (ends : List Put) (old : List Halt)
    → AllByRecursion (λ (h : Halt). h.input < k) old
    → halt_at (halts_from k (end ∷ ends) ++ old) k ≡ as_halt end
first_said k puts.Stood ends old past =
    sym (later_says (halts_from (k + 1) ends) old (k + 1) k (from_low (k + 1) ends) (omega arith))
    ∙ unsaid old k past
first_said k puts.Halted ends old past =
    ap (λ (hs : List Halt). halt_at hs k)
    (append_assoc (halts_from (k + 1) ends) (record { input = k; took = false } ∷ []) old)
    ∙ sym
    (later_says (halts_from (k + 1) ends) (record { input = k; took = false } ∷ old) (k + 1) k
    (from_low (k + 1) ends) (omega arith))
    ∙ rw (eq-eqb k k refl) refl

-- the halts known when the first input was put
abbrev known_then : ℕ → Put → List Halt → List Halt
known_then k puts.Stood old = old
known_then k puts.Halted old = record { input = k; took = false } ∷ old

known_on : (k : ℕ) (end : Put) (ends : List Put) (old : List Halt)
    → halts_from k (end ∷ ends) ++ old ≡ halts_from (k + 1) ends ++ known_then k end old
known_on k puts.Stood ends old = refl
known_on k puts.Halted ends old =
    append_assoc (halts_from (k + 1) ends) (record { input = k; took = false } ∷ []) old

known_past : (k : ℕ) (end : Put) (old : List Halt)
    → AllByRecursion (λ (h : Halt). h.input < k) old
    → AllByRecursion (λ (h : Halt). h.input < k + 1) (known_then k end old)
known_past k puts.Stood old past =
    all_so (λ (h : Halt). h.input < k) (λ (h : Halt). h.input < k + 1) old (λ h less. omega (
      arith,
      less,
    )) past
known_past k puts.Halted old past = (
  omega arith,
  all_so (λ (h : Halt). h.input < k) (λ (h : Halt).
      h.input < k + 1) _
      (λ h less. omega (arith, less)) past,
)

-- a letter that is handed over is one input
pub one_handed : (c : Setting) (st : Standing) (w : ℕ × LetterId)
    → accepted (deliver c st w.0 w.1).turns ≡ accepted st.turns + 1
one_handed c st w =
    let t = st.running.trace in
    let s : ℕ = node_of t (Receives w.1) in
    ap accepted
    (after_turns c.line (c.restarted s) st s (c.reading.next t (Receives w.1))
    (appends c.reading t (Receives w.1))
    (c.halts st.turns s (appends c.reading t (Receives w.1)) (c.restarted s)))

-- where none waits nothing has to be said
none_said : (c : Setting) (ends : List Put) (st : Standing) → waiting st ≡ None → AreSaid c ends st
none_said c [] st none = tt
none_said c (end ∷ ends) st none = (
  rw none tt,
  rw none (none_said c ends st none),
)

-- So the halts of the ends say of each input how it ended.
pub given_said : (all old : List Halt) (k : ℕ) (ends : List Put) → all ≡ halts_from k ends ++ old
    → AllByRecursion (λ (h : Halt). h.input < k) old → AreSaidFrom (given all) k ends
given_said all old k [] is past = tt
given_said all old k (end ∷ ends) is past = (
  λ turns s appends restarted at.
      ap (halt_at all) at ∙ ap (λ (hs : List Halt). halt_at hs k) is ∙ first_said _ end ends _
      past,
  given_said all (known_then k end old) (k + 1) ends (is ∙ known_on k end ends old) (known_past _
      _ _ past),
)

-- What is said of the inputs is said of the letters that wait.
pub deliveries_said : (c : Setting) (k : ℕ) (ends : List Put) (st : Standing)
    → accepted st.turns ≡ k → AreSaidFrom c.halts k ends → AreSaid c ends st
deliveries_said c k [] st at given_so = tt
deliveries_said c k (end ∷ ends) st at given_so =
    said (waiting st) refl
    (λ w. deliveries_said c (k + 1) ends (deliver c st w.0 w.1)
    (one_handed c st w ∙ ap (λ (n : ℕ). n + 1) at) given_so.1)
  where
    of_first : (w : ℕ × LetterId) → IsSaid c st (Some w) end
    of_first w =
        let t = st.running.trace in
        given_so.0 st.turns (node_of t (Receives w.1)) (appends c.reading t (Receives w.1))
        (c.restarted (node_of t (Receives w.1))) at

    said : (o : Option (ℕ × LetterId)) → waiting st ≡ o
        → ((w : ℕ × LetterId) → AreSaid c ends (deliver c st w.0 w.1))
        → IsSaid c st (waiting st) end × AreSaid c ends (deliver_waiting c st (waiting st))
    said None none on = (
      rw none tt,
      rw none (none_said c _ _ none),
    )
    said (Some w) waits on = (
      rw waits (of_first w),
      rw waits (on w),
    )

-- So many letters were handed over.
pub handed_over : (c : Setting) (ends : List Put) (st : Standing) → AreDue c ends st
    → accepted (deliveries c (length ends) st).turns ≡ accepted st.turns + length ends
handed_over c [] st due = omega arith
handed_over c (end ∷ ends) st due = by (waiting st) refl due.0
    (handed_over c ends (deliver_waiting c st (waiting st)) due.1)
  where
    by : (o : Option (ℕ × LetterId)) → waiting st ≡ o → is_some o ≡ true
        → accepted (deliveries c (length ends) (deliver_waiting c st (waiting st))).turns
        ≡ accepted (deliver_waiting c st (waiting st)).turns + length ends
        → accepted (deliveries c (length ends) (deliver_waiting c st (waiting st))).turns
        ≡ accepted st.turns + suc (length ends)
    by None none some rest = absurd (true≢false (sym some))
    by (Some w) waits some rest =
        let one : accepted (deliver_waiting c st (waiting st)).turns ≡ accepted st.turns + 1 =
        ap (λ (o : Option (ℕ × LetterId)). accepted (deliver_waiting c st o).turns) waits
        ∙ one_handed c st w in
        omega (arith, rest, one)
