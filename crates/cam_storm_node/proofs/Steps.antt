-- What a step has, from what its parts have: its item, its letter, and the count of faults.
use Rattle.std.proofs.Common.{◌≡◌, inl, inr, ℕ, zero, suc, ◌+◌, ◌<◌, ◌≤◌, Bool, true, false, not, ◌||◌, List, [], ◌∷◌, length, Option, Some, None, refl, sym, ap, ◌∙◌, subst, arith}
use Rattle.std.specs.Prelude.{nat_le, reverse, slice_get, IfSome, Result, Ok, Err}
use Rattle.std.proofs.lemmas.Bool.Decides.{leb_tells}
use Rattle.std.proofs.lemmas.Bool.{true≢false}
use Rattle.std.proofs.lemmas.List.{length-map, length-reverse}
use Rattle.cam_base.specs.Causes.{Rose}
use Rattle.cam_journal.specs.declared.entry.SentLetter.{SentLetter as Taken}
use Rattle.cam_journal.specs.declared.input.CoreFault.{CoreFault}
use Rattle.cam_journal.specs.declared.input.CoreFault.TheVariants.{DiskFault, NoMemory}
use Rattle.cam_journal.specs.declared.input.CoreInput.{CoreInput}
use Rattle.cam_journal.specs.declared.input.CoreInput.TheVariants.{Letter}
use Rattle.cam_journal.specs.Taking.{FaultsWithCause, IsFromLawful, letter_in}
use Rattle.cam_event.specs.declared.Sent.{Sent}
use Rattle.cam_event.specs.ByDeltas.{Received}
use Rattle.cam_gen.specs.Storms.{Words}
use Rattle.cam_storm.specs.Events.{Copied}
use Rattle.cam_storm.specs.Lawful.{AreCopied, SeatHistory, carried_in, goes_to, lawful, own_history, sends}
use Rattle.cam_storm.proofs.ArrivalsWeigh.{copies_few}
use Rattle.cam_storm_node.specs.Playing.{StormNodeFields, is_idle_by, is_over}
use Rattle.cam_storm_node.specs.Receipts.{times_in}

pub not_true : (b : Bool) → not b ≡ true → b ≡ false
not_true true e = sym e
not_true false e = refl

-- a count of faults that does not fall, and a disk fault only where it rose
pub faults_at : (E : Type 0) (before now : ℕ) (fault : CoreFault) → before ≤ now
    → (fault ≡ DiskFault → Rose before now) → FaultsWithCause {E = E} before now (Err fault)
faults_at E before now DiskFault later rose = (later, rose refl)
faults_at E before now NoMemory later rose = later

pub faults_later : {E : Type 0} (before now : ℕ) (result : Result E CoreFault)
    → FaultsWithCause before now result → before ≤ now
faults_later before now (Ok e) has = has
faults_later before now (Err DiskFault) has = has.0
faults_later before now (Err NoMemory) has = has

pub faults_other : (E F : Type 0) (before now : ℕ) (fault : CoreFault)
    → FaultsWithCause {E = E} before now (Err fault)
    → FaultsWithCause {E = F} before now (Err fault)
faults_other E F before now DiskFault has = has
faults_other E F before now NoMemory has = has

-- the letter of an item was sent to the node by a lawful event
pub sent_to : (words : Words) (s other : ℕ) (o : Option (Taken Copied))
    → IfSome o (λ sent. goes_to sent.letter ≡ s)
    → IfSome o (λ sent. (goes_to sent.letter ≡ other) × IsFromLawful sends (lawful words) sent)
    → IfSome o (λ sent. (goes_to sent.letter ≡ s) × IsFromLawful sends (lawful words) sent)
sent_to words s other None to from = tt
sent_to words s other (Some sent) to from = (to, from.1)

pub goes_there : (words : Words) (s : ℕ) (o : Option (Taken Copied))
    → IfSome o (λ sent. (goes_to sent.letter ≡ s) × IsFromLawful sends (lawful words) sent)
    → IfSome o (λ sent. goes_to sent.letter ≡ s)
goes_there words s None from = tt
goes_there words s (Some sent) from = from.0

-- it has two copies at most
few_copied : (words : Words) (s : ℕ) (own : List Received) (number : ℕ) (sents : List Sent)
    (cs : List Copied) (place : ℕ) (c : Copied) → AreCopied words s own number sents cs
    → slice_get cs place ≡ Some c → c.copies ≤ 2
few_copied words s own number sents [] place c are at = cc
few_copied words s own number [] (d ∷ cs) place c are at = absurd are
few_copied words s own number (sent ∷ more) (d ∷ cs) zero c are at =
    let few = copies_few words s number in
    let same : d ≡ c = some_same at in
    omega (arith, few, are.0.copies, ap (λ (x : Copied). x.copies) same)
  where
    some_same : {x y : Copied} → Some x ≡ Some y → x ≡ y
    some_same e = cc
few_copied words s own number (sent ∷ more) (d ∷ cs) (suc place) c are at =
    few_copied words s own (number + 1) more cs place c are.1 at

few_from : (words : Words) (s : ℕ) (sent : Taken Copied)
    → (goes_to sent.letter ≡ s) × IsFromLawful sends (lawful words) sent → sent.letter.copies ≤ 2
few_from words s sent from =
    let was = from.1 in
    let step = was.allowed.1 in
    few_copied words was.node _ _ was.event.event.sent was.event.letters sent.place sent.letter
    step.letters was.letter

-- so what came less often than it has copies came fewer than 255 times
less_of : (a b : ℕ) → nat_le a b ≡ false → b < a
less_of a b h = elim (leb_tells a b) [
  | inl l ↦ absurd (true≢false (sym l.0 ∙ h))
  | inr r ↦ let more = r.1 in omega (arith, more)
]

or_right : (b c : Bool) → (b || c) ≡ false → c ≡ false
or_right true c e = absurd (true≢false e)
or_right false c e = e

pub few_times : (words : Words) (s : ℕ) (storm_node : StormNodeFields) (item : CoreInput Copied)
    → is_idle_by storm_node item ≡ false
    → IfSome (letter_in item)
    (λ sent. (goes_to sent.letter ≡ s) × IsFromLawful sends (lawful words) sent)
    → (k place : ℕ) (c : Copied) → item ≡ Letter k place c
    → times_in storm_node.receipts k place < 255
few_times words s storm_node item busy from k place c is =
    let here : is_idle_by storm_node (Letter k place c) ≡ false =
    subst (λ (i : CoreInput Copied). is_idle_by storm_node i ≡ false) is busy in
    let few = few_from words s (record { number = k; place = place; letter = c })
    (subst
    (λ (i : CoreInput Copied).
    IfSome (letter_in i)
    (λ sent. (goes_to sent.letter ≡ s) × IsFromLawful sends (lawful words) sent)) is from) in
    let less = less_of c.copies (times_in storm_node.receipts k place)
    (or_right (is_over storm_node)
    (nat_le c.copies (times_in storm_node.receipts k place)) here) in
    omega (arith, few, less)

-- a history has as many events as a node's own
pub own_length : (history : SeatHistory) → length (own_history history) ≡ length history
own_length history = length-map (reverse history) carried_in ∙ length-reverse history
