-- The works' numbers and the run's, where an event is put in.
use Rattle.std.proofs.Common.{◌≡◌, ℕ, ◌+◌, ◌≤◌, ◌<◌, eqb, Bool, true, false}
use Rattle.std.proofs.Common.{if◌then◌else◌, List, [], ◌∷◌, ◌++◌, length, Option, Some, None}
use Rattle.std.proofs.Common.{refl, sym, ap, ◌∙◌, subst, arith, drop, take, option_map}
use Rattle.std.specs.Prelude.{map, nat_lt, reverse}
use Rattle.std.specs.List.{AllByRecursion}
use Rattle.std.proofs.Math.Seq.{drop-append_seam, take-append_seam}
use Rattle.std.proofs.lemmas.Grind.{common_steps}
use Rattle.std.proofs.lemmas.List.{length-reverse, reverse-append}
use Rattle.cam_type.specs.declared.ObjectDecl.{ObjectDecl}
use Rattle.cam_event.specs.declared.Event.{Event}
use Rattle.cam_event.specs.declared.LetterId.{LetterId}
use Rattle.cam_event.specs.Runs.{IsNext}
use Rattle.cam_event.specs.Taken.{IsRunTaking, MayStand}
use Rattle.cam_runs.specs.Standing.{Undecided, undecided_of}
use Rattle.cam_runs.specs.UnderHalts.{ArePlaced}
use Rattle.cam_histories.specs.Found.{moved_undecided, undecided_beside}
use Rattle.cam_histories.specs.PutIn.{moved, moved_event, moved_letter, put_in}
use Rattle.cam_cluster.specs.OpenHalts.{behind_event, next_number, open_beside, open_halt_of}
use Rattle.cam_cluster.specs.OpenHalts.{put_in_at, renumbered, with_letter_renumbered}
use Rattle.cam_cluster.specs.Works.{IsSentBefore, open_halt}
use Rattle.cam_cluster.proofs.CountsPutIn.{newest, reversed_map}
use Rattle.cam_cluster.proofs.RunHalts.{sent_in}
use Rattle.cam_cluster.proofs.HaltsKept.{sent_still}

next_is : (k n : ℕ) → k ≤ n → n < 1000000000 → next_number k ≡ k + 1
next_is k n low few = grind (arith, common_steps, low, few)

-- a letter that was sent has the number that the run gives it
letter_is : (place n : ℕ) (letter : LetterId) → letter.event < n → n < 1000000000
    → renumbered place letter ≡ moved_letter place letter
letter_is place n letter sent few =
    ap (λ (k : ℕ). record {
      event = if nat_lt letter.event place then letter.event else k;
      place = letter.place;
    }) (next_is _ _ (omega (arith, sent)) few)

pub got_is : (place n : ℕ) (got : Option LetterId) → IsSentBefore n got → n < 1000000000
    → option_map (renumbered place) got ≡ option_map (moved_letter place) got
got_is place n None sent few = refl
got_is place n (Some letter) sent few = ap Some (letter_is place _ _ sent few)

-- and is one of the events then
moved_low : (place n number : ℕ) → number < n → moved place number < n + 1
moved_low place n number low = by (nat_lt number place)
  where
    by : (b : Bool) → (if b then number else number + 1) < n + 1
    by true = omega (arith, low)
    by false = omega (arith, low)

pub moved_sent : (place n : ℕ) (got : Option LetterId) → IsSentBefore n got
    → IsSentBefore (n + 1) (option_map (moved_letter place) got)
moved_sent place n None sent = tt
moved_sent place n (Some letter) sent = moved_low _ _ _ sent

-- the events of a run name letters of events before
next_sent : (objects : List ObjectDecl) (t : List Event) (e : Event) → IsNext objects t e
    → IsSentBefore (length t) e.got
next_sent objects t e is =
    subst (IsSentBefore (length t)) (sym (ap (λ (x : Event). x.got) is.is_next)) (sent_in _ _ _
    is.may)

may_sent : (objects : List ObjectDecl) (t : List Event) (e : Event) (took : Bool)
    → MayStand objects t e took → IsSentBefore (length t) e.got
may_sent objects t e true is =
    subst (IsSentBefore (length t)) (sym (ap (λ (x : Event). x.got) is.taken)) (next_sent _ _ _
    is.may)
may_sent objects t e false is = next_sent _ _ _ is

abbrev pub AreSent : ℕ → List Event → Type 0
AreSent n t = AllByRecursion (λ (e : Event). IsSentBefore n e.got) t

pub run_sent : (objects : List ObjectDecl) (taking : ℕ → Bool) (t : List Event)
    → IsRunTaking objects taking t → AreSent (length t) t
run_sent objects taking [] run = tt
run_sent objects taking (e ∷ before) run = (
  sent_still _ _ (omega arith) _
      (may_sent _ _ _ _ run.0),
  up before (run_sent objects taking before run.2),
)
  where
    up : (es : List Event) → AreSent (length before) es → AreSent (length (e ∷ before)) es
    up [] sent = tt
    up (x ∷ es) sent = (sent_still _ _ (omega arith) _ sent.0, up es sent.1)

pub sent_front : (n : ℕ) (behind before : List Event) → AreSent n (behind ++ before)
    → AreSent n behind
sent_front n [] before sent = tt
sent_front n (e ∷ behind) before sent = (sent.0, sent_front n behind before sent.1)

-- the events after the place
events_moved : (place n : ℕ) (es : List Event) → AreSent n es → n < 1000000000
    → map (with_letter_renumbered place) es ≡ map (moved_event place) es
events_moved place n [] sent few = refl
events_moved place n (e ∷ es) sent few =
    λ i. record e { got = got_is place _ _ sent.0 few i } ∷ events_moved place n es sent.1 few i

-- THE EVENTS, the oldest first, are those of the trace with the event put in.
pub put_in_reversed : (n : ℕ) (behind : List Event) (e : Event) (before : List Event)
    → AreSent n behind → n < 1000000000
    → put_in_at (length before) e (reverse (behind ++ before)) ≡ reverse (put_in behind e before)
put_in_reversed n behind e before sent few =
    (λ i. front i ++ e ∷ map (with_letter_renumbered (length before)) (back i)) ∙ ap (λ es. reverse
    before ++ e ∷ es) (sym (reversed_map (with_letter_renumbered (length before)) behind) ∙ ap (λ
    es. reverse es) (events_moved (length before) _ _ sent few)) ∙ joined (reverse before) e
    (reverse (map (moved_event (length before)) behind)) ∙ ap (λ es. es ++ reverse (map (moved_event
    (length before)) behind)) (sym (newest e before)) ∙ sym (reverse-append (map (moved_event
    (length before)) behind) (e ∷ before))
  where
    parts : reverse (behind ++ before) ≡ reverse before ++ reverse behind
    parts = reverse-append behind before

    front : take (length before) (reverse (behind ++ before)) ≡ reverse before
    front =
        (λ i. take (sym (length-reverse before) i) (parts i))
        ∙ take-append_seam (reverse before) (reverse behind)

    back : drop (length before) (reverse (behind ++ before)) ≡ reverse behind
    back =
        (λ i. drop (sym (length-reverse before) i) (parts i))
        ∙ drop-append_seam (reverse before) (reverse behind)

    joined : (xs : List Event) (x : Event) (ys : List Event) → xs ++ x ∷ ys ≡ (xs ++ x ∷ []) ++ ys
    joined [] x ys = refl
    joined (z ∷ xs) x ys = ap (λ us. z ∷ us) (joined xs x ys)

-- the halts
pub newest_open : (s : ℕ) (us : List Undecided) (u : Undecided) → undecided_of s us ≡ Some u
    → open_halt_of s (map open_halt us) ≡ Some (open_halt u)
newest_open s us u is = same us ∙ ap (option_map open_halt) is
  where
    same : (us : List Undecided)
        → open_halt_of s (map open_halt us) ≡ option_map open_halt (undecided_of s us)
    same [] = refl
    same (u ∷ us) = by (eqb u.node s) (same us)
      where
        by : (b : Bool)
            → open_halt_of s (map open_halt us) ≡ option_map open_halt (undecided_of s us)
            → (if b then Some (open_halt u) else open_halt_of s (map open_halt us))
            ≡ option_map open_halt (if b then Some u else undecided_of s us)
        by true rest = refl
        by false rest = rest

abbrev pub AreHaltsSent : ℕ → List Undecided → Type 0
AreHaltsSent n us = AllByRecursion (λ (u : Undecided). IsSentBefore n u.event.got) us

pub beside_open : (s place n end : ℕ) (us : List Undecided) → AreHaltsSent n us → ArePlaced end us
    → end ≤ n → n < 1000000000
    → open_beside s place (map open_halt us) ≡ map open_halt (undecided_beside s place us)
beside_open s place n end [] sent placed low few = refl
beside_open s place n end (u ∷ us) sent placed low few =
    by (eqb u.node s)
    (beside_open s place n u.before us sent.1 placed.1
    (let first = placed.0 in omega (arith, first, low)) few)
  where
    here : behind_event place (open_halt u) ≡ open_halt (moved_undecided place u)
    here = λ i. record {
      node = u.node;
      before = next_is u.before n (let first = placed.0 in omega (arith, first, low)) few i;
      got = got_is place n u.event.got sent.0 few i;
    }

    by : (b : Bool)
        → open_beside s place (map open_halt us) ≡ map open_halt (undecided_beside s place us)
        → (if b then map open_halt us
        else behind_event place (open_halt u) ∷ open_beside s place (map open_halt us))
        ≡ map open_halt (if b then us else moved_undecided place u ∷ undecided_beside s place us)
    by true rest = refl
    by false rest = λ i. here i ∷ rest i

pub beside_sent : (s place n : ℕ) (us : List Undecided) → AreHaltsSent n us
    → AreHaltsSent (n + 1) (undecided_beside s place us)
beside_sent s place n [] sent = tt
beside_sent s place n (u ∷ us) sent =
    by (eqb u.node s) (beside_sent s place n us sent.1) (up us sent.1)
  where
    up : (us : List Undecided) → AreHaltsSent n us → AreHaltsSent (n + 1) us
    up [] sent = tt
    up (u ∷ us) sent = (sent_still _ _ (omega arith) _ sent.0, up us sent.1)

    by : (b : Bool) → AreHaltsSent (n + 1) (undecided_beside s place us)
        → AreHaltsSent (n + 1) us
        → AreHaltsSent (n + 1)
        (if b then us else moved_undecided place u ∷ undecided_beside s place us)
    by true rest all = all
    by false rest all = (moved_sent _ _ _ sent.0, rest)
