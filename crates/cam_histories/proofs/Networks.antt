-- A network that has the letters of a run: what is next, and which letters it has.
use Rattle.std.proofs.Common.{◌≡◌, ℕ, zero, suc, ◌+◌, ◌-◌, ◌≤◌, Bool, true, false, not, ◌&&◌, ◌||◌, if◌then◌else◌, List, [], ◌∷◌, Option, Some, None, slice_get, option_map, is_some, refl, ap, ◌∙◌, arith}
use Rattle.std.proofs.lemmas.Bool.{ne_eqb}
use Rattle.cam_event.specs.declared.LetterId.{LetterId}
use Rattle.cam_runs.specs.Running.{letters, has_number}
use Rattle.cam_runs.specs.Standing.{Standing, addressee, waiting_from}
use Rattle.cam_net.specs.Letters.{InFlightFields, unless_lost}
use Rattle.cam_net.specs.Waiting.{is_halted, may_go, next_from}
use Rattle.cam_histories.specs.Network.{IsLetter, AreLetters, NextWaits, HasRunLetters}

goes : (lost delivered halted : Bool) → (not (lost || delivered) && not halted) ≡ not (delivered || lost || halted)
goes true true halted = refl
goes true false halted = refl
goes false true halted = refl
goes false false halted = refl

chosen : (b : Bool) (number : ℕ) (letter : LetterId) (x : Option ℕ) (y : Option (ℕ × LetterId)) → x ≡ option_map (λ w. w.0) y
    → (if not b then Some number else x) ≡ option_map (λ w. w.0) (if b then y else Some (number, letter))
chosen true number letter x y same = same
chosen false number letter x y same = refl

module _ (st : Standing) (halted : List Bool) (agree : (node : ℕ) → 1 ≤ node → node ≤ 8 → is_halted halted node ≡ has_number st.halted node) where
  one : (number : ℕ) (letter : LetterId) (kept : InFlightFields) → IsLetter st number letter kept
      → may_go halted kept ≡ not (has_number st.running.delivered number || has_number st.running.lost number || has_number st.halted (addressee st letter))
  one number letter kept is =
      goes kept.lost kept.delivered (is_halted halted kept.receiver)
      ∙ ap (λ b. not (b || kept.lost || is_halted halted kept.receiver)) is.delivered
      ∙ ap (λ b. not (has_number st.running.delivered number || b || is_halted halted kept.receiver)) is.lost
      ∙ ap (λ b. not (has_number st.running.delivered number || has_number st.running.lost number || b))
      (agree kept.receiver is.low is.high ∙ ap (has_number st.halted) is.receiver)

  next_is : (number : ℕ) (ls : List LetterId) (net : List InFlightFields) → AreLetters st number ls net
      → next_from halted number net ≡ option_map (λ w. w.0) (waiting_from st number ls)
  next_is number [] [] are = refl
  next_is number [] (kept ∷ net) are = elim are [ ]
  next_is number (letter ∷ ls) [] are = elim are [ ]
  next_is number (letter ∷ ls) (kept ∷ net) are =
      ap (λ b. if b then Some number else next_from halted (number + 1) net) (one number letter kept are.0)
      ∙ chosen (has_number st.running.delivered number || has_number st.running.lost number || has_number st.halted (addressee st letter)) number letter
      (next_from halted (number + 1) net) (waiting_from st (number + 1) ls) (next_is (number + 1) ls net are.1)

pub next_waits : NextWaits
next_waits st net halted stands = next_is st halted stands.nodes 1 (letters st.running.trace) net stands.letters

-- the letter at a place
kept_or_not : (b : Bool) (letter : LetterId) (kept : InFlightFields) → kept.lost ≡ b → is_some (unless_lost (Some kept)) ≡ is_some (if b then None else Some letter)
kept_or_not true letter kept is = rw is refl
kept_or_not false letter kept is = rw is refl

abbrev nothing : Option LetterId
nothing = None

gone : (b : Bool) → false ≡ is_some (if b then None else nothing)
gone true = refl
gone false = refl

at_place : (st : Standing) (number place : ℕ) (ls : List LetterId) (net : List InFlightFields) → AreLetters st number ls net
    → is_some (unless_lost (slice_get net place)) ≡ is_some (if has_number st.running.lost (number + place) then None else slice_get ls place)
at_place st number place [] [] are = gone (has_number st.running.lost (number + place))
at_place st number place [] (kept ∷ net) are = elim are [ ]
at_place st number zero (letter ∷ ls) [] are = elim are [ ]
at_place st number (suc place) (letter ∷ ls) [] are = elim are [ ]
at_place st number zero (letter ∷ ls) (kept ∷ net) are =
    let here : number ≡ number + zero = omega arith in
    kept_or_not (has_number st.running.lost (number + zero)) letter kept (are.0.lost ∙ ap (has_number st.running.lost) here)
at_place st number (suc place) (letter ∷ ls) (kept ∷ net) are =
    let here : number + 1 + place ≡ number + suc place = omega arith in
    at_place st (number + 1) place ls net are.1 ∙ ap (λ n. is_some (if has_number st.running.lost n then None else slice_get ls place)) here

before : (place : ℕ) → suc place - 1 ≡ place
before place = omega arith

pub has_run_letters : HasRunLetters
has_run_letters st net halted zero stands = refl
has_run_letters st net halted (suc place) stands =
    let next : 1 + place ≡ suc place = omega arith in
    rw (ne_eqb (suc place) 0 (λ e. omega (arith, e)), before place)
    (at_place st 1 place (letters st.running.trace) net stands.letters
    ∙ ap (λ n. is_some (if has_number st.running.lost n then None else slice_get (letters st.running.trace) place)) next)
