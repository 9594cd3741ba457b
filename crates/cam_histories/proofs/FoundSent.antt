-- Letters, those that wait, and their weights, where an event is put in.
use Rattle.std.proofs.Common.{◌≡◌, ℕ, zero, suc, ◌+◌, ◌-◌, ◌<◌, ◌≤◌, eqb, true, false}
use Rattle.std.proofs.Common.{◌||◌, if◌then◌else◌, List, [], ◌∷◌, ◌++◌, map, length, Option}
use Rattle.std.proofs.Common.{Some, None, option_map, refl, sym, ap, ◌∙◌, arith, append-nil}
use Rattle.std.specs.Prelude.{slice_get}
use Rattle.std.specs.Option.{option_map_or}
use Rattle.std.proofs.lemmas.List.{map-append}
use Rattle.cam_event.specs.declared.Event.{Event}
use Rattle.cam_event.specs.declared.LetterId.{LetterId}
use Rattle.cam_event.specs.declared.Sent.{Sent}
use Rattle.cam_event.specs.Inputs.{Mail, letter_at}
use Rattle.cam_runs.specs.Running.{ids_from, letters, has_number, letter_of, weight}
use Rattle.cam_runs.specs.Running.{weight_from, waiting_weight}
use Rattle.cam_runs.specs.Standing.{Standing, addressee, waiting_from, waiting}
use Rattle.cam_histories.specs.PutIn.{moved_letter, put_in}
use Rattle.cam_histories.specs.Found.{with_taken_in}
use Rattle.cam_histories.proofs.Numbers.{moved_low, moved_high, put_in_length, behind_long}
use Rattle.cam_histories.proofs.Numbers.{letters_moved}

-- the letters under their new numbers
ids_low : (p n place : ℕ) (sent : List Sent) → n < p
    → map (moved_letter p) (ids_from n place sent) ≡ ids_from n place sent
ids_low p n place [] low = refl
ids_low p n place (x ∷ sent) low =
    λ i. record { event = moved_low p n low i; place = place } ∷ ids_low p n (place + 1) sent low i

ids_high : (p n place : ℕ) (sent : List Sent) → p ≤ n
    → ids_from (n + 1) place sent ≡ map (moved_letter p) (ids_from n place sent)
ids_high p n place [] high = refl
ids_high p n place (x ∷ sent) high =
    λ i. record { event = sym (moved_high p n high) i; place = place }
    ∷ ids_high p n (place + 1) sent high i

letters_low : (p : ℕ) (t : List Event) → length t ≤ p
    → map (moved_letter p) (letters t) ≡ letters t
letters_low p [] low = refl
letters_low p (x ∷ t) low =
    map-append (moved_letter p) (letters t) (ids_from (length t) 0 x.sent)
    ∙ λ i. letters_low p t (omega (arith, low)) i
    ++ ids_low p (length t) 0 x.sent (omega (arith, low)) i

module _ (before : List Event) (e : Event) (mute : e.sent ≡ []) where
  pub all_letters : (behind : List Event)
      → letters (put_in behind e before)
      ≡ map (moved_letter (length before)) (letters (behind ++ before))
  all_letters [] =
      ap (λ (sent : List Sent). letters before ++ ids_from (length before) 0 sent) mute
      ∙ append-nil (letters before)
      ∙ sym (letters_low (length before) before (omega arith))
  all_letters (x ∷ b) =
      (λ i. all_letters b i ++ ids_from (put_in_length before e b i) 0 x.sent)
      ∙ ap (λ r. map (moved_letter (length before)) (letters (b ++ before)) ++ r)
      (ids_high (length before) (length (b ++ before)) 0 x.sent (behind_long before e b))
      ∙ sym (map-append (moved_letter (length before)) (letters (b ++ before))
      (ids_from (length (b ++ before)) 0 x.sent))

get_map : (f : LetterId → LetterId) (xs : List LetterId) (n : ℕ)
    → slice_get (map f xs) n ≡ option_map f (slice_get xs n)
get_map f [] n = refl
get_map f (x ∷ xs) zero = refl
get_map f (x ∷ xs) (suc n) = get_map f xs n

-- a letter that waits, under its new number
abbrev pub moved_waiting : ℕ → ℕ × LetterId → ℕ × LetterId
moved_waiting p w = (w.0, moved_letter p w.1)

module _ (s : ℕ) (behind before : List Event) (e : Event) (st : Standing) (mute : e.sent ≡ [])
    (was : st.running.trace ≡ behind ++ before) where
  abbrev later : Standing
  later = with_taken_in s behind e before st

  pub letters_later : letters later.running.trace
      ≡ map (moved_letter (length before)) (letters st.running.trace)
  letters_later =
      all_letters before e mute behind
      ∙ ap (λ t. map (moved_letter (length before)) (letters t)) (sym was)

  pub letter_later : (letter : LetterId)
      → letter_at later.running.trace (moved_letter (length before) letter)
      ≡ letter_at st.running.trace letter
  letter_later letter =
      letters_moved before e behind letter ∙ ap (λ t. letter_at t letter) (sym was)

  pub addressee_later : (letter : LetterId)
      → addressee later (moved_letter (length before) letter) ≡ addressee st letter
  addressee_later letter =
      ap (λ o. option_map_or (λ (m : Mail). m.to) o 0) (letter_later letter)

  pub letter_of_later : (k : ℕ)
      → letter_of later.running k
      ≡ option_map (moved_letter (length before)) (letter_of st.running k)
  letter_of_later k =
      ap (λ ls. if eqb k 0 || has_number st.running.lost k then None else slice_get ls (k - 1))
      letters_later
      ∙ elim (eqb k 0 || has_number st.running.lost k) as (λ b.
      (if b then None
      else slice_get (map (moved_letter (length before)) (letters st.running.trace)) (k - 1))
      ≡ option_map (moved_letter (length before))
      (if b then None else slice_get (letters st.running.trace) (k - 1))) [
        | true ↦ refl
        | false ↦ get_map (moved_letter (length before)) (letters st.running.trace) (k - 1)
      ]

  waits_later : (k : ℕ) (ls : List LetterId)
      → waiting_from later k (map (moved_letter (length before)) ls)
      ≡ option_map (moved_waiting (length before)) (waiting_from st k ls)
  waits_later k [] = refl
  waits_later k (l ∷ ls) =
      ap (λ n. if has_number st.running.delivered k || has_number st.running.lost k
      || has_number st.halted n then rest else Some (k, moved_letter (length before) l))
      (addressee_later l)
      ∙ elim (has_number st.running.delivered k || has_number st.running.lost k
      || has_number st.halted (addressee st l)) as (λ b.
      (if b then rest else Some (k, moved_letter (length before) l))
      ≡ option_map (moved_waiting (length before))
      (if b then waiting_from st (k + 1) ls else Some (k, l))) [
        | true ↦ waits_later (k + 1) ls
        | false ↦ refl
      ]
    where
      rest : Option (ℕ × LetterId)
      rest = waiting_from later (k + 1) (map (moved_letter (length before)) ls)

  pub waiting_later : waiting later ≡ option_map (moved_waiting (length before)) (waiting st)
  waiting_later = ap (waiting_from later 1) letters_later ∙ waits_later 1 (letters st.running.trace)

  weights_later : (k : ℕ) (ls : List LetterId)
      → weight_from later.running k (map (moved_letter (length before)) ls)
      ≡ weight_from st.running k ls
  weights_later k [] = refl
  weights_later k (l ∷ ls) =
      λ i. (if has_number st.running.delivered k || has_number st.running.lost k then 0
      else option_map_or (λ (m : Mail). weight m.body) (letter_later l i) 0)
      + weights_later (k + 1) ls i

  pub weight_later : waiting_weight later.running ≡ waiting_weight st.running
  weight_later =
      ap (weight_from later.running 1) letters_later ∙ weights_later 1 (letters st.running.trace)
