-- The letter that a network of a run names next.
use Rattle.std.proofs.Common.{◌≡◌, ℕ, suc, ◌+◌, ◌-◌, eqb, Bool, true}
use Rattle.std.proofs.Common.{false, ◌||◌, if◌then◌else◌, List, [], ◌∷◌, ◌++◌}
use Rattle.std.proofs.Common.{Option, Some, None, refl, sym, ap, ◌∙◌}
use Rattle.std.proofs.Common.{subst, arith}
use Rattle.std.specs.Prelude.{slice_get, option_map}
use Rattle.std.proofs.lemmas.Bool.{ne_eqb}
use Rattle.std.proofs.lemmas.Option.{same_Some}
use Rattle.cam_event.specs.declared.LetterId.{LetterId}
use Rattle.cam_net.specs.Letters.{InFlightFields}
use Rattle.cam_runs.specs.Running.{letters, has_number, letter_of}
use Rattle.cam_runs.specs.Standing.{Standing, addressee, waiting, waiting_from}
use Rattle.cam_histories.specs.Network.{StandsFor}
use Rattle.cam_histories.specs.LineLaws.{IsNextLetter, HasNext, NextsAreLetters, NoneIsNext}
use Rattle.cam_histories.proofs.Networks.{next_waits}

no_place : (n : ℕ) → n ≡ n + 0
no_place n = omega arith

-- where a letter waits, it is not lost, and its node is not halted
module _ (st : Standing) where
  pub waits_there : (number : ℕ) (ids : List LetterId) (k : ℕ) (id : LetterId)
      → waiting_from st number ids ≡ Some (k, id)
      → (place : ℕ) × (k ≡ number + place) × (slice_get ids place ≡ Some id)
      × (has_number st.running.lost k ≡ false) × (has_number st.halted (addressee st id) ≡ false)
  waits_there number [] k id h = cc
  waits_there number (l ∷ ids) k id h =
      by (has_number st.running.delivered number) (has_number st.running.lost number)
      (has_number st.halted (addressee st l)) refl refl h (waits_there (number + 1) ids k id)
    where
      later : (place : ℕ) × (k ≡ number + 1 + place) × (slice_get ids place ≡ Some id)
          × (has_number st.running.lost k ≡ false)
          × (has_number st.halted (addressee st id) ≡ false)
          → (place : ℕ) × (k ≡ number + place) × (slice_get (l ∷ ids) place ≡ Some id)
          × (has_number st.running.lost k ≡ false)
          × (has_number st.halted (addressee st id) ≡ false)
      later r = let is = r.1 in (suc r.0, omega (arith, is), r.2, r.3, r.4)

      by : (d o a : Bool) → has_number st.running.lost number ≡ o
          → has_number st.halted (addressee st l) ≡ a
          → (if d || o || a then waiting_from st (number + 1) ids else Some (number, l))
          ≡ Some (k, id)
          → (waiting_from st (number + 1) ids ≡ Some (k, id)
          → (place : ℕ) × (k ≡ number + 1 + place) × (slice_get ids place ≡ Some id)
          × (has_number st.running.lost k ≡ false)
          × (has_number st.halted (addressee st id) ≡ false))
          → (place : ℕ) × (k ≡ number + place) × (slice_get (l ∷ ids) place ≡ Some id)
          × (has_number st.running.lost k ≡ false)
          × (has_number st.halted (addressee st id) ≡ false)
      by false false false lost awake g rest =
          let pair : (number, l) ≡ (k, id) = same_Some (number, l) (k, id) g in
          let one : number ≡ k = ap (λ (p : ℕ × LetterId). p.0) pair in
          let other : l ≡ id = ap (λ (p : ℕ × LetterId). p.1) pair in (
            0,
            sym one ∙ no_place number,
            ap Some other,
            ap (has_number st.running.lost) (sym one) ∙ lost,
            ap (λ x. has_number st.halted (addressee st x)) (sym other) ∙ awake,
          )
      by true o a lost awake g rest = later (rest g)
      by false true a lost awake g rest = later (rest g)
      by false false true lost awake g rest = later (rest g)

before : (place : ℕ) → 1 + place - 1 ≡ place
before place = omega arith

not_zero : (place : ℕ) → eqb (1 + place) 0 ≡ false
not_zero place = ne_eqb (1 + place) 0 (λ e. omega (arith, e))

pub is_next : (st : Standing) (number : ℕ) (id : LetterId) → waiting st ≡ Some (number, id)
    → IsNextLetter st number id
is_next st number id h =
    let at = waits_there st 1 (letters st.running.trace) number id h in
    record {
      waits = h;
      is_letter =
          subst (λ (k : ℕ). has_number st.running.lost k ≡ false → letter_of st.running k ≡ Some id)
          (sym at.1)
          (λ none. rw (not_zero at.0, none, before at.0) at.2) at.3;
      awake = at.4;
    }

pub nexts_are_letters : NextsAreLetters
nexts_are_letters objects st sites net halted number whole next =
    by (waiting st) refl
  where
    stands : StandsFor st net halted
    stands = subst (λ xs. StandsFor st xs halted) (no_more net) whole.network.stands
      where
        no_more : (xs : List InFlightFields) → xs ++ [] ≡ xs
        no_more [] = refl
        no_more (x ∷ xs) = ap (λ ys. x ∷ ys) (no_more xs)

    by : (o : Option (ℕ × LetterId)) → waiting st ≡ o → HasNext st number
    by None e =
        absurd (some_none number (sym next ∙ next_waits st net halted stands ∙ ap
        (option_map (λ w. w.0)) e))
      where
        some_none : (n : ℕ) → Some n ≡ None → ⊥
        some_none n h = cc
    by (Some w) e =
        let same : number ≡ w.0 =
        same_Some number w.0 (sym next ∙ next_waits st net halted stands ∙ ap
        (option_map (λ w. w.0)) e) in
        record { id = w.1; next = is_next st number w.1 (e ∙ λ i. Some (sym same i, w.1)) }

pub none_is_next : NoneIsNext
none_is_next objects st sites net halted whole next = by (waiting st) refl
  where
    no_more : (xs : List InFlightFields) → xs ++ [] ≡ xs
    no_more [] = refl
    no_more (x ∷ xs) = ap (λ ys. x ∷ ys) (no_more xs)

    stands : StandsFor st net halted
    stands = subst (λ xs. StandsFor st xs halted) (no_more net) whole.network.stands

    none_some : (n : ℕ) → None ≡ Some n → ⊥
    none_some n h = cc

    by : (o : Option (ℕ × LetterId)) → waiting st ≡ o → o ≡ None
    by None e = refl
    by (Some w) e =
        absurd (none_some w.0 (sym next ∙ next_waits st net halted stands ∙ ap
        (option_map (λ x. x.0)) e))
