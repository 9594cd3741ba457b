-- A network of a run goes on to be one.
use Rattle.std.proofs.Common.{◌≡◌, inl, inr, ℕ, zero, suc, ◌+◌, ◌≤◌, ◌<◌, List, [], ◌∷◌, ◌++◌}
use Rattle.std.proofs.Common.{length, refl, sym, ap, ◌∙◌, subst, arith}
use Rattle.cam_event.specs.declared.LetterId.{LetterId}
use Rattle.cam_event.proofs.Members.{In}
use Rattle.cam_net.specs.Letters.{InFlightFields, changed_at}
use Rattle.cam_runs.specs.Running.{has_number}
use Rattle.cam_runs.specs.Standing.{Standing, addressee}
use Rattle.cam_histories.specs.Network.{IsLetter, AreLetters}

-- of a number the same is told
pub record IsSameAt (st new : Standing) (number : ℕ) : Type 0 where
  pub lost : has_number new.running.lost number ≡ has_number st.running.lost number
  pub delivered : has_number new.running.delivered number ≡ has_number st.running.delivered number

-- how many letters there are
pub as_many : (st : Standing) (number : ℕ) (ids : List LetterId) (net : List InFlightFields)
    → AreLetters st number ids net → length ids ≡ length net
as_many st number [] [] are = refl
as_many st number [] (kept ∷ net) are = elim are [ ]
as_many st number (id ∷ ids) [] are = elim are [ ]
as_many st number (id ∷ ids) (kept ∷ net) are =
    ap (λ n. suc n) (as_many st (number + 1) ids net are.1)

module _ (st new : Standing) where
  pub same_one : (number : ℕ) (id : LetterId) (kept : InFlightFields)
      → addressee new id ≡ addressee st id
      → IsSameAt st new number → IsLetter st number id kept → IsLetter new number id kept
  same_one number id kept to same is = record {
    receiver = is.receiver ∙ sym to;
    low = is.low;
    high = is.high;
    lost = is.lost ∙ sym same.lost;
    delivered = is.delivered ∙ sym same.delivered;
  }

  -- nothing is told of them that was not
  pub same_letters : (number : ℕ) (ids : List LetterId) (net : List InFlightFields)
      → ((id : LetterId) → In id ids → addressee new id ≡ addressee st id)
      → ((k : ℕ) → number ≤ k → k < number + length ids → IsSameAt st new k)
      → AreLetters st number ids net → AreLetters new number ids net
  same_letters number [] [] to same are = tt
  same_letters number [] (kept ∷ net) to same are = elim are [ ]
  same_letters number (id ∷ ids) [] to same are = elim are [ ]
  same_letters number (id ∷ ids) (kept ∷ net) to same are = (
    same_one number id kept (to id (inl refl)) (same number (omega arith) (omega arith)) are.0,
    same_letters (number + 1) ids net (λ x i. to x (inr i))
        (λ k low high. same k (omega (arith, low)) (omega (arith, high))) are.1,
  )

  -- one of them is changed
  pub changed_letter : (f : InFlightFields → InFlightFields) (number place : ℕ)
      (ids : List LetterId) (net : List InFlightFields)
      → ((id : LetterId) → addressee new id ≡ addressee st id)
      → ((k : ℕ) → (k ≡ number + place → ⊥) → IsSameAt st new k)
      → ((id : LetterId) (kept : InFlightFields) → IsLetter st (number + place) id kept
      → IsLetter new (number + place) id (f kept))
      → AreLetters st number ids net → AreLetters new number ids (changed_at f net place)
  changed_letter f number place [] [] to same one are = tt
  changed_letter f number place [] (kept ∷ net) to same one are = elim are [ ]
  changed_letter f number place (id ∷ ids) [] to same one are = elim are [ ]
  changed_letter f number zero (id ∷ ids) (kept ∷ net) to same one are = (
    subst (λ (n : ℕ). IsLetter new n id (f kept)) (omega arith)
        (one id kept (subst (λ (n : ℕ). IsLetter st n id kept) (omega arith) are.0)),
    same_letters (number + 1) ids net (λ x i. to x)
        (λ k low high. same k (λ e. omega (arith, e, low))) are.1,
  )
  changed_letter f number (suc place) (id ∷ ids) (kept ∷ net) to same one are =
      let next : number + suc place ≡ number + 1 + place = omega arith in (
        same_one number id kept (to id) (same number (λ e. omega (arith, e))) are.0,
        changed_letter f (number + 1) place ids net to (λ k off. same k (λ e. off (e ∙ next)))
            (λ x y is. subst (λ (n : ℕ). IsLetter new n x (f y)) next
            (one x y (subst (λ (n : ℕ). IsLetter st n x y) (sym next) is))) are.1,
      )

-- letters after letters
pub letters_behind : (st : Standing) (number : ℕ) (ids more : List LetterId)
    (net others : List InFlightFields)
    → AreLetters st number ids net → AreLetters st (number + length net) more others
    → AreLetters st number (ids ++ more) (net ++ others)
letters_behind st number [] more [] others are behind =
    subst (λ (n : ℕ). AreLetters st n more others) (omega arith) behind
letters_behind st number [] more (kept ∷ net) others are behind = elim are [ ]
letters_behind st number (id ∷ ids) more [] others are behind = elim are [ ]
letters_behind st number (id ∷ ids) more (kept ∷ net) others are behind =
    let next : number + suc (length net) ≡ number + 1 + length net = omega arith in (
      are.0,
      letters_behind st (number + 1) ids more net others are.1
          (subst (λ (n : ℕ). AreLetters st n more others) next behind),
    )
