-- What is written, by what the sink took.
use Rattle.std.proofs.Common.{◌≡◌, ◌⊎◌, inl, inr, ℕ, ◌≤◌, List, ◌++◌, length, take, Option, Some, None, refl, ap, sym, subst, arith}
use Rattle.cam_base.specs.Told.{IfTold}
use Rattle.cam_base.proofs.Told.{if_told_weaker}
use Rattle.cam_run.specs.declared.status.Status.{Status}
use Rattle.cam_run.specs.declared.status.Status.TheVariants.{Done, Usage, Refused, ReadFault, WriteFault, DiskFault, NoMemory, Missing}
use Rattle.cam_run.specs.Status.{number}
use Rattle.cam_run.specs.Told.{IsTelling, MayAnswer, MayObey}
use Rattle.cam_run.specs.Answer.{IsWritten}

-- a status that is answered is neither that of a sink that failed nor that of running out of memory
abbrev pub IsOwn : ℕ → Type 0
IsOwn n = (n ≡ 5 → ⊥) × (n ≡ 7 → ⊥)

pub own_status : (s : Status) → MayAnswer s → IsOwn (number s)
own_status s (inl (inl (inl (inl is)))) =
    (λ e. omega (arith, ap number is, e), λ e. omega (arith, ap number is, e))
own_status s (inl (inl (inl (inr is)))) =
    (λ e. omega (arith, ap number is, e), λ e. omega (arith, ap number is, e))
own_status s (inl (inl (inr is))) =
    (λ e. omega (arith, ap number is, e), λ e. omega (arith, ap number is, e))
own_status s (inl (inr (inl is))) =
    (λ e. omega (arith, ap number is, e), λ e. omega (arith, ap number is, e))
own_status s (inl (inr (inr is))) =
    (λ e. omega (arith, ap number is, e), λ e. omega (arith, ap number is, e))
own_status s (inr is) =
    (λ e. omega (arith, ap number is, e), λ e. omega (arith, ap number is, e))

-- no answer but that to words that are no form is the usage
pub not_usage : (s : Status) → MayObey s → s ≡ Usage → ⊥
not_usage s (inl (inl (inl is))) usage = absurd (omega (arith, ap number is, ap number usage))
not_usage s (inl (inl (inr is))) usage = absurd (omega (arith, ap number is, ap number usage))
not_usage s (inl (inr is)) usage = absurd (omega (arith, ap number is, ap number usage))
not_usage s (inr (inl is)) usage = absurd (omega (arith, ap number is, ap number usage))
not_usage s (inr (inr is)) usage = absurd (omega (arith, ap number is, ap number usage))

-- a status of 0 or 8 is one with which a run is told of
pub not_telling : {P : Type 0} (n : ℕ) → 1 ≤ n → n ≤ 7 → (n ≡ 0) ⊎ (n ≡ 8) → P
not_telling n low high (inl is) = absurd (omega (arith, low, is))
not_telling n low high (inr is) = absurd (omega (arith, high, is))

pub is_telling : (s : Status) → (number s ≡ 0) ⊎ (number s ≡ 8) → IsTelling s
is_telling Done ends = inl refl
is_telling Missing ends = inr refl
is_telling Usage ends = not_telling 2 (omega arith) (omega arith) ends
is_telling Refused ends = not_telling 3 (omega arith) (omega arith) ends
is_telling ReadFault ends = not_telling 4 (omega arith) (omega arith) ends
is_telling WriteFault ends = not_telling 5 (omega arith) (omega arith) ends
is_telling DiskFault ends = not_telling 6 (omega arith) (omega arith) ends
is_telling NoMemory ends = not_telling 7 (omega arith) (omega arith) ends

-- the whole text of an answer
pub written_whole : (answers : ℕ → List ℕ → Type 0) (before after : Option (List ℕ))
    (result status : ℕ) (text handed : List ℕ)
    → result ≡ status → IsOwn status → handed ≡ text → answers status text
    → IfTold before after (λ old new. new ≡ old ++ handed)
    → IsWritten answers result before after
written_whole answers before after result status text handed is own same answer added =
    subst (λ (r : ℕ). IsWritten answers r before after) (sym is)
    (record {
      whole = λ a b. (
        text,
        answer,
        subst (λ (t : List ℕ). IfTold before after (λ old new. new ≡ old ++ t)) same added,
      );
      front = λ five. absurd (own.0 five);
      nothing = λ seven. absurd (own.1 seven);
    })

-- a prefix of it
pub written_front : (answers : ℕ → List ℕ → Type 0) (before after : Option (List ℕ))
    (result meant : ℕ) (text handed : List ℕ)
    → result ≡ 5 → handed ≡ text → answers meant text
    → IfTold before after
    (λ old new. (n : ℕ) × (n ≤ length handed) × (new ≡ old ++ take n handed))
    → IsWritten answers result before after
written_front answers before after result meant text handed is same answer part =
    let told : answers meant handed = subst (answers meant) (sym same) answer in
    record {
      whole = λ other b. absurd (other is);
      front = λ five. (meant, handed, told, part);
      nothing = λ seven. absurd (omega (arith, is, seven));
    }

-- nothing, and the sink is as it was
as_before : (left : Option (List ℕ)) → IfTold left left (λ old new. new ≡ old)
as_before (Some bytes) = refl
as_before None = tt

pub written_nothing : (answers : ℕ → List ℕ → Type 0) (left : Option (List ℕ)) (result : ℕ)
    → result ≡ 7 → IsWritten answers result left left
written_nothing answers left result is = record {
  whole = λ a b. absurd (b is);
  front = λ five. absurd (omega (arith, is, five));
  nothing = λ seven. as_before left;
}

-- so it is by the input, whether or not the source tells its bytes
pub writes_whole : (answers : List ℕ → ℕ → List ℕ → Type 0)
    (left rest before after : Option (List ℕ)) (result status : ℕ) (text handed : List ℕ)
    → result ≡ status → IsOwn status → handed ≡ text
    → IfTold left rest (λ input _. answers input status text)
    → IfTold before after (λ old new. new ≡ old ++ handed)
    → IfTold left rest (λ input _. IsWritten (answers input) result before after)
writes_whole answers left rest before after result status text handed is own same told added =
    if_told_weaker left rest
    (λ input over answer.
    written_whole (answers input) before after result status text handed is own same answer added)
    told

pub writes_front : (answers : List ℕ → ℕ → List ℕ → Type 0)
    (left rest before after : Option (List ℕ)) (result meant : ℕ) (text handed : List ℕ)
    → result ≡ 5 → handed ≡ text
    → IfTold left rest (λ input _. answers input meant text)
    → IfTold before after
    (λ old new. (n : ℕ) × (n ≤ length handed) × (new ≡ old ++ take n handed))
    → IfTold left rest (λ input _. IsWritten (answers input) result before after)
writes_front answers left rest before after result meant text handed is same told part =
    if_told_weaker left rest
    (λ input over answer.
    written_front (answers input) before after result meant text handed is same answer part)
    told

pub writes_nothing : (R : List ℕ → List ℕ → Type 0) (answers : List ℕ → ℕ → List ℕ → Type 0)
    (left rest sink : Option (List ℕ)) (result : ℕ)
    → result ≡ 7 → IfTold left rest R
    → IfTold left rest (λ input _. IsWritten (answers input) result sink sink)
writes_nothing R answers left rest sink result is told =
    if_told_weaker left rest (λ input over any. written_nothing (answers input) sink result is) told
