-- Disks that are handed over and back: one after another, and one of them changed.
use Rattle.std.proofs.Common.{◌≡◌, ◌≤◌, ℕ, zero, suc, ◌-◌, Bool, List, [], ◌∷◌, length, set, Some}
use Rattle.std.proofs.Common.{refl, sym, ap, ◌∙◌, subst, arith}
use Rattle.std.specs.Prelude.{map, slice_get}
use Rattle.std.proofs.lemmas.Option.{none-some, same_Some}
use Rattle.cam_base.specs.Causes.{Rose}
use Rattle.cam_cluster.specs.HandedBack.{AreHandedBack, AreLater, HasFailed, IsLater}

-- each as it is
pub all_same : {D : Type 0} (tells : D → Bool) (faults_of : D → ℕ) (disks : List D)
    → AreHandedBack tells faults_of disks disks
all_same tells faults_of [] = tt
all_same tells faults_of (disk ∷ disks) =
    (record { told = refl; later = omega arith }, all_same tells faults_of disks)

-- one of them later
pub one_later : {D : Type 0} (tells : D → Bool) (faults_of : D → ℕ) (disks : List D) (place : ℕ)
    (old new : D) → slice_get disks place ≡ Some old
    → IsLater tells faults_of tells faults_of old new
    → AreHandedBack tells faults_of disks (set disks place new)
one_later tells faults_of [] place old new at is = tt
one_later tells faults_of (disk ∷ disks) zero old new at is = (
  rw (same_Some disk old at) is,
  all_same _ _ _,
)
one_later tells faults_of (disk ∷ disks) (suc place) old new at is = (
  record { told = refl; later = omega arith },
  one_later tells faults_of disks place old new at
      is,
)

-- a count that did not change, of one of them
pub counts_same : {D : Type 0} (faults_of : D → ℕ) (disks : List D) (place : ℕ) (old new : D)
    → slice_get disks place ≡ Some old → faults_of new ≡ faults_of old
    → map faults_of (set disks place new) ≡ map faults_of disks
counts_same faults_of [] place old new at same = refl
counts_same faults_of (disk ∷ disks) zero old new at same =
    ap (λ (n : ℕ). n ∷ map faults_of disks) (same ∙ ap faults_of (sym (same_Some disk old at)))
counts_same faults_of (disk ∷ disks) (suc place) old new at same =
    ap (λ (ns : List ℕ). faults_of disk ∷ ns) (counts_same faults_of disks place old new at same)

module _ {A B : Type 0} (told_before : A → Bool) (faults_before : A → ℕ) (tells : B → Bool)
    (faults_of : B → ℕ) where
  -- as many
  pub as_many : (olds : List A) (news : List B)
      → AreLater told_before faults_before tells faults_of olds news → length news ≡ length olds
  as_many [] [] later = refl
  as_many [] (new ∷ news) later = elim later [ ]
  as_many (old ∷ olds) [] later = elim later [ ]
  as_many (old ∷ olds) (new ∷ news) later = ap suc (as_many olds news later.1)

  -- the same disk before and after
  pub record WasAt (olds : List A) (place : ℕ) (new : B) : Type 0 where
    pub old : A
    pub at : slice_get olds place ≡ Some old
    pub is : IsLater told_before faults_before tells faults_of old new

  pub record IsAt (news : List B) (place : ℕ) (old : A) : Type 0 where
    pub new : B
    pub at : slice_get news place ≡ Some new
    pub is : IsLater told_before faults_before tells faults_of old new

  pub was_at : (olds : List A) (news : List B) (place : ℕ) (new : B)
      → AreLater told_before faults_before tells faults_of olds news
      → slice_get news place ≡ Some new → WasAt olds place new
  was_at [] [] place new later at = absurd (none-some new at)
  was_at [] (n ∷ news) place new later at = elim later [ ]
  was_at (o ∷ olds) [] place new later at = elim later [ ]
  was_at (o ∷ olds) (n ∷ news) zero new later at = record {
    old = o;
    at = refl;
    is =
        subst (IsLater told_before faults_before tells faults_of o) (same_Some n new at) later.0;
  }
  was_at (o ∷ olds) (n ∷ news) (suc place) new later at =
      let was = was_at olds news place new later.1 at in
      record { old = was.old; at = was.at; is = was.is }

  pub is_at : (olds : List A) (news : List B) (place : ℕ) (old : A)
      → AreLater told_before faults_before tells faults_of olds news
      → slice_get olds place ≡ Some old → IsAt news place old
  is_at [] [] place old later at = absurd (none-some old at)
  is_at [] (n ∷ news) place old later at = elim later [ ]
  is_at (o ∷ olds) [] place old later at = elim later [ ]
  is_at (o ∷ olds) (n ∷ news) zero old later at = record {
    new = n;
    at = refl;
    is = rw (← (same_Some o old at)) later.0;
  }
  is_at (o ∷ olds) (n ∷ news) (suc place) old later at =
      let now = is_at olds news place old later.1 at in
      record { new = now.new; at = now.at; is = now.is }

-- Later and later again.
module _ {A B C : Type 0} (told_first : A → Bool) (faults_first : A → ℕ) (told_next : B → Bool)
    (faults_next : B → ℕ) (tells : C → Bool) (faults_of : C → ℕ) where
  pub then_later : (first : List A) (next : List B) (last : List C)
      → AreLater told_first faults_first told_next faults_next first next
      → AreLater told_next faults_next tells faults_of next last
      → AreLater told_first faults_first tells faults_of first last
  then_later [] [] [] one two = tt
  then_later [] [] (c ∷ last) one two = elim two [ ]
  then_later [] (b ∷ next) last one two = elim one [ ]
  then_later (a ∷ first) [] last one two = elim one [ ]
  then_later (a ∷ first) (b ∷ next) [] one two = elim two [ ]
  then_later (a ∷ first) (b ∷ next) (c ∷ last) one two = (
    record {
      told = two.0.told ∙ one.0.told;
      later = let low = one.0.later in let high = two.0.later in omega (arith, low, high);
    },
    then_later first next last one.1 two.1,
  )

-- a count that rose between rose
pub rose_between : (first next now last : ℕ) → first ≤ next → Rose next now → now ≤ last
    → Rose first last
rose_between first next now last low rose high = omega (arith, low, rose, high)

-- A disk that failed between failed.
module _ {A B C D : Type 0} (told_first : A → Bool) (faults_first : A → ℕ) (told_next : B → Bool)
    (faults_next : B → ℕ) (told_now : C → Bool) (faults_now : C → ℕ) (tells : D → Bool)
    (faults_of : D → ℕ) where
  pub failed_between : (s : ℕ) (first : List A) (next : List B) (now : List C) (last : List D)
      → AreLater told_first faults_first told_next faults_next first next
      → HasFailed faults_next faults_now s next now
      → AreLater told_now faults_now tells faults_of now last
      → HasFailed faults_first faults_of s first last
  failed_between s first next now last one failed two =
      let was = was_at told_first faults_first told_next faults_next first next (s - 1) failed.old
      one failed.was in
      let is = is_at told_now faults_now tells faults_of now last (s - 1) failed.new two failed.is
      in record {
        low = failed.low;
        high =
            let high = failed.high in
            let many = as_many told_first faults_first told_next faults_next first next one in
            omega (arith, high, many);
        old = was.old;
        new = is.new;
        was = was.at;
        is = is.at;
        rose = rose_between _ _ _ _ was.is.later failed.rose is.is.later;
      }
