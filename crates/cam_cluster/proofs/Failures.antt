-- What is known to have failed: which disks, and by what a run has to end.
use Rattle.std.proofs.Common.{◌≡◌, ◌⊎◌, inl, inr, ℕ, zero, suc, ◌+◌, ◌-◌, ◌≤◌, ◌<◌, ◌^◌, min, eqb}
use Rattle.std.proofs.Common.{Bool, true, false, List, length, set, true≢false, refl, sym, ap, ◌∙◌}
use Rattle.std.proofs.Common.{arith, subst}
use Rattle.std.specs.Prelude.{if◌then◌else◌}
use Rattle.std.proofs.lemmas.Bool.{eq-eqb, ne_eqb}
use Rattle.std.proofs.lemmas.Bool.Decides.{eqb_tells, leb_tells}
use Rattle.cam_base.specs.Causes.{Rose}
use Rattle.cam_net.specs.Waiting.{is_halted}
use Rattle.cam_node.specs.declared.fault.NodeFault.{NodeFault}
use Rattle.cam_node.specs.declared.fault.NodeFault.TheVariants as faults
use Rattle.cam_histories.proofs.HaltedLists.{halted_now}
use Rattle.cam_cluster.specs.declared.works.failing.Ending.{Ending}
use Rattle.cam_cluster.specs.declared.works.failing.Ending.TheVariants as endings
use Rattle.cam_cluster.specs.declared.works.failing.Failed.{Failed}
use Rattle.cam_cluster.specs.Failing.{IsAfterCall, IsAfterHalt, IsAfterRestart, KnownFirst, KnowsMore}
use Rattle.cam_cluster.specs.Works.{MayGoOn, IsUnfailing, NodeFields, has_failed}

-- Whether a count rose is decided.
pub rose_or_still : (before now : ℕ) → Rose before now ⊎ (Rose before now → ⊥)
rose_or_still before now = elim (leb_tells (min (before + 1) (2 ^ 64 - 1)) now) [
  | inl more ↦ inl more.1
  | inr less ↦ inr (λ rose. let less = less.1 in omega (arith, less, rose))
]

-- a place of eight, marked
pub marked_is : (xs : List Bool) (place s : ℕ) → length xs ≡ 8 → place < 8 → 1 ≤ s
    → is_halted (set xs place true) s ≡ (if eqb (place + 1) s then true else is_halted xs s)
marked_is xs place s eight within low =
    ap (λ (i : ℕ). is_halted (set xs i true) s) (let is : place ≡ place + 1 - 1 = omega arith in is)
    ∙ halted_now xs (place + 1) s true eight (omega arith, omega (arith, within)) low

pub marked_here : (xs : List Bool) (place : ℕ) → length xs ≡ 8 → place < 8
    → is_halted (set xs place true) (place + 1) ≡ true
marked_here xs place eight within =
    marked_is xs place (place + 1) eight within (omega arith)
    ∙ ap (λ (b : Bool). if b then true else is_halted xs (place + 1))
    (eq-eqb (place + 1) (place + 1) refl)

pub marked_why : (xs : List Bool) (place s : ℕ) → length xs ≡ 8 → place < 8 → 1 ≤ s
    → is_halted (set xs place true) s ≡ true → (is_halted xs s ≡ true) ⊎ (place + 1 ≡ s)
marked_why xs place s eight within low is = elim (eqb_tells (place + 1) s) [
  | inl here ↦ inr here.1
  | inr away ↦
      inl (sym (marked_is xs place s eight within low
      ∙ ap (λ (b : Bool). if b then true else is_halted xs s) away.0) ∙ is)
]

-- what was marked stays so
marked_low : (xs : List Bool) (place s : ℕ) → length xs ≡ 8 → place < 8 → 1 ≤ s
    → is_halted (set xs place true) s ≡ false → is_halted xs s ≡ false
marked_low xs place s eight within low is =
    by (eqb (place + 1) s) (sym (marked_is xs place s eight within low) ∙ is)
  where
    by : (b : Bool) → (if b then true else is_halted xs s) ≡ false → is_halted xs s ≡ false
    by true h = absurd (true≢false h)
    by false h = h

pub marked_still : (xs : List Bool) (place s : ℕ) → length xs ≡ 8 → place < 8
    → is_halted (set xs place true) s ≡ false → is_halted xs s ≡ false
marked_still xs place zero eight within is = marked_low xs place 1 eight within (omega arith) is
marked_still xs place (suc s) eight within is =
    marked_low xs place (suc s) eight within (omega arith) is

-- What is known is known still, and more is known of what is known of more.
pub knows_same : (known : Failed) → KnowsMore known known
knows_same known = record { ends = λ none. none; disks = λ s is. is }

pub knows_then : (first next last : Failed) → KnowsMore first next → KnowsMore next last
    → KnowsMore first last
knows_then first next last one two = record {
  ends = λ none. one.ends (two.ends none);
  disks = λ s is. one.disks s (two.disks s is);
}

pub knows_as : (old new : Failed) → new ≡ old → KnowsMore old new
knows_as old new same = subst (KnowsMore old) (sym same) (knows_same old)

-- a disk that has failed has failed still
pub still_failed : (old new : Failed) (s : ℕ) → KnowsMore old new → has_failed old s ≡ true
    → has_failed new s ≡ true
still_failed old new s more was = by (has_failed new s) refl
  where
    by : (b : Bool) → has_failed new s ≡ b → has_failed new s ≡ true
    by true is = is
    by false is = absurd (true≢false (sym was ∙ more.disks s is))

pub unfailing_more : (old new : Failed) (nodes : List NodeFields) (s : ℕ) → KnowsMore old new
    → IsUnfailing new nodes s → IsUnfailing old nodes s
unfailing_more old new nodes s more all =
    (more.disks s all.0, (more.ends all.1.0, all.1.1))

-- after a call
module _ (place before now : ℕ) (old new : Failed) (within : place < 8)
    (after : IsAfterCall place before now old new) where
  pub call_knows : KnowsMore old new
  call_knows = elim (rose_or_still before now) [
    | inl rose ↦
        subst (KnowsMore old) (sym (after.rose rose))
        (record {
          ends = λ none. none;
          disks = λ s is. marked_still old.disks place s after.eight within is;
        })
    | inr still ↦ knows_as old new (after.still still)
  ]

  -- a disk that has not failed since
  pub not_risen_there : has_failed new (place + 1) ≡ false → Rose before now → ⊥
  not_risen_there none rose =
      true≢false (sym (ap (λ (f : Failed). has_failed f (place + 1)) (after.rose rose)
      ∙ marked_here old.disks place after.eight within) ∙ none)

-- after a halt
first_ends : (old this new : Ending) → KnownFirst old this new → new ≡ endings.Nothing
    → old ≡ endings.Nothing
first_ends endings.Nothing this new is none = refl
first_ends (endings.Disk s) this new is none = sym is ∙ none
first_ends endings.Memory this new is none = sym is ∙ none

abbrev is_nothing : Ending → Bool
is_nothing endings.Nothing = true
is_nothing _ = false

pub some_is_not : (now : Ending) → is_nothing now ≡ false → now ≡ endings.Nothing → ⊥
some_is_not now some none = true≢false (sym (ap is_nothing none) ∙ some)

-- after something came, the run has to end
pub some_known : (old this new : Ending) → is_nothing this ≡ false → KnownFirst old this new
    → new ≡ endings.Nothing → ⊥
some_known endings.Nothing this new some is none = some_is_not this some (sym is ∙ none)
some_known (endings.Disk s) this new some is none =
    some_is_not (endings.Disk s) refl (sym is ∙ none)
some_known endings.Memory this new some is none = some_is_not endings.Memory refl (sym is ∙ none)

pub halt_knows : (fault : NodeFault) (old new : Failed) → IsAfterHalt fault old new
    → KnowsMore old new
halt_knows faults.NoMemory old new is = record {
  ends = first_ends old.ends endings.Memory new.ends is.1;
  disks = λ s none. ap (λ (ds : List Bool). is_halted ds s) (sym is.0) ∙ none;
}
halt_knows faults.DiskFault old new is = knows_as old new is

pub halt_disks : (fault : NodeFault) (old new : Failed) → IsAfterHalt fault old new
    → new.disks ≡ old.disks
halt_disks faults.NoMemory old new is = is.0
halt_disks faults.DiskFault old new is = ap (λ (f : Failed). f.disks) is

-- where a node halted and the run goes on, its disk was at fault
pub halt_by_disk : (fault : NodeFault) (old new : Failed) → IsAfterHalt fault old new
    → new.ends ≡ endings.Nothing → fault ≡ faults.DiskFault
halt_by_disk faults.NoMemory old new is none =
    absurd (some_known old.ends endings.Memory new.ends refl is.1 none)
halt_by_disk faults.DiskFault old new is none = refl

abbrev disk_of : Ending → ℕ
disk_of (endings.Disk s) = s
disk_of _ = 0

-- how a run ends by a disk after a halt: as before
memory_ends : (old new : Ending) (s : ℕ) → KnownFirst old endings.Memory new
    → new ≡ endings.Disk s → old ≡ endings.Disk s
memory_ends endings.Nothing new s is disk = absurd (apart (sym is ∙ disk))
  where
    apart : endings.Memory ≡ endings.Disk s → ⊥
    apart same = cc
memory_ends (endings.Disk m) new s is disk = sym is ∙ disk
memory_ends endings.Memory new s is disk = sym is ∙ disk

pub halt_ends : (fault : NodeFault) (old new : Failed) (s : ℕ) → IsAfterHalt fault old new
    → new.ends ≡ endings.Disk s → old.ends ≡ endings.Disk s
halt_ends faults.NoMemory old new s is disk = memory_ends old.ends new.ends s is.1 disk
halt_ends faults.DiskFault old new s is disk = ap (λ (f : Failed). f.ends) (sym is) ∙ disk

-- after a restart that failed
module _ (place : ℕ) (old new : Failed) (after : IsAfterRestart place old new) where
  abbrev here : Bool
  here = has_failed old (place + 1)

  pub restart_knows : KnowsMore old new
  restart_knows = record {
    ends = λ none. absurd (restart_ends_so none);
    disks = λ s none. ap (λ (ds : List Bool). is_halted ds s) (sym after.same) ∙ none;
  }
    where
      restart_ends_so : new.ends ≡ endings.Nothing → ⊥
      restart_ends_so none = by here refl
        where
          by : (b : Bool) → here ≡ b → ⊥
          by true is = some_known old.ends (endings.Disk (place + 1)) new.ends refl (after.disk is) none
          by false is = some_known old.ends endings.Memory new.ends refl (after.memory is) none

  pub restart_ends : new.ends ≡ endings.Nothing → ⊥
  restart_ends none = by here refl
    where
      by : (b : Bool) → here ≡ b → ⊥
      by true is = some_known old.ends (endings.Disk (place + 1)) new.ends refl (after.disk is) none
      by false is = some_known old.ends endings.Memory new.ends refl (after.memory is) none

  -- which disk it names: one that was named before, or this one, which has failed
  pub restart_names : (s : ℕ) → new.ends ≡ endings.Disk s
      → (old.ends ≡ endings.Disk s) ⊎ ((place + 1 ≡ s) × (here ≡ true))
  restart_names s disk = by here refl
    where
      of_first : (was now : Ending) → KnownFirst was (endings.Disk (place + 1)) now
          → now ≡ endings.Disk s → (was ≡ endings.Disk s) ⊎ (place + 1 ≡ s)
      of_first endings.Nothing now first is = inr (same_disk (sym first ∙ is))
        where
          same_disk : endings.Disk (place + 1) ≡ endings.Disk s → place + 1 ≡ s
          same_disk same = ap disk_of same
      of_first (endings.Disk m) now first is = inl (sym first ∙ is)
      of_first endings.Memory now first is = inl (sym first ∙ is)

      by : (b : Bool) → here ≡ b
          → (old.ends ≡ endings.Disk s) ⊎ ((place + 1 ≡ s) × (here ≡ true))
      by true is = elim (of_first old.ends new.ends (after.disk is) disk) [
        | inl was ↦ inl was
        | inr own ↦ inr (own, is)
      ]
      by false is = inl (memory_ends old.ends new.ends s (after.memory is) disk)
