-- What stands behind the end of an action in a legal history.
use Rattle.std.proofs.Common.{◌≡◌, inl, inr, eqb, true, false, ◌&&◌, List, [], ◌∷◌, None, refl, sym, ◌∙◌, subst, ℕ, not, if◌then◌else◌}
use Rattle.std.proofs.lemmas.Bool.{and_parts, cases_Bool, true≢false, or_cases, or_right, or_parts, not-true}
use Rattle.cam_names.proofs.Names.{name_eq_same}
use Rattle.cam_names.specs.Names.{name_eq, home_node, home_count}
use Rattle.cam_names.specs.declared.name.Name.{Name}
use Rattle.cam_type.specs.declared.ObjectDecl.{ObjectDecl}
use Rattle.cam_event.specs.History.{count, aborted, informed, open_call, created, committed, asked_commit, asked_abort, ended, runs}
use Rattle.cam_event.specs.declared.Deed.{Deed}
use Rattle.cam_event.specs.declared.Deed.TheVariants.{Call, Got, Inform, AskCommit, Commit, Abort}
use Rattle.cam_plain.specs.Legal.{Legal}

-- an action that runs has not asked to commit
pub runs_not_asked : (L : List Deed) (a : Name) → runs L a ≡ true → asked_commit L a ≡ false
runs_not_asked L a h =
    let parts = and_parts (created L a && not (ended L a)) (eqb (count L (home_node a)) (home_count a)) h in
    let inner = and_parts (created L a) (not (ended L a)) parts.0 in
    (or_parts (asked_commit L a) (asked_abort L a) (not-true (ended L a) inner.1)).0

-- what committed had asked to
pub committed_asked : (objects : List ObjectDecl) (L : List Deed) (a : Name) → Legal objects L → committed L a ≡ true → asked_commit L a ≡ true
committed_asked objects [] a legal h = cc
committed_asked objects (Commit b ∷ L) a legal h = elim (or_cases (name_eq a b) (committed L a) h) [
  | inl e ↦ subst (λ x. asked_commit L x ≡ true) (sym (name_eq_same a b e)) legal.0.asked
  | inr r ↦ committed_asked objects L a legal.1 r
]
committed_asked objects (AskCommit b v ∷ L) a legal h = or_right (name_eq a b) (asked_commit L a) (committed_asked objects L a legal.1 h)
committed_asked objects (_ ∷ L) a legal h = committed_asked objects L a legal.1 h

-- what runs has not committed
pub runs_not_committed : (objects : List ObjectDecl) (L : List Deed) (a : Name) → Legal objects L → runs L a ≡ true → committed L a ≡ true → ⊥
runs_not_committed objects L a legal h g = true≢false (sym (committed_asked objects L a legal g) ∙ runs_not_asked L a h)

-- an action that has asked to commit has no open call, for good
pub asked_no_call : (objects : List ObjectDecl) (L : List Deed) (a : Name) → Legal objects L → asked_commit L a ≡ true → open_call L a ≡ None
asked_no_call objects [] a legal h = refl
asked_no_call objects (AskCommit b v ∷ L) a legal h = elim (or_cases (name_eq a b) (asked_commit L a) h) [
  | inl e ↦ subst (λ x. open_call L x ≡ None) (sym (name_eq_same a b e)) legal.0.no_call
  | inr r ↦ asked_no_call objects L a legal.1 r
]
asked_no_call objects (Call b n x op c ∷ L) a legal h =
    elim (cases_Bool (name_eq a b)) [
      | inl e ↦ absurd (true≢false (sym (subst (λ y. asked_commit L y ≡ true) (name_eq_same a b e) h) ∙ runs_not_asked L b legal.0.running))
      | inr n ↦ rw n (asked_no_call objects L a legal.1 h)
    ]
asked_no_call objects (Got b n seen ∷ L) a legal h =
    elim (name_eq a b) as (λ t. (if t then None else open_call L a) ≡ None) [ true ↦ refl | false ↦ asked_no_call objects L a legal.1 h ]
asked_no_call objects (_ ∷ L) a legal h = asked_no_call objects L a legal.1 h

-- nothing both committed and aborted
pub one_outcome : (objects : List ObjectDecl) (L : List Deed) (a : Name) → Legal objects L → committed L a ≡ true → aborted L a ≡ true → ⊥
one_outcome objects [] a legal h g = cc
one_outcome objects (Commit b ∷ L) a legal h g = elim (or_cases (name_eq a b) (committed L a) h) [
  | inl e ↦ true≢false (sym (subst (λ x. aborted L x ≡ true) (name_eq_same a b e) g) ∙ (or_parts (committed L b) (aborted L b) legal.0.undecided).1)
  | inr r ↦ one_outcome objects L a legal.1 r g
]
one_outcome objects (Abort b ∷ L) a legal h g = elim (or_cases (name_eq a b) (aborted L a) g) [
  | inl e ↦ true≢false (sym (subst (λ x. committed L x ≡ true) (name_eq_same a b e) h) ∙ (or_parts (committed L b) (aborted L b) legal.0.undecided).0)
  | inr r ↦ one_outcome objects L a legal.1 h r
]
one_outcome objects (_ ∷ L) a legal h g = one_outcome objects L a legal.1 h g

-- sites are informed of commits that were
pub informed_committed : (objects : List ObjectDecl) (L : List Deed) (s : ℕ) (a : Name) → Legal objects L → informed L s a true ≡ true → committed L a ≡ true
informed_committed objects [] s a legal h = cc
informed_committed objects (Inform site b true ∷ L) s a legal h = elim (or_cases (eqb s site && name_eq a b) (informed L s a true) h) [
  | inl e ↦ subst (λ x. committed L x ≡ true) (sym (name_eq_same a b (and_parts (eqb s site) (name_eq a b) e).1)) legal.0.decided
  | inr r ↦ informed_committed objects L s a legal.1 r
]
informed_committed objects (Inform site b false ∷ L) s a legal h = informed_committed objects L s a legal.1 h
informed_committed objects (Commit b ∷ L) s a legal h = or_right (name_eq a b) (committed L a) (informed_committed objects L s a legal.1 h)
informed_committed objects (_ ∷ L) s a legal h = informed_committed objects L s a legal.1 h

-- and of aborts that were
pub informed_aborted : (objects : List ObjectDecl) (L : List Deed) (s : ℕ) (a : Name) → Legal objects L → informed L s a false ≡ true → aborted L a ≡ true
informed_aborted objects [] s a legal h = cc
informed_aborted objects (Inform site b false ∷ L) s a legal h = elim (or_cases (eqb s site && name_eq a b) (informed L s a false) h) [
  | inl e ↦ subst (λ x. aborted L x ≡ true) (sym (name_eq_same a b (and_parts (eqb s site) (name_eq a b) e).1)) legal.0.decided
  | inr r ↦ informed_aborted objects L s a legal.1 r
]
informed_aborted objects (Inform site b true ∷ L) s a legal h = informed_aborted objects L s a legal.1 h
informed_aborted objects (Abort b ∷ L) s a legal h = or_right (name_eq a b) (aborted L a) (informed_aborted objects L s a legal.1 h)
informed_aborted objects (_ ∷ L) s a legal h = informed_aborted objects L s a legal.1 h
