-- What an action depends on in a legal history: how it grows, when it is final, and the ranges of its pairs.
use Rattle.std.proofs.Common.{◌≡◌, inl, inr, if◌then◌else◌, ℕ, ◌≤◌, Bool, true, false, ◌&&◌, List, [], ◌∷◌, ◌++◌, Option, Some, None, refl, sym, ◌∙◌, subst, arith}
use Rattle.std.proofs.lemmas.Bool.{and_parts, and_left, or_parts, true≢false, false_from_ne_true}
use Rattle.cam_names.specs.declared.name.Name.{Name}
use Rattle.cam_names.specs.Names.{name_eq, is_ancestor, is_child, is_top, parent, home_node, home_count}
use Rattle.cam_names.proofs.Names.{name_eq_same}
use Rattle.cam_event.proofs.Members.{In, in_append, in_right}
use Rattle.cam_plain.proofs.Called.{count_grows}
use Rattle.cam_plain.proofs.Fates.{call_count}
use Rattle.cam_plain.proofs.Deciding.{runs_not_asked}
use Rattle.cam_plain.proofs.Performed.{runs_created, created_named}
use Rattle.cam_plain.proofs.Decided.{created_child}
use Rattle.cam_type.specs.declared.ObjectDecl.{ObjectDecl}
use Rattle.cam_event.specs.declared.Seen.TheVariants.{Done, Busy, Gone}
use Rattle.cam_event.specs.declared.Deed.{Deed}
use Rattle.cam_event.specs.declared.Deed.TheVariants.{Create, Ask, Call, Got, Commit, Crash}
use Rattle.cam_event.specs.History.{count, created, asked_commit, Addressed, call_of}
use Rattle.cam_event.specs.Live.{site_of}
use Rattle.cam_event.specs.Gained.{deps, visited, home}
use Rattle.cam_event.specs.Runs.{IsNode}
use Rattle.cam_plain.specs.Lines.{MayCommit, asked_for}
use Rattle.cam_plain.specs.Legal.{Legal}
use Rattle.cam_cut.proofs.HomeFacts.{child_parent}
use Rattle.cam_cut.proofs.LegalFacts.{call_in, ask_fresh, asked_commit_created}

-- an action loses no pair
pub deps_old : (objects : List ObjectDecl) (L : List Deed) (d : Deed) (u : Name) (p : ℕ × ℕ) → In p (deps objects L u) → In p (deps objects (d ∷ L) u)
deps_old objects L (Create b) u p h = elim (name_eq u b && is_top b) as (λ x. In p (if x then home b ∷ deps objects L u else deps objects L u)) [ true ↦ inr h | false ↦ h ]
deps_old objects L (Ask q b) u p h = elim (name_eq u b) as (λ x. In p (if x then home b ∷ deps objects L q ++ deps objects L u else deps objects L u)) [ true ↦ inr (in_right (deps objects L q) (deps objects L u) p h) | false ↦ h ]
deps_old objects L (Got b n (Done answer)) u p h = elim (name_eq u b) as (λ x. In p (if x then visited objects (call_of L b n) ++ deps objects L u else deps objects L u)) [ true ↦ in_right (visited objects (call_of L b n)) (deps objects L u) p h | false ↦ h ]
deps_old objects L (Got b n (Busy w)) u p h = h
deps_old objects L (Got b n Gone) u p h = h
deps_old objects L (Commit b) u p h = elim (is_child u b) as (λ x. In p (if x then deps objects L b ++ deps objects L u else deps objects L u)) [ true ↦ in_right (deps objects L b) (deps objects L u) p h | false ↦ h ]
deps_old objects L _ u p h = h

-- the pair of a call
pub in_visited : (objects : List ObjectDecl) (o : Option Addressed) (p : ℕ × ℕ) → In p (visited objects o) → (call : Addressed) × (o ≡ Some call) × (p ≡ (site_of objects call.object, call.count))
in_visited objects None p h = absurd h
in_visited objects (Some call) p (inl e) = (call, refl, e)
in_visited objects (Some call) p (inr r) = absurd r

-- an action that asked to commit gains nothing more
pub deps_final : (objects : List ObjectDecl) (L : List Deed) (d : Deed) (a : Name) → Legal objects (d ∷ L) → asked_commit L a ≡ true → deps objects (d ∷ L) a ≡ deps objects L a
deps_final objects L (Create b) a legal h = rw (and_left (name_eq a b) (is_top b) (false_from_ne_true (name_eq a b) (λ e. true≢false (sym (subst (λ x. created L x ≡ true) (name_eq_same a b e) (asked_commit_created objects L a legal.1 h)) ∙ legal.0.fresh)))) refl
deps_final objects L (Ask p b) a legal h = rw (false_from_ne_true (name_eq a b) (λ e.
    let there : created L b ≡ true = subst (λ x. created L x ≡ true) (name_eq_same a b e) (asked_commit_created objects L a legal.1 h) in
    let mine : parent b ≡ Some p = child_parent p b (created_named objects L p legal.1 (runs_created L p legal.0.running)) legal.0.child in
    true≢false (sym (created_child objects L b p legal.1 mine there).0 ∙ ask_fresh objects L p b legal))) refl
deps_final objects L (Got b n (Done answer)) a legal h = rw (false_from_ne_true (name_eq a b) (λ e. true≢false (sym (subst (λ x. asked_commit L x ≡ true) (name_eq_same a b e) h) ∙ runs_not_asked L b legal.0.running))) refl
deps_final objects L (Got b n (Busy w)) a legal h = refl
deps_final objects L (Got b n Gone) a legal h = refl
deps_final objects L (Commit b) a legal h = rw (false_from_ne_true (is_child a b) (λ e.
    let mine : parent b ≡ Some a = child_parent a b (created_named objects L a legal.1 (asked_commit_created objects L a legal.1 h)) e in
    let may : MayCommit objects L b (Some a) = subst (λ q. MayCommit objects L b q) mine legal.0.may in
    true≢false (sym h ∙ runs_not_asked L a may))) refl
deps_final objects L _ a legal h = refl

-- an action that was neither created nor asked for depends on nothing
pub deps_none : (objects : List ObjectDecl) (L : List Deed) (a : Name) → Legal objects L → is_ancestor a a ≡ true → created L a ≡ false → asked_for L a ≡ false → deps objects L a ≡ []
deps_none objects [] a legal named fresh none = refl
deps_none objects (Create b ∷ L) a legal named fresh none =
    let parts = or_parts (name_eq a b) (created L a) fresh in
    rw parts.0 (deps_none objects L a legal.1 named parts.1 none)
deps_none objects (Ask p b ∷ L) a legal named fresh none =
    let parts = or_parts (name_eq a b) (asked_for L a) none in
    rw parts.0 (deps_none objects L a legal.1 named fresh parts.1)
deps_none objects (Got b n (Done answer) ∷ L) a legal named fresh none =
    rw (false_from_ne_true (name_eq a b) (λ e. true≢false (sym (subst (λ x. created L x ≡ true) (sym (name_eq_same a b e)) (runs_created L b legal.0.running)) ∙ fresh))) (deps_none objects L a legal.1 named fresh none)
deps_none objects (Got b n (Busy w) ∷ L) a legal named fresh none = deps_none objects L a legal.1 named fresh none
deps_none objects (Got b n Gone ∷ L) a legal named fresh none = deps_none objects L a legal.1 named fresh none
deps_none objects (Commit b ∷ L) a legal named fresh none =
    rw (false_from_ne_true (is_child a b) (λ e.
    let may : MayCommit objects L b (Some a) = subst (λ q. MayCommit objects L b q) (child_parent a b named e) legal.0.may in
    true≢false (sym (runs_created L a may) ∙ fresh))) (deps_none objects L a legal.1 named fresh none)
deps_none objects (_ ∷ L) a legal named fresh none = deps_none objects L a legal.1 named fresh none

-- a pair's count is at most that of its node
pub pair_count : (objects : List ObjectDecl) (L : List Deed) (a : Name) (p : ℕ × ℕ) → Legal objects L → In p (deps objects L a) → p.1 ≤ count L p.0
pair_count objects [] a p legal h = absurd h
pair_count objects (Create b ∷ L) a p legal h = by (name_eq a b && is_top b) h (pair_count objects L a p legal.1)
  where
    by : (t : Bool) → In p (if t then home b ∷ deps objects L a else deps objects L a) → (In p (deps objects L a) → p.1 ≤ count L p.0) → p.1 ≤ count L p.0
    by true (inl e) rest = subst (λ (q : ℕ × ℕ). q.1 ≤ count L q.0) (sym e) (omega (arith, legal.0.at_home))
    by true (inr r) rest = rest r
    by false r rest = rest r
pair_count objects (Ask q b ∷ L) a p legal h = by (name_eq a b) h (pair_count objects L q p legal.1) (pair_count objects L a p legal.1)
  where
    by : (t : Bool) → In p (if t then home b ∷ deps objects L q ++ deps objects L a else deps objects L a) → (In p (deps objects L q) → p.1 ≤ count L p.0) → (In p (deps objects L a) → p.1 ≤ count L p.0) → p.1 ≤ count L p.0
    by true (inl e) one rest = subst (λ (k : ℕ × ℕ). k.1 ≤ count L k.0) (sym e) legal.0.count
    by true (inr r) one rest = elim (in_append (deps objects L q) (deps objects L a) p r) [ inl x ↦ one x | inr y ↦ rest y ]
    by false r one rest = rest r
pair_count objects (Got b n (Done answer) ∷ L) a p legal h = by (name_eq a b) h (pair_count objects L a p legal.1)
  where
    by : (t : Bool) → In p (if t then visited objects (call_of L b n) ++ deps objects L a else deps objects L a) → (In p (deps objects L a) → p.1 ≤ count L p.0) → p.1 ≤ count L p.0
    by true r rest = elim (in_append (visited objects (call_of L b n)) (deps objects L a) p r) [
      | inl x ↦ let v = in_visited objects (call_of L b n) p x in subst (λ (k : ℕ × ℕ). k.1 ≤ count L k.0) (sym v.2) (call_count objects L b n v.0 legal.1 v.1)
      | inr y ↦ rest y
    ]
    by false r rest = rest r
pair_count objects (Got b n (Busy w) ∷ L) a p legal h = pair_count objects L a p legal.1 h
pair_count objects (Got b n Gone ∷ L) a p legal h = pair_count objects L a p legal.1 h
pair_count objects (Commit b ∷ L) a p legal h = by (is_child a b) h (pair_count objects L b p legal.1) (pair_count objects L a p legal.1)
  where
    by : (t : Bool) → In p (if t then deps objects L b ++ deps objects L a else deps objects L a) → (In p (deps objects L b) → p.1 ≤ count L p.0) → (In p (deps objects L a) → p.1 ≤ count L p.0) → p.1 ≤ count L p.0
    by true r one rest = elim (in_append (deps objects L b) (deps objects L a) p r) [ inl x ↦ one x | inr y ↦ rest y ]
    by false r one rest = rest r
pair_count objects (Crash s ∷ L) a p legal h = omega (arith, pair_count objects L a p legal.1 h, count_grows L (Crash s) p.0)
pair_count objects (_ ∷ L) a p legal h = pair_count objects L a p legal.1 h

-- the nodes that a deed names are 1 to 8, and the counts at least 1
abbrev pub InRange : ℕ → ℕ → Type 0
InRange s c = IsNode s × (1 ≤ c)

-- so are those that a deed names
abbrev pub Ranged : List ObjectDecl → Deed → Type 0
Ranged objects (Create a) = is_top a ≡ true → InRange (home_node a) (home_count a)
Ranged objects (Ask a b) = InRange (home_node b) (home_count b)
Ranged objects (Call a n x op c) = InRange (site_of objects x) c
Ranged objects _ = Unit {0}

-- so are those of each pair
pub pair_range : (objects : List ObjectDecl) (L : List Deed) (a : Name) (p : ℕ × ℕ) → ((d : Deed) → In d L → Ranged objects d) → In p (deps objects L a) → InRange p.0 p.1
pair_range objects [] a p ranged h = absurd h
pair_range objects (Create b ∷ L) a p ranged h = by (name_eq a b && is_top b) refl h (pair_range objects L a p (λ d i. ranged d (inr i)))
  where
    by : (t : Bool) → (name_eq a b && is_top b) ≡ t → In p (if t then home b ∷ deps objects L a else deps objects L a) → (In p (deps objects L a) → InRange p.0 p.1) → InRange p.0 p.1
    by true x (inl e) rest = subst (λ (q : ℕ × ℕ). InRange q.0 q.1) (sym e) (ranged (Create b) (inl refl) (and_parts (name_eq a b) (is_top b) x).1)
    by true x (inr r) rest = rest r
    by false x r rest = rest r
pair_range objects (Ask q b ∷ L) a p ranged h = by (name_eq a b) h (pair_range objects L q p (λ d i. ranged d (inr i))) (pair_range objects L a p (λ d i. ranged d (inr i)))
  where
    by : (t : Bool) → In p (if t then home b ∷ deps objects L q ++ deps objects L a else deps objects L a) → (In p (deps objects L q) → InRange p.0 p.1) → (In p (deps objects L a) → InRange p.0 p.1) → InRange p.0 p.1
    by true (inl e) one rest = subst (λ (k : ℕ × ℕ). InRange k.0 k.1) (sym e) (ranged (Ask q b) (inl refl))
    by true (inr r) one rest = elim (in_append (deps objects L q) (deps objects L a) p r) [ inl x ↦ one x | inr y ↦ rest y ]
    by false r one rest = rest r
pair_range objects (Got b n (Done answer) ∷ L) a p ranged h = by (name_eq a b) h (pair_range objects L a p (λ d i. ranged d (inr i)))
  where
    by : (t : Bool) → In p (if t then visited objects (call_of L b n) ++ deps objects L a else deps objects L a) → (In p (deps objects L a) → InRange p.0 p.1) → InRange p.0 p.1
    by true r rest = elim (in_append (visited objects (call_of L b n)) (deps objects L a) p r) [
      | inl x ↦ let v = in_visited objects (call_of L b n) p x in subst (λ (k : ℕ × ℕ). InRange k.0 k.1) (sym v.2) (ranged (Call b n v.0.object v.0.op v.0.count) (inr (call_in L b n v.0 v.1)))
      | inr y ↦ rest y
    ]
    by false r rest = rest r
pair_range objects (Got b n (Busy w) ∷ L) a p ranged h = pair_range objects L a p (λ d i. ranged d (inr i)) h
pair_range objects (Got b n Gone ∷ L) a p ranged h = pair_range objects L a p (λ d i. ranged d (inr i)) h
pair_range objects (Commit b ∷ L) a p ranged h = by (is_child a b) h (pair_range objects L b p (λ d i. ranged d (inr i))) (pair_range objects L a p (λ d i. ranged d (inr i)))
  where
    by : (t : Bool) → In p (if t then deps objects L b ++ deps objects L a else deps objects L a) → (In p (deps objects L b) → InRange p.0 p.1) → (In p (deps objects L a) → InRange p.0 p.1) → InRange p.0 p.1
    by true r one rest = elim (in_append (deps objects L b) (deps objects L a) p r) [ inl x ↦ one x | inr y ↦ rest y ]
    by false r one rest = rest r
pair_range objects (_ ∷ L) a p ranged h = pair_range objects L a p (λ d i. ranged d (inr i)) h
