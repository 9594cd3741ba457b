-- Children of an action that committed are decided, so with no abort on the way down all commit.
use Rattle.std.proofs.Common.{◌≡◌, inl, inr, ◌+◌, ◌≤◌, ◌<◌, eqb, Bool, true, false, ◌&&◌, List, [], ◌∷◌, length, Some, None, refl, sym, ◌∙◌, subst, arith, ◌⊎◌, ℕ, not, if◌then◌else◌, zero, suc, ◌||◌, Option}
use Rattle.std.proofs.lemmas.Bool.{and_parts, and_from, cases_Bool, true≢false, or_cases, or_left, or_right, eqb-true, ne_eqb, not_from_false}
use Rattle.std.specs.List.{list_any}
use Rattle.cam_names.proofs.Names.{part_eq_same, name_eq_same, name_eq_refl}
use Rattle.cam_names.specs.Names.{name_eq, is_prefix, is_ancestor, family, parent, is_child, is_top}
use Rattle.cam_names.specs.Part.{PartFields, part_eq}
use Rattle.cam_names.specs.declared.name.Name.{Name}
use Rattle.cam_type.specs.declared.ObjectDecl.{ObjectDecl}
use Rattle.cam_know.proofs.Climbs.{parent_shorter}
use Rattle.cam_event.specs.History.{aborted, is_abort, created, committed, decided, asked, asked_commit, open_children, has_open_child, is_empty, is_ask, is_create, is_commit}
use Rattle.cam_event.specs.declared.Deed.{Deed}
use Rattle.cam_event.specs.declared.Deed.TheVariants.{Create, Ask, AskCommit, Commit, Abort}
use Rattle.cam_plain.specs.Legal.{Legal}
use Rattle.cam_plain.specs.Lines.{asked_for}
use Rattle.cam_names.proofs.Ancestry.{is_ancestor_trans, ancestor_same, parent_is, parent_between, top_family}
use Rattle.cam_names.proofs.Any.{any_filter}
use Rattle.cam_plain.proofs.Deciding.{runs_not_asked, committed_asked}
use Rattle.cam_plain.proofs.Performed.{runs_created}

-- a child that was asked for is open or decided
pub child_open : (objects : List ObjectDecl) (L : List Deed) (u b : Name) → Legal objects L → asked L u b ≡ true → (decided L b ≡ true) ⊎ (list_any (name_eq b) (open_children L u) ≡ true)
child_open objects [] u b legal h = cc
child_open objects (Ask p c ∷ L) u b legal h =
    by (name_eq u p) refl (or_cases (name_eq u p && name_eq b c) (asked L u b) h) (child_open objects L u b legal.1)
  where
    by : (t : Bool) → name_eq u p ≡ t → ((name_eq u p && name_eq b c) ≡ true) ⊎ (asked L u b ≡ true) → (asked L u b ≡ true → (decided L b ≡ true) ⊎ (list_any (name_eq b) (open_children L u) ≡ true)) → (decided L b ≡ true) ⊎ (list_any (name_eq b) (if t then c ∷ open_children L u else open_children L u) ≡ true)
    by true e (inl y) rest = inr (or_left (name_eq b c) (list_any (name_eq b) (open_children L u)) (and_parts (name_eq u p) (name_eq b c) y).1)
    by false e (inl y) rest = absurd (true≢false (sym (and_parts (name_eq u p) (name_eq b c) y).0 ∙ e))
    by true e (inr r) rest = elim (rest r) [ inl d ↦ inl d | inr o ↦ inr (or_right (name_eq b c) (list_any (name_eq b) (open_children L u)) o) ]
    by false e (inr r) rest = rest r
child_open objects (Commit c ∷ L) u b legal h =
    elim (child_open objects L u b legal.1 h) [
      | inl d ↦ elim (or_cases (committed L b) (aborted L b) d) [
        | inl y ↦ inl (or_left (name_eq b c || committed L b) (aborted L b) (or_right (name_eq b c) (committed L b) y))
        | inr n ↦ inl (or_right (name_eq b c || committed L b) (aborted L b) n)
      ]
      | inr o ↦ elim (cases_Bool (name_eq b c)) [
        | inl y ↦ inl (or_left (name_eq b c || committed L b) (aborted L b) (or_left (name_eq b c) (committed L b) y))
        | inr n ↦ inr (any_filter (name_eq b) (λ x. not (name_eq c x)) (open_children L u) (stays n) o)
      ]
    ]
  where
    stays : name_eq b c ≡ false → (x : Name) → name_eq b x ≡ true → not (name_eq c x) ≡ true
    stays n x e = not_from_false (name_eq c x) (elim (cases_Bool (name_eq c x)) [
      | inl y ↦ absurd (true≢false (sym (subst (λ z. name_eq b z ≡ true) (name_eq_same b x e ∙ sym (name_eq_same c x y)) (name_eq_refl b)) ∙ n))
      | inr f ↦ f
    ])
child_open objects (Abort c ∷ L) u b legal h =
    elim (child_open objects L u b legal.1 h) [
      | inl d ↦ elim (or_cases (committed L b) (aborted L b) d) [
        | inl y ↦ inl (or_left (committed L b) (name_eq b c || aborted L b) y)
        | inr n ↦ inl (or_right (committed L b) (name_eq b c || aborted L b) (or_right (name_eq b c) (aborted L b) n))
      ]
      | inr o ↦ elim (cases_Bool (name_eq b c)) [
        | inl y ↦ inl (or_right (committed L b) (name_eq b c || aborted L b) (or_left (name_eq b c) (aborted L b) y))
        | inr n ↦ inr (any_filter (name_eq b) (λ x. not (name_eq c x)) (open_children L u) (stays n) o)
      ]
    ]
  where
    stays : name_eq b c ≡ false → (x : Name) → name_eq b x ≡ true → not (name_eq c x) ≡ true
    stays n x e = not_from_false (name_eq c x) (elim (cases_Bool (name_eq c x)) [
      | inl y ↦ absurd (true≢false (sym (subst (λ z. name_eq b z ≡ true) (name_eq_same b x e ∙ sym (name_eq_same c x y)) (name_eq_refl b)) ∙ n))
      | inr f ↦ f
    ])
child_open objects (_ ∷ L) u b legal h = child_open objects L u b legal.1 h

-- what is decided stays so
pub decided_more : (L : List Deed) (d : Deed) (b : Name) → decided L b ≡ true → decided (d ∷ L) b ≡ true
decided_more L d b h = elim (or_cases (committed L b) (aborted L b) h) [
  | inl y ↦ or_left (committed (d ∷ L) b) (aborted (d ∷ L) b) (or_right (is_commit b d) (committed L b) y)
  | inr n ↦ or_right (committed (d ∷ L) b) (aborted (d ∷ L) b) (or_right (is_abort b d) (aborted L b) n)
]

-- where no child is open none is in the list of open ones
pub no_open : (xs : List Name) (b : Name) → not (is_empty xs) ≡ false → list_any (name_eq b) xs ≡ true → ⊥
no_open [] b h g = cc
no_open (x ∷ xs) b h g = cc

-- where an action has asked to commit, each child that it asked for is decided
pub children_decided : (objects : List ObjectDecl) (L : List Deed) (u b : Name) → Legal objects L → asked_commit L u ≡ true → asked L u b ≡ true → decided L b ≡ true
children_decided objects [] u b legal h g = cc
children_decided objects (AskCommit c v ∷ L) u b legal h g = elim (or_cases (name_eq u c) (asked_commit L u) h) [
  | inl e ↦ elim (child_open objects L u b legal.1 g) [
    | inl d ↦ d
    | inr o ↦ absurd (no_open (open_children L u) b (subst (λ x. has_open_child L x ≡ false) (sym (name_eq_same u c e)) legal.0.no_child) o)
  ]
  | inr r ↦ children_decided objects L u b legal.1 r g
]
children_decided objects (Ask p c ∷ L) u b legal h g = elim (or_cases (name_eq u p && name_eq b c) (asked L u b) g) [
  | inl e ↦ absurd (true≢false (sym (subst (λ x. asked_commit L x ≡ true) (name_eq_same u p (and_parts (name_eq u p) (name_eq b c) e).0) h) ∙ runs_not_asked L p legal.0.running))
  | inr r ↦ children_decided objects L u b legal.1 h r
]
children_decided objects (d ∷ L) u b legal h g = decided_more L d b (children_decided objects L u b legal.1 h g)

-- two beginnings of a name that are of one length are the same
prefix_equal : (u v a : List PartFields) → is_prefix u a ≡ true → is_prefix v a ≡ true → length u ≡ length v → u ≡ v
prefix_equal [] [] a h g e = refl
prefix_equal [] (q ∷ v) a h g e = absurd (omega (arith, e))
prefix_equal (p ∷ u) [] a h g e = absurd (omega (arith, e))
prefix_equal (p ∷ u) (q ∷ v) [] h g e = cc
prefix_equal (p ∷ u) (q ∷ v) (r ∷ a) h g e =
    let one = and_parts (part_eq p r) (is_prefix u a) h in
    let other = and_parts (part_eq q r) (is_prefix v a) g in
    λ i. (part_eq_same p r one.0 ∙ sym (part_eq_same q r other.0)) i ∷ prefix_equal u v a one.1 other.1 (omega (arith, e)) i

-- an action is a child of one action alone
pub one_parent : (p q b : Name) → is_child p b ≡ true → is_child q b ≡ true → p ≡ q
one_parent p q b h g =
    let one = and_parts (is_prefix p b) (eqb (length b) (length p + 1)) h in
    let other = and_parts (is_prefix q b) (eqb (length b) (length q + 1)) g in
    prefix_equal p q b one.0 other.0 (omega (arith, eqb-true (length b) (length p + 1) one.1, eqb-true (length b) (length q + 1) other.1))

-- a child that was asked for was asked for by its parent, which was created
pub for_asked : (objects : List ObjectDecl) (L : List Deed) (p b : Name) → Legal objects L → is_child p b ≡ true → asked_for L b ≡ true → (asked L p b ≡ true) × (created L p ≡ true)
for_asked objects [] p b legal child h = cc
for_asked objects (Ask q c ∷ L) p b legal child h = elim (or_cases (name_eq b c) (asked_for L b) h) [
  | inl e ↦
      let same : q ≡ p = one_parent q p b (subst (λ x. is_child q x ≡ true) (sym (name_eq_same b c e)) legal.0.child) child in (
        or_left (name_eq p q && name_eq b c) (asked L p b) (and_from (name_eq p q) (name_eq b c) (subst (λ x. name_eq p x ≡ true) (sym same) (name_eq_refl p)) e),
        subst (λ x. created L x ≡ true) same (runs_created L q legal.0.running),
      )
  | inr r ↦ let rest = for_asked objects L p b legal.1 child r in (or_right (name_eq p q && name_eq b c) (asked L p b) rest.0, rest.1)
]
for_asked objects (Create c ∷ L) p b legal child h = let rest = for_asked objects L p b legal.1 child h in (rest.0, or_right (name_eq p c) (created L p) rest.1)
for_asked objects (_ ∷ L) p b legal child h = for_asked objects L p b legal.1 child h

-- an action with a parent is no top action
pub not_top : (b p : Name) → parent b ≡ Some p → is_top b ≡ false
not_top [] p h = cc
not_top (q ∷ []) p h = cc
not_top (q ∷ r ∷ b) p h = ne_eqb (length (q ∷ r ∷ b)) 1 (λ (e : length (q ∷ r ∷ b) ≡ 1). omega (arith, e))

-- a child that was created was asked for by its parent, which was created
pub created_child : (objects : List ObjectDecl) (L : List Deed) (b p : Name) → Legal objects L → parent b ≡ Some p → created L b ≡ true → (asked L p b ≡ true) × (created L p ≡ true)
created_child objects [] b p legal is h = cc
created_child objects (Create c ∷ L) b p legal is h = elim (or_cases (name_eq b c) (created L b) h) [
  | inl e ↦
      let rest = for_asked objects L p b legal.1 (parent_is p b is).child (subst (λ x. asked_for L x ≡ true) (sym (name_eq_same b c e)) (legal.0.child (subst (λ x. is_top x ≡ false) (name_eq_same b c e) (not_top b p is)))) in
      (rest.0, or_right (name_eq p c) (created L p) rest.1)
  | inr r ↦ let rest = created_child objects L b p legal.1 is r in (rest.0, or_right (name_eq p c) (created L p) rest.1)
]
created_child objects (d ∷ L) b p legal is h =
    let rest = created_child objects L b p legal.1 is h in
    (or_right (is_ask p b d) (asked L p b) rest.0, or_right (is_create p d) (created L p) rest.1)

-- the ancestors of an action that was created were created
pub created_up : (objects : List ObjectDecl) (L : List Deed) (u : Name) → Legal objects L → (n : ℕ) (b : Name) → length b ≤ n → created L b ≡ true → is_ancestor u b ≡ true → created L u ≡ true
created_up objects L u legal zero [] small there above = absurd (true≢false (sym above ∙ nothing u))
  where
    nothing : (u : Name) → is_ancestor u [] ≡ false
    nothing [] = refl
    nothing (p ∷ u) = refl
created_up objects L u legal zero (p ∷ b) small there above = absurd (omega (arith, small))
created_up objects L u legal (suc n) b small there above =
    elim (cases_Bool (is_ancestor b u)) [
      | inl y ↦ subst (λ x. created L x ≡ true) (sym (ancestor_same u b above y)) there
      | inr f ↦
          let between = parent_between u b above f in
          let shorter : length between.0 < length b = parent_shorter b between.0 (sym between.1) in
          created_up objects L u legal n between.0 (omega (arith, small, shorter)) (created_child objects L b between.0 legal between.1 there).1 between.2
    ]

-- where the family committed and no ancestor was aborted, each ancestor that was created committed
down : (objects : List ObjectDecl) (L : List Deed) (a : Name) → Legal objects L → committed L (family a) ≡ true → ((u : Name) → is_ancestor u a ≡ true → aborted L u ≡ false) → (n : ℕ) (u : Name) → length u ≤ n → is_ancestor u a ≡ true → created L u ≡ true → committed L u ≡ true
down objects L a legal top none zero [] small above there = cc
down objects L a legal top none zero (p ∷ u) small above there = absurd (omega (arith, small))
down objects L a legal top none (suc n) u small above there = by (parent u) refl (down objects L a legal top none n)
  where
    by : (q : Option Name) → parent u ≡ q → ((v : Name) → length v ≤ n → is_ancestor v a ≡ true → created L v ≡ true → committed L v ≡ true) → committed L u ≡ true
    by None is rest = subst (λ x. committed L x ≡ true) (sym (top_family u a is above)) top
    by (Some p) is rest =
        let shorter : length p < length u = parent_shorter u p (sym is) in
        let child = created_child objects L u p legal is there in
        let over : committed L p ≡ true = rest p (omega (arith, small, shorter)) (is_ancestor_trans p u a (parent_is p u is).above above) child.1 in
        elim (or_cases (committed L u) (aborted L u) (children_decided objects L p u legal (committed_asked objects L p legal over) child.0)) [
          | inl y ↦ y
          | inr n ↦ absurd (true≢false (sym n ∙ none u above))
        ]

-- where the family of a created action committed and no ancestor of it was aborted, each ancestor committed
pub ancestors_committed : (objects : List ObjectDecl) (L : List Deed) (a : Name) → Legal objects L → created L a ≡ true → committed L (family a) ≡ true → ((u : Name) → is_ancestor u a ≡ true → aborted L u ≡ false) → (u : Name) → is_ancestor u a ≡ true → committed L u ≡ true
ancestors_committed objects L a legal there top none u above =
    down objects L a legal top none (length u) u (omega arith) above (created_up objects L u legal (length a) a (omega arith) there above)
