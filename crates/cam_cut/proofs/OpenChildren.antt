-- The open children of an action, as its home's own deeds have them.
use Rattle.std.proofs.Common.{◌≡◌, inl, inr, cond, if◌then◌else◌, ℕ, true, false, not, ◌&&◌, List, [], ◌∷◌, filter, refl, sym, ap, ◌∙◌, subst}
use Rattle.std.proofs.lemmas.Bool.{cases_Bool, false_from_ne_true}
use Rattle.cam_names.specs.declared.name.Name.{Name}
use Rattle.cam_names.specs.Names.{name_eq, is_ancestor, is_child, home_node}
use Rattle.cam_names.proofs.Names.{name_eq_same}
use Rattle.cam_event.proofs.Snoc.{filter_filter, filter_same}
use Rattle.cam_event.proofs.Members.{In}
use Rattle.cam_type.specs.declared.ObjectDecl.{ObjectDecl}
use Rattle.cam_event.specs.declared.Deed.{Deed}
use Rattle.cam_event.specs.declared.Deed.TheVariants.{Ask, Commit, Abort}
use Rattle.cam_event.specs.History.{open_children}
use Rattle.cam_event.specs.Inputs.{decider}
use Rattle.cam_cut.proofs.Places.{PlacedAt, Local, local_same}
use Rattle.cam_cut.proofs.HomeFacts.{other_home, child_decider}
use Rattle.cam_cut.proofs.Lists.{filter_swap, filter_cond}

-- the open children that are children
abbrev pub own_children : List Deed → Name → List Name
own_children L a = filter (is_child a) (open_children L a)

-- a deed that both have
own_both : (a : Name) (d : Deed) (L M : List Deed) → own_children L a ≡ own_children M a → own_children (d ∷ L) a ≡ own_children (d ∷ M) a
own_both a (Ask p b) L M h =
    filter_cond (is_child a) (name_eq a p) (b ∷ open_children L a) (open_children L a)
    ∙ ap (λ (xs : List Name). if name_eq a p then cond (is_child a b) (b ∷ xs) xs else xs) h
    ∙ sym (filter_cond (is_child a) (name_eq a p) (b ∷ open_children M a) (open_children M a))
own_both a (Commit b) L M h =
    filter_swap (is_child a) (λ c. not (name_eq b c)) (open_children L a) ∙ ap (filter (λ c. not (name_eq b c))) h ∙ sym (filter_swap (is_child a) (λ c. not (name_eq b c)) (open_children M a))
own_both a (Abort b) L M h =
    filter_swap (is_child a) (λ c. not (name_eq b c)) (open_children L a) ∙ ap (filter (λ c. not (name_eq b c))) h ∙ sym (filter_swap (is_child a) (λ c. not (name_eq b c)) (open_children M a))
own_both a _ L M h = h

-- what is decided elsewhere is no child of the action
not_mine : (a b : Name) (xs : List Name) → is_child a b ≡ false → filter (is_child a) (filter (λ c. not (name_eq b c)) xs) ≡ filter (is_child a) xs
not_mine a b xs other = filter_filter (is_child a) (λ c. not (name_eq b c)) xs ∙ filter_same (λ c. not (name_eq b c) && is_child a c) (is_child a) xs same
  where
    same : (c : Name) → (not (name_eq b c) && is_child a c) ≡ is_child a c
    same c = elim (cases_Bool (name_eq b c)) [
      | inl y ↦ rw y (sym (subst (λ x. is_child a x ≡ false) (name_eq_same b c y) other))
      | inr n ↦ rw n refl
    ]

-- what is decided elsewhere is no child
not_child : (a b : Name) (r : ℕ) → is_ancestor a a ≡ true → decider b ≡ r → (r ≡ home_node a → ⊥) → is_child a b ≡ false
not_child a b r named there away = false_from_ne_true (is_child a b) (λ h. away (sym there ∙ child_decider a b named h))

-- a deed elsewhere leaves them
own_skip : (objects : List ObjectDecl) (H : List Deed) (a : Name) → is_ancestor a a ≡ true → (d : Deed) (M : List Deed) (r : ℕ) → PlacedAt objects H r d → (r ≡ home_node a → ⊥) → own_children (d ∷ M) a ≡ own_children M a
own_skip objects H a named (Ask p b) M r placed away = rw (other_home home_node a p r placed away) refl
own_skip objects H a named (Commit b) M r placed away = not_mine a b (open_children M a) (not_child a b r named placed away)
own_skip objects H a named (Abort b) M r placed away = not_mine a b (open_children M a) (not_child a b r named placed away)
own_skip objects H a named _ M r placed away = refl

-- they are those of the action's home
pub local_children : (objects : List ObjectDecl) (H : List Deed) (a : Name) → is_ancestor a a ≡ true → Local objects H (home_node a) (λ L M. own_children L a ≡ own_children M a)
local_children objects H a named = local_same objects H (home_node a) (λ L. own_children L a) (own_both a) (own_skip objects H a named)

-- each action that is asked for is a child of the asking one
abbrev pub AsksChildren : List Deed → Type 0
AsksChildren L = (p b : Name) → In (Ask p b) L → is_child p b ≡ true

-- where that is so, each open child is a child
pub all_children : (L : List Deed) (a : Name) → AsksChildren L → own_children L a ≡ open_children L a
all_children [] a asks = refl
all_children (Ask p b ∷ L) a asks =
    filter_cond (is_child a) (name_eq a p) (b ∷ open_children L a) (open_children L a)
    ∙ elim (cases_Bool (name_eq a p)) [
      | inl y ↦
          let child : is_child a b ≡ true = subst (λ x. is_child x b ≡ true) (sym (name_eq_same a p y)) (asks p b (inl refl)) in
          rw (y, child) (ap (λ xs. b ∷ xs) (all_children L a (λ q c h. asks q c (inr h))))
      | inr n ↦ rw n (all_children L a (λ q c h. asks q c (inr h)))
    ]
all_children (Commit b ∷ L) a asks = filter_swap (is_child a) (λ c. not (name_eq b c)) (open_children L a) ∙ ap (filter (λ c. not (name_eq b c))) (all_children L a (λ q c h. asks q c (inr h)))
all_children (Abort b ∷ L) a asks = filter_swap (is_child a) (λ c. not (name_eq b c)) (open_children L a) ∙ ap (filter (λ c. not (name_eq b c))) (all_children L a (λ q c h. asks q c (inr h)))
all_children (_ ∷ L) a asks = all_children L a (λ q c h. asks q c (inr h))
