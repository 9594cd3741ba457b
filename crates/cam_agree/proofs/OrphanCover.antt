-- In a legal history what an ancestor of an action depends on, the action depends on too, or a committed child of an ancestor does.
use Rattle.std.proofs.Common.{◌≡◌, ◌⊎◌, inl, inr, if◌then◌else◌, ℕ, zero, suc, ◌≤◌, Bool, true, false, ◌&&◌, List, [], ◌∷◌, ◌++◌, length, Some, refl, sym, ◌∙◌, subst, arith}
use Rattle.std.specs.List.{list_any}
use Rattle.std.proofs.lemmas.Bool.{and_parts, or_cases, or_left, or_right, or_from, cases_Bool, true≢false, false_from_ne_true}
use Rattle.cam_names.specs.declared.name.Name.{Name}
use Rattle.cam_names.specs.Names.{name_eq, is_ancestor, is_child, is_top, parent}
use Rattle.cam_names.proofs.Names.{name_eq_same, name_eq_refl}
use Rattle.cam_type.specs.declared.ObjectDecl.{ObjectDecl}
use Rattle.cam_event.specs.declared.Seen.TheVariants.{Done, Busy, Gone}
use Rattle.cam_event.specs.declared.Deed.{Deed}
use Rattle.cam_event.specs.declared.Deed.TheVariants.{Create, Ask, Got, Commit}
use Rattle.cam_event.specs.History.{created, committed, aborted, decided, asked, asked_commit, is_commit, open_call, call_of}
use Rattle.cam_event.specs.Gained.{deps, visited, home}
use Rattle.cam_event.proofs.Members.{In, in_append, in_left}
use Rattle.cam_plain.specs.Lines.{asked_for}
use Rattle.cam_plain.specs.Legal.{Legal}
use Rattle.cam_names.proofs.Ancestry.{is_prefix_refl, is_ancestor_trans, ancestor_same, parent_is, parent_between}
use Rattle.cam_plain.proofs.Deciding.{committed_asked}
use Rattle.cam_plain.proofs.Performed.{runs_created, created_named}
use Rattle.cam_plain.proofs.Decided.{children_decided, for_asked, not_top}
use Rattle.cam_know.proofs.Climbs.{parent_shorter}
use Rattle.cam_cut.proofs.HomeFacts.{child_parent}
use Rattle.cam_cut.proofs.LegalFacts.{asked_created, ask_fresh}
use Rattle.cam_cut.proofs.DepsFacts.{deps_old, deps_final}
use Rattle.cam_cut.proofs.DepsAgree.{created_known}
use Rattle.cam_agree.proofs.OrphanOpen.{undecided_before, open_decided}

-- a committed child of the action depends on the pair
pub record OfChild (objects : List ObjectDecl) (L : List Deed) (u : Name) (p : ℕ × ℕ) : Type 0 where
  pub child : Name
  pub is_one : is_child u child ≡ true
  pub committed : committed L child ≡ true
  pub depends : In p (deps objects L child)

more_of_child : (objects : List ObjectDecl) (L : List Deed) (d : Deed) (u : Name) (p : ℕ × ℕ) → OfChild objects L u p → OfChild objects (d ∷ L) u p
more_of_child objects L d u p h = record {
  child = h.child;
  is_one = h.is_one;
  committed = or_right (is_commit h.child d) (list_any (is_commit h.child) L) h.committed;
  depends = deps_old objects L d h.child p h.depends;
}

-- What the asking action depends on, its undecided child depends on too, or another child that committed does.
pub asked_depends : (objects : List ObjectDecl) (L : List Deed) (u c : Name) (p : ℕ × ℕ) → Legal objects L → asked L u c ≡ true → decided L c ≡ false → In p (deps objects L u) → In p (deps objects L c) ⊎ OfChild objects L u p
asked_depends objects [] u c p legal was un h = absurd h
asked_depends objects (d ∷ L) u c p legal was un h = by d legal was un h (asked_depends objects L u c p)
  where
    Rest : Type 0
    Rest = Legal objects L → asked L u c ≡ true → decided L c ≡ false → In p (deps objects L u) → In p (deps objects L c) ⊎ OfChild objects L u p

    older : (d : Deed) → Legal objects (d ∷ L) → asked L u c ≡ true → decided (d ∷ L) c ≡ false → In p (deps objects L u) → Rest → In p (deps objects (d ∷ L) c) ⊎ OfChild objects (d ∷ L) u p
    older d l w n i rest = elim (rest l.1 w (undecided_before L d c n) i) [ inl x ↦ inl (deps_old objects L d c p x) | inr y ↦ inr (more_of_child objects L d u p y) ]

    by : (d : Deed) → Legal objects (d ∷ L) → asked (d ∷ L) u c ≡ true → decided (d ∷ L) c ≡ false → In p (deps objects (d ∷ L) u) → Rest → In p (deps objects (d ∷ L) c) ⊎ OfChild objects (d ∷ L) u p
    by (Create b) l w n i rest = older (Create b) l w n (subst (λ (t : Bool). In p (if t && is_top b then home b ∷ deps objects L u else deps objects L u)) fresh i) rest
      where
        fresh : name_eq u b ≡ false
        fresh = false_from_ne_true (name_eq u b) (λ e. true≢false (sym (subst (λ x. created L x ≡ true) (name_eq_same u b e) (asked_created objects L u c l.1 w).0) ∙ l.0.fresh))
    by (Ask q b) l w n i rest = elim (or_cases (name_eq u q && name_eq c b) (asked L u c) w) [
      | inl e ↦
          let parts = and_parts (name_eq u q) (name_eq c b) e in
          inl (subst (λ (t : Bool). In p (if t then home b ∷ deps objects L q ++ deps objects L c else deps objects L c)) (sym parts.1)
          (inr (in_left (deps objects L q) (deps objects L c) p (subst (λ x. In p (deps objects L x)) (name_eq_same u q parts.0) (mine (created-u parts.0))))))
      | inr r ↦ older (Ask q b) l r n (mine (asked_created objects L u c l.1 r).0) rest
    ]
      where
        created-u : name_eq u q ≡ true → created L u ≡ true
        created-u e = subst (λ x. created L x ≡ true) (sym (name_eq_same u q e)) (runs_created L q l.0.running)

        mine : created L u ≡ true → In p (deps objects L u)
        mine there = subst (λ (t : Bool). In p (if t then home b ∷ deps objects L q ++ deps objects L u else deps objects L u)) fresh i
          where
            fresh : name_eq u b ≡ false
            fresh = false_from_ne_true (name_eq u b) (λ e.
                let was : created L b ≡ true = subst (λ x. created L x ≡ true) (name_eq_same u b e) there in
                elim (created_known objects L b l.1 was) [
                  | inl k ↦ true≢false (sym (for_asked objects L q b l.1 l.0.child k).0 ∙ ask_fresh objects L q b l)
                  | inr k ↦ true≢false (sym k ∙ not_top b q (child_parent q b (created_named objects L q l.1 (runs_created L q l.0.running)) l.0.child))
                ])
    by (Got b m (Done answer)) l w n i rest = older (Got b m (Done answer)) l w n (subst (λ (t : Bool). In p (if t then visited objects (call_of L b m) ++ deps objects L u else deps objects L u)) other i) rest
      where
        other : name_eq u b ≡ false
        other = false_from_ne_true (name_eq u b) (λ e. true≢false (sym (open_decided objects L u m c l.1 (subst (λ x. open_call L x ≡ Some m) (sym (name_eq_same u b e)) l.0.open_one) w) ∙ n))
    by (Got b m (Busy v)) l w n i rest = older (Got b m (Busy v)) l w n i rest
    by (Got b m Gone) l w n i rest = older (Got b m Gone) l w n i rest
    by (Commit b) l w n i rest = split (is_child u b) refl i
      where
        split : (t : Bool) → is_child u b ≡ t → In p (if t then deps objects L b ++ deps objects L u else deps objects L u) → In p (deps objects (Commit b ∷ L) c) ⊎ OfChild objects (Commit b ∷ L) u p
        split true e j = elim (in_append (deps objects L b) (deps objects L u) p j) [
          | inl x ↦ inr (record {
            child = b;
            is_one = e;
            committed = or_left (name_eq b b) (committed L b) (name_eq_refl b);
            depends = deps_old objects L (Commit b) b p x;
          })
          | inr y ↦ older (Commit b) l w n y rest
        ]
        split false e j = older (Commit b) l w n j rest
    by d l w n i rest = older d l w n i rest

-- an ancestor has a committed child that depends on the pair
pub record Covered (objects : List ObjectDecl) (L : List Deed) (a : Name) (p : ℕ × ℕ) : Type 0 where
  pub above : Name
  pub is_above : is_ancestor above a ≡ true
  pub by : OfChild objects L above p

-- an action with an ancestor has a name
pub below_named : (u a : Name) → is_ancestor u a ≡ true → is_ancestor a a ≡ true
below_named u (q ∷ a) h = is_prefix_refl (q ∷ a)
below_named [] [] h = h
below_named (q ∷ u) [] h = h

-- Where an action is undecided and no ancestor of it is aborted, what its ancestors depend on it depends on too, or a committed child of
-- an ancestor does.
pub covers : (objects : List ObjectDecl) (L : List Deed) (u : Name) (p : ℕ × ℕ) → Legal objects L → In p (deps objects L u) → (n : ℕ) (a : Name) → length a ≤ n → (asked_for L a ≡ true) ⊎ (is_top a ≡ true) → committed L a ≡ false → ((w : Name) → is_ancestor w a ≡ true → aborted L w ≡ false) → is_ancestor u a ≡ true → In p (deps objects L a) ⊎ Covered objects L a p
covers objects L u p legal h zero [] small known open_one none above = absurd (true≢false (sym above ∙ nothing u))
  where
    nothing : (u : Name) → is_ancestor u [] ≡ false
    nothing [] = refl
    nothing (q ∷ u) = refl
covers objects L u p legal h zero (q ∷ a) small known open_one none above = absurd (omega (arith, small))
covers objects L u p legal h (suc n) a small known open_one none above = elim (cases_Bool (is_ancestor a u)) [
  | inl y ↦ inl (subst (λ x. In p (deps objects L x)) (ancestor_same u a above y) h)
  | inr f ↦ let between = parent_between u a above f in up between.0 between.1 between.2 (covers objects L u p legal h n between.0)
]
  where
    up : (q : Name) → parent a ≡ Some q → is_ancestor u q ≡ true → (length q ≤ n → (asked_for L q ≡ true) ⊎ (is_top q ≡ true) → committed L q ≡ false → ((w : Name) → is_ancestor w q ≡ true → aborted L w ≡ false) → is_ancestor u q ≡ true → In p (deps objects L q) ⊎ Covered objects L q p) → In p (deps objects L a) ⊎ Covered objects L a p
    up q is over rest = elim (rest (omega (arith, small, parent_shorter a q (sym is))) (created_known objects L q legal both.1) going (λ w g. none w (is_ancestor_trans w q a g father)) over) [
      | inl x ↦ elim (asked_depends objects L q a p legal both.0 undecided x) [
        | inl y ↦ inl y
        | inr z ↦ inr (record { above = q; is_above = father; by = z })
      ]
      | inr c ↦ inr (record { above = c.above; is_above = is_ancestor_trans c.above q a c.is_above father; by = c.by })
    ]
      where
        father : is_ancestor q a ≡ true
        father = (parent_is q a is).above

        was : asked_for L a ≡ true
        was = elim known [ inl k ↦ k | inr k ↦ absurd (true≢false (sym k ∙ not_top a q is)) ]

        both : (asked L q a ≡ true) × (created L q ≡ true)
        both = for_asked objects L q a legal (parent_is q a is).child was

        named : is_ancestor a a ≡ true
        named = below_named u a above

        undecided : decided L a ≡ false
        undecided = or_from (committed L a) (aborted L a) open_one (none a named)

        going : committed L q ≡ false
        going = false_from_ne_true (committed L q) (λ y. true≢false (sym (children_decided objects L q a legal (committed_asked objects L q legal y) both.0) ∙ undecided))

-- What a committed child depends on its parent depends on.
pub child_gives : (objects : List ObjectDecl) (L : List Deed) (u b : Name) (p : ℕ × ℕ) → Legal objects L → committed L b ≡ true → is_child u b ≡ true → In p (deps objects L b) → In p (deps objects L u)
child_gives objects [] u b p legal h child i = cc
child_gives objects (d ∷ L) u b p legal h child i = elim (or_cases (is_commit b d) (committed L b) h) [
  | inl e ↦ now d e legal i
  | inr r ↦ deps_old objects L d u p (child_gives objects L u b p legal.1 r child (subst (In p) (deps_final objects L d b legal (committed_asked objects L b legal.1 r)) i))
]
  where
    now : (d : Deed) → is_commit b d ≡ true → Legal objects (d ∷ L) → In p (deps objects (d ∷ L) b) → In p (deps objects (d ∷ L) u)
    now (Commit c) e l j =
        let same : b ≡ c = name_eq_same b c e in
        let mine : is_child u c ≡ true = subst (λ x. is_child u x ≡ true) same child in
        let asked_it : asked_commit L b ≡ true = subst (λ x. asked_commit L x ≡ true) (sym same) l.0.asked in
        let before : In p (deps objects L b) = subst (In p) (deps_final objects L (Commit c) b l asked_it) j in
        subst (λ (t : Bool). In p (if t then deps objects L c ++ deps objects L u else deps objects L u)) (sym mine)
        (in_left (deps objects L c) (deps objects L u) p (subst (λ x. In p (deps objects L x)) same before))
    now _ e l j = cc
