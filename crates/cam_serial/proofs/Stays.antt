-- An operation whose answer its action got stays live once all ancestors of the action have
-- committed.
use Rattle.std.proofs.Common.{◌≡◌, ◌≤◌, inl, inr, ℕ, zero, suc, ◌+◌, eqb, Bool, true, List, [], ◌∷◌, length, Option, Some, None, refl, sym, subst, arith}
use Rattle.std.specs.List.{list_any, list_all}
use Rattle.std.proofs.lemmas.Bool.{and_parts, or_cases, cases_Bool, eqb-true}
use Rattle.cam_names.specs.declared.name.Name.{Name}
use Rattle.cam_names.specs.Names.{name_eq, is_ancestor, is_child, is_prefix, is_top, parent, family}
use Rattle.cam_names.proofs.Names.{name_eq_same}
use Rattle.cam_type.specs.declared.ObjectDecl.{ObjectDecl}
use Rattle.cam_type.specs.declared.Answer.{Answer}
use Rattle.cam_event.specs.declared.Deed.{Deed}
use Rattle.cam_event.specs.declared.Deed.TheVariants.{Commit}
use Rattle.cam_event.specs.History.{count, committed, aborted, asked_commit, Addressed, secured}
use Rattle.cam_event.specs.Live.{site_of, live}
use Rattle.cam_event.specs.Gained.{deps}
use Rattle.cam_plain.specs.Legal.{Legal}
use Rattle.cam_names.proofs.Ancestry.{is_ancestor_self, is_ancestor_trans, family_ancestor, family_is_ancestor, top_family, IsParent, parent_is}
use Rattle.cam_plain.proofs.Deciding.{committed_asked, one_outcome}
use Rattle.cam_plain.proofs.Performed.{created_named, called_created}
use Rattle.cam_plain.proofs.Held.{deps_grow, deps_commit}
use Rattle.cam_plain.proofs.Fates.{is_answer}
use Rattle.cam_plain.proofs.Answered.{is_got, visits, got_done}
use Rattle.cam_cut.proofs.DepsFacts.{deps_final}
use Rattle.cam_serial.proofs.Tops.{family_top}
use Rattle.cam_serial.proofs.Depended.{commit_secured}
use Rattle.cam_serial.proofs.SecuredLive.{secured_live}

-- What a committed child depends on, its parent does.
hand_up :
    (objects : List ObjectDecl) (L : List Deed) (p b : Name) (t : ℕ × ℕ → Bool) → Legal objects L
    → is_child p b ≡ true → committed L b ≡ true → list_any t (deps objects L b) ≡ true
    → list_any t (deps objects L p) ≡ true
hand_up objects [] p b t legal child there h = cc
hand_up objects (d ∷ L) p b t legal child there h =
    by d legal there h (hand_up objects L p b t legal.1 child)
  where
    old :
        (d : Deed) → Legal objects (d ∷ L) → committed L b ≡ true
        → list_any t (deps objects (d ∷ L) b) ≡ true
        → (committed L b ≡ true → list_any t (deps objects L b) ≡ true
        → list_any t (deps objects L p) ≡ true) → list_any t (deps objects (d ∷ L) p) ≡ true
    old d l c g rest =
        deps_grow objects L d p t
        (rest c (subst (λ ps. list_any t ps ≡ true)
        (deps_final objects L d b l (committed_asked objects L b l.1 c)) g))

    now :
        (c : Name) → Legal objects (Commit c ∷ L) → b ≡ c
        → list_any t (deps objects (Commit c ∷ L) b) ≡ true
        → list_any t (deps objects (Commit c ∷ L) p) ≡ true
    now c l same g =
        let asked : asked_commit L b ≡ true =
        subst (λ x. asked_commit L x ≡ true) (sym same) l.0.asked in
        let has : list_any t (deps objects L b) ≡ true =
        subst (λ ps. list_any t ps ≡ true) (deps_final objects L (Commit c) b l asked) g in
        deps_commit objects L p c t (subst (λ x. is_child p x ≡ true) same child)
        (subst (λ x. list_any t (deps objects L x) ≡ true) same has)

    by :
        (d : Deed) → Legal objects (d ∷ L) → committed (d ∷ L) b ≡ true
        → list_any t (deps objects (d ∷ L) b) ≡ true
        → (committed L b ≡ true → list_any t (deps objects L b) ≡ true
        → list_any t (deps objects L p) ≡ true) → list_any t (deps objects (d ∷ L) p) ≡ true
    by (Commit c) l k g rest = elim (or_cases (name_eq b c) (committed L b) k) [
      | inl e ↦ now c l (name_eq_same b c e) g
      | inr r ↦ old (Commit c) l r g rest
    ]
    by d l k g rest = old d l k g rest

-- So the family depends on what an action does, all of whose ancestors have committed.
climb :
    (objects : List ObjectDecl) (L : List Deed) (n : ℕ) (a : Name) (t : ℕ × ℕ → Bool) → length a ≤ n
    → Legal objects L → is_ancestor a a ≡ true
    → ((u : Name) → is_ancestor u a ≡ true → committed L u ≡ true)
    → list_any t (deps objects L a) ≡ true → list_any t (deps objects L (family a)) ≡ true
climb objects L zero [] t short legal named all h = cc
climb objects L zero (x ∷ a) t short legal named all h = absurd (omega (arith, short))
climb objects L (suc n) a t short legal named all h =
    by (parent a) refl (λ p less. climb objects L n p t less legal)
  where
    by :
        (q : Option Name) → parent a ≡ q
        → ((p : Name) → length p ≤ n → is_ancestor p p ≡ true
        → ((u : Name) → is_ancestor u p ≡ true → committed L u ≡ true)
        → list_any t (deps objects L p) ≡ true → list_any t (deps objects L (family p)) ≡ true)
        → list_any t (deps objects L (family a)) ≡ true
    by None is rest = subst (λ f. list_any t (deps objects L f) ≡ true) (top_family a a is named) h
    by (Some p) is rest =
        let parent_of : IsParent p a = parent_is p a is in
        let one_more : length a ≡ length p + 1 =
        eqb-true (length a) (length p + 1)
        (and_parts (is_prefix p a) (eqb (length a) (length p + 1)) parent_of.child).1 in
        subst (λ f. list_any t (deps objects L f) ≡ true) (family_ancestor p a parent_of.above)
        (rest p (omega (arith, short, one_more)) (is_ancestor_self p a parent_of.above)
        (λ u above. all u (is_ancestor_trans u p a above parent_of.above))
        (hand_up objects L p a t legal parent_of.child (all a named) h))

-- a pair of a call that is secured
visit_secured :
    (objects : List ObjectDecl) (L : List Deed) (f : Name) (call : Addressed) (pairs : List (ℕ × ℕ))
    → list_all (λ p. secured L f p.0 p.1) pairs ≡ true → list_any (visits objects call) pairs ≡ true
    → secured L f (site_of objects call.object) call.count ≡ true
visit_secured objects L f call [] all h = cc
visit_secured objects L f call (p ∷ pairs) all h =
    let parts = and_parts (secured L f p.0 p.1) (list_all (λ q. secured L f q.0 q.1) pairs) all in
    elim (or_cases (visits objects call p) (list_any (visits objects call) pairs) h) [
      | inl e ↦
          let same = and_parts (eqb p.0 (site_of objects call.object)) (eqb p.1 call.count) e in
          subst (λ c. secured L f (site_of objects call.object) c ≡ true)
          (eqb-true p.1 call.count same.1)
          (subst (λ s. secured L f s p.1 ≡ true)
          (eqb-true p.0 (site_of objects call.object) same.0) parts.0)
      | inr r ↦ visit_secured objects L f call pairs parts.1 r
    ]

-- The operation of an answer is live where all ancestors have committed.
pub answer_stays :
    (objects : List ObjectDecl) (L : List Deed) (a : Name) (n : ℕ) (answer : Answer)
    → Legal objects L → list_any (is_got a n answer) L ≡ true
    → ((u : Name) → is_ancestor u a ≡ true → committed L u ≡ true)
    → list_any (is_answer a n answer) (live objects L) ≡ true
answer_stays objects L a n answer legal h all =
    let got = got_done objects L a n answer legal h in
    let call : Addressed = got.1.0 in
    let named : is_ancestor a a ≡ true =
    created_named objects L a legal (called_created objects L a n call legal got.1.1) in
    let top : is_top (family a) ≡ true = family_top a a named in
    let secure =
    commit_secured objects L (family a) legal top (all (family a) (family_is_ancestor a a named)) in
    let depends : list_any (visits objects call) (deps objects L (family a)) ≡ true =
    climb objects L (length a) a (visits objects call) (omega arith) legal named all got.1.2 in
    secured_live objects L a n answer call legal got.0 got.1.1
    (visit_secured objects L (family a) call (deps objects L (family a)) secure depends)
    (λ u above. elim (cases_Bool (aborted L u))
    [ inl y ↦ absurd (one_outcome objects L u legal (all u above) y) | inr k ↦ k ])
