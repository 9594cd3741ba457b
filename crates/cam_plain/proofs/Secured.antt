-- A live operation whose ancestors have all committed is one of a family that is secured at its site.
use Rattle.std.proofs.Common.{◌≡◌, inl, inr, eqb, true, ◌&&◌, List, [], ◌∷◌, Some, None, refl, sym, ◌∙◌, subst, ℕ, Option}
use Rattle.std.proofs.lemmas.Bool.{and_parts, cases_Bool, true≢false, or_cases, or_right, eqb-true}
use Rattle.std.proofs.lemmas.Option.{none-some}
use Rattle.std.specs.List.{list_any, list_all}
use Rattle.cam_names.proofs.Names.{name_eq_same}
use Rattle.cam_names.specs.Names.{name_eq, is_ancestor, family, parent}
use Rattle.cam_names.specs.declared.name.Name.{Name}
use Rattle.cam_type.specs.declared.Answer.{Answer}
use Rattle.cam_type.specs.declared.ObjectDecl.{ObjectDecl}
use Rattle.cam_event.specs.Gained.{deps}
use Rattle.cam_event.specs.History.{count, Addressed, call_of, secured_at, committed, asked_commit, runs, is_secure_at, secured, is_secure}
use Rattle.cam_event.specs.Live.{site_of, live}
use Rattle.cam_event.specs.declared.Deed.{Deed}
use Rattle.cam_event.specs.declared.Deed.TheVariants.{Perform, Commit, Secure}
use Rattle.cam_event.specs.declared.Operation.{Operation}
use Rattle.cam_plain.specs.Legal.{Legal}
use Rattle.cam_plain.specs.Lines.{MayCommit, IsAtHome}
use Rattle.cam_names.proofs.Ancestry.{is_ancestor_trans, parent_is, top_family, is_ancestor_self, IsParent}
use Rattle.cam_names.proofs.Any.{any_weaker}
use Rattle.cam_plain.proofs.Deciding.{asked_no_call, runs_not_committed}
use Rattle.cam_names.proofs.Every.{Every}
use Rattle.cam_plain.proofs.Held.{Held, Reaches, reaches}
use Rattle.cam_plain.proofs.LiveSteps.{keeps, operation, live_induction}
use Rattle.cam_plain.proofs.Performed.{perform_not_committed, created_named, called_created}

-- where all ancestors have committed, the family is secured at the operation's site
abbrev pub SecuredIfCommitted : List ObjectDecl → List Deed → Operation → Type 0
SecuredIfCommitted objects L o = ((v : Name) → is_ancestor v o.action ≡ true → committed L v ≡ true) → secured_at L (family o.action) (site_of objects o.object) ≡ true

-- a pair that is tested for every dependency
secured_of : (L : List Deed) (f : Name) (s : ℕ) (pairs : List (ℕ × ℕ)) → list_all (λ p. secured L f p.0 p.1) pairs ≡ true → list_any (λ p. eqb p.0 s) pairs ≡ true → secured_at L f s ≡ true
secured_of L f s [] all some = cc
secured_of L f s (p ∷ pairs) all some =
    let parts = and_parts (secured L f p.0 p.1) (list_all (λ q. secured L f q.0 q.1) pairs) all in
    elim (or_cases (eqb p.0 s) (list_any (λ q. eqb q.0 s) pairs) some) [
      | inl e ↦ subst (λ k. secured_at L f k ≡ true) (eqb-true p.0 s e) (any_weaker (is_secure f p.0 p.1) (is_secure_at f p.0) L (less f p.0 p.1) parts.0)
      | inr r ↦ secured_of L f s pairs parts.1 r
    ]
  where
    less : (f : Name) (s c : ℕ) (d : Deed) → is_secure f s c d ≡ true → is_secure_at f s d ≡ true
    less f s c (Secure g site count) h = (and_parts (name_eq f g && eqb s site) (eqb c count) h).0
    less f s c _ h = cc

-- the Commit that completes the way to the top is that of the top action, and it asks for the Secure
commit_secures : (objects : List ObjectDecl) (L : List Deed) (o : Operation) (b : Name) (q : Option Name) → parent b ≡ q → Legal objects (Commit b ∷ L) → is_ancestor b o.action ≡ true → Reaches objects L o → ((v : Name) → is_ancestor v o.action ≡ true → committed (Commit b ∷ L) v ≡ true) → secured_at L (family o.action) (site_of objects o.object) ≡ true
commit_secures objects L o b (Some p) is legal below chain all =
    let is_parent : IsParent p b = parent_is p b is in
    let running : runs L p ≡ true = subst (λ q. MayCommit objects L b q) is legal.0.may in
    elim (or_cases (name_eq p b) (committed L p) (all p (is_ancestor_trans p b o.action is_parent.above below))) [
      | inl e ↦ absurd (true≢false (sym (subst (λ x. is_ancestor x p ≡ true) (name_eq_same p b e) (is_ancestor_self p b is_parent.above)) ∙ is_parent.not_below))
      | inr c ↦ absurd (runs_not_committed objects L p legal.1 running c)
    ]
commit_secures objects L o b None is legal below chain all =
    let may : IsAtHome L b × (list_all (λ p. secured L b p.0 p.1) (deps objects L b) ≡ true) = subst (λ q. MayCommit objects L b q) is legal.0.may in
    from may (chain b below (λ v above n. elim (or_cases (name_eq v b) (committed L v) (all v above)) [
      | inl e ↦ absurd (true≢false (sym (subst (λ x. is_ancestor v x ≡ true) (name_eq_same v b e) (is_ancestor_self v o.action above)) ∙ n))
      | inr c ↦ c
    ]))
  where
    from : IsAtHome L b × (list_all (λ p. secured L b p.0 p.1) (deps objects L b) ≡ true) → Held objects L o b → secured_at L (family o.action) (site_of objects o.object) ≡ true
    from may (inl s) = s
    from may (inr (inl d)) = subst (λ f. secured_at L f (site_of objects o.object) ≡ true) (top_family b o.action is below) (secured_of L b (site_of objects o.object) (deps objects L b) may.1 d)
    from may (inr (inr (open_one, same))) = absurd (none-some o.number (sym (asked_no_call objects L o.action legal.1 (subst (λ x. asked_commit L x ≡ true) same legal.0.asked)) ∙ open_one))

-- each live operation is so
pub secured_committed : (objects : List ObjectDecl) (L : List Deed) → Legal objects L → Every (SecuredIfCommitted objects L) (live objects L)
secured_committed objects = live_induction objects (Reaches objects) (SecuredIfCommitted objects) (reaches objects) kept new
  where
    more : (L : List Deed) (d : Deed) (o : Operation) → secured_at L (family o.action) (site_of objects o.object) ≡ true → secured_at (d ∷ L) (family o.action) (site_of objects o.object) ≡ true
    more L d o h = or_right (is_secure_at (family o.action) (site_of objects o.object) d) (secured_at L (family o.action) (site_of objects o.object)) h

    kept : (L : List Deed) (d : Deed) (o : Operation) → Legal objects (d ∷ L) → keeps objects L d o ≡ true → Reaches objects L o → SecuredIfCommitted objects L o → SecuredIfCommitted objects (d ∷ L) o
    kept L (Commit b) o legal k r h all =
        elim (cases_Bool (is_ancestor b o.action)) [
          | inl y ↦ commit_secures objects L o b (parent b) refl legal y r all
          | inr n ↦ h (λ v above. elim (or_cases (name_eq v b) (committed L v) (all v above)) [
            | inl e ↦ absurd (true≢false (sym (subst (λ x. is_ancestor x o.action ≡ true) (name_eq_same v b e) above) ∙ n))
            | inr c ↦ c
          ])
        ]
    kept L d o legal k r h all = more L d o (h all)

    new : (L : List Deed) (a : Name) (n : ℕ) (answer : Answer) (call : Addressed) → Legal objects (Perform a n answer ∷ L) → call_of L a n ≡ Some call → SecuredIfCommitted objects (Perform a n answer ∷ L) (operation a n answer call)
    new L a n answer call legal called all = absurd (perform_not_committed objects L a n answer legal (all a (created_named objects L a legal.1 (called_created objects L a n call legal.1 called))))
