-- What an action depends on in a part of a trace, and in the whole.
use Rattle.std.proofs.Common.{◌≡◌, ◌⊎◌, inl, inr, if◌then◌else◌, ℕ, Bool, true, false, ◌&&◌, List, [], ◌∷◌, ◌++◌, length, Some, None, refl, sym, ◌∙◌, subst}
use Rattle.std.proofs.lemmas.Bool.{or_cases, or_right, cases_Bool, true≢false, eq-eqb}
use Rattle.std.proofs.lemmas.Option.{same_Some, none-some}
use Rattle.cam_names.specs.declared.name.Name.{Name}
use Rattle.cam_names.specs.Names.{name_eq, is_child, is_top}
use Rattle.cam_names.proofs.Names.{name_eq_same}
use Rattle.cam_event.proofs.Members.{In, in_append, in_left, in_right, plain_more}
use Rattle.cam_plain.proofs.Histories.{legal_before}
use Rattle.cam_type.specs.declared.ObjectDecl.{ObjectDecl}
use Rattle.cam_event.specs.declared.Event.{Event}
use Rattle.cam_event.specs.declared.Seen.TheVariants.{Done, Busy, Gone}
use Rattle.cam_event.specs.declared.Deed.{Deed}
use Rattle.cam_event.specs.declared.Deed.TheVariants.{Create, Ask, Call, Got, Commit}
use Rattle.cam_event.specs.History.{after, created, open_call, Addressed, call_of}
use Rattle.cam_event.specs.Gained.{deps, visited, home}
use Rattle.cam_event.specs.Pasts.{plain}
use Rattle.cam_plain.specs.Lines.{asked_for}
use Rattle.cam_plain.specs.Legal.{Legal}
use Rattle.cam_cut.proofs.LegalFacts.{in_call, call_in}
use Rattle.cam_cut.proofs.DepsFacts.{deps_old, in_visited}

-- the second history has all deeds of the first, and each action depends there on all that it depends on in the first
abbrev pub HasDeeds : List Deed → List Deed → Type 0
HasDeeds L M = (d : Deed) → In d L → In d M

-- each action depends in the second history on all on which it depends in the first
abbrev pub HasDeps : List ObjectDecl → List Deed → List Deed → Type 0
HasDeps objects L M = (a : Name) (p : ℕ × ℕ) → In p (deps objects L a) → In p (deps objects M a)

-- one more deed that both have
pub deps_both : (objects : List ObjectDecl) (L M : List Deed) (d : Deed) → Legal objects M → HasDeeds L M → HasDeps objects L M → HasDeps objects (d ∷ L) (d ∷ M)
deps_both objects L M (Create b) legal deeds h a p g =
    elim (name_eq a b && is_top b) as (λ t. In p (if t then home b ∷ deps objects L a else deps objects L a) → In p (if t then home b ∷ deps objects M a else deps objects M a)) [
      | true ↦ λ x. elim x [ inl e ↦ inl e | inr r ↦ inr (h a p r) ]
      | false ↦ λ r. h a p r
    ] g
deps_both objects L M (Ask q b) legal deeds h a p g =
    elim (name_eq a b) as (λ t. In p (if t then home b ∷ deps objects L q ++ deps objects L a else deps objects L a) → In p (if t then home b ∷ deps objects M q ++ deps objects M a else deps objects M a)) [
      | true ↦ λ x. elim x [
        | inl e ↦ inl e
        | inr r ↦ inr (elim (in_append (deps objects L q) (deps objects L a) p r) [
          | inl y ↦ in_left (deps objects M q) (deps objects M a) p (h q p y)
          | inr z ↦ in_right (deps objects M q) (deps objects M a) p (h a p z)
        ])
      ]
      | false ↦ λ r. h a p r
    ] g
deps_both objects L M (Got b n (Done answer)) legal deeds h a p g =
    elim (name_eq a b) as (λ t. In p (if t then visited objects (call_of L b n) ++ deps objects L a else deps objects L a) → In p (if t then visited objects (call_of M b n) ++ deps objects M a else deps objects M a)) [
      | true ↦ λ x. elim (in_append (visited objects (call_of L b n)) (deps objects L a) p x) [
        | inl y ↦
            let v = in_visited objects (call_of L b n) p y in
            let there : call_of M b n ≡ Some v.0 = in_call objects M b n v.0.object v.0.op v.0.count legal (deeds (Call b n v.0.object v.0.op v.0.count) (call_in L b n v.0 v.1)) in
            in_left (visited objects (call_of M b n)) (deps objects M a) p (subst (λ o. In p (visited objects o)) (sym there) (inl v.2))
        | inr z ↦ in_right (visited objects (call_of M b n)) (deps objects M a) p (h a p z)
      ]
      | false ↦ λ r. h a p r
    ] g
deps_both objects L M (Got b n (Busy w)) legal deeds h a p g = h a p g
deps_both objects L M (Got b n Gone) legal deeds h a p g = h a p g
deps_both objects L M (Commit b) legal deeds h a p g =
    elim (is_child a b) as (λ t. In p (if t then deps objects L b ++ deps objects L a else deps objects L a) → In p (if t then deps objects M b ++ deps objects M a else deps objects M a)) [
      | true ↦ λ x. elim (in_append (deps objects L b) (deps objects L a) p x) [
        | inl y ↦ in_left (deps objects M b) (deps objects M a) p (h b p y)
        | inr z ↦ in_right (deps objects M b) (deps objects M a) p (h a p z)
      ]
      | false ↦ λ r. h a p r
    ] g
deps_both objects L M _ legal deeds h a p g = h a p g

-- more deeds that both have, and more that the second has
pub deps_both_after : (objects : List ObjectDecl) (ds L M : List Deed) → Legal objects (after M ds) → HasDeeds L M → HasDeps objects L M → HasDeps objects (after L ds) (after M ds)
deps_both_after objects [] L M legal deeds h = h
deps_both_after objects (d ∷ ds) L M legal deeds h =
    deps_both_after objects ds (d ∷ L) (d ∷ M) legal (λ x i. elim i [ inl e ↦ inl e | inr r ↦ inr (deeds x r) ]) (deps_both objects L M d (legal_before objects (d ∷ ds) M legal) deeds h)

-- an action loses no pair by more deeds
pub deps_after : (objects : List ObjectDecl) (ds M : List Deed) → HasDeps objects M (after M ds)
deps_after objects [] M a p h = h
deps_after objects (d ∷ ds) M a p h = deps_after objects ds (d ∷ M) a p (deps_old objects M d a p h)

-- In more positions an action depends on no less.
pub deps_more : (objects : List ObjectDecl) (t : List Event) (R S : ℕ → Bool) → ((k : ℕ) → R k ≡ true → S k ≡ true) → Legal objects (plain t S) → HasDeps objects (plain t R) (plain t S)
deps_more objects [] R S more legal = λ a p h. absurd h
deps_more objects (e ∷ t) R S more legal = by (deps_more objects t R S more) (R (length t)) refl (S (length t)) refl legal
  where
    by : (Legal objects (plain t S) → HasDeps objects (plain t R) (plain t S)) → (b : Bool) → R (length t) ≡ b → (c : Bool) → S (length t) ≡ c → Legal objects (if c then after (plain t S) e.deeds else plain t S) → HasDeps objects (if b then after (plain t R) e.deeds else plain t R) (if c then after (plain t S) e.deeds else plain t S)
    by rest true x true y l = deps_both_after objects e.deeds (plain t R) (plain t S) l (plain_more t R S more) (rest (legal_before objects e.deeds (plain t S) l))
    by rest true x false y l = absurd (true≢false (sym (more (length t) x) ∙ y))
    by rest false x true y l = λ a p g. deps_after objects e.deeds (plain t S) a p (rest (legal_before objects e.deeds (plain t S) l) a p g)
    by rest false x false y l = rest l

-- an open call was made
pub open_called : (objects : List ObjectDecl) (L : List Deed) (a : Name) (n : ℕ) → Legal objects L → open_call L a ≡ Some n → (call : Addressed) × (call_of L a n ≡ Some call)
open_called objects [] a n legal h = cc
open_called objects (Call b m x op c ∷ L) a n legal h =
    elim (cases_Bool (name_eq a b)) [
      | inl y ↦
          let found : open_call (Call b m x op c ∷ L) a ≡ Some m = rw y refl in
          let same : n ≡ m = same_Some n m (sym h ∙ found) in
          (record { object = x; op = op; count = c }, rw (y, eq-eqb n m same) refl)
      | inr no_one ↦
          let before : open_call (Call b m x op c ∷ L) a ≡ open_call L a = rw no_one refl in
          again no_one (open_called objects L a n legal.1 (sym before ∙ h))
    ]
  where
    again : name_eq a b ≡ false → (call : Addressed) × (call_of L a n ≡ Some call) → (call : Addressed) × (call_of (Call b m x op c ∷ L) a n ≡ Some call)
    again other rest =
        let older : call_of (Call b m x op c ∷ L) a n ≡ call_of L a n = rw other refl in
        (rest.0, older ∙ rest.1)
open_called objects (Got b m seen ∷ L) a n legal h =
    elim (cases_Bool (name_eq a b)) [
      | inl y ↦
          let found : open_call (Got b m seen ∷ L) a ≡ None = rw y refl in
          absurd (none-some n (sym found ∙ h))
      | inr no_one ↦
          let before : open_call (Got b m seen ∷ L) a ≡ open_call L a = rw no_one refl in
          open_called objects L a n legal.1 (sym before ∙ h)
    ]
open_called objects (_ ∷ L) a n legal h = open_called objects L a n legal.1 h

-- what was created was asked for, or is a top action
pub created_known : (objects : List ObjectDecl) (L : List Deed) (a : Name) → Legal objects L → created L a ≡ true → (asked_for L a ≡ true) ⊎ (is_top a ≡ true)
created_known objects [] a legal h = cc
created_known objects (Create b ∷ L) a legal h = elim (or_cases (name_eq a b) (created L a) h) [
  | inl e ↦ elim (cases_Bool (is_top a)) [
    | inl y ↦ inr y
    | inr n ↦ inl (subst (λ x. asked_for L x ≡ true) (sym (name_eq_same a b e)) (legal.0.child (subst (λ x. is_top x ≡ false) (name_eq_same a b e) n)))
  ]
  | inr r ↦ created_known objects L a legal.1 r
]
created_known objects (Ask p b ∷ L) a legal h = elim (created_known objects L a legal.1 h) [ inl y ↦ inl (or_right (name_eq a b) (asked_for L a) y) | inr n ↦ inr n ]
created_known objects (_ ∷ L) a legal h = created_known objects L a legal.1 h
