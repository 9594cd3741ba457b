-- What is performed passed the tests of a call: no ancestor is known aborted, and the family is not secured at the site.
use Rattle.std.proofs.Common.{◌≡◌, inl, inr, ℕ, eqb, Bool, true, false, not, ◌&&◌, List, [], ◌∷◌, length, Option, Some, None, refl, sym, ap, ◌∙◌, arith, subst}
use Rattle.std.specs.List.{list_any}
use Rattle.std.proofs.lemmas.Bool.{true≢false, false_from_ne_true, or_cases, or_right, and_parts}
use Rattle.cam_names.specs.declared.name.Name.{Name}
use Rattle.cam_names.specs.Part.{part_eq}
use Rattle.cam_names.specs.Names.{name_eq, is_ancestor, ancestors, family}
use Rattle.cam_names.proofs.Names.{name_eq_same, is_prefix_append}
use Rattle.cam_type.specs.declared.ObjectDecl.{ObjectDecl}
use Rattle.cam_type.specs.declared.Answer.{Answer}
use Rattle.cam_event.specs.declared.Deed.{Deed}
use Rattle.cam_event.specs.declared.Deed.TheVariants.{Perform, AskCommit, Secure}
use Rattle.cam_event.specs.History.{created, committed, aborted, asked, asked_commit, secured_at}
use Rattle.cam_event.specs.Live.{is_in_the_way}
use Rattle.cam_know.specs.Known.{lift_by}
use Rattle.cam_event.proofs.Members.{in_any}
use Rattle.cam_plain.specs.Lines.{is_lift}
use Rattle.cam_plain.specs.Legal.{Legal}
use Rattle.cam_names.proofs.Ancestry.{some_ancestor, family_is_ancestor, is_ancestor_self}
use Rattle.cam_plain.proofs.Decided.{children_decided, created_child, created_up}
use Rattle.cam_plain.proofs.InTheWay.{not_in_the_way}
use Rattle.cam_plain.proofs.Performed.{perform_not_asked, called_created}
use Rattle.cam_cut.proofs.Clear.{NoOrphan, ancestors_in}
use Rattle.cam_agree.proofs.LiveStands.{HandedUp}

-- a secured family had asked to commit
pub secured_asked : (objects : List ObjectDecl) (L : List Deed) (f : Name) (s : ℕ) → Legal objects L → secured_at L f s ≡ true → asked_commit L f ≡ true
secured_asked objects [] f s legal h = cc
secured_asked objects (Secure g site c ∷ L) f s legal h = elim (or_cases (name_eq f g && eqb s site) (secured_at L f s) h) [
  | inl e ↦ subst (λ x. asked_commit L x ≡ true) (sym (name_eq_same f g (and_parts (name_eq f g) (eqb s site) e).0)) legal.0.asked
  | inr r ↦ secured_asked objects L f s legal.1 r
]
secured_asked objects (AskCommit b v ∷ L) f s legal h = or_right (name_eq f b) (asked_commit L f) (secured_asked objects L f s legal.1 h)
secured_asked objects (_ ∷ L) f s legal h = secured_asked objects L f s legal.1 h

-- An action that is performed, with no ancestor known committed and none aborted, is of a family that has not asked to commit: the child
-- of the family above it would be decided.
pub performed_free : (objects : List ObjectDecl) (M : List Deed) (a : Name) (n : ℕ) (answer : Answer) → Legal objects (Perform a n answer ∷ M) → is_ancestor a a ≡ true → list_any (committed M) (ancestors a) ≡ false → NoOrphan objects M a → asked_commit M (family a) ≡ true → ⊥
performed_free objects M [] n answer legal named free clear h = true≢false (sym named)
performed_free objects M (p ∷ []) n answer legal named free clear h = perform_not_asked objects M (p ∷ []) n answer legal h
performed_free objects M (p ∷ q ∷ rest) n answer legal named free clear h =
    let a : Name = p ∷ q ∷ rest in
    let u : Name = p ∷ q ∷ [] in
    let above : is_ancestor u a ≡ true = is_prefix_append u rest in
    let there : created M a ≡ true = called_created objects M a n legal.0.call legal.1 legal.0.arrival.called in
    let child : created M u ≡ true = created_up objects M u legal.1 (length a) a (omega arith) there above in
    let asked_it : asked M (p ∷ []) u ≡ true = (created_child objects M u (p ∷ []) legal.1 refl child).0 in
    elim (or_cases (committed M u) (aborted M u) (children_decided objects M (p ∷ []) u legal.1 h asked_it)) [
      | inl y ↦ true≢false (sym (in_any (committed M) (ancestors a) u (ancestors_in a u above) y) ∙ free)
      | inr y ↦ true≢false (sym y ∙ clear.unaborted u above)
    ]

-- no ancestor passes a test that fails for each
pub none_above : (test : Name → Bool) (a : Name) → ((u : Name) → is_ancestor u a ≡ true → test u ≡ false) → list_any test (ancestors a) ≡ false
none_above test a h = false_from_ne_true (list_any test (ancestors a)) (λ y. let found = some_ancestor test a y in true≢false (sym found.2 ∙ h found.0 found.1))

-- an ancestor of a family is the family
above_family : (u a : Name) → is_ancestor u (family a) ≡ true → name_eq u (family a) ≡ true
above_family [] [] h = refl
above_family [] (p ∷ a) h = cc
above_family (q ∷ u) [] h = cc
above_family (q ∷ []) (p ∷ a) h = h
above_family (q ∷ r ∷ u) (p ∷ a) h = absurd (true≢false (sym h ∙ nothing (part_eq q p)))
  where
    nothing : (b : Bool) → (b && false) ≡ false
    nothing true = refl
    nothing false = refl

-- An action whose lift is its family was handed up to it.
pub lift_handed : (committed : Name → Bool) (f a : Name) → f ≡ family a → is_ancestor a a ≡ true → is_lift f (lift_by committed a) ≡ true → HandedUp committed a
lift_handed committed f a top named h u above other =
    not_in_the_way committed a f (by (lift_by committed a) h) u above
    (false_from_ne_true (is_ancestor u f) (λ y. true≢false (sym (above_family u a (subst (λ (x : Name). is_ancestor u x ≡ true) top y)) ∙ other)))
  where
    self : is_ancestor f f ≡ true
    self = subst (λ (x : Name). is_ancestor x x ≡ true) (sym top) (is_ancestor_self (family a) a (family_is_ancestor a a named))

    by : (o : Option Name) → is_lift f o ≡ true → is_in_the_way f o ≡ false
    by None e = refl
    by (Some v) e = ap not (subst (λ (x : Name). is_ancestor x f ≡ true) (name_eq_same f v e) self)
