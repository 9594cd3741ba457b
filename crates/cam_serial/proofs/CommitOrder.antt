-- The order of the families' commits agrees with the order of the operations that do not commute.
use Rattle.std.proofs.Common.{◌≡◌, inl, inr, true, false, ◌&&◌, List, [], ◌∷◌, Some, None, refl, sym, ◌∙◌, subst, ℕ, not, ◌++◌, if◌then◌else◌, Option}
use Rattle.std.proofs.lemmas.Bool.{and_parts, cases_Bool, true≢false, or_cases, or_parts, not-true}
use Rattle.cam_names.proofs.Names.{name_eq_same}
use Rattle.cam_names.specs.Names.{name_eq, is_ancestor, family, parent, is_top}
use Rattle.cam_names.specs.declared.name.Name.{Name}
use Rattle.cam_type.specs.Table.{mode_of, compatible}
use Rattle.cam_type.specs.declared.Answer.{Answer}
use Rattle.cam_type.specs.declared.ObjectDecl.{ObjectDecl}
use Rattle.cam_event.specs.History.{aborted, Addressed, call_of, committed, runs}
use Rattle.cam_event.specs.Live.{live}
use Rattle.cam_event.specs.declared.Deed.{Deed}
use Rattle.cam_event.specs.declared.Deed.TheVariants.{Perform, Commit}
use Rattle.cam_event.specs.declared.Operation.{Operation}
use Rattle.cam_plain.specs.Legal.{Legal}
use Rattle.cam_plain.specs.Lines.{MayCommit}
use Rattle.cam_names.proofs.Ancestry.{is_ancestor_trans, parent_is, top_family, is_ancestor_self, IsParent, family_is_ancestor}
use Rattle.cam_plain.proofs.Conflicts.{NotInTheWay, Apart, not_in_the_way_more, perform_apart}
use Rattle.cam_plain.proofs.Deciding.{runs_not_committed}
use Rattle.cam_names.proofs.Every.{Every, Pairs, every_weaker}
use Rattle.cam_plain.proofs.LiveSteps.{operation, pair_induction}
use Rattle.cam_plain.proofs.Performed.{Performed, performed, perform_not_committed, created_named, called_created, performed_named}
use Rattle.cam_serial.proofs.Sequences.{Swaps}
use Rattle.cam_serial.proofs.Sorting.{FreeOrder}
use Rattle.cam_serial.proofs.Tops.{tops_have, family_top, comes_first, comes_first_append, comes_first_new, stands_in, not_committed_not_in, different}
use Rattle.cam_serial.proofs.Visible.{every_ancestor_committed}
use Rattle.cam_serial.specs.Serial.{committed_tops}

-- each ancestor of the action has committed
abbrev pub AllCommitted : List Deed → Name → Type 0
AllCommitted L a = (u : Name) → is_ancestor u a ≡ true → committed L u ≡ true

-- Where the newer of two live operations that do not commute has committed up to the top, and the families differ, the older one's family committed first.
abbrev pub Ordered : List ObjectDecl → List Deed → Operation → Operation → Type 0
Ordered objects L o p =
    o.object ≡ p.object → compatible (mode_of o.op) (mode_of p.op) ≡ false → name_eq (family o.action) (family p.action) ≡ false → AllCommitted L p.action
    → comes_first (family o.action) (family p.action) (committed_tops L) ≡ true

-- a Commit changes no order
tops_grow : (L : List Deed) (b f g : Name) → comes_first f g (committed_tops L) ≡ true → comes_first f g (committed_tops (Commit b ∷ L)) ≡ true
tops_grow L b f g h = elim (is_top b) as (λ t. comes_first f g (if t then committed_tops L ++ b ∷ [] else committed_tops L) ≡ true) [ true ↦ comes_first_append f g (committed_tops L) (b ∷ []) h | false ↦ h ]

-- an older one of another family has committed up to the top when the newer one's family commits
commit_first : (objects : List ObjectDecl) (L : List Deed) (o p : Operation) (b : Name) (q : Option Name) → parent b ≡ q → Legal objects (Commit b ∷ L) → is_ancestor b p.action ≡ true → is_ancestor o.action o.action ≡ true → NotInTheWay objects L o p → name_eq (family o.action) (family p.action) ≡ false → AllCommitted (Commit b ∷ L) p.action → comes_first (family o.action) (family p.action) (committed_tops L) ≡ true
commit_first objects L o p b (Some r) is legal below named free other all =
    let is_parent : IsParent r b = parent_is r b is in
    let running : runs L r ≡ true = subst (λ q. MayCommit objects L b q) is legal.0.may in
    elim (or_cases (name_eq r b) (committed L r) (all r (is_ancestor_trans r b p.action is_parent.above below))) [
      | inl e ↦ absurd (true≢false (sym (subst (λ x. is_ancestor x r ≡ true) (name_eq_same r b e) (is_ancestor_self r b is_parent.above)) ∙ is_parent.not_below))
      | inr c ↦ absurd (runs_not_committed objects L r legal.1 running c)
    ]
commit_first objects L o p b None is legal below named free other all =
    let top : b ≡ family p.action = top_family b p.action is below in
    let committed_first : committed L (family o.action) ≡ true = every_ancestor_committed objects L o p legal.1 free (different (family o.action) (family p.action) other) (family o.action) (family_is_ancestor o.action o.action named) in
    comes_first_new (family o.action) (family p.action) (committed_tops L)
    (tops_have L (family o.action) (family_top o.action o.action named) committed_first)
    (subst (λ x. stands_in x (committed_tops L) ≡ false) top (not_committed_not_in L b (or_parts (committed L b) (aborted L b) legal.0.undecided).0))

-- any two live operations are so
pub ordered : (objects : List ObjectDecl) (L : List Deed) → Legal objects L → Pairs (λ o p. Apart objects L o p × Ordered objects L o p) (live objects L)
ordered objects = pair_induction objects (Performed objects) (λ L o p. Apart objects L o p × Ordered objects L o p) (performed objects) kept new
  where
    older : (L : List Deed) (d : Deed) (o p : Operation) → Legal objects (d ∷ L) → Performed objects L o → Apart objects L o p → Ordered objects L o p → Ordered objects (d ∷ L) o p
    older L (Commit b) o p legal facts free h same clash other all =
        tops_grow L b (family o.action) (family p.action) (elim (cases_Bool (is_ancestor b p.action)) [
          | inl y ↦ commit_first objects L o p b (parent b) refl legal y (performed_named objects L o legal.1 facts) (free same clash) other all
          | inr n ↦ h same clash other (λ u above. elim (or_cases (name_eq u b) (committed L u) (all u above)) [
            | inl e ↦ absurd (true≢false (sym (subst (λ x. is_ancestor x p.action ≡ true) (name_eq_same u b e) above) ∙ n))
            | inr c ↦ c
          ])
        ])
    older L d o p legal facts free h same clash other all = h same clash other all

    kept : (L : List Deed) (d : Deed) (o p : Operation) → Legal objects (d ∷ L) → Performed objects L o → Performed objects L p → Apart objects L o p × Ordered objects L o p → Apart objects (d ∷ L) o p × Ordered objects (d ∷ L) o p
    kept L d o p legal one two h = ((λ same clash. not_in_the_way_more objects L d o p (h.0 same clash)), older L d o p legal one h.0 h.1)

    new : (L : List Deed) (a : Name) (n : ℕ) (answer : Answer) (call : Addressed) → Legal objects (Perform a n answer ∷ L) → call_of L a n ≡ Some call → Every (λ o. Apart objects (Perform a n answer ∷ L) o (operation a n answer call) × Ordered objects (Perform a n answer ∷ L) o (operation a n answer call)) (live objects L)
    new L a n answer call legal called =
        every_weaker (λ o. Apart objects L o (operation a n answer call)) (λ o. Apart objects (Perform a n answer ∷ L) o (operation a n answer call) × Ordered objects (Perform a n answer ∷ L) o (operation a n answer call)) (live objects L)
        (λ o h. (h, λ same clash other all. absurd (perform_not_committed objects L a n answer legal (all a (created_named objects L a legal.1 (called_created objects L a n call legal.1 called))))))
        (perform_apart objects L a n answer call legal called)

-- operations that may change places, and those whose families stand in order, are in free order
pub swaps_free : (objects : List ObjectDecl) (hs : List Name) (o p : Operation) → Swaps objects o p → FreeOrder objects hs o p
swaps_free objects [] o p h = tt
swaps_free objects (f ∷ hs) o p h = λ n. ((λ y. h), swaps_free objects hs o p h)

-- where the earlier operation's family comes first nothing is asked
pub first_free : (objects : List ObjectDecl) (hs : List Name) (o p : Operation) → comes_first (family o.action) (family p.action) hs ≡ true → FreeOrder objects hs o p
first_free objects [] o p h = tt
first_free objects (f ∷ hs) o p h = λ n. elim (or_cases (name_eq f (family o.action)) (not (name_eq f (family p.action)) && comes_first (family o.action) (family p.action) hs) h) [
  | inl y ↦ absurd (true≢false (sym y ∙ n))
  | inr r ↦
      let parts = and_parts (not (name_eq f (family p.action))) (comes_first (family o.action) (family p.action) hs) r in
      ((λ y. absurd (true≢false (sym y ∙ not-true (name_eq f (family p.action)) parts.0))), first_free objects hs o p parts.1)
]

-- so are operations of one family
pub same_free : (objects : List ObjectDecl) (hs : List Name) (o p : Operation) → family o.action ≡ family p.action → FreeOrder objects hs o p
same_free objects [] o p e = tt
same_free objects (f ∷ hs) o p e = λ n. ((λ y. absurd (true≢false (sym (subst (λ x. name_eq f x ≡ true) (sym e) y) ∙ n))), same_free objects hs o p e)
