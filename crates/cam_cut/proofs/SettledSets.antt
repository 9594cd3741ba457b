-- So of each closed set: what a settled action depends on in the whole it depends on there.
use Rattle.std.proofs.Common.{◌≡◌, ◌⊎◌, inl, inr, if◌then◌else◌, ℕ, Bool, true, false, List, [], ◌∷◌, length, Some, refl, sym, ap, ◌∙◌, subst}
use Rattle.std.proofs.lemmas.Bool.{and_left, true≢false, false_from_ne_true}
use Rattle.cam_names.specs.declared.name.Name.{Name}
use Rattle.cam_names.specs.Names.{name_eq, is_child, is_top, parent, home_node}
use Rattle.cam_names.proofs.Names.{name_eq_same}
use Rattle.cam_event.proofs.Members.{In, any_more, plain_more}
use Rattle.cam_plain.proofs.Histories.{legal_before}
use Rattle.cam_plain.proofs.Performed.{runs_created, created_named}
use Rattle.cam_plain.proofs.Decided.{for_asked, not_top}
use Rattle.cam_type.specs.declared.ObjectDecl.{ObjectDecl}
use Rattle.cam_event.specs.declared.Event.{Event}
use Rattle.cam_event.specs.declared.Seen.TheVariants.{Done, Busy, Gone}
use Rattle.cam_event.specs.declared.Deed.{Deed}
use Rattle.cam_event.specs.declared.Deed.TheVariants.{Create, Ask, Got, Commit}
use Rattle.cam_event.specs.History.{after, asked_commit, is_ask_commit}
use Rattle.cam_event.specs.Gained.{deps}
use Rattle.cam_event.specs.Pasts.{plain, plain_all, every, HasNode, IsClosed}
use Rattle.cam_plain.specs.Lines.{is_ask_for, asked_for}
use Rattle.cam_plain.specs.Legal.{Legal}
use Rattle.cam_cut.proofs.Places.{PlacedAt, PlacedDeeds, AllPlaced}
use Rattle.cam_cut.proofs.HomeFacts.{child_parent, child_decider}
use Rattle.cam_cut.proofs.LegalFacts.{ask_fresh}
use Rattle.cam_cut.proofs.DepsFacts.{deps_final}
use Rattle.cam_cut.proofs.DepsAgree.{HasDeeds}
use Rattle.cam_cut.proofs.Settled.{settled_in, Settled, HasSettled}

-- one more deed elsewhere that the whole has alone
pub settled_out : (objects : List ObjectDecl) (H : List Deed) (t : List Event) (S : ℕ → Bool) (r : ℕ) (W M : List Deed) (d : Deed) (a : Name) → PlacedAt objects H r d → Legal objects (d ∷ W) → HasDeeds M W → Settled t S M a → (r ≡ home_node a → ⊥) ⊎ (asked_commit M a ≡ true) → deps objects (d ∷ W) a ≡ deps objects W a
settled_out objects H t S r W M d a placed whole deeds set away = elim away [
  | inr asked_it ↦ deps_final objects W d a whole (any_more (is_ask_commit a) M W deeds asked_it)
  | inl gone ↦ by d placed whole gone
]
  where
    by : (d : Deed) → PlacedAt objects H r d → Legal objects (d ∷ W) → (r ≡ home_node a → ⊥) → deps objects (d ∷ W) a ≡ deps objects W a
    by (Create b) there l gone = rw (and_left (name_eq a b) (is_top b) (false_from_ne_true (name_eq a b) (λ e. gone (sym there ∙ ap home_node (sym (name_eq_same a b e)))))) refl
    by (Ask q b) there l gone = rw (false_from_ne_true (name_eq a b) (λ e.
        let father : parent b ≡ Some q = child_parent q b (created_named objects W q l.1 (runs_created W q l.0.running)) l.0.child in
        elim set.known [
          | inl k ↦ true≢false (sym (for_asked objects W q b l.1 l.0.child (subst (λ x. asked_for W x ≡ true) (name_eq_same a b e) (any_more (is_ask_for a) M W deeds k))).0 ∙ ask_fresh objects W q b l)
          | inr k ↦ true≢false (sym (subst (λ x. is_top x ≡ true) (name_eq_same a b e) k) ∙ not_top b q father)
        ])) refl
    by (Got b n (Done answer)) there l gone = rw (false_from_ne_true (name_eq a b) (λ e. gone (sym there ∙ ap home_node (sym (name_eq_same a b e))))) refl
    by (Got b n (Busy w)) there l gone = refl
    by (Got b n Gone) there l gone = refl
    by (Commit b) there l gone = rw (false_from_ne_true (is_child a b) (λ e. gone (sym there ∙ child_decider a b set.named e))) refl
    by _ there l gone = refl

-- the deeds of an event of the set
pub settled_in_after : (objects : List ObjectDecl) (H : List Deed) (t : List Event) (S : ℕ → Bool) (s : ℕ) (ds W M : List Deed) → HasNode t S s → PlacedDeeds objects H s ds → Legal objects (after W ds) → Legal objects (after M ds) → HasDeeds M W → HasSettled objects t S W M → HasSettled objects t S (after W ds) (after M ds)
settled_in_after objects H t S s [] W M has placed whole part deeds h = h
settled_in_after objects H t S s (d ∷ ds) W M has placed whole part deeds h =
    settled_in_after objects H t S s ds (d ∷ W) (d ∷ M) has (λ x i. placed x (inr i)) whole part (λ x i. elim i [ inl e ↦ inl e | inr r ↦ inr (deeds x r) ])
    (settled_in objects H t S s W M d has (placed d (inl refl)) (legal_before objects ds (d ∷ W) whole) (legal_before objects ds (d ∷ M) part) deeds h)

-- the deeds of an event elsewhere
pub settled_out_after : (objects : List ObjectDecl) (H : List Deed) (t : List Event) (S : ℕ → Bool) (r : ℕ) (ds W M : List Deed) (a : Name) → PlacedDeeds objects H r ds → Legal objects (after W ds) → HasDeeds M W → Settled t S M a → (r ≡ home_node a → ⊥) ⊎ (asked_commit M a ≡ true) → deps objects (after W ds) a ≡ deps objects W a
settled_out_after objects H t S r [] W M a placed whole deeds set away = refl
settled_out_after objects H t S r (d ∷ ds) W M a placed whole deeds set away =
    settled_out_after objects H t S r ds (d ∷ W) M a (λ x i. placed x (inr i)) whole (λ x i. inr (deeds x i)) set away
    ∙ settled_out objects H t S r W M d a (placed d (inl refl)) (legal_before objects ds (d ∷ W) whole) deeds set away

-- So it is of each settled action of a closed set.
pub has_settled : (objects : List ObjectDecl) (H : List Deed) (t : List Event) (S : ℕ → Bool) → AllPlaced objects H t → IsClosed t S → Legal objects (plain_all t) → Legal objects (plain t S) → HasSettled objects t S (plain_all t) (plain t S)
has_settled objects H [] S placed closed whole part = λ a set p h. absurd h
has_settled objects H (e ∷ t) S placed closed whole part = by (has_settled objects H t S placed.1 closed.1 (legal_before objects e.deeds (plain_all t) whole)) (S (length t)) refl part
  where
    W : List Deed
    W = plain_all t

    M : List Deed
    M = plain t S

    fewer : HasDeeds M W
    fewer = plain_more t S every (λ k h. refl)

    less : (L : List Deed) (a : Name) → Settled (e ∷ t) S L a → Settled t S L a
    less L a set = record { named = set.named; known = set.known; placed = elim set.placed [ inl k ↦ inl k.1 | inr k ↦ inr k ] }

    by : (Legal objects M → HasSettled objects t S W M) → (b : Bool) → S (length t) ≡ b → Legal objects (if b then after M e.deeds else M) → HasSettled objects (e ∷ t) S (after W e.deeds) (if b then after M e.deeds else M)
    by rest true x l = λ a set p g.
        settled_in_after objects H t S e.node e.deeds W M (closed.0 x).0 placed.0 whole l fewer (rest (legal_before objects e.deeds M l)) a (less (after M e.deeds) a set) p g
    by rest false x l = λ a set p g.
        rest l a (less M a set) p (subst (In p) (settled_out_after objects H t S e.node e.deeds W M a placed.0 whole fewer (less M a set) (away x a set)) g)
      where
        away : S (length t) ≡ false → (a : Name) → Settled (e ∷ t) S M a → (e.node ≡ home_node a → ⊥) ⊎ (asked_commit M a ≡ true)
        away x a set = elim set.placed [ inl k ↦ inl (λ same. true≢false (sym (k.0 same) ∙ x)) | inr k ↦ inr k ]
