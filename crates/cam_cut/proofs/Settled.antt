-- Of an action that is settled in a closed set of events the set has all on which it depends in the whole trace.
use Rattle.std.proofs.Common.{◌≡◌, ◌⊎◌, inl, inr, if◌then◌else◌, ℕ, Bool, true, false, ◌&&◌, ◌||◌, List, [], ◌∷◌, ◌++◌, Some, refl, sym, ap, ◌∙◌, subst}
use Rattle.std.proofs.lemmas.Bool.{or_cases, true≢false, false_from_ne_true}
use Rattle.cam_names.specs.declared.name.Name.{Name}
use Rattle.cam_names.specs.Names.{name_eq, is_ancestor, is_child, is_top, parent, home_node}
use Rattle.cam_names.proofs.Names.{name_eq_same}
use Rattle.cam_event.proofs.Members.{In, in_append, in_left, in_right}
use Rattle.cam_plain.proofs.Performed.{runs_created, created_named}
use Rattle.cam_plain.proofs.Decided.{created_child, for_asked}
use Rattle.cam_type.specs.declared.ObjectDecl.{ObjectDecl}
use Rattle.cam_event.specs.declared.Event.{Event}
use Rattle.cam_event.specs.declared.Seen.TheVariants.{Done, Busy, Gone}
use Rattle.cam_event.specs.declared.Deed.{Deed}
use Rattle.cam_event.specs.declared.Deed.TheVariants.{Create, Ask, Call, Got, AskCommit, Commit}
use Rattle.cam_event.specs.History.{created, asked_commit, call_of}
use Rattle.cam_event.specs.Gained.{deps, visited, home}
use Rattle.cam_event.specs.Pasts.{HasNode}
use Rattle.cam_plain.specs.Lines.{asked_for}
use Rattle.cam_plain.specs.Legal.{Legal}
use Rattle.cam_cut.proofs.Places.{PlacedAt}
use Rattle.cam_cut.proofs.HomeFacts.{child_parent}
use Rattle.cam_cut.proofs.LegalFacts.{in_call, call_in, ask_fresh, asked_commit_created}
use Rattle.cam_cut.proofs.DepsFacts.{deps_none}
use Rattle.cam_cut.proofs.DepsAgree.{HasDeeds, open_called, created_known}

-- An action is settled in a set of events: it is known there, and the set has its home's events or it has asked to commit there.
pub record Settled (t : List Event) (S : ℕ → Bool) (M : List Deed) (a : Name) : Type 0 where
  pub named : is_ancestor a a ≡ true
  pub known : (asked_for M a ≡ true) ⊎ (is_top a ≡ true)
  pub placed : HasNode t S (home_node a) ⊎ (asked_commit M a ≡ true)

-- of a settled action the set has all on which it depends in the whole
abbrev pub HasSettled : List ObjectDecl → List Event → (ℕ → Bool) → List Deed → List Deed → Type 0
HasSettled objects t S W M = (a : Name) → Settled t S M a → (p : ℕ × ℕ) → In p (deps objects W a) → In p (deps objects M a)

-- an action that was created and whose home's events the set has is settled
pub created_settled : (objects : List ObjectDecl) (t : List Event) (S : ℕ → Bool) (M : List Deed) (a : Name) → Legal objects M → HasNode t S (home_node a) → created M a ≡ true → Settled t S M a
created_settled objects t S M a legal has there = record { named = created_named objects M a legal there; known = created_known objects M a legal there; placed = inl has }

-- and so is one that asked to commit
pub asked_settled : (objects : List ObjectDecl) (t : List Event) (S : ℕ → Bool) (M : List Deed) (a : Name) → Legal objects M → asked_commit M a ≡ true → Settled t S M a
asked_settled objects t S M a legal asked_it =
    let there : created M a ≡ true = asked_commit_created objects M a legal asked_it in
    record { named = created_named objects M a legal there; known = created_known objects M a legal there; placed = inr asked_it }

-- one more deed of an event of the set
pub settled_in : (objects : List ObjectDecl) (H : List Deed) (t : List Event) (S : ℕ → Bool) (s : ℕ) (W M : List Deed) (d : Deed) → HasNode t S s → PlacedAt objects H s d → Legal objects (d ∷ W) → Legal objects (d ∷ M) → HasDeeds M W → HasSettled objects t S W M → HasSettled objects t S (d ∷ W) (d ∷ M)
settled_in objects H t S s W M (Create b) has placed whole part deeds h a set p g =
    elim (name_eq a b && is_top b) as (λ x. In p (if x then home b ∷ deps objects W a else deps objects W a) → In p (if x then home b ∷ deps objects M a else deps objects M a)) [
      | true ↦ λ y. elim y [ inl e ↦ inl e | inr r ↦ inr (h a (record { named = set.named; known = set.known; placed = set.placed }) p r) ]
      | false ↦ λ r. h a (record { named = set.named; known = set.known; placed = set.placed }) p r
    ] g
settled_in objects H t S s W M (Ask q b) has placed whole part deeds h a set p g = by (name_eq a b) refl g
  where
    asking : Settled t S M q
    asking = created_settled objects t S M q part.1 (subst (HasNode t S) (sym placed) has) (runs_created M q part.0.running)

    fresh : name_eq a b ≡ true → deps objects W a ≡ []
    fresh e =
        let mine : is_child q b ≡ true = whole.0.child in
        let father : parent b ≡ Some q = child_parent q b (created_named objects W q whole.1 (runs_created W q whole.0.running)) mine in
        let none : deps objects W b ≡ [] = deps_none objects W b whole.1 (subst (λ x. is_ancestor x x ≡ true) (name_eq_same a b e) set.named)
        (false_from_ne_true (created W b) (λ c. true≢false (sym (created_child objects W b q whole.1 father c).0 ∙ ask_fresh objects W q b whole)))
        (false_from_ne_true (asked_for W b) (λ c. true≢false (sym (for_asked objects W q b whole.1 mine c).0 ∙ ask_fresh objects W q b whole))) in
        subst (λ x. deps objects W x ≡ []) (sym (name_eq_same a b e)) none

    by : (x : Bool) → name_eq a b ≡ x → In p (if x then home b ∷ deps objects W q ++ deps objects W a else deps objects W a) → In p (if name_eq a b then home b ∷ deps objects M q ++ deps objects M a else deps objects M a)
    by true e (inl y) = rw e (inl y)
    by true e (inr y) = elim (in_append (deps objects W q) (deps objects W a) p y) [
      | inl z ↦ rw e (inr (in_left (deps objects M q) (deps objects M a) p (h q asking p z)))
      | inr z ↦ absurd (subst (In p) (fresh e) z)
    ]
    by false e y = rw e (h a (record {
      named = set.named;
      known = elim set.known [ inl k ↦ inl (sym (ap (λ x. x || asked_for M a) e) ∙ k) | inr k ↦ inr k ];
      placed = set.placed;
    }) p y)
settled_in objects H t S s W M (Got b n (Done answer)) has placed whole part deeds h a set p g =
    elim (name_eq a b) as (λ x. In p (if x then visited objects (call_of W b n) ++ deps objects W a else deps objects W a) → In p (if x then visited objects (call_of M b n) ++ deps objects M a else deps objects M a)) [
      | true ↦ λ y. elim (in_append (visited objects (call_of W b n)) (deps objects W a) p y) [
        | inl z ↦ in_left (visited objects (call_of M b n)) (deps objects M a) p (subst (λ o. In p (visited objects o)) same z)
        | inr z ↦ in_right (visited objects (call_of M b n)) (deps objects M a) p (h a (record { named = set.named; known = set.known; placed = set.placed }) p z)
      ]
      | false ↦ λ y. h a (record { named = set.named; known = set.known; placed = set.placed }) p y
    ] g
  where
    same : call_of W b n ≡ call_of M b n
    same =
        let call = open_called objects M b n part.1 part.0.open_one in
        in_call objects W b n call.0.object call.0.op call.0.count whole.1 (deeds (Call b n call.0.object call.0.op call.0.count) (call_in M b n call.0 call.1)) ∙ sym call.1
settled_in objects H t S s W M (Got b n (Busy w)) has placed whole part deeds h a set p g = h a (record { named = set.named; known = set.known; placed = set.placed }) p g
settled_in objects H t S s W M (Got b n Gone) has placed whole part deeds h a set p g = h a (record { named = set.named; known = set.known; placed = set.placed }) p g
settled_in objects H t S s W M (Commit b) has placed whole part deeds h a set p g =
    elim (is_child a b) as (λ x. In p (if x then deps objects W b ++ deps objects W a else deps objects W a) → In p (if x then deps objects M b ++ deps objects M a else deps objects M a)) [
      | true ↦ λ y. elim (in_append (deps objects W b) (deps objects W a) p y) [
        | inl z ↦ in_left (deps objects M b) (deps objects M a) p (h b (asked_settled objects t S M b part.1 part.0.asked) p z)
        | inr z ↦ in_right (deps objects M b) (deps objects M a) p (h a (record { named = set.named; known = set.known; placed = set.placed }) p z)
      ]
      | false ↦ λ y. h a (record { named = set.named; known = set.known; placed = set.placed }) p y
    ] g
settled_in objects H t S s W M (AskCommit b v) has placed whole part deeds h a set p g =
    h a (record {
      named = set.named;
      known = set.known;
      placed = elim set.placed [
        | inl k ↦ inl k
        | inr k ↦ elim (or_cases (name_eq a b) (asked_commit M a) k) [
          | inl e ↦ inl (subst (HasNode t S) (sym placed ∙ ap home_node (sym (name_eq_same a b e))) has)
          | inr r ↦ inr r
        ]
      ];
    }) p g
settled_in objects H t S s W M _ has placed whole part deeds h a set p g = h a (record { named = set.named; known = set.known; placed = set.placed }) p g
