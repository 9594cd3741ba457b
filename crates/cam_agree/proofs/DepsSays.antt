-- What a letter says of dependencies stands in the history, and stays so.
use Rattle.std.proofs.Common.{◌≡◌, inl, inr, if◌then◌else◌, ℕ, ◌+◌, ◌≤◌, Bool, true, false, ◌&&◌, List, [], ◌∷◌, ◌++◌, Some, None, refl, sym, ap, ◌∙◌, subst, arith}
use Rattle.std.proofs.lemmas.Bool.{or_right, or_parts, true≢false, false_from_ne_true}
use Rattle.std.proofs.lemmas.Option.{same_Some, none-some}
use Rattle.cam_names.specs.declared.name.Name.{Name}
use Rattle.cam_names.specs.Names.{name_eq, is_ancestor, is_child, is_top, parent}
use Rattle.cam_names.specs.Dependencies.{as_counts, pairs_of}
use Rattle.cam_names.proofs.Names.{name_eq_same}
use Rattle.cam_type.specs.declared.ObjectDecl.{ObjectDecl}
use Rattle.cam_event.specs.declared.Body.{Body}
use Rattle.cam_event.specs.declared.Body.TheVariants as bodies
use Rattle.cam_event.specs.declared.Seen.TheVariants.{Done, Busy, Gone}
use Rattle.cam_event.specs.declared.Deed.{Deed}
use Rattle.cam_event.specs.declared.Deed.TheVariants.{Create, Ask, Call, Got, Commit}
use Rattle.cam_event.specs.History.{after, created, asked_commit, is_ask_commit, calls, is_call_of, open_call, call_of}
use Rattle.cam_event.specs.Gained.{deps, visited, home}
use Rattle.cam_event.specs.Rules.{with_home}
use Rattle.cam_event.proofs.Members.{In}
use Rattle.cam_plain.specs.Lines.{asked_for, is_ask_for}
use Rattle.cam_plain.specs.Legal.{Legal}
use Rattle.cam_plain.proofs.Histories.{legal_before}
use Rattle.cam_plain.proofs.Performed.{runs_created, created_named, called_created}
use Rattle.cam_plain.proofs.Decided.{created_child, for_asked, not_top}
use Rattle.cam_cut.proofs.HomeFacts.{child_parent}
use Rattle.cam_cut.proofs.LegalFacts.{ask_fresh, asked_commit_created}
use Rattle.cam_cut.proofs.DepsFacts.{deps_old, deps_final}
use Rattle.cam_cut.proofs.DepsAgree.{open_called, created_known}
use Rattle.cam_agree.proofs.DepsPairs.{Within}
use Rattle.cam_agree.proofs.OrphanOpen.{open_decided}

-- A start says what the child depends on until it is created.
pub record StartSays (objects : List ObjectDecl) (L : List Deed) (b : Name) (counts : List ℕ) : Type 0 where
  pub named : is_ancestor b b ≡ true
  pub child : is_top b ≡ false
  pub asked : asked_for L b ≡ true
  pub within : Within (with_home counts b) (deps objects L b)
  pub fresh : created L b ≡ false → Within (deps objects L b) (with_home counts b)

-- A call says what the action depends on as long as the call is open.
pub record CallSays (objects : List ObjectDecl) (L : List Deed) (a : Name) (n : ℕ) (counts : List ℕ) : Type 0 where
  pub made : n ≤ calls L a
  pub within : Within (pairs_of counts) (deps objects L a)
  pub opened : open_call L a ≡ Some n → Within (deps objects L a) (pairs_of counts)

-- A finish says what the action depends on for good.
pub record FinishSays (objects : List ObjectDecl) (L : List Deed) (b : Name) (counts : List ℕ) : Type 0 where
  pub asked : asked_commit L b ≡ true
  pub final : counts ≡ as_counts (deps objects L b)

abbrev pub BodySays : List ObjectDecl → List Deed → Body → Type 0
BodySays objects L (bodies.Start b counts) = StartSays objects L b counts
BodySays objects L (bodies.Call a n x op c counts) = CallSays objects L a n counts
BodySays objects L (bodies.Finish b v counts) = FinishSays objects L b counts
BodySays objects L _ = Unit {0}

-- what was asked for and is not created depends on nothing more
deps_unborn : (objects : List ObjectDecl) (L : List Deed) (d : Deed) (b : Name) → Legal objects (d ∷ L) → is_ancestor b b ≡ true → asked_for L b ≡ true → created (d ∷ L) b ≡ false → deps objects (d ∷ L) b ≡ deps objects L b
deps_unborn objects L (Create c) b legal named was fresh =
    let parts = or_parts (name_eq b c) (created L b) fresh in
    ap (λ (t : Bool). if t && is_top c then home c ∷ deps objects L b else deps objects L b) parts.0
deps_unborn objects L (Ask q c) b legal named was fresh = ap (λ (t : Bool). if t then home c ∷ deps objects L q ++ deps objects L b else deps objects L b) other
  where
    other : name_eq b c ≡ false
    other = false_from_ne_true (name_eq b c) (λ e. true≢false (sym (for_asked objects L q c legal.1 legal.0.child (subst (λ x. asked_for L x ≡ true) (name_eq_same b c e) was)).0 ∙ ask_fresh objects L q c legal))
deps_unborn objects L (Got c n (Done answer)) b legal named was fresh = ap (λ (t : Bool). if t then visited objects (call_of L c n) ++ deps objects L b else deps objects L b) other
  where
    other : name_eq b c ≡ false
    other = false_from_ne_true (name_eq b c) (λ e. true≢false (sym (subst (λ x. created L x ≡ true) (sym (name_eq_same b c e)) (runs_created L c legal.0.running)) ∙ fresh))
deps_unborn objects L (Got c n (Busy u)) b legal named was fresh = refl
deps_unborn objects L (Got c n Gone) b legal named was fresh = refl
deps_unborn objects L (Commit c) b legal named was fresh = ap (λ (t : Bool). if t then deps objects L c ++ deps objects L b else deps objects L b) other
  where
    other : is_child b c ≡ false
    other = false_from_ne_true (is_child b c) (λ e. true≢false (sym (created_child objects L c b legal.1 (child_parent b c named e) (asked_commit_created objects L c legal.1 legal.0.asked)).1 ∙ fresh))
deps_unborn objects L _ b legal named was fresh = refl

-- the number of calls only grows
calls_grow : (L : List Deed) (d : Deed) (a : Name) → calls L a ≤ calls (d ∷ L) a
calls_grow L d a = elim (is_call_of a d) as (λ b. calls L a ≤ (if b then calls L a + 1 else calls L a)) [ true ↦ omega arith | false ↦ omega arith ]

-- what was created is asked for no more
pub created_asked : (objects : List ObjectDecl) (L : List Deed) (q b : Name) → Legal objects (Ask q b ∷ L) → created L b ≡ true → ⊥
created_asked objects L q b legal there = elim (created_known objects L b legal.1 there) [
  | inl k ↦ true≢false (sym (for_asked objects L q b legal.1 legal.0.child k).0 ∙ ask_fresh objects L q b legal)
  | inr k ↦ true≢false (sym k ∙ not_top b q (child_parent q b (created_named objects L q legal.1 (runs_created L q legal.0.running)) legal.0.child))
]

-- as long as a call is open its action depends on nothing more
call_keeps : (objects : List ObjectDecl) (L : List Deed) (d : Deed) (a : Name) (n : ℕ) → Legal objects (d ∷ L) → n ≤ calls L a → open_call (d ∷ L) a ≡ Some n → (open_call L a ≡ Some n) × (deps objects (d ∷ L) a ≡ deps objects L a)
call_keeps objects L d a n legal made h = by d legal h
  where
    there : Legal objects L → open_call L a ≡ Some n → created L a ≡ true
    there l o = let call = open_called objects L a n l o in called_created objects L a n call.0 l call.1

    by : (d : Deed) → Legal objects (d ∷ L) → open_call (d ∷ L) a ≡ Some n → (open_call L a ≡ Some n) × (deps objects (d ∷ L) a ≡ deps objects L a)
    by (Call b m x op c) l o = split (name_eq a b) refl o
      where
        split : (t : Bool) → name_eq a b ≡ t → (if t then Some m else open_call L a) ≡ Some n → (open_call L a ≡ Some n) × (deps objects L a ≡ deps objects L a)
        split true e j =
            let number : m ≡ calls L a + 1 = subst (λ y. m ≡ calls L y + 1) (sym (name_eq_same a b e)) l.0.number in
            let same : m ≡ n = same_Some m n j in
            absurd (omega (arith, number, same, made))
        split false e j = (j, refl)
    by (Got b m seen) l o = split (name_eq a b) refl o
      where
        keep : name_eq a b ≡ false → deps objects (Got b m seen ∷ L) a ≡ deps objects L a
        keep e = elim seen as (λ s. deps objects (Got b m s ∷ L) a ≡ deps objects L a) [
          | Done answer ↦ ap (λ (t : Bool). if t then visited objects (call_of L b m) ++ deps objects L a else deps objects L a) e
          | Busy u ↦ refl
          | Gone ↦ refl
        ]

        split : (t : Bool) → name_eq a b ≡ t → (if t then None else open_call L a) ≡ Some n → (open_call L a ≡ Some n) × (deps objects (Got b m seen ∷ L) a ≡ deps objects L a)
        split true e j = absurd (none-some n j)
        split false e j = (j, keep e)
    by (Create b) l o = (o, ap (λ (t : Bool). if t && is_top b then home b ∷ deps objects L a else deps objects L a) other)
      where
        other : name_eq a b ≡ false
        other = false_from_ne_true (name_eq a b) (λ e. true≢false (sym (subst (λ x. created L x ≡ true) (name_eq_same a b e) (there l.1 o)) ∙ l.0.fresh))
    by (Ask q b) l o = (o, ap (λ (t : Bool). if t then home b ∷ deps objects L q ++ deps objects L a else deps objects L a) other)
      where
        other : name_eq a b ≡ false
        other = false_from_ne_true (name_eq a b) (λ e. created_asked objects L q b l (subst (λ x. created L x ≡ true) (name_eq_same a b e) (there l.1 o)))
    by (Commit b) l o = (o, ap (λ (t : Bool). if t then deps objects L b ++ deps objects L a else deps objects L a) other)
      where
        other : is_child a b ≡ false
        other = false_from_ne_true (is_child a b) (λ e.
            let father : parent b ≡ Some a = child_parent a b (created_named objects L a l.1 (there l.1 o)) e in
            true≢false (sym (open_decided objects L a n b l.1 o (created_child objects L b a l.1 father (asked_commit_created objects L b l.1 l.0.asked)).0) ∙ l.0.undecided))
    by _ l o = (o, refl)

-- what a letter says stays so
pub says_more : (objects : List ObjectDecl) (L : List Deed) (d : Deed) (body : Body) → Legal objects (d ∷ L) → BodySays objects L body → BodySays objects (d ∷ L) body
says_more objects L d (bodies.Start b counts) legal h = record {
  named = h.named;
  child = h.child;
  asked = or_right (is_ask_for b d) (asked_for L b) h.asked;
  within = λ p i. deps_old objects L d b p (h.within p i);
  fresh = λ new p i. h.fresh (older d new) p (subst (In p) (deps_unborn objects L d b legal h.named h.asked new) i);
}
  where
    older : (d : Deed) → created (d ∷ L) b ≡ false → created L b ≡ false
    older (Create c) e = (or_parts (name_eq b c) (created L b) e).1
    older _ e = e
says_more objects L d (bodies.Call a n x op c counts) legal h = record {
  made = omega (arith, h.made, calls_grow L d a);
  within = λ p i. deps_old objects L d a p (h.within p i);
  opened = λ o p i. let k = call_keeps objects L d a n legal h.made o in h.opened k.0 p (subst (In p) k.1 i);
}
says_more objects L d (bodies.Finish b v counts) legal h = record {
  asked = or_right (is_ask_commit b d) (asked_commit L b) h.asked;
  final = h.final ∙ ap as_counts (sym (deps_final objects L d b legal h.asked));
}
says_more objects L d (bodies.Answer a n reply) legal h = tt
says_more objects L d (bodies.Quit b) legal h = tt
says_more objects L d (bodies.Prepare f c) legal h = tt
says_more objects L d (bodies.Vote f c agrees) legal h = tt
says_more objects L d (bodies.Query f) legal h = tt
says_more objects L d bodies.News legal h = tt

pub says_after : (objects : List ObjectDecl) (ds L : List Deed) (body : Body) → Legal objects (after L ds) → BodySays objects L body → BodySays objects (after L ds) body
says_after objects [] L body legal h = h
says_after objects (d ∷ ds) L body legal h = says_after objects ds (d ∷ L) body legal (says_more objects L d body (legal_before objects ds (d ∷ L) legal) h)
