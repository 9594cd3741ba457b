-- A live operation is held for each ancestor up to which all have committed: it depends on the operation's site, or the family is secured there.
use Rattle.std.proofs.Common.{◌≡◌, inl, inr, ◌<◌, eqb, Bool, true, false, ◌&&◌, List, ◌∷◌, Some, None, refl, sym, ap, ◌∙◌, subst, arith, ◌⊎◌, ℕ, not, ◌++◌, if◌then◌else◌}
use Rattle.std.proofs.lemmas.Bool.{and_parts, and_from, cases_Bool, true≢false, eq-eqb, or_cases, or_left, or_right, not-true}
use Rattle.std.proofs.lemmas.Option.{same_Some, none-some}
use Rattle.std.specs.List.{list_any}
use Rattle.cam_names.proofs.Names.{name_eq_same, name_eq_refl}
use Rattle.cam_names.specs.Names.{name_eq, is_ancestor, family, is_child, is_top}
use Rattle.cam_names.specs.declared.name.Name.{Name}
use Rattle.cam_type.specs.declared.Answer.{Answer}
use Rattle.cam_type.specs.declared.ObjectDecl.{ObjectDecl}
use Rattle.cam_event.specs.Gained.{deps, visited, home}
use Rattle.cam_event.specs.History.{count, Addressed, call_of, secured_at, open_call, committed, asked_commit, runs, is_secure_at, secured}
use Rattle.cam_event.specs.Live.{site_of, live}
use Rattle.cam_event.specs.declared.Deed.{Deed}
use Rattle.cam_event.specs.declared.Deed.TheVariants.{Call, Perform, Got, Create, Ask, Commit}
use Rattle.cam_event.specs.declared.Operation.{Operation}
use Rattle.cam_event.specs.declared.Seen.{Seen}
use Rattle.cam_event.specs.declared.Seen.TheVariants.{Done, Busy, Gone}
use Rattle.cam_plain.specs.Legal.{Legal}
use Rattle.cam_plain.specs.Lines.{IsSeen, MayCommit}
use Rattle.cam_names.proofs.Ancestry.{is_ancestor_trans, ancestor_same, parent_is, parent_between, ancestor_order, is_ancestor_self, IsParent}
use Rattle.cam_names.proofs.Any.{any_left, any_right}
use Rattle.cam_plain.proofs.Called.{one_reply, seen_bounced}
use Rattle.cam_plain.proofs.Deciding.{asked_no_call, runs_not_committed}
use Rattle.cam_names.proofs.Every.{Every}
use Rattle.cam_plain.proofs.LiveSteps.{keeps, operation, live_induction}
use Rattle.cam_plain.proofs.Performed.{Performed, performed, perform_open, perform_not_committed, created_named, called_created}

-- an action loses nothing on which it depends
pub deps_grow : (objects : List ObjectDecl) (L : List Deed) (d : Deed) (u : Name) (t : ℕ × ℕ → Bool) → list_any t (deps objects L u) ≡ true → list_any t (deps objects (d ∷ L) u) ≡ true
deps_grow objects L (Create b) u t h =
    elim (name_eq u b && is_top b) as (λ x. list_any t (if x then home b ∷ deps objects L u else deps objects L u) ≡ true) [ true ↦ or_right (t (home b)) (list_any t (deps objects L u)) h | false ↦ h ]
deps_grow objects L (Ask p b) u t h =
    elim (name_eq u b) as (λ x. list_any t (if x then home b ∷ deps objects L p ++ deps objects L u else deps objects L u) ≡ true) [
      | true ↦ or_right (t (home b)) (list_any t (deps objects L p ++ deps objects L u)) (any_right t (deps objects L p) (deps objects L u) h)
      | false ↦ h
    ]
deps_grow objects L (Got b n (Done answer)) u t h =
    elim (name_eq u b) as (λ x. list_any t (if x then visited objects (call_of L b n) ++ deps objects L u else deps objects L u) ≡ true) [ true ↦ any_right t (visited objects (call_of L b n)) (deps objects L u) h | false ↦ h ]
deps_grow objects L (Got b n (Busy w)) u t h = h
deps_grow objects L (Got b n Gone) u t h = h
deps_grow objects L (Commit b) u t h =
    elim (is_child u b) as (λ x. list_any t (if x then deps objects L b ++ deps objects L u else deps objects L u) ≡ true) [ true ↦ any_right t (deps objects L b) (deps objects L u) h | false ↦ h ]
deps_grow objects L _ u t h = h

-- the commit of a child hands up what the child depends on
pub deps_commit : (objects : List ObjectDecl) (L : List Deed) (u b : Name) (t : ℕ × ℕ → Bool) → is_child u b ≡ true → list_any t (deps objects L b) ≡ true → list_any t (deps objects (Commit b ∷ L) u) ≡ true
deps_commit objects L u b t child h = rw child (any_left t (deps objects L b) (deps objects L u) h)

-- whether an action depends on a node, at whatever count
abbrev pub depends_on : List ObjectDecl → List Deed → Name → ℕ → Bool
depends_on objects L u s = list_any (λ p. eqb p.0 s) (deps objects L u)

-- A performed operation is held for an ancestor: its family is secured, or the ancestor depends on its site, or its call is still open.
abbrev pub Held : List ObjectDecl → List Deed → Operation → Name → Type 0
Held objects L o u =
    (secured_at L (family o.action) (site_of objects o.object) ≡ true)
    ⊎ ((depends_on objects L u (site_of objects o.object) ≡ true) ⊎ ((open_call L o.action ≡ Some o.number) × (u ≡ o.action)))

-- each ancestor of o's action that is longer than u has committed
abbrev pub CommittedBelow : List Deed → Operation → Name → Type 0
CommittedBelow L o u = (v : Name) → is_ancestor v o.action ≡ true → is_ancestor v u ≡ false → committed L v ≡ true

-- an operation is held for each ancestor up to which all have committed
abbrev pub Reaches : List ObjectDecl → List Deed → Operation → Type 0
Reaches objects L o = (u : Name) → is_ancestor u o.action ≡ true → CommittedBelow L o u → Held objects L o u

-- a deed that is no Commit leaves for whom an operation is held, but for the open call
held_still : (objects : List ObjectDecl) (L : List Deed) (d : Deed) (o : Operation) (u : Name) → (open_call L o.action ≡ Some o.number → u ≡ o.action → Held objects (d ∷ L) o u) → Held objects L o u → Held objects (d ∷ L) o u
held_still objects L d o u more (inl h) = inl (or_right (is_secure_at (family o.action) (site_of objects o.object) d) (secured_at L (family o.action) (site_of objects o.object)) h)
held_still objects L d o u more (inr (inl h)) = inr (inl (deps_grow objects L d u (λ p. eqb p.0 (site_of objects o.object)) h))
held_still objects L d o u more (inr (inr h)) = more h.0 h.1

-- what an action got of the call of a live operation of its own
got_held : (objects : List ObjectDecl) (L : List Deed) (o : Operation) (u : Name) (seen : Seen) → Legal objects L → Performed objects L o → IsSeen objects L o.action o.number seen → u ≡ o.action → Held objects (Got o.action o.number seen ∷ L) o u
got_held objects L o u (Done answer) legal h seen same =
    let mine : name_eq u o.action ≡ true = subst (λ x. name_eq x o.action ≡ true) (sym same) (name_eq_refl o.action) in
    let site : eqb (site_of objects h.call.object) (site_of objects o.object) ≡ true = eq-eqb (site_of objects h.call.object) (site_of objects o.object) (ap (site_of objects) h.same_object) in
    let there : list_any (λ p. eqb p.0 (site_of objects o.object)) (visited objects (call_of L o.action o.number) ++ deps objects L u) ≡ true =
    subst (λ c. list_any (λ p. eqb p.0 (site_of objects o.object)) (visited objects c ++ deps objects L u) ≡ true) (sym h.called)
    (or_left (eqb (site_of objects h.call.object) (site_of objects o.object)) (list_any (λ p. eqb p.0 (site_of objects o.object)) (deps objects L u)) site) in
    inr (inl (rw mine there))
got_held objects L o u (Busy w) legal h seen same = absurd (one_reply objects L o.action o.number legal h.performed (seen_bounced L o.action o.number w seen))
got_held objects L o u Gone legal h seen same = elim h.standing [
  | inl secured ↦ inl secured
  | inr now ↦
      let call : seen.call ≡ h.call = same_Some seen.call h.call (sym seen.called ∙ h.called) in
      let late : h.call.count < count L (site_of objects h.call.object) = subst (λ (k : Addressed). k.count < count L (site_of objects k.object)) call seen.crashed in
      let there : count L (site_of objects h.call.object) ≡ count L (site_of objects o.object) = ap (λ x. count L (site_of objects x)) h.same_object in
      absurd (omega (arith, late, now, there))
]

-- the parent of a committed child runs, so the chain of commits below an ancestor has the child's parent at its upper end
parent_here : (objects : List ObjectDecl) (L : List Deed) (o : Operation) (u b : Name) → Legal objects (Commit b ∷ L) → is_ancestor u o.action ≡ true → is_ancestor b o.action ≡ true → is_ancestor b u ≡ false → CommittedBelow (Commit b ∷ L) o u → is_child u b ≡ true
parent_here objects L o u b legal above below less chain =
    let order : is_ancestor u b ≡ true = ancestor_order b u o.action below above less in
    let between = parent_between u b order less in
    let p : Name = between.0 in
    let is_parent : IsParent p b = parent_is p b between.1 in
    let running : runs L p ≡ true = subst (λ q. MayCommit objects L b q) between.1 legal.0.may in
    elim (cases_Bool (is_ancestor p u)) [
      | inl y ↦ subst (λ x. is_child x b ≡ true) (ancestor_same p u y between.2) is_parent.child
      | inr n ↦ elim (or_cases (name_eq p b) (committed L p) (chain p (is_ancestor_trans p b o.action is_parent.above below) n)) [
        | inl e ↦ absurd (true≢false (sym (subst (λ x. is_ancestor x p ≡ true) (name_eq_same p b e) (is_ancestor_self p b is_parent.above)) ∙ is_parent.not_below))
        | inr c ↦ absurd (runs_not_committed objects L p legal.1 running c)
      ]
    ]

-- a Commit hands what is held for a child up to its parent
commit_held : (objects : List ObjectDecl) (L : List Deed) (o : Operation) (b : Name) → Legal objects (Commit b ∷ L) → Reaches objects L o → Reaches objects (Commit b ∷ L) o
commit_held objects L o b legal h u above chain =
    elim (cases_Bool (is_ancestor b o.action && not (is_ancestor b u))) [
      | inl y ↦
          let parts = and_parts (is_ancestor b o.action) (not (is_ancestor b u)) y in
          let less : is_ancestor b u ≡ false = not-true (is_ancestor b u) parts.1 in
          let order : is_ancestor u b ≡ true = ancestor_order b u o.action parts.0 above less in
          up (parent_here objects L o u b legal above parts.0 less chain) (h b parts.0 (below order))
      | inr n ↦ held_still objects L (Commit b) o u (λ open_one same. inr (inr (open_one, same))) (h u above (λ v is longer. elim (or_cases (name_eq v b) (committed L v) (chain v is longer)) [
        | inl e ↦ absurd (true≢false (sym (subst (λ x. (is_ancestor x o.action && not (is_ancestor x u)) ≡ true) (name_eq_same v b e) (and_from (is_ancestor v o.action) (not (is_ancestor v u)) is (rw longer refl))) ∙ n))
        | inr c ↦ c
      ]))
    ]
  where
    below : is_ancestor u b ≡ true → CommittedBelow L o b
    below order v is n =
        elim (cases_Bool (is_ancestor v u)) [
          | inl t ↦ absurd (true≢false (sym (is_ancestor_trans v u b t order) ∙ n))
          | inr f ↦ elim (or_cases (name_eq v b) (committed L v) (chain v is f)) [
            | inl e ↦ absurd (true≢false (sym (subst (λ x. is_ancestor v x ≡ true) (name_eq_same v b e) (is_ancestor_self v o.action is)) ∙ n))
            | inr c ↦ c
          ]
        ]

    up : is_child u b ≡ true → Held objects L o b → Held objects (Commit b ∷ L) o u
    up child (inl s) = inl s
    up child (inr (inl d)) = inr (inl (deps_commit objects L u b (λ p. eqb p.0 (site_of objects o.object)) child d))
    up child (inr (inr (open_one, same))) = absurd (none-some o.number (sym (asked_no_call objects L o.action legal.1 (subst (λ x. asked_commit L x ≡ true) same legal.0.asked)) ∙ open_one))

-- each live operation reaches as far as its ancestors have committed
pub reaches : (objects : List ObjectDecl) (L : List Deed) → Legal objects L → Every (Reaches objects L) (live objects L)
reaches objects = live_induction objects (Performed objects) (Reaches objects) (performed objects) kept new
  where
    kept : (L : List Deed) (d : Deed) (o : Operation) → Legal objects (d ∷ L) → keeps objects L d o ≡ true → Performed objects L o → Reaches objects L o → Reaches objects (d ∷ L) o
    kept L (Commit b) o legal k p h u above chain = commit_held objects L o b legal h u above chain
    kept L (Call b m x op c) o legal k p h u above chain = held_still objects L (Call b m x op c) o u
        (λ open_one same. elim (cases_Bool (name_eq o.action b)) [
          | inl e ↦ absurd (none-some o.number (sym (subst (λ y. open_call L y ≡ None) (sym (name_eq_same o.action b e)) legal.0.no_call) ∙ open_one))
          | inr n ↦ inr (inr (rw n open_one, same))
        ]) (h u above chain)
    kept L (Got b m seen) o legal k p h u above chain = held_still objects L (Got b m seen) o u
        (λ open_one same. elim (cases_Bool (name_eq o.action b)) [
          | inl e ↦
              let action : b ≡ o.action = sym (name_eq_same o.action b e) in
              let number : m ≡ o.number = same_Some m o.number (sym (subst (λ y. open_call L y ≡ Some m) action legal.0.open_one) ∙ open_one) in
              let seen_so : IsSeen objects L o.action o.number seen = subst (λ k. IsSeen objects L o.action k seen) number (subst (λ y. IsSeen objects L y m seen) action legal.0.seen_so) in
              subst (λ k. Held objects (Got b k seen ∷ L) o u) (sym number) (subst (λ y. Held objects (Got y o.number seen ∷ L) o u) (sym action) (got_held objects L o u seen legal.1 p seen_so same))
          | inr n ↦ inr (inr (rw n open_one, same))
        ]) (h u above chain)
    kept L d o legal k p h u above chain = held_still objects L d o u (λ open_one same. inr (inr (open_one, same))) (h u above chain)

    new : (L : List Deed) (a : Name) (n : ℕ) (answer : Answer) (call : Addressed) → Legal objects (Perform a n answer ∷ L) → call_of L a n ≡ Some call → Reaches objects (Perform a n answer ∷ L) (operation a n answer call)
    new L a n answer call legal called u above chain =
        elim (cases_Bool (is_ancestor a u)) [
          | inl y ↦ inr (inr (perform_open objects L a n answer legal, ancestor_same u a above y))
          | inr f ↦ absurd (perform_not_committed objects L a n answer legal (chain a (created_named objects L a legal.1 (called_created objects L a n call legal.1 called)) f))
        ]
