-- Facts of legal histories: what was called, asked for, created and decided.
use Rattle.std.proofs.Common.{◌≡◌, inl, inr, if◌then◌else◌, ℕ, ◌+◌, ◌≤◌, eqb, Bool, true, false, ◌&&◌, ◌||◌, List, [], ◌∷◌, Some, refl, sym, ap, ◌∙◌, subst, arith}
use Rattle.std.proofs.lemmas.Bool.{and_parts, and_from, or_cases, or_right, cases_Bool, eqb-true, eq-eqb, false_from_ne_true}
use Rattle.std.proofs.lemmas.Option.{same_Some}
use Rattle.cam_names.specs.declared.name.Name.{Name}
use Rattle.cam_names.specs.Names.{name_eq, is_child, is_top, parent, home_node, home_count, last_part}
use Rattle.cam_names.proofs.Names.{name_eq_same, name_eq_refl}
use Rattle.cam_event.proofs.Members.{In}
use Rattle.cam_plain.proofs.Called.{call_stays, count_grows}
use Rattle.cam_plain.proofs.Deciding.{committed_asked}
use Rattle.cam_plain.proofs.Performed.{runs_created}
use Rattle.cam_plain.proofs.Decided.{created_child}
use Rattle.cam_type.specs.declared.ObjectDecl.{ObjectDecl}
use Rattle.cam_type.specs.declared.Op.{Op}
use Rattle.cam_event.specs.declared.Deed.{Deed}
use Rattle.cam_event.specs.declared.Deed.TheVariants.{Create, Ask, Call, AskCommit, AskAbort, Abort, Crash}
use Rattle.cam_event.specs.History.{count, created, committed, aborted, decided, asked, asked_commit, asked_abort, asks, tops, is_top_create, Addressed, call_of}
use Rattle.cam_plain.specs.Lines.{MayAbort}
use Rattle.cam_plain.specs.Legal.{Legal}
use Rattle.cam_cut.proofs.OpenChildren.{AsksChildren}

-- a Call says what was called
pub in_call : (objects : List ObjectDecl) (L : List Deed) (a : Name) (n x : ℕ) (op : Op) (c : ℕ) → Legal objects L → In (Call a n x op c) L → call_of L a n ≡ Some (record { object = x; op = op; count = c })
in_call objects [] a n x op c legal h = absurd h
in_call objects (d ∷ L) a n x op c legal (inl e) =
    subst (λ (y : Deed). call_of (y ∷ L) a n ≡ Some (record { object = x; op = op; count = c })) e (rw (and_from (name_eq a a) (eqb n n) (name_eq_refl a) (eq-eqb n n refl)) refl)
in_call objects (d ∷ L) a n x op c legal (inr r) = call_stays objects L d a n (record { object = x; op = op; count = c }) legal (in_call objects L a n x op c legal.1 r)

-- and an action that called has that call
pub call_in : (L : List Deed) (a : Name) (n : ℕ) (call : Addressed) → call_of L a n ≡ Some call → In (Call a n call.object call.op call.count) L
call_in [] a n call h = cc
call_in (Call b m x op c ∷ L) a n call h =
    elim (cases_Bool (name_eq a b && eqb n m)) [
      | inl e ↦
          let parts = and_parts (name_eq a b) (eqb n m) e in
          let found : call_of (Call b m x op c ∷ L) a n ≡ Some (record { object = x; op = op; count = c }) = rw e refl in
          let same : record { object = x; op = op; count = c } ≡ call = same_Some (record { object = x; op = op; count = c }) call (sym found ∙ h) in
          inl (λ i. Call (name_eq_same a b parts.0 i) (eqb-true n m parts.1 i) ((sym same i).object) ((sym same i).op) ((sym same i).count))
      | inr other ↦
          let before : call_of (Call b m x op c ∷ L) a n ≡ call_of L a n = rw other refl in
          inr (call_in L a n call (sym before ∙ h))
    ]
call_in (_ ∷ L) a n call h = inr (call_in L a n call h)

-- each action that was asked for is a child of the asking one
pub asks_children : (objects : List ObjectDecl) (L : List Deed) → Legal objects L → AsksChildren L
asks_children objects [] legal p b h = absurd h
asks_children objects (d ∷ L) legal p b (inl e) = (subst (λ (y : Deed). Legal objects (y ∷ L)) (sym e) legal).0.child
asks_children objects (d ∷ L) legal p b (inr r) = asks_children objects L legal.1 p b r

-- an action that asked for a child was created
pub asked_created : (objects : List ObjectDecl) (L : List Deed) (a b : Name) → Legal objects L → asked L a b ≡ true → (created L a ≡ true) × (is_child a b ≡ true)
asked_created objects [] a b legal h = cc
asked_created objects (Ask p c ∷ L) a b legal h = elim (or_cases (name_eq a p && name_eq b c) (asked L a b) h) [
  | inl e ↦
      let parts = and_parts (name_eq a p) (name_eq b c) e in (
        subst (λ x. created L x ≡ true) (sym (name_eq_same a p parts.0)) (runs_created L p legal.0.running),
        subst (λ x. is_child x b ≡ true) (sym (name_eq_same a p parts.0)) (subst (λ x. is_child p x ≡ true) (sym (name_eq_same b c parts.1)) legal.0.child),
      )
  | inr r ↦ asked_created objects L a b legal.1 r
]
asked_created objects (Create c ∷ L) a b legal h = let rest = asked_created objects L a b legal.1 h in (or_right (name_eq a c) (created L a) rest.0, rest.1)
asked_created objects (_ ∷ L) a b legal h = asked_created objects L a b legal.1 h

-- the number of a child is at most the number of children that were asked for
pub asked_number : (objects : List ObjectDecl) (L : List Deed) (a b : Name) → Legal objects L → asked L a b ≡ true → (last_part b).number ≤ asks L a
asked_number objects [] a b legal h = cc
asked_number objects (Ask p c ∷ L) a b legal h =
    elim (cases_Bool (name_eq a p)) [
      | inl y ↦
          let more : asks (Ask p c ∷ L) a ≡ asks L a + 1 = rw y refl in
          let mine : asks L a ≡ asks L p = ap (asks L) (name_eq_same a p y) in
          elim (or_cases (name_eq a p && name_eq b c) (asked L a b) h) [
            | inl e ↦
                let same : (last_part b).number ≡ (last_part c).number = ap (λ x. (last_part x).number) (name_eq_same b c (and_parts (name_eq a p) (name_eq b c) e).1) in
                omega (arith, same, legal.0.number, more, mine)
            | inr r ↦ omega (arith, asked_number objects L a b legal.1 r, more)
          ]
      | inr n ↦
          let less : asks (Ask p c ∷ L) a ≡ asks L a = rw n refl in
          let rest : asked L a b ≡ true = sym (ap (λ t. (t && name_eq b c) || asked L a b) n) ∙ h in
          omega (arith, less, asked_number objects L a b legal.1 rest)
    ]
asked_number objects (_ ∷ L) a b legal h = asked_number objects L a b legal.1 h

-- no child is asked for twice
pub ask_fresh : (objects : List ObjectDecl) (L : List Deed) (a b : Name) → Legal objects (Ask a b ∷ L) → asked L a b ≡ false
ask_fresh objects L a b legal = false_from_ne_true (asked L a b) (λ h. omega (arith, legal.0.number, asked_number objects L a b legal.1 h))

-- an action that asked to commit, or to abort, was created
pub asked_commit_created : (objects : List ObjectDecl) (L : List Deed) (a : Name) → Legal objects L → asked_commit L a ≡ true → created L a ≡ true
asked_commit_created objects [] a legal h = cc
asked_commit_created objects (AskCommit b v ∷ L) a legal h = elim (or_cases (name_eq a b) (asked_commit L a) h) [
  | inl e ↦ subst (λ x. created L x ≡ true) (sym (name_eq_same a b e)) (runs_created L b legal.0.running)
  | inr r ↦ asked_commit_created objects L a legal.1 r
]
asked_commit_created objects (Create c ∷ L) a legal h = or_right (name_eq a c) (created L a) (asked_commit_created objects L a legal.1 h)
asked_commit_created objects (_ ∷ L) a legal h = asked_commit_created objects L a legal.1 h

-- so was one that asked to abort
pub asked_abort_created : (objects : List ObjectDecl) (L : List Deed) (a : Name) → Legal objects L → asked_abort L a ≡ true → created L a ≡ true
asked_abort_created objects [] a legal h = cc
asked_abort_created objects (AskAbort b ∷ L) a legal h = elim (or_cases (name_eq a b) (asked_abort L a) h) [
  | inl e ↦ subst (λ x. created L x ≡ true) (sym (name_eq_same a b e)) (runs_created L b legal.0)
  | inr r ↦ asked_abort_created objects L a legal.1 r
]
asked_abort_created objects (Create c ∷ L) a legal h = or_right (name_eq a c) (created L a) (asked_abort_created objects L a legal.1 h)
asked_abort_created objects (_ ∷ L) a legal h = asked_abort_created objects L a legal.1 h

-- a child that was decided was asked for by its parent
pub decided_asked : (objects : List ObjectDecl) (L : List Deed) (p b : Name) → Legal objects L → parent b ≡ Some p → decided L b ≡ true → asked L p b ≡ true
decided_asked objects L p b legal is h = elim (or_cases (committed L b) (aborted L b) h) [
  | inl y ↦ (created_child objects L b p legal is (asked_commit_created objects L b legal (committed_asked objects L b legal y))).0
  | inr n ↦ aborted-asked objects L p b legal is n
]
  where
    aborted-asked : (objects : List ObjectDecl) (L : List Deed) (p b : Name) → Legal objects L → parent b ≡ Some p → aborted L b ≡ true → asked L p b ≡ true
    aborted-asked objects [] p b legal is h = cc
    aborted-asked objects (Abort c ∷ L) p b legal is h = elim (or_cases (name_eq b c) (aborted L b) h) [
      | inl e ↦
          let mine : parent c ≡ Some p = ap parent (sym (name_eq_same b c e)) ∙ is in
          let may : MayAbort L c (Some p) = subst (λ q. MayAbort L c q) mine legal.0.may in
          subst (λ x. asked L p x ≡ true) (sym (name_eq_same b c e)) may.1
      | inr r ↦ aborted-asked objects L p b legal.1 is r
    ]
    aborted-asked objects (Ask q c ∷ L) p b legal is h = or_right (name_eq p q && name_eq b c) (asked L p b) (aborted-asked objects L p b legal.1 is h)
    aborted-asked objects (_ ∷ L) p b legal is h = aborted-asked objects L p b legal.1 is h

-- the home of an action stood at its count when it was created
pub created_count : (objects : List ObjectDecl) (L : List Deed) (a : Name) → Legal objects L → created L a ≡ true → home_count a ≤ count L (home_node a)
created_count objects [] a legal h = cc
created_count objects (Create b ∷ L) a legal h = elim (or_cases (name_eq a b) (created L a) h) [
  | inl e ↦
      let at : count L (home_node a) ≡ home_count a = subst (λ x. count L (home_node x) ≡ home_count x) (sym (name_eq_same a b e)) legal.0.at_home in
      omega (arith, at)
  | inr r ↦ created_count objects L a legal.1 r
]
created_count objects (Crash s ∷ L) a legal h = omega (arith, created_count objects L a legal.1 h, count_grows L (Crash s) (home_node a))
created_count objects (_ ∷ L) a legal h = created_count objects L a legal.1 h

-- the number of a top action is at most the number of top actions of its home
pub top_number : (objects : List ObjectDecl) (L : List Deed) (a : Name) → Legal objects L → is_top a ≡ true → created L a ≡ true → (last_part a).number ≤ tops L (home_node a) (home_count a)
top_number objects [] a legal top h = cc
top_number objects (Create b ∷ L) a legal top h = elim (or_cases (name_eq a b) (created L a) h) [
  | inl e ↦
      let same : b ≡ a = sym (name_eq_same a b e) in
      let number : (last_part a).number ≡ tops L (home_node a) (home_count a) + 1 = subst (λ x. is_top x ≡ true → (last_part x).number ≡ tops L (home_node x) (home_count x) + 1) same legal.0.top top in
      let here : is_top_create (home_node a) (home_count a) (Create b) ≡ true = subst (λ x. is_top_create (home_node a) (home_count a) (Create x) ≡ true) (sym same)
      (and_from (is_top a && eqb (home_node a) (home_node a)) (eqb (home_count a) (home_count a)) (and_from (is_top a) (eqb (home_node a) (home_node a)) top (eq-eqb (home_node a) (home_node a) refl)) (eq-eqb (home_count a) (home_count a) refl)) in
      let more : tops (Create b ∷ L) (home_node a) (home_count a) ≡ tops L (home_node a) (home_count a) + 1 = rw here refl in
      omega (arith, number, more)
  | inr r ↦ tops-grow (is_top_create (home_node a) (home_count a) (Create b)) (top_number objects L a legal.1 top r)
]
  where
    tops-grow : (t : Bool) → (last_part a).number ≤ tops L (home_node a) (home_count a) → (last_part a).number ≤ (if t then tops L (home_node a) (home_count a) + 1 else tops L (home_node a) (home_count a))
    tops-grow true le = omega (arith, le)
    tops-grow false le = le
top_number objects (_ ∷ L) a legal top h = top_number objects L a legal.1 top h
