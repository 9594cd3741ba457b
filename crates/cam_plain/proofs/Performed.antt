-- What is known of each live operation of a legal history: its call, its Perform, and the count of its site.
use Rattle.std.proofs.Common.{◌≡◌, inl, inr, ◌+◌, eqb, true, false, ◌&&◌, List, [], ◌∷◌, length, Some, refl, sym, ◌∙◌, subst, arith, ◌⊎◌, ℕ, not}
use Rattle.std.proofs.lemmas.Bool.{and_parts, and_from, cases_Bool, true≢false, eq-eqb, or_cases, or_left, or_right, eqb-true, not-true}
use Rattle.std.proofs.lemmas.Option.{same_Some, none-some}
use Rattle.std.specs.List.{list_any}
use Rattle.cam_names.proofs.Names.{name_eq_same, name_eq_refl}
use Rattle.cam_names.specs.Names.{name_eq, is_prefix, is_ancestor, family, is_child, is_top, home_node, home_count}
use Rattle.cam_names.specs.declared.name.Name.{Name}
use Rattle.cam_type.specs.declared.Answer.{Answer}
use Rattle.cam_type.specs.declared.ObjectDecl.{ObjectDecl}
use Rattle.cam_event.specs.History.{count, Addressed, call_of, secured_at, open_call, created, committed, asked_commit, ended, runs, is_secure_at, secured}
use Rattle.cam_event.specs.Live.{site_of, live, is_fit}
use Rattle.cam_event.specs.declared.Deed.{Deed}
use Rattle.cam_event.specs.declared.Deed.TheVariants.{Call, Perform, Crash, Create, Ask}
use Rattle.cam_event.specs.declared.Operation.{Operation}
use Rattle.cam_plain.specs.Legal.{Legal}
use Rattle.cam_plain.specs.Lines.{asked_for}
use Rattle.cam_names.proofs.Ancestry.{is_prefix_refl}
use Rattle.cam_plain.proofs.Called.{call_stays, is_performed, call_fits, call_stands}
use Rattle.cam_plain.proofs.Deciding.{committed_asked, asked_no_call}
use Rattle.cam_names.proofs.Every.{Every, every_any}
use Rattle.cam_plain.proofs.LiveSteps.{keeps, operation, live_induction}

pub record Performed (objects : List ObjectDecl) (L : List Deed) (o : Operation) : Type 0 where
  pub call : Addressed
  pub called : call_of L o.action o.number ≡ Some call
  pub same_object : call.object ≡ o.object
  pub same_op : call.op ≡ o.op
  pub performed : list_any (is_performed o.action o.number) L ≡ true
  pub standing : (secured_at L (family o.action) (site_of objects o.object) ≡ true) ⊎ (call.count ≡ count L (site_of objects o.object))

-- the site of a live operation has not crashed since it was performed, or the family is secured there
still_standing : (objects : List ObjectDecl) (L : List Deed) (d : Deed) (o : Operation) (c : ℕ) → keeps objects L d o ≡ true → (secured_at L (family o.action) (site_of objects o.object) ≡ true) ⊎ (c ≡ count L (site_of objects o.object)) → (secured_at (d ∷ L) (family o.action) (site_of objects o.object) ≡ true) ⊎ (c ≡ count (d ∷ L) (site_of objects o.object))
still_standing objects L d o c k (inl h) = inl (or_right (is_secure_at (family o.action) (site_of objects o.object) d) (secured_at L (family o.action) (site_of objects o.object)) h)
still_standing objects L (Crash s) o c k (inr h) =
    elim (cases_Bool (eqb (site_of objects o.object) s)) [
      | inl here ↦ elim (or_cases (not (eqb (site_of objects o.object) s)) (secured_at L (family o.action) s) k) [
        | inl other ↦ absurd (true≢false (sym here ∙ not-true (eqb (site_of objects o.object) s) other))
        | inr secured ↦ inl (subst (λ x. secured_at L (family o.action) x ≡ true) (sym (eqb-true (site_of objects o.object) s here)) secured)
      ]
      | inr other ↦ inr (rw other h)
    ]
still_standing objects L _ o c k (inr h) = inr h

-- each live operation is so
pub performed : (objects : List ObjectDecl) (L : List Deed) → Legal objects L → Every (Performed objects L) (live objects L)
performed objects = live_induction objects (λ L o. Unit {0}) (Performed objects) (λ L legal. every_any (λ o. Unit {0}) (live objects L) (λ o. tt)) kept new
  where
    kept : (L : List Deed) (d : Deed) (o : Operation) → Legal objects (d ∷ L) → keeps objects L d o ≡ true → Unit {0} → Performed objects L o → Performed objects (d ∷ L) o
    kept L d o legal k known h = record {
      call = h.call;
      called = call_stays objects L d o.action o.number h.call legal h.called;
      same_object = h.same_object;
      same_op = h.same_op;
      performed = or_right (is_performed o.action o.number d) (list_any (is_performed o.action o.number) L) h.performed;
      standing = still_standing objects L d o h.call.count k h.standing;
    }

    new : (L : List Deed) (a : Name) (n : ℕ) (answer : Answer) (call : Addressed) → Legal objects (Perform a n answer ∷ L) → call_of L a n ≡ Some call → Performed objects (Perform a n answer ∷ L) (operation a n answer call)
    new L a n answer call legal called =
        let same : legal.0.call ≡ call = same_Some legal.0.call call (sym legal.0.arrival.called ∙ called) in
        record {
          call = call;
          called = called;
          same_object = refl;
          same_op = refl;
          performed = or_left (name_eq a a && eqb n n) (list_any (is_performed a n) L) (and_from (name_eq a a) (eqb n n) (name_eq_refl a) (eq-eqb n n refl));
          standing = inr (subst (λ (k : Addressed). k.count ≡ count L (site_of objects k.object)) same legal.0.arrival.count);
        }

-- a call is open when it is performed
pub perform_open : (objects : List ObjectDecl) (L : List Deed) (a : Name) (n : ℕ) (answer : Answer) → Legal objects (Perform a n answer ∷ L) → open_call L a ≡ Some n
perform_open objects L a n answer legal =
    elim (call_stands objects L a n legal.0.call legal.1 legal.0.arrival.called) [
      | inl o ↦ o
      | inr done ↦ elim done [
        | inl r ↦ absurd (true≢false (sym r ∙ legal.0.arrival.fresh))
        | inr c ↦ absurd (omega (arith, c, legal.0.arrival.count))
      ]
    ]

-- an action that performs has not asked to commit, and so has not committed
pub perform_not_asked : (objects : List ObjectDecl) (L : List Deed) (a : Name) (n : ℕ) (answer : Answer) → Legal objects (Perform a n answer ∷ L) → asked_commit L a ≡ true → ⊥
perform_not_asked objects L a n answer legal h = none-some n (sym (asked_no_call objects L a legal.1 h) ∙ perform_open objects L a n answer legal)

-- nor has it committed
pub perform_not_committed : (objects : List ObjectDecl) (L : List Deed) (a : Name) (n : ℕ) (answer : Answer) → Legal objects (Perform a n answer ∷ L) → committed L a ≡ true → ⊥
perform_not_committed objects L a n answer legal h = perform_not_asked objects L a n answer legal (committed_asked objects L a legal.1 h)

-- an empty name is asked for by no one, so no action has it
nobody : (objects : List ObjectDecl) (L : List Deed) → Legal objects L → asked_for L [] ≡ true → ⊥
nobody objects [] legal h = cc
nobody objects (Ask p b ∷ L) legal h = elim (or_cases (name_eq [] b) (asked_for L []) h) [
  | inl e ↦
      let empty : [] ≡ b = name_eq_same [] b e in
      let parts = and_parts (is_prefix p []) (eqb 0 (length p + 1)) (subst (λ x. is_child p x ≡ true) (sym empty) legal.0.child) in
      omega (arith, eqb-true 0 (length p + 1) parts.1)
  | inr r ↦ nobody objects L legal.1 r
]
nobody objects (_ ∷ L) legal h = nobody objects L legal.1 h

-- what is no empty name is its own ancestor
named : (objects : List ObjectDecl) (L : List Deed) (a : Name) → Legal objects L → (is_top a ≡ false → asked_for L a ≡ true) → is_ancestor a a ≡ true
named objects L [] legal h = absurd (nobody objects L legal (h refl))
named objects L (p ∷ a) legal h = is_prefix_refl (p ∷ a)

-- an action that was created has a name of at least one part
pub created_named : (objects : List ObjectDecl) (L : List Deed) (a : Name) → Legal objects L → created L a ≡ true → is_ancestor a a ≡ true
created_named objects [] a legal h = cc
created_named objects (Create b ∷ L) a legal h = elim (or_cases (name_eq a b) (created L a) h) [
  | inl e ↦ subst (λ x. is_ancestor x x ≡ true) (sym (name_eq_same a b e)) (named objects L b legal.1 legal.0.child)
  | inr r ↦ created_named objects L a legal.1 r
]
created_named objects (_ ∷ L) a legal h = created_named objects L a legal.1 h

-- what runs was created
pub runs_created : (L : List Deed) (a : Name) → runs L a ≡ true → created L a ≡ true
runs_created L a h =
    (and_parts (created L a) (not (ended L a)) (and_parts (created L a && not (ended L a)) (eqb (count L (home_node a)) (home_count a)) h).0).0

-- an action that called was created
pub called_created : (objects : List ObjectDecl) (L : List Deed) (a : Name) (n : ℕ) (call : Addressed) → Legal objects L → call_of L a n ≡ Some call → created L a ≡ true
called_created objects [] a n call legal h = cc
called_created objects (Call b m x op c ∷ L) a n call legal h =
    elim (cases_Bool (name_eq a b && eqb n m)) [
      | inl e ↦ subst (λ x. created L x ≡ true) (sym (name_eq_same a b (and_parts (name_eq a b) (eqb n m) e).0)) (runs_created L b legal.0.running)
      | inr other ↦
          let before : call_of (Call b m x op c ∷ L) a n ≡ call_of L a n = rw other refl in
          called_created objects L a n call legal.1 (sym before ∙ h)
    ]
called_created objects (Create b ∷ L) a n call legal h = or_right (name_eq a b) (created L a) (called_created objects L a n call legal.1 h)
called_created objects (_ ∷ L) a n call legal h = called_created objects L a n call legal.1 h

-- so the action of a live operation is its own ancestor
pub performed_named : (objects : List ObjectDecl) (L : List Deed) (o : Operation) → Legal objects L → Performed objects L o → is_ancestor o.action o.action ≡ true
performed_named objects L o legal h = created_named objects L o.action legal (called_created objects L o.action o.number h.call legal h.called)

-- and its op fits its object
pub performed_fits : (objects : List ObjectDecl) (L : List Deed) (o : Operation) → Legal objects L → Performed objects L o → is_fit objects o.object o.op ≡ true
performed_fits objects L o legal h =
    subst (λ x. is_fit objects x o.op ≡ true) h.same_object (subst (λ op. is_fit objects h.call.object op ≡ true) h.same_op (call_fits objects L o.action o.number h.call legal h.called))
