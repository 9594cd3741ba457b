-- The names of the actions that work at a body, in order, and the table of them.
use Rattle.std.proofs.Common.{◌≡◌, inl, inr, ℕ, zero, suc, Bool, true, false, if◌then◌else◌, cond}
use Rattle.std.proofs.Common.{List, [], ◌∷◌, ◌++◌, Some, None, refl, sym, ap, ◌∙◌, subst}
use Rattle.std.specs.Prelude.{is_some, slice_get}
use Rattle.std.specs.Ordering.{is_eq, is_lt, match_ordering}
use Rattle.std.specs.declared.cmp.Ordering.{Ordering}
use Rattle.std.specs.declared.cmp.Ordering.TheVariants.{Less, Equal, Greater}
use Rattle.std.specs.BTreeMap.{insert_entry, is_at}
use Rattle.std.specs.Map.{keys_of, lookup}
use Rattle.std.proofs.lemmas.Bool.{cases_Bool, true≢false}
use Rattle.std.proofs.lemmas.Option.{same_Some}
use Rattle.cam_names.specs.declared.name.Name.{Name}
use Rattle.cam_names.specs.Names.{name_cmp, name_eq, name_lt}
use Rattle.cam_names.proofs.Names.{name_eq_same, name_eq_refl, name_ties}
use Rattle.cam_names.proofs.Order.{name_lt_itself, name_lt_trans, name_three}
use Rattle.cam_runs.specs.Playing.{body_number, in_order, put}

-- a name that stands before another does not stand after it
not_behind : (a b : Name) → name_lt a b ≡ true → name_lt b a ≡ false
not_behind a b before =
    elim (cases_Bool (name_lt b a)) [
      | inl behind ↦
          absurd (true≢false (sym (name_lt_trans a b a before behind) ∙ name_lt_itself a))
      | inr other ↦ other
    ]

-- two names are put in whichever order
put_before : (a b : Name) (xs : List Name) → name_lt a b ≡ true
    → put a (put b xs) ≡ put b (put a xs)
put_before a b [] before = let other = not_behind a b before in rw (before, other) refl
put_before a b (c ∷ cs) before =
    elim (cases_Bool (name_lt b c)) [
      | inl less ↦
          let other = not_behind a b before in
          let first = name_lt_trans a b c before less in
          rw (less, before, first, other, less) refl
      | inr no_less ↦ elim (cases_Bool (name_lt a c)) [
        | inl first ↦
            let other = not_behind a b before in
            rw (no_less, first, other, no_less) refl
        | inr not_first ↦
            rw (no_less, not_first, no_less)
            (ap (λ (ns : List Name). c ∷ ns) (put_before a b cs before))
      ]
    ]

put_either : (a b : Name) (xs : List Name) → name_eq a b ≡ false
    → put a (put b xs) ≡ put b (put a xs)
put_either a b xs apart =
    elim (name_three a b) [
      | inl before ↦ put_before _ _ xs before
      | inr (inl behind) ↦ sym (put_before _ _ xs behind)
      | inr (inr same) ↦
          absurd (true≢false (sym (rw (← same) (name_eq_refl a)) ∙ apart))
    ]

-- a name without a body is not the first of the given ones, nor has it one by the others
given_apart : (p : Name × ℕ) (ps : List (Name × ℕ)) (a : Name) → body_number (p ∷ ps) a ≡ None
    → (name_eq p.0 a ≡ false) × (body_number ps a ≡ None)
given_apart p ps a bare = by (name_eq p.0 a) refl bare
  where
    by : (t : Bool) → name_eq p.0 a ≡ t → (if t then Some p.1 else body_number ps a) ≡ None
        → (name_eq p.0 a ≡ false) × (body_number ps a ≡ None)
    by true same none = cc
    by false other none = (other, none)

-- one name more, which has no body, comes to its place
pub in_order_more : (given : List (Name × ℕ)) (a : Name) (body : ℕ) → body_number given a ≡ None
    → in_order (given ++ (a, body) ∷ []) ≡ put a (in_order given)
in_order_more [] a body bare = refl
in_order_more (p ∷ ps) a body bare =
    let apart = given_apart p ps a bare in
    ap (put p.0) (in_order_more ps a body apart.1) ∙ put_either _ _ (in_order ps) apart.0

pub body_number_more : (given : List (Name × ℕ)) (a : Name) (body : ℕ) (q : Name)
    → body_number given a ≡ None
    → body_number (given ++ (a, body) ∷ []) q
    ≡ cond (is_eq (name_cmp a q)) (Some body) (body_number given q)
body_number_more [] a body q bare =
    by (name_eq a q) ∙ ap (λ t. cond t (Some body) None) (name_ties a q)
  where
    by : (t : Bool) → (if t then Some body else None) ≡ cond t (Some body) None
    by true = refl
    by false = refl
body_number_more (p ∷ ps) a body q bare =
    elim (cases_Bool (name_eq p.0 q)) [
      | inl same ↦
          let apart = given_apart p ps a bare in
          let other : name_eq a q ≡ false =
          elim (cases_Bool (name_eq a q)) [
            | inl tied ↦
                absurd (true≢false (sym (subst (λ (n : Name). name_eq p.0 n ≡ true) (sym
                (name_eq_same _ _ tied)) same) ∙ apart.0))
            | inr away ↦ away
          ] in
          ap (λ t. if t then Some p.1 else body_number (ps ++ (a, body) ∷ []) q) same ∙ sym (ap (λ
          t. cond t (Some body) (if name_eq p.0 q then Some p.1 else body_number ps q)) (sym
          (name_ties a q) ∙ other) ∙ ap (λ t. if t then Some p.1 else body_number ps q) same)
      | inr other ↦
          ap (λ t. if t then Some p.1 else body_number (ps ++ (a, body) ∷ []) q) other ∙
          body_number_more ps a body q (given_apart p ps a bare).1 ∙ ap (λ o. cond (is_eq (name_cmp
          a q)) (Some body) o) (sym (ap (λ t. if t then Some p.1 else body_number ps q) other))
    ]

-- an action that was given a body has one
pub has_body : (given : List (Name × ℕ)) (i : ℕ) (p : Name × ℕ) → slice_get given i ≡ Some p
    → is_some (body_number given p.0) ≡ true
has_body [] i p there = cc
has_body (e ∷ given) zero p there =
    ap (λ t. is_some (if t then Some e.1 else body_number given p.0))
    (ap (λ (q : Name × ℕ). name_eq e.0 q.0) (sym (same_Some e p there)) ∙ name_eq_refl e.0)
has_body (e ∷ given) (suc i) p there = by (name_eq e.0 p.0) (has_body given i p there)
  where
    by : (t : Bool) → is_some (body_number given p.0) ≡ true
        → is_some (if t then Some e.1 else body_number given p.0) ≡ true
    by true rest = refl
    by false rest = rest

-- a name that has no entry comes to its place among the keys
pub insert_is_put : (es : List (Name × ℕ)) (a : Name) (body : ℕ)
    → lookup (is_at (name_cmp a)) es ≡ None
    → keys_of (insert_entry name_cmp es a body) ≡ put a (keys_of es)
insert_is_put [] a body none = refl
insert_is_put (e ∷ es) a body none =
    by (insert_is_put es a body) (name_cmp a e.0) refl none
  where
    by : (lookup (is_at (name_cmp a)) es ≡ None
        → keys_of (insert_entry name_cmp es a body) ≡ put a (keys_of es))
        → (o : Ordering) → name_cmp a e.0 ≡ o
        → cond (is_eq o) (Some e.1) (lookup (is_at (name_cmp a)) es) ≡ None
        → keys_of (match_ordering o ((a, body) ∷ e ∷ es) ((e.0, body) ∷ es)
        (e ∷ insert_entry name_cmp es a body)) ≡ put a (e.0 ∷ keys_of es)
    by ih Less h none = let less : name_lt a e.0 ≡ true = ap is_lt h in rw less refl
    by ih Equal h none = cc
    by ih Greater h none =
        let no_less : name_lt a e.0 ≡ false = ap is_lt h in
        rw no_less (ap (λ (ns : List Name). e.0 ∷ ns) (ih none))
