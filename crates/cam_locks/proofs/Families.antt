-- The operations of a family are those below its top action.
use Rattle.std.proofs.Common.{◌≡◌, ◌<◌, Bool, true, false, ◌||◌, cond, List, [], ◌∷◌, length, Option, Some, None, is_some, refl, sym, ap, ◌∙◌, arith}
use Rattle.std.specs.Prelude.{filter, IfSome, IfNone}
use Rattle.std.specs.List.{list_any}
use Rattle.cam_names.specs.declared.name.Name.{Name}
use Rattle.cam_names.specs.Part.{part_eq}
use Rattle.cam_names.specs.Names.{name_eq, is_ancestor, family}
use Rattle.cam_locks.specs.declared.LiveOp.{LiveOp}
use Rattle.cam_locks.specs.Members.{In}
use Rattle.cam_locks.specs.Calls.{is_below, is_of}
use Rattle.cam_locks.proofs.Bools.{and_no}
use Rattle.cam_locks.proofs.Members.{any_member, any_passes}

-- a name of one part is a family's, and no other is
pub top_of : (f a : Name) → length f ≡ 1 → name_eq f (family a) ≡ is_ancestor f a
top_of [] a one = absurd (omega (arith, one))
top_of (p ∷ []) [] one = refl
top_of (p ∷ []) (q ∷ a) one = refl
top_of (p ∷ r ∷ f) a one = absurd (omega (arith, one))

pub deep_of : (f a : Name) → 1 < length f → name_eq f (family a) ≡ false
deep_of [] a deep = absurd (omega (arith, deep))
deep_of (p ∷ []) a deep = absurd (omega (arith, deep))
deep_of (p ∷ r ∷ f) [] deep = refl
deep_of (p ∷ r ∷ f) (q ∷ a) deep = and_no (part_eq p q)

-- no operation is of a family whose name is no top action's
pub no_family : (f : Name) (os : List LiveOp) → 1 < length f → [] ≡ filter (is_of f) os
no_family f [] deep = refl
no_family f (o ∷ os) deep = no_family f os deep ∙ sym (ap (λ (b : Bool). cond b (o ∷ filter (is_of f) os) (filter (is_of f) os)) (deep_of f o.action deep))

-- nor is there one
pub none_of : (f : Name) (os : List LiveOp) → 1 < length f → list_any (is_of f) os ≡ false
none_of f [] deep = refl
none_of f (o ∷ os) deep = ap (λ (b : Bool). b || list_any (is_of f) os) (deep_of f o.action deep) ∙ none_of f os deep

-- so one below it tells whether there is one
pub some_of : (f : Name) (os : List LiveOp) (r : Option LiveOp) → length f ≡ 1
    → IfSome r (λ o. In o os × (is_below f o ≡ true)) → IfNone r ((o : LiveOp) → In o os → is_below f o ≡ false) → is_some r ≡ list_any (is_of f) os
some_of f os None one some none = by_test (list_any (is_of f) os) refl
  where
    by_test : (b : Bool) → list_any (is_of f) os ≡ b → false ≡ b
    by_test false e = refl
    by_test true e =
        let found = any_member (is_of f) os e in
        let no : true ≡ false = sym found.2 ∙ top_of f found.0.action one ∙ none found.0 found.1 in cc
some_of f os (Some o) one some none = sym (any_passes (is_of f) o os some.0 (top_of f o.action one ∙ some.1))
