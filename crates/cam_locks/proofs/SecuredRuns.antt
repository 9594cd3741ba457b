-- What was secured of several families along the run of a site can be restored.
use Rattle.std.proofs.Common.{◌≡◌, ◌⊎◌, ℕ, ◌≤◌, ◌<◌, eqb, Bool, true, false, cond, List, [], ◌∷◌, ◌++◌, map, suc, refl, sym, ap, subst, ◌∙◌, arith}
use Rattle.std.proofs.Math.Logic.{inl, inr}
use Rattle.std.specs.Prelude.{filter}
use Rattle.cam_names.specs.declared.name.Name.{Name}
use Rattle.cam_names.specs.Names.{name_eq, family}
use Rattle.cam_names.proofs.Names.{name_eq_same}
use Rattle.cam_type.specs.declared.ObjectDecl.{ObjectDecl}
use Rattle.cam_type.specs.declared.Held.{Held}
use Rattle.cam_type.specs.declared.HeldOp.{HeldOp}
use Rattle.cam_locks.specs.declared.LiveOp.{LiveOp}
use Rattle.cam_locks.specs.Members.{In}
use Rattle.cam_locks.specs.Site.{Site, IndicesRise, AreFit}
use Rattle.cam_locks.specs.Calls.{is_of, held_op}
use Rattle.cam_locks.specs.Restored.{all_held, has_index, MayBeHeld}
use Rattle.cam_locks.specs.Secured.{has_held, AreSecured, IsWellFormed, IsLater, Secured, all_secured, AreOfRun, WereSecured}
use Rattle.cam_locks.proofs.Bools.{or_parts, or_false}
use Rattle.cam_locks.proofs.Indices.{next_at_least}
use Rattle.cam_locks.proofs.Members.{below, same_op}

abbrev held_of : Name → List LiveOp → List HeldOp
held_of f os = map held_op (filter (is_of f) os)

absent_both : (hs gs : List HeldOp) (i : ℕ) → has_index hs i ≡ false → has_index gs i ≡ false → has_index (hs ++ gs) i ≡ false
absent_both [] gs i h k = k
absent_both (g ∷ hs) gs i h k =
    let parts = or_parts (eqb g.index i) (has_index hs i) h in
    or_false (eqb g.index i) (has_index (hs ++ gs) i) parts.0 (absent_both hs gs i parts.1 k)

-- an index below those of a list stands not in what is held of it
absent_below : (f : Name) (low : ℕ) (os : List LiveOp) (next i : ℕ) → IndicesRise low os next → i < low → has_index (held_of f os) i ≡ false
absent_below f low [] next i rise lt = refl
absent_below f low (o ∷ os) next i rise lt = by_test (is_of f o) (absent_below f (suc o.index) os next i rise.1 (omega (arith, from)))
  where
    from : low ≤ o.index
    from = rise.0

    by_test : (b : Bool) → has_index (held_of f os) i ≡ false → has_index (map held_op (cond b (o ∷ filter (is_of f) os) (filter (is_of f) os))) i ≡ false
    by_test true rest = or_false (eqb o.index i) (has_index (held_of f os) i) (grind (arith, from, lt)) rest
    by_test false rest = rest

-- what is held of one family, before what is held of others
family_held : (objects : List ObjectDecl) (node : ℕ) (f : Name) (low : ℕ) (os : List LiveOp) (next : ℕ) (gs : List HeldOp)
    → IndicesRise low os next → next ≤ 1000000000 → AreFit objects node os → MayBeHeld objects node gs
    → ((o : LiveOp) → In o os → is_of f o ≡ true → has_index gs o.index ≡ false) → MayBeHeld objects node (held_of f os ++ gs)
family_held objects node f low [] next gs rise range fit may apart = may
family_held objects node f low (o ∷ os) next gs rise range fit may apart =
    by_test (is_of f o) refl (family_held objects node f (suc o.index) os next gs rise.1 range fit.1 may (λ p k. apart p (inr k)))
  where
    on : suc o.index ≤ next
    on = next_at_least (suc o.index) os next rise.1

    by_test : (b : Bool) → is_of f o ≡ b → MayBeHeld objects node (held_of f os ++ gs)
        → MayBeHeld objects node (map held_op (cond b (o ∷ filter (is_of f) os) (filter (is_of f) os)) ++ gs)
    by_test true is rest = (
      fit.0,
      omega (arith, on, range),
      absent_both (held_of f os) gs o.index (absent_below f (suc o.index) os next o.index rise.1 (omega arith)) (apart o (inl refl) is),
      rest,
    )
    by_test false is rest = rest

-- what is held of a family has no index that none of its operations has
absent_when : (g : Name) (os : List LiveOp) (i : ℕ) → ((p : LiveOp) → In p os → is_of g p ≡ true → eqb p.index i ≡ false) → has_index (held_of g os) i ≡ false
absent_when g [] i apart = refl
absent_when g (o ∷ os) i apart = by_test (is_of g o) refl (absent_when g os i (λ p k. apart p (inr k)))
  where
    by_test : (b : Bool) → is_of g o ≡ b → has_index (held_of g os) i ≡ false → has_index (map held_op (cond b (o ∷ filter (is_of g) os) (filter (is_of g) os))) i ≡ false
    by_test true is rest = or_false (eqb o.index i) (has_index (held_of g os) i) (apart o (inl refl) is) rest
    by_test false is rest = rest

-- no operation is of two families
one_family : (f g : Name) (o p : LiveOp) → name_eq f g ≡ false → p ≡ o → is_of f o ≡ true → is_of g p ≡ true → ⊥
one_family f g o p apart e is too =
    let same : name_eq f g ≡ true = ap (name_eq f) (name_eq_same g (family p.action) too) ∙ ap (λ (q : LiveOp). is_of f q) e ∙ is in
    let wrong : true ≡ false = sym same ∙ apart in cc

-- at two moments of a run two operations with one index are the same
same_along : (s t : Site) → IsWellFormed s → IsWellFormed t → IsLater s t ⊎ IsLater t s → (o p : LiveOp) → In o s.live → In p t.live → p.index ≡ o.index → p ≡ o
same_along s t stands there (inl later) o p h k is = elim (later.live p k) [
  | inl j ↦ same_op 0 s.live s.next p o stands.rising j h is
  | inr since ↦ let lt : o.index < s.next = below 0 s.live s.next o stands.rising h in absurd (omega arith)
]
same_along s t stands there (inr later) o p h k is = elim (later.live o h) [
  | inl j ↦ same_op 0 t.live t.next p o there.rising k j is
  | inr since ↦ let lt : p.index < t.next = below 0 t.live t.next p there.rising k in absurd (omega arith)
]

absent_along : (s : Site) (f : Name) (o : LiveOp) (ms : List Secured) → IsWellFormed s → In o s.live → is_of f o ≡ true → has_held (all_secured ms) f ≡ false
    → AreOfRun s ms → WereSecured ms → has_index (all_held (all_secured ms)) o.index ≡ false
absent_along s f o [] stands h is none run secured = refl
absent_along s f o (m ∷ ms) stands h is none run secured =
    let g = m.held.family in
    let parts = or_parts (name_eq f g) (has_held (all_secured ms) f) none in
    subst (λ (ops : List HeldOp). has_index (ops ++ all_held (all_secured ms)) o.index ≡ false) (sym (ap (λ (k : Held). k.ops) secured.1))
    (absent_both (held_of g m.site.live) (all_held (all_secured ms)) o.index
    (absent_when g m.site.live o.index (λ p k too. by_test p k too parts.0 (eqb p.index o.index) refl))
    (absent_along s f o ms stands h is parts.1 run.1 secured.4))
  where
    by_test : (p : LiveOp) → In p m.site.live → is_of m.held.family p ≡ true → name_eq f m.held.family ≡ false → (b : Bool) → eqb p.index o.index ≡ b → b ≡ false
    by_test p k too apart true e =
        absurd (one_family f m.held.family o p apart (same_along s m.site stands secured.0 run.0 o p h k (grind (arith, e))) is too)
    by_test p k too apart false e = refl

-- What was secured along a run may be held.
pub along : (site : Site) (ms : List Secured) → AreOfRun site ms → WereSecured ms → MayBeHeld site.objects site.node (all_held (all_secured ms))
along site [] run secured = tt
along site (m ∷ ms) run secured =
    subst (λ (ops : List HeldOp). MayBeHeld site.objects site.node (ops ++ all_held (all_secured ms))) (sym (ap (λ (g : Held). g.ops) secured.1))
    (family_held site.objects site.node m.held.family 0 m.site.live m.site.next (all_held (all_secured ms)) secured.0.rising secured.0.range
    (subst (λ (n : ℕ). AreFit site.objects n m.site.live) (same_node run.0) (subst (λ (ds : List ObjectDecl). AreFit ds m.site.node m.site.live) (same_objects run.0) secured.0.fits))
    (along site ms run.1 secured.4) (λ o k is. absent_along m.site m.held.family o ms secured.0 k is secured.2 secured.3 secured.4))
  where
    same_objects : IsLater site m.site ⊎ IsLater m.site site → m.site.objects ≡ site.objects
    same_objects (inl later) = later.objects
    same_objects (inr later) = sym later.objects

    same_node : IsLater site m.site ⊎ IsLater m.site site → m.site.node ≡ site.node
    same_node (inl later) = later.node
    same_node (inr later) = sym later.node

-- at one moment
pub later_itself : (site : Site) → IsLater site site
later_itself site = record { objects = refl; node = refl; next = omega arith; live = λ o h. inl h }

all_at : (site : Site) (hs : List Held) → all_secured (map (λ h. record { site = site; held = h }) hs) ≡ hs
all_at site [] = refl
all_at site (h ∷ hs) = ap (λ (gs : List Held). h ∷ gs) (all_at site hs)

run_at : (site : Site) (hs : List Held) → AreOfRun site (map (λ h. record { site = site; held = h }) hs)
run_at site [] = tt
run_at site (h ∷ hs) = (inl (later_itself site), run_at site hs)

were_at : (site : Site) (hs : List Held) → IsWellFormed site → AreSecured site hs → WereSecured (map (λ h. record { site = site; held = h }) hs)
were_at site [] stands secured = tt
were_at site (h ∷ hs) stands secured = (
  stands,
  secured.0,
  subst (λ (gs : List Held). has_held gs h.family ≡ false) (sym (all_at site hs)) secured.1,
  run_at site hs,
  were_at site hs stands secured.2,
)

-- What is secured at one moment may be held.
pub can_restore : (site : Site) → IsWellFormed site → (hs : List Held) → AreSecured site hs → MayBeHeld site.objects site.node (all_held hs)
can_restore site stands hs secured =
    subst (λ (gs : List Held). MayBeHeld site.objects site.node (all_held gs)) (all_at site hs)
    (along site (map (λ h. record { site = site; held = h }) hs) (run_at site hs) (were_at site hs stands secured))
