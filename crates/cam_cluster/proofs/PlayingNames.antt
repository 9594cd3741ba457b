-- The names of the actions that play on are, in order, those of the actions with a body but for
-- some
-- that are over.
use Rattle.std.proofs.Common.{◌≡◌, ℕ, zero, suc, inl, inr, Bool, true, false, not, ◌&&◌, ◌||◌}
use Rattle.std.proofs.Common.{if◌then◌else◌, cond, List, [], ◌∷◌, take, Some, refl, sym, ap, ◌∙◌}
use Rattle.std.proofs.Common.{subst}
use Rattle.std.specs.Prelude.{filter, is_some}
use Rattle.std.specs.Ordering.{is_eq}
use Rattle.std.specs.BTreeMap.{get, is_at}
use Rattle.std.specs.BTreeSet.{BTreeSet, contains}
use Rattle.std.specs.List.{AllByRecursion, list_any}
use Rattle.std.specs.List.Sorted.{IsStrictlySortedBy}
use Rattle.std.specs.Map.{keys_of, lookup}
use Rattle.std.proofs.lemmas.Bool.{cases_Bool}
use Rattle.std.proofs.lemmas.List.Kept.{IsStrictlySortedBy-filter}
use Rattle.std.proofs.lemmas.Map.Lookups.{btree_set_from_contains}
use Rattle.std.proofs.lemmas.Map.Views.{any-filter_same}
use Rattle.cam_names.specs.declared.name.Name.{Name}
use Rattle.cam_names.specs.Names.{name_cmp}
use Rattle.cam_names.proofs.Order.{name_total}
use Rattle.cam_runs.specs.Playing.{in_order}
use Rattle.cam_runs.specs.Standing.{Standing}
use Rattle.cam_cluster.specs.declared.workers.Workers.{Workers}
use Rattle.cam_cluster.specs.Workers.{HaveCaughtUp, plays_on}
use Rattle.cam_cluster.proofs.Playing.{tied}

-- a key is found where it has an entry
found_where : (test : Name → Bool) (es : List (Name × ℕ))
    → list_any test (keys_of es) ≡ is_some (lookup test es)
found_where test [] = refl
found_where test (e ∷ es) = by (test e.0) (found_where test es)
  where
    by : (t : Bool) → list_any test (keys_of es) ≡ is_some (lookup test es)
        → (t || list_any test (keys_of es)) ≡ is_some (cond t (Some e.1) (lookup test es))
    by true rest = refl
    by false rest = rest

-- of those with a body, who plays on is kept by the test
kept_is : (plays there : Bool) → (plays ≡ true → there ≡ true)
    → plays ≡ ((plays || not there) && there)
kept_is true there given = sym (given refl)
kept_is false true given = refl
kept_is false false given = refl

pub names_playing : (st : Standing) (workers : Workers) → HaveCaughtUp st workers
    → workers.playing.keys ≡ filter (plays_on workers) (in_order st.running.bodies)
names_playing st workers caught =
    btree_set_from_contains name_total workers.playing kept caught.playing.ordered
    (IsStrictlySortedBy-filter name_cmp (plays_on workers) (in_order st.running.bodies) (subst
    (IsStrictlySortedBy name_cmp) caught.table.names caught.table.ordered)) same (λ a b equal. tied
    _ _ (ap is_eq equal))
  where
    kept : BTreeSet Name
    kept = record { keys = filter (plays_on workers) (in_order st.running.bodies) }

    there : (q : Name) → list_any (is_at (name_cmp q)) (in_order st.running.bodies)
        ≡ is_some (get name_cmp workers.bodies q)
    there q =
        ap (λ (ks : List Name). list_any (is_at (name_cmp q)) ks) (sym caught.table.names)
        ∙ found_where (is_at (name_cmp q)) workers.bodies.entries

    same : (q : Name) → contains name_cmp workers.playing q ≡ contains name_cmp kept q
    same q =
        kept_is _ _ (λ plays. ap is_some (caught.table.at q) ∙ caught.playing.at_body q plays) ∙
        ap (λ (b : Bool). plays_on workers q && b) (sym (there q)) ∙ sym (any-filter_same (is_at
        (name_cmp q)) (plays_on workers) (plays_on workers q) (λ k equal. ap (plays_on workers) (sym
        (tied _ _ equal))) (in_order st.running.bodies))

-- what holds of all names holds of those that are kept
pub kept_all : (P : Name → Type 0) (kept : Name → Bool) (names : List Name)
    → AllByRecursion P names → AllByRecursion P (filter kept names)
kept_all P kept [] all = tt
kept_all P kept (a ∷ names) all = by (kept a) (kept_all P kept names all.1)
  where
    by : (t : Bool) → AllByRecursion P (filter kept names)
        → AllByRecursion P (cond t (a ∷ filter kept names) (filter kept names))
    by true rest = (all.0, rest)
    by false rest = rest

-- The first of the names that are kept, so many, are those that are kept of the first of all.
pub reach : (Name → Bool) → List Name → ℕ → ℕ
reach kept [] n = zero
reach kept (a ∷ names) zero = zero
reach kept (a ∷ names) (suc n) =
    suc (if kept a then reach kept names n else reach kept names (suc n))

pub reached : (kept : Name → Bool) (names : List Name) (n : ℕ)
    → take n (filter kept names) ≡ filter kept (take (reach kept names n) names)
unfolding reach
reached kept [] zero = refl
reached kept [] (suc n) = refl
reached kept (a ∷ names) zero = refl
reached kept (a ∷ names) (suc n) =
    elim (cases_Bool (kept a)) [
      | inl has_turn ↦
          rw has_turn (ap (λ (ns : List Name). a ∷ ns) (reached kept names n))
      | inr left ↦ rw left (reached kept names (suc n))
    ]
