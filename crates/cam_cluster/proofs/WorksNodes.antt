-- The nodes of works, of which one has changed.
use Rattle.std.proofs.Common.{◌≡◌, ◌⊎◌, inl, inr, ℕ, ◌<◌, List, length}
use Rattle.std.proofs.Common.{set, Some, sym, ap, ◌∙◌, arith}
use Rattle.std.specs.Prelude.{slice_get, option_map}
use Rattle.std.proofs.lemmas.Bool.Decides.{eqb_tells, leb_tells}
use Rattle.std.proofs.lemmas.List.{get_or-set_same, get_or-set_other, length-set, map-set}
use Rattle.std.proofs.lemmas.Option.{same_Some, slice_get-map, slice_get-get_or, slice_get_past}
use Rattle.cam_cluster.specs.Works.{NodeFields, sites_of}

pub at_set : {X : Type 0} (xs : List X) (i : ℕ) (v : X) → i < length xs
    → slice_get (set xs i v) i ≡ Some v
at_set xs i v less =
    slice_get-get_or (set xs i v) i v (omega (arith, less, length-set xs i v))
    ∙ ap Some (get_or-set_same xs i v v less)

pub off_set : {X : Type 0} (xs : List X) (i k : ℕ) (v : X) → (k ≡ i → ⊥)
    → slice_get (set xs i v) k ≡ slice_get xs k
off_set xs i k v other = elim (leb_tells (length xs) k) [
  | inl past ↦
      slice_get_past (set xs i v) k (omega (arith, past.1, length-set xs i v))
      ∙ sym (slice_get_past xs k (omega (arith, past.1)))
  | inr within ↦
      slice_get-get_or (set xs i v) k v (omega (arith, within.1, length-set xs i v))
      ∙ ap Some (get_or-set_other xs i k v v other)
      ∙ sym (slice_get-get_or xs k v (omega (arith, within.1)))
]

-- what stands at a place of the changed list: the new one there, and elsewhere what stood there
pub set_tells : {X : Type 0} (xs : List X) (i k : ℕ) (v x : X) → i < length xs
    → slice_get (set xs i v) k ≡ Some x
    → ((k ≡ i) × (v ≡ x)) ⊎ ((k ≡ i → ⊥) × (slice_get xs k ≡ Some x))
set_tells xs i k v x less at = elim (eqb_tells k i) [
  | inl y ↦ inl (
    y.1,
    same_Some v x
        (sym (at_set _ _ v less) ∙ ap (slice_get (set xs i v)) (sym y.1) ∙ at),
  )
  | inr n ↦ inr (n.1, sym (off_set xs _ _ v n.1) ∙ at)
]

pub site_there : (nodes : List NodeFields) (place : ℕ) (node : NodeFields)
    → slice_get nodes place ≡ Some node → slice_get (sites_of nodes) place ≡ Some node.site
site_there nodes place node at =
    slice_get-map (λ (n : NodeFields). n.site) nodes place
    ∙ ap (option_map (λ (n : NodeFields). n.site)) at

pub sites_set : (nodes : List NodeFields) (place : ℕ) (node : NodeFields)
    → sites_of (set nodes place node) ≡ set (sites_of nodes) place node.site
sites_set nodes place node = map-set (λ (n : NodeFields). n.site) nodes place node
