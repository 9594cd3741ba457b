-- The live operations as they are kept, through each call.
use Rattle.std.proofs.Common.{◌≡◌, ℕ, ◌+◌, ◌≤◌, Bool, true, false, not, cond, List, [], ◌∷◌, ◌++◌, map, suc, refl, sym, ap, subst, ◌∙◌, arith}
use Rattle.std.specs.Prelude.{filter}
use Rattle.std.specs.Ordering.{is_eq}
use Rattle.std.specs.BTreeSet.{BTreeSet, contains}
use Rattle.std.proofs.lemmas.List.{map-append}
use Rattle.std.proofs.lemmas.List.Elements.{filter-append}
use Rattle.cam_locks.specs.declared.LiveOp.{LiveOp}
use Rattle.cam_locks.specs.declared.live.Slot.{Slot}
use Rattle.cam_locks.specs.declared.placed.Placed.{Placed}
use Rattle.cam_locks.specs.Members.{In}
use Rattle.cam_locks.specs.Site.{IndicesRise}
use Rattle.cam_locks.specs.Placed.{placed_cmp, placed_of, has_placed}
use Rattle.cam_locks.specs.Live.{all_of, live_of, IsLive, other}
use Rattle.cam_locks.proofs.Indices.{rise_from_lower, rise_above, rise_later}
use Rattle.cam_locks.proofs.Slots.{kept, slots_rise}
use Rattle.cam_locks.proofs.NamedOperations.{named_pushed, named_dropped}

abbrev pub slot : LiveOp → Slot
slot o = record { operation = o; is_dropped = false }

-- what is live with one more slot
pub live_pushed : (ss : List Slot) (o : LiveOp) → live_of (ss ++ slot o ∷ []) ≡ live_of ss ++ o ∷ []
live_pushed ss o =
    ap (map (λ (s : Slot). s.operation)) (filter-append (λ (s : Slot). not s.is_dropped) ss (slot o ∷ []))
    ∙ map-append (λ (s : Slot). s.operation) (kept ss) (slot o ∷ [])

-- the set has one place more, or one less
abbrev pub IsSet : BTreeSet Placed → BTreeSet Placed → LiveOp → Bool → Type 0
IsSet old new o b = (q : Placed) → contains placed_cmp new q ≡ cond (is_eq (placed_cmp (placed_of o) q)) b (contains placed_cmp old q)

-- no operations
pub is_live_new : (ss : List Slot) (by_name : BTreeSet Placed) → ss ≡ [] → by_name.keys ≡ [] → IsLive ss by_name 0
is_live_new ss by_name none empty = record {
  rising = subst (λ (ks : List Slot). IndicesRise 0 (all_of ks) 0) (sym none) (omega arith);
  bound = omega arith;
  named = λ p. rw (empty, none) refl;
}

-- one more operation
pub is_live_pushed : (ss : List Slot) (old new : BTreeSet Placed) (next : ℕ) (o : LiveOp) → IsLive ss old next → next ≤ o.index → o.index ≤ 999999999
    → IsSet old new o true → IsLive (ss ++ slot o ∷ []) new (o.index + 1)
is_live_pushed ss old new next o live le range put = record {
  rising = subst (λ (os : List LiveOp). IndicesRise 0 os (o.index + 1)) (sym (map-append (λ (s : Slot). s.operation) ss (slot o ∷ []))) (rise_above 0 (all_of ss) next o le live.rising);
  bound = omega (arith, range);
  named = λ q.
      put q ∙ ap (cond (is_eq (placed_cmp (placed_of o) q)) true) (live.named q)
      ∙ named_pushed (live_of ss) o q ∙ ap (λ (os : List LiveOp). has_placed os q) (sym (live_pushed ss o));
}

-- a later next index
pub is_live_raised : (ss : List Slot) (by_name : BTreeSet Placed) (next later : ℕ) → IsLive ss by_name next → next ≤ later → later ≤ 1000000000 → IsLive ss by_name later
is_live_raised ss by_name next later live le range =
    record { rising = rise_later 0 (all_of ss) next later le live.rising; bound = range; named = live.named }

-- one operation less
pub is_live_dropped : (ss rest : List Slot) (old new : BTreeSet Placed) (next : ℕ) (o : LiveOp) → IsLive ss old next → In o (live_of ss)
    → live_of rest ≡ filter (other o.index) (live_of ss) → IndicesRise 0 (all_of rest) next → IsSet old new o false → IsLive rest new next
is_live_dropped ss rest old new next o live there is rise taken = record {
  rising = rise;
  bound = live.bound;
  named = λ q.
      taken q ∙ ap (cond (is_eq (placed_cmp (placed_of o) q)) false) (live.named q)
      ∙ named_dropped (live_of ss) next o q (slots_rise 0 ss next live.rising) there ∙ ap (λ (os : List LiveOp). has_placed os q) (sym is);
}

-- a sweep takes slots out
pub swept_rise : (low : ℕ) (ss : List Slot) (next : ℕ) → IndicesRise low (all_of ss) next → IndicesRise low (all_of (filter (λ s. not s.is_dropped) ss)) next
swept_rise low [] next h = h
swept_rise low (s ∷ ss) next h = by_drop s.is_dropped (swept_rise (suc s.operation.index) ss next h.1)
  where
    by_drop : (d : Bool) → IndicesRise (suc s.operation.index) (all_of (kept ss)) next → IndicesRise low (all_of (cond (not d) (s ∷ kept ss) (kept ss))) next
    by_drop true rest = let from : low ≤ s.operation.index = h.0 in rise_from_lower (suc s.operation.index) low (all_of (kept ss)) next (omega arith) rest
    by_drop false rest = (h.0, rest)
