-- The newest operation is taken back: what is live then.
use Rattle.std.proofs.Common.{◌≡◌, ℕ, ◌+◌, ◌≤◌, ◌<◌, eqb, Bool, true, false, not, cond, List, []}
use Rattle.std.proofs.Common.{◌∷◌, ◌++◌, length, Option, Some, None, suc, refl, sym, ap, subst, ◌∙◌}
use Rattle.std.proofs.Common.{arith}
use Rattle.std.proofs.Math.Logic.{inl, inr}
use Rattle.std.specs.Prelude.{filter, option_to_list}
use Rattle.std.specs.BTreeSet.{BTreeSet}
use Rattle.std.proofs.lemmas.Bool.{cases_Bool}
use Rattle.std.proofs.lemmas.List.{map-append, append-nil}
use Rattle.std.proofs.lemmas.List.Elements.{filter-append}
use Rattle.cam_locks.specs.declared.LiveOp.{LiveOp}
use Rattle.cam_locks.specs.declared.live.Slot.{Slot}
use Rattle.cam_locks.specs.declared.placed.Placed.{Placed}
use Rattle.cam_locks.specs.Members.{In}
use Rattle.cam_locks.specs.Site.{IndicesRise}
use Rattle.cam_locks.specs.Live.{all_of, live_of, IsLive, other}
use Rattle.cam_locks.specs.Holding.{has_op}
use Rattle.cam_locks.proofs.Indices.{rise_later}
use Rattle.cam_locks.proofs.Members.{in_either, in_last, below, has_member, member_at}
use Rattle.cam_locks.proofs.Slots.{kept, ops, slots_rise}
use Rattle.cam_locks.proofs.DroppedSlots.{without_none}
use Rattle.cam_locks.proofs.LiveOperations.{slot, live_pushed, IsSet, is_live_dropped}

-- Indices rise up to the last one, and that is below the next.
pub rise_split : (low : ℕ) (os : List LiveOp) (o : LiveOp) (next : ℕ)
    → IndicesRise low (os ++ o ∷ []) next → IndicesRise low os o.index × (o.index < next)
rise_split low [] o next rise = let to : suc o.index ≤ next = rise.1 in (rise.0, omega arith)
rise_split low (p ∷ os) o next rise = let rest =
    rise_split (suc p.index) os o next rise.1 in ((rise.0, rest.0), rest.1)

-- an index that is above all of them is of none
none_there : (os : List LiveOp) (i : ℕ) → IndicesRise 0 os i → has_op os i ≡ false
none_there os i rise =
    elim (cases_Bool (has_op os i)) [
      | inl is ↦
          let p = member_at os i is in
          let lt : p.0.index < i = below 0 os i p.0 rise p.1 in
          let same : p.0.index ≡ i = p.2 in
          absurd (omega (arith, lt, same))
      | inr absent ↦ absent
    ]

pub same_index : (i : ℕ) → eqb i i ≡ true
same_index i = grind arith

-- All but the last one are what was before it.
pub without_last : (os : List LiveOp) (o : LiveOp) → IndicesRise 0 os o.index
    → filter (other o.index) (os ++ o ∷ []) ≡ os
without_last os o rise =
    filter-append (other o.index) os (o ∷ [])
    ∙ (λ i. without_none os o.index (none_there os o.index rise) i
    ++ cond (not (same_index o.index i)) (o ∷ []) [])
    ∙ append-nil os

-- the slot of an operation under the last index is the last
last_slot : (front : List Slot) (s : Slot) (next : ℕ) (o : LiveOp)
    → IndicesRise 0 (all_of (front ++ s ∷ [])) next → In o (live_of (front ++ s ∷ []))
    → next ≡ o.index + 1
    → s ≡ slot o
last_slot front s next o rise there is =
    by s.is_dropped refl (subst (λ (os : List LiveOp). In o os) split there)
  where
    parts : IndicesRise 0 (all_of front) s.operation.index × (s.operation.index < next)
    parts = rise_split 0 (all_of front) s.operation next
        (subst (λ (os : List LiveOp). IndicesRise 0 os next)
        (map-append (λ (t : Slot). t.operation) front (s ∷ [])) rise)

    split : live_of (front ++ s ∷ []) ≡ live_of front ++ ops (cond (not s.is_dropped) (s ∷ []) [])
    split =
        ap ops (filter-append (λ (t : Slot). not t.is_dropped) front (s ∷ []))
        ∙ map-append (λ (t : Slot). t.operation) (kept front) (cond (not s.is_dropped) (s ∷ []) [])

    not_before : In o (live_of front) → ⊥
    not_before h =
        let lt : o.index < s.operation.index =
        below 0 (live_of front) s.operation.index o
        (slots_rise 0 front s.operation.index parts.0) h in
        let to : s.operation.index < next = parts.1 in
        omega (arith, lt, to, is)

    by : (d : Bool) → s.is_dropped ≡ d → In o (live_of front ++ ops (cond (not d) (s ∷ []) []))
        → s ≡ slot o
    by true dropped h = absurd (not_before
        (subst (λ (os : List LiveOp). In o os) (append-nil (live_of front)) h))
    by false stays h =
        elim (in_either o (live_of front) (s.operation ∷ []) h) [
          | inl before ↦ absurd (not_before before)
          | inr last ↦ λ i. record {
            operation = sym (in_last o s.operation last) i;
            is_dropped = stays i;
          }
        ]

pub is_live_taken : (front : List Slot) (s : Slot) (old new : BTreeSet Placed) (next : ℕ)
    (o : LiveOp) → IsLive (front ++ s ∷ []) old next → In o (live_of (front ++ s ∷ []))
    → next ≡ o.index + 1 → IsSet old new o false
    → IsLive front new o.index × (live_of front
    ≡ filter (other o.index) (live_of (front ++ s ∷ [])))
is_live_taken front s old new next o live there is taken = (
  record {
    rising = rises;
    bound = let bound : next ≤ 1000000000 = live.bound in omega (arith, bound, is);
    named = (is_live_dropped (front ++ s ∷ []) front old new next o live there left
        (rise_later 0 (all_of front) o.index next (omega (arith, is)) rises) taken).named;
  },
  left,
)
  where
    at : s ≡ slot o
    at = last_slot front s next o live.rising there is

    rises : IndicesRise 0 (all_of front) o.index
    rises =
        subst (λ (t : Slot). IndicesRise 0 (all_of front) t.operation.index) at
        (rise_split 0 (all_of front) s.operation next
        (subst (λ (os : List LiveOp). IndicesRise 0 os next)
        (map-append (λ (t : Slot). t.operation) front (s ∷ [])) live.rising)).0

    left : live_of front ≡ filter (other o.index) (live_of (front ++ s ∷ []))
    left =
        sym (ap (λ (t : Slot). filter (other o.index) (live_of (front ++ t ∷ []))) at ∙ ap
        (filter (other o.index)) (live_pushed front o)
        ∙ without_last (live_of front) o (slots_rise 0 front o.index rises))

-- a list without slots has no operations
nothing : (ss : List Slot) → length ss ≡ 0 → (o : LiveOp) → In o (live_of ss) → ⊥
nothing [] none o h = h
nothing (s ∷ ss) none o h = absurd (omega (arith, none))

-- The last slot is taken out.
pub is_live_popped : (slots front : List Slot) (popped : Option Slot) (old new : BTreeSet Placed)
    (next : ℕ) (o : LiveOp)
    → slots ≡ front ++ option_to_list popped → (popped ≡ None → length slots ≡ 0)
    → IsLive slots old next → In o (live_of slots) → next ≡ o.index + 1
    → IsSet old new o false → IsLive front new o.index
    × (live_of front ≡ filter (other o.index) (live_of slots))
is_live_popped slots front None old new next o split none live there is taken =
    absurd (nothing slots (none refl) o there)
is_live_popped slots front (Some s) old new next o split none live there is taken =
    let r = is_live_taken front s old new next o
    (subst (λ (ss : List Slot). IsLive ss old next) split live)
    (subst (λ (ss : List Slot). In o (live_of ss)) split there) is taken in
    (r.0, r.1 ∙ ap (λ (ss : List Slot). filter (other o.index) (live_of ss)) (sym split))

-- an index that is not there is of none
pub not_there : (os : List LiveOp) (i next : ℕ) (o : LiveOp) → has_op os i ≡ false → next ≡ i + 1
    → In o os → next ≡ o.index + 1 → ⊥
not_there os i next o absent is there also =
    let same : o.index ≡ i = omega (arith, is, also) in
    let wrong : true ≡ false = sym (has_member os o there) ∙ ap (has_op os) same ∙ absent in cc
