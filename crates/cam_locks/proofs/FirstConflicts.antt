-- The first conflict is the earlier of the first that stands in the way in each mode.
use Rattle.std.proofs.Common.{◌≡◌, ℕ, ◌≤◌, ◌<◌, Bool, true, false, not, ◌&&◌, ◌||◌, ◌⊎◌, cond, List, Option, Some, None, refl, sym, ap, ◌∙◌, arith}
use Rattle.std.proofs.Math.Logic.{inl, inr}
use Rattle.std.specs.Prelude.{find, nat_le, option_and_then}
use Rattle.std.proofs.lemmas.Bool.{and_parts, and_from}
use Rattle.cam_names.specs.declared.name.Name.{Name}
use Rattle.cam_type.specs.declared.Op.{Op}
use Rattle.cam_type.specs.declared.Mode.{Mode}
use Rattle.cam_type.specs.declared.Mode.TheVariants as modes
use Rattle.cam_type.specs.Table.{mode_of, compatible}
use Rattle.cam_locks.specs.declared.LiveOp.{LiveOp}
use Rattle.cam_locks.specs.Members.{In}
use Rattle.cam_locks.specs.Site.{IndicesRise}
use Rattle.cam_locks.specs.Moss.{is_on, lift_of, op_of, holder_of, conflicts_on}
use Rattle.cam_locks.specs.Holding.{mode_eq, is_lock}
use Rattle.cam_locks.specs.Changes.{blocking, earlier, first_over}
use Rattle.cam_locks.proofs.Bools.{and_no, le_from, lt_from}
use Rattle.cam_type.specs.Moss.{conflicts}
use Rattle.cam_locks.proofs.Lists.{find_filter}
use Rattle.cam_locks.proofs.Modes.{same_mode, some_mode}
use Rattle.cam_locks.proofs.Members.{find_no, find_none_all, found_first, first_found}
use Rattle.cam_locks.proofs.LeaderLaws.{way}

-- of the conflicts whose operation has one of these modes, r is the first, or there is none
abbrev Leads : (Mode → Bool) → (LiveOp → Bool) → List LiveOp → Option LiveOp → Type 0
Leads among test os None = (p : LiveOp) → In p os → among (mode_of p.op) ≡ true → test p ≡ false
Leads among test os (Some o) = In o os × (test o ≡ true) × ((p : LiveOp) → In p os → among (mode_of p.op) ≡ true → test p ≡ true → o.index ≤ p.index)

blocking_leads : (x : ℕ) (ns : List Name) (os : List LiveOp) (next : ℕ) (a : Name) (op : Op) (m : Mode) → IndicesRise 0 os next
    → Leads (λ k. mode_eq k m) (conflicts_on ns a x op) os (blocking ns a x op m os)
blocking_leads x ns os next a op m rise = by_mode (compatible m (mode_of op)) refl
  where
    test : LiveOp → Bool
    test = conflicts_on ns a x op

    stands : LiveOp → Bool
    stands o = is_lock x m o && way a ns o

    to_stand : (p : LiveOp) → mode_eq (mode_of p.op) m ≡ true → test p ≡ true → stands p ≡ true
    to_stand p same passes =
        let one = and_parts (is_on x p) (way a ns p && not (compatible (mode_of p.op) (mode_of op))) passes in
        let two = and_parts (way a ns p) (not (compatible (mode_of p.op) (mode_of op))) one.1 in
        and_from (is_lock x m p) (way a ns p) (and_from (is_on x p) (mode_eq (mode_of p.op) m) one.0 same) two.0

    to_test : compatible m (mode_of op) ≡ false → (p : LiveOp) → stands p ≡ true → test p ≡ true
    to_test apart p passes =
        let one = and_parts (is_lock x m p) (way a ns p) passes in
        let two = and_parts (is_on x p) (mode_eq (mode_of p.op) m) one.0 in
        and_from (is_on x p) (way a ns p && not (compatible (mode_of p.op) (mode_of op))) two.0
        (and_from (way a ns p) (not (compatible (mode_of p.op) (mode_of op))) one.1
        (ap not (ap (λ (k : Mode). compatible k (mode_of op)) (same_mode (mode_of p.op) m two.1) ∙ apart)))

    false_by : (p : LiveOp) → (b : Bool) → test p ≡ b → (b ≡ true → stands p ≡ true) → stands p ≡ false → b ≡ false
    false_by p false is so fails = refl
    false_by p true is so fails = let wrong : true ≡ false = sym (so refl) ∙ fails in cc

    by_found : compatible m (mode_of op) ≡ false → (r : Option LiveOp) → find stands os ≡ r → Leads (λ k. mode_eq k m) test os r
    by_found apart None none = λ p h same. false_by p (test p) refl (λ t. to_stand p same t) (find_none_all stands os none p h)
    by_found apart (Some o) found =
        let f = found_first stands 0 os next o rise found in
        (f.member, to_test apart o f.passes, λ p h same t. f.first p h (to_stand p same t))

    by_mode : (b : Bool) → compatible m (mode_of op) ≡ b → Leads (λ k. mode_eq k m) test os (cond b None (find stands os))
    by_mode true joins = λ p h same.
        ap (λ (k : Mode). is_on x p && (way a ns p && not (compatible k (mode_of op)))) (same_mode (mode_of p.op) m same)
        ∙ ap (λ (c : Bool). is_on x p && (way a ns p && not c)) joins
        ∙ ap (λ (c : Bool). is_on x p && c) (and_no (way a ns p)) ∙ and_no (is_on x p)
    by_mode false apart = by_found apart (find stands os) refl

either_mode : (a b : Bool) → (a || b) ≡ true → (a ≡ true) ⊎ (b ≡ true)
either_mode true b h = inl refl
either_mode false b h = inr h

-- of those of two groups of modes the first is the earlier of the first two
earlier_leads : (one other : Mode → Bool) (test : LiveOp → Bool) (os : List LiveOp) (r w : Option LiveOp) → Leads one test os r → Leads other test os w
    → Leads (λ k. one k || other k) test os (earlier r w)
earlier_leads one other test os None None no_one no_other =
    λ p h m. elim (either_mode (one (mode_of p.op)) (other (mode_of p.op)) m) [ inl a ↦ no_one p h a | inr b ↦ no_other p h b ]
earlier_leads one other test os None (Some o) no_one lead =
    (lead.0, lead.1, λ p h m t. elim (either_mode (one (mode_of p.op)) (other (mode_of p.op)) m) [ inl a ↦ let wrong : true ≡ false = sym t ∙ no_one p h a in cc | inr b ↦ lead.2 p h b t ])
earlier_leads one other test os (Some o) None lead no_other =
    (lead.0, lead.1, λ p h m t. elim (either_mode (one (mode_of p.op)) (other (mode_of p.op)) m) [ inl a ↦ lead.2 p h a t | inr b ↦ let wrong : true ≡ false = sym t ∙ no_other p h b in cc ])
earlier_leads one other test os (Some o) (Some q) first second = by_order (nat_le o.index q.index) refl
  where
    by_order : (b : Bool) → nat_le o.index q.index ≡ b → Leads (λ k. one k || other k) test os (cond b (Some o) (Some q))
    by_order true le =
        let before : o.index ≤ q.index = le_from o.index q.index le in (
          first.0,
          first.1,
          λ p h m t. elim (either_mode (one (mode_of p.op)) (other (mode_of p.op)) m) [
            | inl a ↦ first.2 p h a t
            | inr b ↦ let at : q.index ≤ p.index = second.2 p h b t in omega arith
          ],
        )
    by_order false le =
        let before : q.index < o.index = lt_from o.index q.index le in (
          second.0,
          second.1,
          λ p h m t. elim (either_mode (one (mode_of p.op)) (other (mode_of p.op)) m) [
            | inl a ↦ let at : o.index ≤ p.index = first.2 p h a t in omega arith
            | inr b ↦ second.2 p h b t
          ],
        )

-- The first operation that conflicts is the earliest of the first ones that stand in the way in each mode.
pub conflict_by_mode : (x : ℕ) (ns : List Name) (os : List LiveOp) (next : ℕ) (a : Name) (op : Op) → IndicesRise 0 os next
    → find (conflicts_on ns a x op) os ≡ first_over (λ m. blocking ns a x op m os)
conflict_by_mode x ns os next a op rise = by_first (first_over by) over_all
  where
    test : LiveOp → Bool
    test = conflicts_on ns a x op

    by : Mode → Option LiveOp
    by m = blocking ns a x op m os

    leads : (m : Mode) → Leads (λ k. mode_eq k m) test os (by m)
    leads m = blocking_leads x ns os next a op m rise

    over_all : Leads (λ k. (mode_eq k modes.Read || mode_eq k modes.Write) || mode_eq k modes.Add) test os (first_over by)
    over_all =
        earlier_leads (λ k. mode_eq k modes.Read || mode_eq k modes.Write) (λ k. mode_eq k modes.Add) test os (earlier (by modes.Read) (by modes.Write)) (by modes.Add)
        (earlier_leads (λ k. mode_eq k modes.Read) (λ k. mode_eq k modes.Write) test os (by modes.Read) (by modes.Write) (leads modes.Read) (leads modes.Write))
        (leads modes.Add)

    by_first : (r : Option LiveOp) → Leads (λ k. (mode_eq k modes.Read || mode_eq k modes.Write) || mode_eq k modes.Add) test os r → find (conflicts_on ns a x op) os ≡ r
    by_first None none = find_no test os (λ p h. none p h (some_mode (mode_of p.op)))
    by_first (Some o) lead = first_found test 0 os next o rise (record { member = lead.0; passes = lead.1; first = λ p h t. lead.2 p h (some_mode (mode_of p.op)) t })

-- The holder in the way is the lift of the first operation of all that is on the object and conflicts.
pub holder_first : (ns : List Name) (os : List LiveOp) (a : Name) (x : ℕ) (op : Op)
    → holder_of ns os a x op ≡ option_and_then (lift_of ns) (find (conflicts_on ns a x op) os)
holder_first ns os a x op = ap (option_and_then (lift_of ns)) (find_filter (λ o. conflicts a op (lift_of ns o) (op_of o)) (is_on x) os)
