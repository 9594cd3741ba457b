-- What is to be secured of a family may be written, where its node has at most 64 objects.
use Rattle.std.proofs.Common.{◌≡◌, ◌≤◌, ◌<◌, ℕ, Bool, true, false, not, cond, suc, length, List, [], ◌∷◌, map, filter, Option, Some, None, refl, arith}
use Rattle.std.specs.Prelude.{slice_get, eqb}
use Rattle.std.specs.Option.{option_map_or}
use Rattle.std.specs.List.{AllByRecursion}
use Rattle.std.proofs.lemmas.Bool.{and_parts}
use Rattle.std.proofs.lemmas.Option.{slice_get_within}
use Rattle.std.proofs.lemmas.List.Elements.{All-from_recursion}
use Rattle.cam_names.specs.declared.name.Name.{Name}
use Rattle.cam_type.specs.declared.ObjectDecl.{ObjectDecl}
use Rattle.cam_type.specs.declared.HeldOp.{HeldOp}
use Rattle.cam_type.specs.declared.Op.{Op}
use Rattle.cam_type.specs.declared.Op.TheVariants as ops
use Rattle.cam_type.specs.Objects.{is_fit}
use Rattle.cam_know.specs.Knowledge.{Knowledge}
use Rattle.cam_bytes.specs.Ranges.{IsNumber}
use Rattle.cam_recman.specs.Versions.{IsOf, IsOpOf}
use Rattle.cam_recman.specs.Writable.{IsWritable, IsWritableOp}
use Rattle.cam_recman.specs.declared.Record.TheVariants.{Secure}
use Rattle.cam_locks.specs.declared.LiveOp.{LiveOp}
use Rattle.cam_locks.specs.Site.{Site, fits_here, is_here, IndicesRise, AreFit}
use Rattle.cam_locks.specs.Secured.{IsWellFormed}
use Rattle.cam_locks.specs.Calls.{held, held_op, is_of, is_dropped_by, left_by}
use Rattle.cam_locks.proofs.Indices.{next_at_least}

-- an object of the node is one of those declared
declared : (objects : List ObjectDecl) (node x : ℕ) (op : Op) → fits_here objects node x op ≡ true
    → length objects ≤ 64 → x ≤ 63
declared objects node x op fit few =
    by (slice_get objects x) (slice_get_within objects x)
    (and_parts (is_here objects node x) (is_fit objects x op) fit).0
  where
    by : (o : Option ObjectDecl) → ((d : ObjectDecl) → o ≡ Some d → x < length objects)
        → option_map_or (λ d. eqb d.node node) o false ≡ true → x ≤ 63
    by None within is = cc
    by (Some d) within is =
        let inside : x < length objects = within d refl in omega (arith, inside, few)

-- so each operation that is held of a family may be written
ops_writable : (objects : List ObjectDecl) (node : ℕ) (f : Name) (news : Knowledge) (low : ℕ)
    (os : List LiveOp)
    (next : ℕ) → IndicesRise low os next → next ≤ 1000000000 → AreFit objects node os
    → length objects ≤ 64
    → AllByRecursion IsWritableOp
    (map held_op (filter (is_of f) (filter (λ o. not (is_dropped_by news o)) os)))
ops_writable objects node f news low [] next rise range fit few = tt
ops_writable objects node f news low (o ∷ os) next rise range fit few =
    kept (not (is_dropped_by news o))
    (ops_writable objects node f news (suc o.index) os next rise.1 range fit.1 few)
  where
    left : List LiveOp
    left = filter (λ p. not (is_dropped_by news p)) os

    on : suc o.index ≤ next
    on = next_at_least (suc o.index) os next rise.1

    here : IsWritableOp (held_op o)
    here = (omega (arith, on, range), declared objects node o.object o.op fit.0 few)

    of : (b : Bool) → AllByRecursion IsWritableOp (map held_op (filter (is_of f) left))
        → AllByRecursion IsWritableOp
        (map held_op (cond b (o ∷ filter (is_of f) left) (filter (is_of f) left)))
    of true rest = (here, rest)
    of false rest = rest

    kept : (b : Bool) → AllByRecursion IsWritableOp (map held_op (filter (is_of f) left))
        → AllByRecursion IsWritableOp (map held_op (filter (is_of f) (cond b (o ∷ left) left)))
    kept true rest = of (is_of f o) rest
    kept false rest = rest

pub held_writable : (site : Site) (news : Knowledge) (f : Name) (n : ℕ) → IsWellFormed site
    → length site.objects ≤ 64 → length f ≡ 1 → IsNumber n
    → IsWritable (Secure (held (left_by news site) f n))
held_writable site news f n formed few top number = record {
  top = top;
  count = number;
  ops =
      All-from_recursion IsWritableOp (held (left_by news site) f n).ops
      (ops_writable site.objects site.node f news 0 site.live site.next formed.rising formed.range formed.fits few);
}

-- and stands where the format has version 2
op_of_two : (op : Op) → IsOpOf 2 op
op_of_two ops.Read = tt
op_of_two (ops.Write v) = tt
op_of_two (ops.Swap v) = tt
op_of_two ops.Size = tt
op_of_two (ops.Put v) = tt
op_of_two ops.Take = tt
op_of_two (ops.Add v) = λ (one : 2 ≡ 1). omega (arith, one)

all_of_two : (hs : List HeldOp) → AllByRecursion (λ (h : HeldOp). IsOpOf 2 h.op) hs
all_of_two [] = tt
all_of_two (h ∷ hs) = (op_of_two h.op, all_of_two hs)

pub held_of_two : (site : Site) (news : Knowledge) (f : Name) (n : ℕ)
    → IsOf 2 (Secure (held (left_by news site) f n))
held_of_two site news f n = all_of_two (held (left_by news site) f n).ops
