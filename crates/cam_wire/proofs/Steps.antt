-- What the reading of a letter's counts and outcomes rests on.
use Rattle.std.proofs.Common.{◌≡◌, ℕ, suc, ◌-◌, List, [], ◌∷◌, length, replicate, slice_get, Some, Result, Ok, Err, IfOk, sym, ap, arith, subst}
use Rattle.cam_names.specs.declared.name.Name.{Name}
use Rattle.cam_names.specs.Names.{name_lt}
use Rattle.cam_bytes.specs.declared.WireFault.{WireFault}
use Rattle.cam_names.specs.Dependencies.{AreCounts}
use Rattle.cam_bytes.specs.Ranges.{IsBytes}
use Rattle.cam_bytes.specs.Reading.{pairs_in}
use Rattle.cam_bytes.proofs.TakenPairs.{took_counts}
use Rattle.cam_wire.specs.Reading.{is_above_last}
use Rattle.cam_wire.proofs.Again.{names_of}

-- counts
pub counts_in_range : (at : ℕ) (bytes : List ℕ) (r : Result (List ℕ × ℕ) WireFault) → IsBytes bytes → r ≡ pairs_in 2 (replicate 8 1) at bytes → IfOk r (λ read. AreCounts 1 read.0)
counts_in_range at bytes (Ok x) are e = (took_counts bytes 1 at x (omega arith) are (sym e)).1
counts_in_range at bytes (Err fault) are e = tt

-- the last of the names
pub above_last : (names : List Name) (b a : Name) → slice_get names (length names - 1) ≡ Some b → is_above_last names a ≡ name_lt b a
above_last [] b a e = absurd cc
above_last (x ∷ []) b a e =
    let same : x ≡ b = cc in
    ap (λ (c : Name). name_lt c a) same
above_last (x ∷ y ∷ names) b a e =
    let shorter : length (x ∷ y ∷ names) - 1 ≡ suc (length (y ∷ names) - 1) = omega arith in
    above_last (y ∷ names) b a (subst (λ (k : ℕ). slice_get (x ∷ y ∷ names) k ≡ Some b) shorter e)

pub above_last_commit : (cs : List (Name × List ℕ)) (c : Name × List ℕ) (a : Name) → slice_get cs (length cs - 1) ≡ Some c → is_above_last (names_of cs) a ≡ name_lt c.0 a
above_last_commit [] c a e = absurd cc
above_last_commit (x ∷ []) c a e =
    let same : x ≡ c = cc in
    ap (λ (d : Name × List ℕ). name_lt d.0 a) same
above_last_commit (x ∷ y ∷ cs) c a e =
    let shorter : length (x ∷ y ∷ cs) - 1 ≡ suc (length (y ∷ cs) - 1) = omega arith in
    above_last_commit (y ∷ cs) c a (subst (λ (k : ℕ). slice_get (x ∷ y ∷ cs) k ≡ Some c) shorter e)
