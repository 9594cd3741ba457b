-- The reading of a name, its first part at once.
use Rattle.std.proofs.Common.{◌≡◌, ℕ, zero, suc, ◌-◌, ◌≤◌, List, [], ◌∷◌, refl, sym, ap, ◌∙◌, arith, Result, Ok, Err}
use Rattle.cam_names.specs.Part.{PartFields}
use Rattle.cam_names.specs.declared.name.Name.{Name}
use Rattle.cam_bytes.specs.declared.WireFault.{WireFault}
use Rattle.cam_bytes.specs.Reading.{◌>>=◌, byte_in, part_at, parts_from, name_in}

-- a name of at least one part begins with a part
first_part : (n at : ℕ) (bytes : List ℕ) → 1 ≤ n → parts_from n [] at bytes ≡ (part_at at bytes >>= (λ part. parts_from (n - 1) (part.0 ∷ []) part.1 bytes))
unfolding parts_from
first_part zero at bytes some = absurd (omega (arith, some))
first_part (suc n) at bytes some =
    let e : n ≡ suc n - 1 = omega arith in
    ap (λ (k : ℕ). part_at at bytes >>= (λ part. parts_from k (part.0 ∷ []) part.1 bytes)) e

name_of_parts : (most at n behind : ℕ) (bytes : List ℕ) → byte_in 1 most at bytes ≡ Ok (n, behind) → 1 ≤ n → name_in most at bytes ≡ (part_at behind bytes >>= (λ part. parts_from (n - 1) (part.0 ∷ []) part.1 bytes))
unfolding name_in
name_of_parts most at n behind bytes e some = rw e (first_part n behind bytes some)

pub name_read : (most at n behind end : ℕ) (bytes : List ℕ) (p : PartFields) (top : Name) (read : Result (Name × ℕ) WireFault) → byte_in 1 most at bytes ≡ Ok (n, behind) → 1 ≤ n → part_at behind bytes ≡ Ok (p, end) → top ≡ p ∷ [] → read ≡ parts_from (n - 1) top end bytes → read ≡ name_in most at bytes
name_read most at n behind end bytes p top read e some f is r =
    r ∙ ap (λ (t : Name). parts_from (n - 1) t end bytes) is ∙ sym (name_of_parts most at n behind bytes e some ∙ rw f refl)

pub name_fault : (most at n behind : ℕ) (bytes : List ℕ) (fault : WireFault) → byte_in 1 most at bytes ≡ Ok (n, behind) → 1 ≤ n → part_at behind bytes ≡ Err fault → name_in most at bytes ≡ Err fault
name_fault most at n behind bytes fault e some f = name_of_parts most at n behind bytes e some ∙ rw f refl
