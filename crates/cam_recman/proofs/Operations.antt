-- Operations of a version: what was written is read again, and what is read was written.
use Rattle.std.proofs.Common.{◌≡◌, inl, inr, ℕ, Bool, true, false, ◌&&◌, cond, List, [], ◌∷◌, ◌++◌, drop, Result, Ok, Err, refl, sym, ap, ◌∙◌, arith, subst}
use Rattle.std.specs.Prelude.{◌==◌}
use Rattle.std.proofs.lemmas.Bool.Decides.{eqb_tells}
use Rattle.cam_type.specs.declared.Op.{Op}
use Rattle.cam_type.specs.declared.Op.TheVariants as ops
use Rattle.cam_bytes.specs.declared.WireFault.{WireFault}
use Rattle.cam_bytes.specs.declared.WireFault.TheVariants.{BadTag}
use Rattle.cam_bytes.specs.Fields.{value, op}
use Rattle.cam_bytes.specs.Ranges.{IsBytes, IsOp}
use Rattle.cam_bytes.specs.Reading.{byte_at, op_at}
use Rattle.cam_bytes.proofs.Again.{Reads, reads_byte, reads_op}
use Rattle.cam_bytes.proofs.Taken.{Stands, bind_in, done, took_byte}
use Rattle.cam_bytes.proofs.TakenOps.{took_op}
use Rattle.cam_recman.specs.Reading.{op_in}
use Rattle.cam_recman.specs.Versions.{IsOpOf}

-- the tag of an Add in version 1 is held back, and no other
lets_pass : (version tag : ℕ) → (version ≡ 1 → tag ≡ 7 → ⊥) → (version == 1 && tag == 7) ≡ false
lets_pass version tag h =
    elim (eqb_tells version 1) [
      | inl y ↦ elim (eqb_tells tag 7) [
        | inl z ↦ absurd (h y.1 z.1)
        | inr n ↦ rw (y.0, n.0) refl
      ]
      | inr n ↦ rw n.0 refl
    ]

holds_back : (version tag : ℕ) → version ≡ 1 → tag ≡ 7 → (version == 1 && tag == 7) ≡ true
holds_back version tag first add = rw (first, add) refl

passes : (version : ℕ) (bytes : List ℕ) (at tag : ℕ) (rest : List ℕ) → drop at bytes ≡ tag ∷ rest → (version ≡ 1 → tag ≡ 7 → ⊥) → op_in version at bytes ≡ op_at at bytes
unfolding op_in
passes version bytes at tag rest stands h =
    let (behind, is, left) = reads_byte bytes at tag rest stands in
    rw (is, lets_pass version tag h) refl

-- the tag of an operation, and what stands behind it
abbrev tag_of : Op → ℕ
tag_of ops.Read = 1
tag_of (ops.Write v) = 2
tag_of (ops.Swap v) = 3
tag_of ops.Size = 4
tag_of (ops.Put v) = 5
tag_of ops.Take = 6
tag_of (ops.Add v) = 7

abbrev behind_tag : Op → List ℕ
behind_tag ops.Read = []
behind_tag (ops.Write v) = value v
behind_tag (ops.Swap v) = value v
behind_tag ops.Size = []
behind_tag (ops.Put v) = value v
behind_tag ops.Take = []
behind_tag (ops.Add v) = value v

tagged : (o : Op) → op o ≡ tag_of o ∷ behind_tag o
tagged ops.Read = refl
tagged (ops.Write v) = refl
tagged (ops.Swap v) = refl
tagged ops.Size = refl
tagged (ops.Put v) = refl
tagged ops.Take = refl
tagged (ops.Add v) = refl

-- an operation that the version has is not held back
not_held : (version : ℕ) (o : Op) → IsOpOf version o → version ≡ 1 → tag_of o ≡ 7 → ⊥
not_held version ops.Read of first add = absurd (omega (arith, add))
not_held version (ops.Write v) of first add = absurd (omega (arith, add))
not_held version (ops.Swap v) of first add = absurd (omega (arith, add))
not_held version ops.Size of first add = absurd (omega (arith, add))
not_held version (ops.Put v) of first add = absurd (omega (arith, add))
not_held version ops.Take of first add = absurd (omega (arith, add))
not_held version (ops.Add v) of first add = of first

pub reads_op_in : (version : ℕ) (bytes : List ℕ) (at : ℕ) (o : Op) (rest : List ℕ) → IsOp o → IsOpOf version o → drop at bytes ≡ op o ++ rest → Reads bytes (op_in version at bytes) o rest
reads_op_in version bytes at o rest is of stands =
    let split : drop at bytes ≡ tag_of o ∷ (behind_tag o ++ rest) = stands ∙ ap (λ (t : List ℕ). t ++ rest) (tagged o) in
    subst (λ (r : Result (Op × ℕ) WireFault). Reads bytes r o rest) (sym (passes version bytes at (tag_of o) (behind_tag o ++ rest) split (not_held version o of))) (reads_op bytes at o rest is stands)

-- what is not held back is of the version
let_through : (version : ℕ) (o : Op) → (version ≡ 1 → tag_of o ≡ 7 → ⊥) → IsOpOf version o
let_through version ops.Read h = tt
let_through version (ops.Write v) h = tt
let_through version (ops.Swap v) h = tt
let_through version ops.Size h = tt
let_through version (ops.Put v) h = tt
let_through version ops.Take h = tt
let_through version (ops.Add v) h = λ first. h first refl

heads : (a b : ℕ) (xs ys : List ℕ) → a ∷ xs ≡ b ∷ ys → a ≡ b
heads a b xs ys e = cc

untrue : (b : Bool) → b ≡ true → b ≡ false → ⊥
untrue true h k = absurd cc
untrue false h k = absurd cc

pub took_op_in : (version : ℕ) (bytes : List ℕ) (at : ℕ) (x : Op × ℕ) → IsBytes bytes → op_in version at bytes ≡ Ok x → Stands bytes at (op x.0) x.1 × (IsOp x.0 × IsOpOf version x.0)
unfolding op_in
took_op_in version bytes at x are e =
    bind_in (byte_at at bytes) _ x e (λ tag f e1. by tag (took_byte bytes at tag f) (version == 1 && tag.0 == 7) refl e1)
  where
    by : (tag : ℕ × ℕ) → Stands bytes at (tag.0 ∷ []) tag.1 → (held : Bool) → (version == 1 && tag.0 == 7) ≡ held → cond held (Err (BadTag at)) (op_at at bytes) ≡ Ok x → Stands bytes at (op x.0) x.1 × (IsOp x.0 × IsOpOf version x.0)
    by tag s true h k = absurd (let g : Err (BadTag at) ≡ done x = k in cc)
    by tag s false h k =
        let t = took_op bytes at x are k in
        let split : tag.0 ∷ drop tag.1 bytes ≡ tag_of x.0 ∷ (behind_tag x.0 ++ drop x.1 bytes) = sym s ∙ t.0 ∙ ap (λ (u : List ℕ). u ++ drop x.1 bytes) (tagged x.0) in
        let same : tag.0 ≡ tag_of x.0 = heads tag.0 (tag_of x.0) (drop tag.1 bytes) (behind_tag x.0 ++ drop x.1 bytes) split in
        (t.0, (t.1, let_through version x.0 (λ first add. untrue (version == 1 && tag.0 == 7) (holds_back version tag.0 first (same ∙ add)) h)))
