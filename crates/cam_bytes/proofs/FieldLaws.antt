-- Each kind of field is read as it was written.
use Rattle.std.proofs.Common.{◌≡◌, ℕ, ℤ, ◌+◌, ◌<◌, ◌≤◌, List, [], ◌∷◌, ◌++◌, length, drop, replicate, Result, Ok, ap, ◌∙◌, arith, subst, lit<}
use Rattle.std.proofs.lemmas.List.{length-drop, length-append}
use Rattle.cam_names.specs.declared.name.Name.{Name}
use Rattle.cam_type.specs.declared.Op.{Op}
use Rattle.cam_type.specs.declared.Op.TheVariants as ops
use Rattle.cam_bytes.specs.declared.WireFault.{WireFault}
use Rattle.cam_bytes.specs.Fields.{number, long, value, name, counts_above, object, op}
use Rattle.cam_names.specs.Dependencies.{AreCounts}
use Rattle.cam_bytes.specs.Ranges.{IsBytes, IsFrom, IsLong, IsValue, IsName, IsFamily, IsObject, IsOp}
use Rattle.cam_bytes.specs.Reading.{byte_in, counts_above_at, number_in, long_at, value_at, name_at, family_at, object_at, op_at}
use Rattle.cam_bytes.specs.Laws.{IsField, BytesAreFields, NumbersAreFields, LongsAreFields, ValuesAreFields, NamesAreFields, FamiliesAreFields, CountsAreFields, DependenciesAreFields, ObjectsAreFields, OperationsAreFields}
use Rattle.cam_bytes.proofs.Steady.{Within, IsSteady, steady_byte_in, steady_number_in, steady_long, steady_value, steady_name_in, steady_pairs_in, steady_object, steady_op}
use Rattle.cam_bytes.proofs.Again.{Reads, reads_byte_in, reads_number_in, reads_long, reads_value, reads_name, reads_family, reads_object, reads_op}
use Rattle.cam_bytes.proofs.AgainPairs.{reads_counts}
use Rattle.cam_bytes.proofs.Taken.{took_byte_in, took_number_in, took_long, took_value, took_name, took_family, took_object}
use Rattle.cam_bytes.proofs.TakenPairs.{took_counts}
use Rattle.cam_bytes.proofs.TakenOps.{took_op}

module _ (A : Type 0) (range : A → Type 0) (spelled : A → List ℕ) (read : ℕ → List ℕ → Result (A × ℕ) WireFault) where
  ends : (bytes : List ℕ) (at : ℕ) (x : A) (rest : List ℕ) → IsSteady read → 0 < length (spelled x) → drop at bytes ≡ spelled x ++ rest → Reads bytes (read at bytes) x rest → read at bytes ≡ Ok (x, at + length (spelled x))
  ends bytes at x rest steady some stands (behind, is, left) =
      let all = ap (λ (t : List ℕ). length t) stands in
      let within : at ≤ length bytes = omega (arith, length-drop at bytes, all, length-append (spelled x) rest, some) in
      let inside : Within at (length bytes) (Ok (x, behind)) = subst (λ (r : Result (A × ℕ) WireFault). Within at (length bytes) r) is (steady at bytes rest within).0 in
      let place : behind ≡ at + length (spelled x) = omega (arith, length-drop at bytes, all, length-append (spelled x) rest, length-drop behind bytes, ap (λ (t : List ℕ). length t) left, inside.0, inside.1, within) in
      is ∙ ap (λ (n : ℕ). Ok (x, n)) place

  pub is_field : IsSteady read → ((x : A) → 0 < length (spelled x)) → ((bytes : List ℕ) (at : ℕ) (x : A) (rest : List ℕ) → range x → drop at bytes ≡ spelled x ++ rest → Reads bytes (read at bytes) x rest) → ((bytes : List ℕ) (at : ℕ) (x : A) (behind : ℕ) → IsBytes bytes → read at bytes ≡ Ok (x, behind) → range x × (drop at bytes ≡ spelled x ++ drop behind bytes)) → IsField A range spelled read
  is_field steady some reads took = record {
    again = λ bytes at x rest r stands. ends bytes at x rest steady (some x) stands (reads bytes at x rest r stands);
    written = took;
    steady = λ bytes at more within. (steady at bytes more within).1;
  }

pub bytes_are_fields : BytesAreFields
bytes_are_fields least most =
    is_field ℕ (IsFrom least most) (λ b. b ∷ []) (byte_in least most) (steady_byte_in least most) (λ b. lit< tt)
    (λ bytes at b rest r stands. reads_byte_in bytes least most at b rest r stands)
    (λ bytes at b behind are e. let t = took_byte_in bytes least most at (b, behind) e in (t.1, t.0))

pub numbers_are_fields : NumbersAreFields
numbers_are_fields least most top =
    is_field ℕ (IsFrom least most) number (number_in least most) (steady_number_in least most) (λ n. lit< tt)
    (λ bytes at n rest r stands. reads_number_in bytes least most at n rest r top stands)
    (λ bytes at n behind are e. let t = took_number_in bytes least most at (n, behind) are e in (t.1, t.0))

pub longs_are_fields : LongsAreFields
longs_are_fields =
    is_field ℕ IsLong long long_at steady_long (λ n. lit< tt)
    (λ bytes at n rest r stands. reads_long bytes at n rest r stands)
    (λ bytes at n behind are e. let t = took_long bytes at (n, behind) are e in (t.1, t.0))

pub values_are_fields : ValuesAreFields
values_are_fields =
    is_field ℤ IsValue value value_at steady_value (λ v. lit< tt)
    (λ bytes at v rest r stands. reads_value bytes at v rest r stands)
    (λ bytes at v behind are e. let t = took_value bytes at (v, behind) are e in (t.1, t.0))

pub names_are_fields : NamesAreFields
names_are_fields =
    is_field Name IsName name name_at (steady_name_in 8) (λ a. omega arith)
    (λ bytes at a rest r stands. reads_name bytes 8 at a rest r r.depth.1 stands)
    (λ bytes at a behind are e. let t = took_name bytes 8 at (a, behind) (omega arith) are e in (t.1, t.0))

pub families_are_fields : FamiliesAreFields
families_are_fields =
    is_field Name IsFamily name family_at (steady_name_in 1) (λ f. omega arith)
    (λ bytes at f rest r stands. reads_family bytes at f rest r stands)
    (λ bytes at f behind are e. let t = took_family bytes at (f, behind) are e in (t.1, t.0))

pub counts_are_fields : CountsAreFields
counts_are_fields base low =
    is_field (List ℕ) (AreCounts base) (counts_above base) (counts_above_at base) (steady_pairs_in (base + 1) (replicate 8 base)) (λ cs. omega arith)
    (λ bytes at cs rest r stands. reads_counts bytes cs base at rest r stands)
    (λ bytes at cs behind are e. let t = took_counts bytes base at (cs, behind) low are e in (t.1, t.0))

pub dependencies_are_fields : DependenciesAreFields
dependencies_are_fields = counts_are_fields 0 (omega arith)

pub objects_are_fields : ObjectsAreFields
objects_are_fields =
    is_field ℕ IsObject object object_at steady_object (λ x. lit< tt)
    (λ bytes at x rest r stands. reads_object bytes at x rest r stands)
    (λ bytes at x behind are e. let t = took_object bytes at (x, behind) e in (t.1, t.0))

some_op : (o : Op) → 0 < length (op o)
some_op ops.Read = lit< tt
some_op (ops.Write v) = lit< tt
some_op (ops.Swap v) = lit< tt
some_op ops.Size = lit< tt
some_op (ops.Put v) = lit< tt
some_op ops.Take = lit< tt
some_op (ops.Add v) = lit< tt

pub operations_are_fields : OperationsAreFields
operations_are_fields =
    is_field Op IsOp op op_at steady_op some_op
    (λ bytes at o rest r stands. reads_op bytes at o rest r stands)
    (λ bytes at o behind are e. let t = took_op bytes at (o, behind) are e in (t.1, t.0))
