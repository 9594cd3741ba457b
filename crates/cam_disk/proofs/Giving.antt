-- Bytes that a read gives are those that stand at its place.
use Rattle.std.specs.Prelude.{ℕ, ◌≡◌, ◌≤◌, ◌-◌, min, Bool, List, length, take, drop, IsTrue, ◌↔◌}
use Rattle.std.specs.Str.{bytes_eq}
use Rattle.std.proofs.Common.{arith, ap, sym, ◌∙◌, length-take, length-drop, take_all}
use Rattle.std.proofs.lemmas.List.{take_min, drop_min}
use Rattle.std.proofs.lemmas.Slice.Eq.{bytes_eq-Decides}
use Rattle.cam_disk.specs.Disk.{Reads}

reads_of_bytes : (held bytes : List ℕ) (at room : ℕ) → bytes ≡ take room (drop at held)
    → Reads held at room (length bytes) bytes
reads_of_bytes held bytes at room is =
    let there = drop at held in
    let count : length bytes ≡ min room (length there) = ap length is ∙ length-take room there in
    record {
      count = count ∙ ap (min room) (length-drop at held);
      copied = is ∙ sym (take_min room there) ∙ ap (λ n. take n there) (sym count);
    }

bytes_of_reads : (held bytes : List ℕ) (at room : ℕ)
    → Reads held at room (length bytes) bytes → bytes ≡ take room (drop at held)
bytes_of_reads held bytes at room reads =
    let there = drop at held in
    let count = reads.count ∙ sym (ap (min room) (length-drop at held)) in
    reads.copied ∙ ap (λ n. take n there) count ∙ take_min room there

-- what stands from a place on, or from the end where that is before it
pub from_place : (held : List ℕ) (at start : ℕ) → start ≡ min at (length held)
    → take (length held - start) (drop start held) ≡ drop at held
from_place held at start begins =
    let whole : length (drop start held) ≤ length held - start = omega (arith, length-drop start held)
    in
    take_all (length held - start) (drop start held) whole
    ∙ ap (λ k. drop k held) begins ∙ drop_min at held

-- bytes are compared with what stands from a place on, as much of it as fits
pub compared : (held bytes rest : List ℕ) (at room n : ℕ) (same : Bool) → rest ≡ drop at held
    → n ≡ min room (length rest) → same ≡ bytes_eq bytes (take n rest)
    → IsTrue same ↔ Reads held at room (length bytes) bytes
compared held bytes rest at room n same there fits told =
    let decides = bytes_eq-Decides bytes (take n rest) in
    let given = ap (λ k. take k rest) fits ∙ take_min room rest ∙ ap (take room) there in (
      λ yes. reads_of_bytes held bytes at room (decides.0 (sym told ∙ yes) ∙ given),
      λ reads. told ∙ decides.1 (bytes_of_reads held bytes at room reads ∙ sym given),
    )
