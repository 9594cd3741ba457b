-- The letter of a number is found by the counts.
use Rattle.std.proofs.Common.{ℕ, ◌≤◌, sym, ap, ◌∙◌, subst, rules}
use Rattle.std.specs.Prelude.{ltb}
use Rattle.std.proofs.lemmas.List.Sorted.{IsPartitionPoint-from_clause}
use Rattle.cam_cluster.specs.LetterCounts.{count_before}
use Rattle.cam_cluster.proofs.CountedLetters.{before_number, none_found, one_found, parted}
use Rattle.cam_cluster.proofs.works.numbered.NumberedEvents.numbered.Goals as goal

pub returns-then-place-len : goal.returns-then-place-len
returns-then-place-len c =
    let s = c.args.self.now in
    none_found s.events.items c.as_slice.result.now c.args.number c.in_ok-earlier.earlier
    c.partition_point-place.result (c.as_slice.ensures.value ∙ s.counted) c.in_ok-earlier.ensures.0
    c.ranges.number.fits c.in_ok-earlier.ensures.1 c.partition_point-place.ensures.bound
    (IsPartitionPoint-from_clause (λ (n : ℕ). ltb n c.args.number) c.as_slice.result.now
    c.partition_point-place.result c.partition_point-place.ensures.partitioned
    (parted s.events.items c.as_slice.result.now c.args.number
    (c.as_slice.ensures.value ∙ s.counted)) (λ a r f k. search rules))
    (c.if-place-len.true ∙ c.len.ensures)

pub overflow_sub-result : goal.overflow_sub-result
overflow_sub-result c =
    let s = c.args.self.now in
    subst (λ (n : ℕ). n ≤ c.in_ok-earlier.earlier)
    (sym (c.sent_before.ensures
    ∙ ap (λ xs. count_before xs c.partition_point-place.result) (sym c.as_slice.ensures.value)))
    (before_number s.events.items c.as_slice.result.now c.args.number c.in_ok-earlier.earlier
    c.partition_point-place.result (c.as_slice.ensures.value ∙ s.counted) c.in_ok-earlier.ensures.0
    c.ranges.number.fits c.in_ok-earlier.ensures.1 c.partition_point-place.ensures.bound
    (IsPartitionPoint-from_clause (λ (n : ℕ). ltb n c.args.number) c.as_slice.result.now
    c.partition_point-place.result c.partition_point-place.ensures.partitioned
    (parted s.events.items c.as_slice.result.now c.args.number
    (c.as_slice.ensures.value ∙ s.counted)) (λ a r f k. search rules)))

pub returns : goal.returns
returns c =
    let s = c.args.self.now in
    one_found s.events.items c.as_slice.result.now c.args.number c.in_ok-earlier.earlier
    c.partition_point-place.result (c.as_slice.ensures.value ∙ s.counted) c.in_ok-earlier.ensures.0
    c.ranges.number.fits c.in_ok-earlier.ensures.1 c.partition_point-place.ensures.bound
    (IsPartitionPoint-from_clause (λ (n : ℕ). ltb n c.args.number) c.as_slice.result.now
    c.partition_point-place.result c.partition_point-place.ensures.partitioned
    (parted s.events.items c.as_slice.result.now c.args.number
    (c.as_slice.ensures.value ∙ s.counted)) (λ a r f k. search rules))
    c.sent_before.result (λ e. c.if-place-len.false (e ∙ sym c.len.ensures))
    (c.sent_before.ensures
    ∙ ap (λ xs. count_before xs c.partition_point-place.result) (sym c.as_slice.ensures.value))
