use Rattle.std.proofs.Common.{◌≡◌, ℕ, All, List, arith, subst, sym}
use Rattle.std.specs.List.{AllByRecursion}
use Rattle.std.proofs.lemmas.Grind.{common_steps}
use Rattle.cam_recman.specs.declared.Record.{Record}
use Rattle.cam_recman.specs.Writable.{IsWritable}
use Rattle.cam_recman.specs.Snapshot.{seen_records, snapshot}
use Rattle.cam_recman.proofs.KeptRanges.{snapshot_writable}
use Rattle.cam_recman.proofs.keeping.snapshot.Goals.{then-kept-gt1+in_ok-push-2, else-kept-gt1}
use Rattle.cam_recman.proofs.keeping.snapshot.Goals as goal

-- the records are those of the snapshot, each of which is in its range
pub returns-clause-writable : goal.returns-clause-writable
returns-clause-writable c = λ to held.
    let same : c.add_held.new.records ≡ snapshot c.args.kept.now = elim c.if-kept-gt1.branch [
      | then-kept-gt1+in_ok-push-2 w ↦ grind (arith, common_steps)
      | else-kept-gt1 w ↦ grind (arith, common_steps)
    ] in
    let seen : AllByRecursion IsWritable (seen_records 1 c.args.kept.now.know.counts) =
    subst (λ (counts : List ℕ). AllByRecursion IsWritable (seen_records 1 counts)) c.counts.ensures.value c.in_ok-add_counts.ensures.range in
    subst (λ (records : List Record). All IsWritable records) (sym same) (snapshot_writable c.args.kept.now to seen held)
