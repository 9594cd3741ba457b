use Rattle.std.proofs.Common.{◌≡◌, ◌++◌, ◌-◌, map, drop, All, List, arith, subst, sym}
use Rattle.std.proofs.lemmas.Grind.{common_steps}
use Rattle.std.proofs.lemmas.List.Elements.{All-from_recursion}
use Rattle.cam_recman.specs.declared.Record.{Record}
use Rattle.cam_recman.specs.Snapshot.{outcome_record}
use Rattle.cam_recman.specs.Versions.{AreOf}
use Rattle.cam_recman.specs.Writable.{IsWritable}
use Rattle.cam_recman.proofs.KeptAll.{both_follow, outcomes_follow}
use Rattle.cam_recman.proofs.KeptRanges.{both, outcomes_writable}
use Rattle.cam_node.specs.Entries.{greater_records}
use Rattle.cam_node.proofs.NewsRecords.{greater_follow}
use Rattle.cam_node.proofs.news.news_records.Goals as goal

pub returns-clause-writable : goal.returns-clause-writable
returns-clause-writable c =
    let outs : List Record = map outcome_record c.args.fresh.now.outcomes in
    let more : List Record = greater_records 1 (drop (1 - 1) c.args.before.now) (drop (1 - 1) c.args.fresh.now.counts) in
    let same : c.add_counts.new.records ≡ outs ++ more = grind (arith, common_steps) in
    subst (λ (records : List Record). All IsWritable records) (sym same)
    (All-from_recursion IsWritable (outs ++ more) (both outs more (outcomes_writable c.args.fresh.now.outcomes) c.in_ok-add_counts.ensures.range))

pub returns-clause-version : goal.returns-clause-version
returns-clause-version c =
    let outs : List Record = map outcome_record c.args.fresh.now.outcomes in
    let more : List Record = greater_records 1 (drop (1 - 1) c.args.before.now) (drop (1 - 1) c.args.fresh.now.counts) in
    let same : c.add_counts.new.records ≡ outs ++ more = grind (arith, common_steps) in
    subst (λ (records : List Record). AreOf 2 records) (sym same)
    (both_follow outs more (outcomes_follow c.args.fresh.now.outcomes) (greater_follow 1 (drop (1 - 1) c.args.before.now) (drop (1 - 1) c.args.fresh.now.counts))).0
