use Rattle.std.proofs.Common.{rules, ◌≡◌, [], ◌∷◌}
use Rattle.cam_recman.specs.Records.{entry_bytes}
use Rattle.cam_node.proofs.Reopened.{all_says}
use Rattle.cam_node.proofs.restart.entry_of_all.Goals as goal

pub returns-clause-says : goal.returns-clause-says
returns-clause-says c =
    let all = c.in_ok-snapshot.field-0 in
    let one : c.push.new.self ≡ entry_bytes all ∷ [] = search rules in
    all_says c.args.kept.now c.push.new.self all c.outcomes-outcomes.result.now c.counts-counts.result one c.in_ok-snapshot.ensures.exactly c.in_ok-entry.ensures.range
    c.outcomes-outcomes.ensures.value c.outcomes-outcomes.ensures.distinct c.counts-counts.ensures.value c.counts-counts.ensures.range c.requires.count.0
