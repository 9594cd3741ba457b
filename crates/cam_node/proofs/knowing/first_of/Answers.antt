-- None of the first outcomes comes twice.
use Rattle.std.proofs.Common.{◌≡◌, take, rules}
use Rattle.cam_node.proofs.Firsts.{first_distinct}
use Rattle.cam_node.proofs.knowing.first_of.Goals as goal

pub of-requires-clause-distinct : goal.of-requires-clause-distinct
of-requires-clause-distinct c =
    let is : c.from_vec.result ≡ take c.args.mark.now.outcomes c.args.know.now.outcomes = search rules in
    let once = c.outcomes.ensures.distinct in
    first_distinct c.args.mark.now.outcomes c.args.know.now.outcomes c.outcomes.result.now c.from_vec.result is c.outcomes.ensures.value once
