use Rattle.cam_shrink.specs.Cuts.{alone, places_below}
use Rattle.cam_shrink.proofs.Filters.{part_of}
use Rattle.cam_shrink.proofs.Rounds.{back_is_needed, front_is_needed}
use Rattle.cam_shrink.proofs.shrinking.shrink.Goals as goal

pub returns-clause-part : goal.returns-clause-part
returns-clause-part g c =
    part_of c.settle.new.kept c.try_cuts-2.new.kept c.in_ok-kept.kept (places_below c.args.lines) c.in_ok-kept.ensures
    c.in_ok-settle.ensures.part c.in_ok-try_cuts.ensures.part

pub returns-clause-lines : goal.returns-clause-lines
returns-clause-lines g c =
    back_is_needed (g.T.Test.answers c.args.test.now) c.settle.new.kept c.add_lines.new.cuts c.args.groups (alone c.args.lines)
    c.in_ok-add_lines.ensures c.in_ok-settle.ensures.least

pub returns-clause-groups : goal.returns-clause-groups
returns-clause-groups g c =
    front_is_needed (g.T.Test.answers c.args.test.now) c.settle.new.kept c.add_lines.new.cuts c.args.groups (alone c.args.lines)
    c.in_ok-add_lines.ensures c.in_ok-settle.ensures.least
