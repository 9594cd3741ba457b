use Rattle.std.proofs.Common.{take, ◌∙◌}
use Rattle.cam_script.specs.declared.OpWith.TheVariants.{Read}
use Rattle.cam_script.specs.declared.Statement.TheVariants.{Call}
use Rattle.cam_script.specs.BodyTable.{size_of}
use Rattle.cam_script.proofs.Sizes.{one_more}
use Rattle.cam_script.proofs.body_table.size_of.Goals as goal

pub loop-statement-preserved : goal.loop-statement-preserved
loop-statement-preserved c = λ all is_sizes.
    let before = take c.loop-statement.statement-index c.args.statements.now in
    c.size_with-size.ensures all (size_of all before) is_sizes (c.loop-statement.invariant all is_sizes)
    ∙ one_more all c.args.statements.now c.loop-statement.statement-index (Call 0 0 Read) c.loop-statement-test.true
