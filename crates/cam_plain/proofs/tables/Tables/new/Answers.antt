use Rattle.std.proofs.Common.{[], rules}
use Rattle.cam_plain.specs.Actions.{KeepsActions}
use Rattle.cam_plain.specs.Marks.{KeepsMarks}
use Rattle.cam_plain.specs.Tops.{KeepsTops}
use Rattle.cam_plain.specs.Depending.{DependsOn}
use Rattle.cam_plain.proofs.tables.Tables.new.Goals as goal

pub returns : goal.returns
returns c = λ objects.
    let actions : KeepsActions [] c.new-actions.result = search rules in
    let marks : KeepsMarks objects [] c.new-marks.result = search rules in
    let tops : KeepsTops [] c.new-tops.result = search rules in
    let dependencies : DependsOn objects [] c.new-dependencies.result = search rules in
    record { ledger = c.new-ledger.ensures objects; marks = marks; actions = actions; tops = tops; replies = c.new-replies.ensures; dependencies = dependencies }
