-- The streams and the disks are those that were made here.
use Rattle.std.proofs.Common.{rules, ◌≡◌, []}
use Rattle.cam_page.proofs.Told.{told}
use Rattle.cam_page.proofs.engine.obeyed.Goals as goal

pub returns : goal.returns
returns c =
    let script : c.new-source.result.bytes ≡ c.args.script.now = search rules in
    let fresh : c.new-source.result.plan.faults ≡ 0 = search rules in
    let empty : c.new-sink.result.bytes ≡ [] = search rules in
    let text : c.camelot_alone-status.new.sink.bytes ≡ c.in_ok-text.text.items = search rules in
    told _ _ _ _ _ _ _ _ _ _ _ _ _ _ _ script fresh empty text c.in_ok-disks.ensures.fresh
    c.camelot_alone-status.ensures.written
