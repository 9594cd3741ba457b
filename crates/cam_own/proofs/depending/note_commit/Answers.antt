use Rattle.std.proofs.Common.{◌≤◌, length, arith}
use Rattle.std.proofs.lemmas.Result.{on_ok_weaker}
use Rattle.cam_own.proofs.Gaining.{commit_step}
use Rattle.cam_own.proofs.depending.note_commit.Goals as goal

pub returns-in-Some : goal.returns-in-Some
returns-in-Some c =
    let named : 1 ≤ length c.args.action.now = omega (arith, c.depth.ensures.from, c.depth.ensures.value) in
    on_ok_weaker c.depend.result
    (commit_step c.args.depending.now c.depend.new.depending c.args.action.now c.in-Some.parent c.nodes_in-deps.result named c.in-Some.ensures.value c.nodes_in-deps.ensures)
    c.depend.ensures
