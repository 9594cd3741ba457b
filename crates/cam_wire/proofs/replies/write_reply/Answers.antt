use Rattle.std.proofs.Common.{rules, append_assoc}
use Rattle.std.proofs.lemmas.Result.{IfOk-equal}
use Rattle.cam_wire.proofs.replies.write_reply.Goals as goal

pub returns-in_ok-write_byte-in-Done-Value-clause-ok : goal.returns-in_ok-write_byte-in-Done-Value-clause-ok
returns-in_ok-write_byte-in-Done-Value-clause-ok c = search (rules, IfOk-equal, append_assoc)
