use Rattle.std.proofs.Common.{sym, subst}
use Rattle.cam_event.specs.declared.Note.{Note}
use Rattle.cam_own.specs.Votes.{BeginsVotes}
use Rattle.cam_own.proofs.Voting.{begins_put}
use Rattle.cam_own.proofs.votes.note_preparing.Goals as goal

pub returns-in_ok-insert : goal.returns-in_ok-insert
returns-in_ok-insert c =
    subst (λ (n : Note). BeginsVotes n c.args.votes.now c.insert.new.self) (sym c.in-Preparing.is)
    (begins_put c.in-Preparing.family c.args.votes.now c.insert.new.self c.new.result c.new.ensures c.in_ok-insert.ensures.updates.0)
