use Rattle.std.proofs.lemmas.Result.{on_ok_weaker}
use Rattle.cam_own.proofs.Voting.{votes_kept}
use Rattle.cam_own.proofs.votes.note_votes.Goals as goal

pub returns : goal.returns
returns c =
    on_ok_weaker c.note_preparing.result
    (votes_kept c.args.mail.now c.args.note.now c.args.votes.now c.note_mail.new.votes c.note_preparing.new.votes c.in_ok-note_mail.ensures)
    c.note_preparing.ensures
