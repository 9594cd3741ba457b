use Rattle.std.proofs.Common.{sym, ap, ◌∙◌, ◌++◌, ◌∷◌, []}
use Rattle.cam_own.proofs.Voting.{Votes, yes_put, yes_none}
use Rattle.cam_own.proofs.votes.add_vote.Goals as goal

pub returns-in-None : goal.returns-in-None
returns-in-None c = yes_none c.args.family.now c.args.node c.args.count c.args.votes.now (sym c.in-None.ensures.value)

pub returns-in_ok-insert-in-Some : goal.returns-in_ok-insert-in-Some
returns-in_ok-insert-in-Some c =
    yes_put c.args.family.now c.args.node c.args.count c.args.votes.now c.insert.new.self c.in-Some.voters.now c.push.new.self (sym c.in-Some.ensures.value)
    (c.in_ok-push-in-Some.ensures.ok ∙ ap (λ (vs : Votes). vs ++ (c.args.node, c.args.count) ∷ []) c.in_ok-more-in-Some.ensures)
    c.in_ok-insert-in-Some.ensures.updates.0
