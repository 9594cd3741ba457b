use Rattle.std.proofs.Common.{sym, ap, ◌∙◌}
use Rattle.cam_plain.specs.Legal.{history}
use Rattle.cam_plain.specs.Tests.{meets}
use Rattle.cam_plain.proofs.legality.is_legal.Goals as goal

pub returns-in-AskCommit-clause-value : goal.returns-in-AskCommit-clause-value
returns-in-AskCommit-clause-value c =
    c.may_ask_commit.ensures ∙ ap (meets c.args.before.now.objects.now (history c.args.before.now.deeds.now)) (sym c.in-AskCommit.is)
