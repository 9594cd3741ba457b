-- The outcomes that are handed on are those of the news.
use Rattle.std.proofs.Common.{◌+◌, ◌≤◌, List, length, subst}
use Rattle.cam_know.specs.declared.Outcome.{Outcome}
use Rattle.cam_server.specs.Calls.{answers, AreInformed, aborts_in, commits_in}
use Rattle.cam_server.proofs.server.Server.informed.Goals as goal

pub returns-clause-informed : goal.returns-clause-informed
returns-clause-informed c =
    subst (λ (os : List Outcome). AreInformed (aborts_in os) (commits_in os) (answers c.args.self.now) (answers c.inform_all.new.self))
    c.outcomes.ensures.value c.inform_all.ensures.informed

pub returns-clause-spare : goal.returns-clause-spare
returns-clause-spare c =
    subst (λ (os : List Outcome). c.args.self.now.table.spare ≤ c.inform_all.new.self.table.spare + length os) c.outcomes.ensures.value c.inform_all.ensures.spare
