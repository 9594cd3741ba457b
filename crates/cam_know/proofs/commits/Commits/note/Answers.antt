-- There is room, so the insertion does not fail.
use Rattle.std.proofs.Common.{◌||◌, sym, ap, ◌∙◌, arith}
use Rattle.cam_know.specs.declared.Outcome.TheVariants.{Committed}
use Rattle.cam_know.specs.declared.commits.Commit.{Commit}
use Rattle.cam_know.specs.Commits.{has_commit, is_commit}
use Rattle.cam_know.proofs.Places.{commit_noted}
use Rattle.cam_know.proofs.commits.Commits.note.Goals as goal

pub returns-in-Committed-clause-value : goal.returns-in-Committed-clause-value
returns-in-Committed-clause-value c q =
    commit_noted c.insert.result c.args.self.now (record { commits = c.insert.new.self }) c.of.result
    (c.insert.ensures.succeeds (omega (arith, c.requires))) c.insert.ensures.updates q
    ∙ ap (λ (k : Commit). has_commit c.args.self.now q || is_commit q (Committed k.name k.deps)) c.of.ensures
    ∙ ap (λ o. has_commit c.args.self.now q || is_commit q o) (sym c.in-Committed.is)
