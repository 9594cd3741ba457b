-- Each part answers that nothing has happened.
use Rattle.std.proofs.Common.{ap, ◌∙◌, subst}
use Rattle.cam_tranman.specs.Tables as tranman
use Rattle.cam_commit.specs.Calls as commit
use Rattle.cam_server.specs.Calls as server
use Rattle.cam_server.specs.Calls.{IsNew}
use Rattle.cam_locks.specs.Site.{Site}
use Rattle.cam_node.specs.Knowing.{KnowingView}
use Rattle.cam_node.proofs.Founded.{founded}
use Rattle.cam_node.proofs.state.Core.new.Goals as goal

pub returns-clause-represents : goal.returns-clause-represents
returns-clause-represents c =
    founded c.args.objects.now c.args.number c.new-2.result.stands c.new-2.result.places (tranman.answers c.new-3.result) (commit.answers c.new-4.result) (server.answers c.new-5.result)
    (ap (λ (v : KnowingView). v.stands) c.new-2.ensures) (ap (λ (v : KnowingView). v.places) c.new-2.ensures) c.new-3.ensures c.new-4.ensures
    (subst (λ (st : Site). IsNew 1 st (server.answers c.new-5.result)) c.in_ok-table.ensures c.new-5.ensures.new)

-- no operation was performed
pub returns-clause-next : goal.returns-clause-next
returns-clause-next c =
    ap (λ (st : Site). st.next) (c.new-5.ensures.new.site_is ∙ c.in_ok-table.ensures)
