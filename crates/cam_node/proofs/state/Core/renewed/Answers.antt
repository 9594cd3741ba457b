-- The parts of a node after a restart.
use Rattle.std.proofs.Common.{List, refl, ap, subst}
use Rattle.cam_type.specs.declared.Held.{Held}
use Rattle.cam_locks.specs.Site.{Site}
use Rattle.cam_commit.specs.Calls as commit
use Rattle.cam_commit.specs.Events.{AreRecovered, families_of}
use Rattle.cam_server.specs.Calls as server
use Rattle.cam_server.specs.Calls.{IsNew}
use Rattle.cam_node.specs.Knowing.{KnowingView}
use Rattle.cam_node.proofs.state.Core.renewed.Goals as goal

pub returns : goal.returns
returns c = record {
  number = refl;
  count = refl;
  know = ap (λ (v : KnowingView). v.stands) c.of-2.ensures;
  places = ap (λ (v : KnowingView). v.places) c.of-2.ensures;
  actions = c.new.ensures;
  families = subst (λ (hs : List Held). AreRecovered (families_of hs) (commit.answers
      c.in_ok-families.families)) c.as_slice.ensures c.in_ok-families.ensures;
  server = subst (λ (st : Site). IsNew c.args.kept.count st (server.answers c.new-2.result))
      c.in_ok-table.ensures c.new-2.ensures.new;
}
