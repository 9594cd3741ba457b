-- A node whose families have made room answers as it did.
use Rattle.std.proofs.Common.{◌∙◌}
use Rattle.cam_commit.specs.Families.{Families}
use Rattle.cam_commit.specs.Calls as commit
use Rattle.cam_node.specs.Represents.{Node}
use Rattle.cam_node.specs.Calls.{AreSame}

pub with_families : (old mid : Node) (families : Families) → AreSame old mid
    → commit.AreSame mid.families families
    → AreSame old (record mid { families = families })
with_families old mid families same room = record {
  number = same.number;
  count = same.count;
  know = same.know;
  places = same.places;
  actions = same.actions;
  families = record {
    preparing = λ f. room.preparing f ∙ same.families.preparing f;
    votes = λ f m c. room.votes f m c ∙ same.families.votes f m c;
    secured = λ f. room.secured f ∙ same.families.secured f;
  };
  server = same.server;
}
