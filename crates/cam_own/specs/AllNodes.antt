-- What is kept of the deeds of all nodes.
use Rattle.std.specs.Prelude.{◌≡◌, List, []}
use Rattle.cam_type.specs.declared.ObjectDecl.{ObjectDecl}
use Rattle.cam_event.specs.declared.Deed.{Deed}
use Rattle.cam_live.specs.Ledger.{Keeps}
use Rattle.cam_own.specs.declared.all_nodes.AllNodes.{AllNodes}
use Rattle.cam_own.specs.Depending.{KeepsDeps}
use Rattle.cam_own.specs.Live.{KeepsLive}

-- The tables have what these deeds say.
pub record KeepsAllNodes (objects : List ObjectDecl) (L : List Deed) (all_nodes : AllNodes) : Type 0 where
  pub ledger : Keeps objects L all_nodes.ledger
  pub depending : KeepsDeps objects L all_nodes.depending
  pub live : KeepsLive objects L all_nodes.live
  pub none : all_nodes.none ≡ []
