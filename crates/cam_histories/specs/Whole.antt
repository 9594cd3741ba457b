-- A run with its nodes, their logs and its network: what each of them is after some lines.
use Rattle.std.specs.Prelude.{◌≡◌, ℕ, ◌+◌, Bool, false, List, [], ◌∷◌}
use Rattle.cam_type.specs.declared.ObjectDecl.{ObjectDecl}
use Rattle.cam_event.specs.declared.Letter.{Letter}
use Rattle.cam_event.specs.ByDeltas.{Received}
use Rattle.cam_net.specs.Letters.{InFlightFields}
use Rattle.cam_node.specs.Keeping.{KeepsHistory}
use Rattle.cam_node.specs.LogOrder.{IsInOrder}
use Rattle.cam_node.specs.Represents.{Node, Represents}
use Rattle.cam_runs.specs.Running.{has_number}
use Rattle.cam_runs.specs.Standing.{Standing}
use Rattle.cam_histories.specs.Laws.{history_of}
use Rattle.cam_histories.specs.Flight.{IsNetworkOf}

-- a node, and the entries that its log lists
pub record Site : Type 0 where
  pub node : Node
  pub entries : List (List ℕ)

-- The entries keep a history. What they hold of secured families and what is live at the node stand
-- in one order.
pub record KeepsInOrder (objects : List ObjectDecl) (s : ℕ) (history : List Received)
    (site : Site) : Type 0 where
  pub keeps : KeepsHistory objects s history site.entries
  pub order : IsInOrder history keeps.recovered.held site.node.server.table.site

-- Both stand for a history.
pub record StandsAt (objects : List ObjectDecl) (s : ℕ) (history : List Received)
    (site : Site) : Type 0 where
  pub represents : Represents objects history site.node
  pub log : KeepsInOrder objects s history site

-- A node of the run: while it is not halted it stands for its history, and so does its log.
pub record IsSiteOf (objects : List ObjectDecl) (st : Standing) (s : ℕ) (site : Site) : Type 0 where
  pub number : site.node.number ≡ s
  pub stands : has_number st.halted s ≡ false
      → StandsAt objects s (history_of objects st.running.trace s) site

-- the nodes in order, where the first has this number
abbrev pub AreSitesOf : List ObjectDecl → Standing → ℕ → List Site → Type 0
AreSitesOf objects st s [] = Unit {0}
AreSitesOf objects st s (site ∷ more) = IsSiteOf objects st s site
    × AreSitesOf objects st (s + 1) more

-- The whole: the nodes, and a network but for letters that are put next.
pub record IsWhole (objects : List ObjectDecl) (st : Standing) (sites : List Site)
    (net : List InFlightFields)
    (unput : List Letter) (halted : List Bool) : Type 0 where
  pub nodes : AreSitesOf objects st 1 sites
  pub network : IsNetworkOf objects st net unput halted
