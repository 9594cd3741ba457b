-- What the lines of a script by time go by: its nodes and its objects are in range.
use Rattle.std.proofs.Common.{◌≡◌, ℕ, zero, suc, true, List, [], ◌∷◌, length, arith}
use Rattle.std.specs.Prelude.{nat_le}
use Rattle.std.specs.List.{list_all}
use Rattle.cam_type.specs.declared.ObjectDecl.{ObjectDecl}
use Rattle.cam_type.specs.declared.Op.{Op}
use Rattle.cam_type.specs.Objects.{site_of, is_fit}
use Rattle.cam_event.specs.Runs.{IsNode}
use Rattle.cam_script.specs.SoFar.{SoFar}
use Rattle.cam_script.specs.Law.{is_node, is_placed}
use Rattle.cam_script.proofs.Appended.{left, right}

-- A node of a script that has at most 8 is 1 to 8.
pub node_in_range : (nodes n : ℕ) → nat_le nodes 8 ≡ true → is_node nodes n ≡ true → IsNode n
node_in_range nodes n most h =
    let least = left (nat_le 1 n) (nat_le n nodes) h in
    let within = right (nat_le 1 n) (nat_le n nodes) h in
    (grind (arith, least), grind (arith, within, most))

-- An op that fits is on a declared object, which is placed.
pub site_in_range :
    (nodes : ℕ) (objects : List ObjectDecl) (x : ℕ) (op : Op) → nat_le nodes 8 ≡ true
    → list_all (is_placed nodes) objects ≡ true → is_fit objects x op ≡ true
    → IsNode (site_of objects x)
site_in_range nodes [] x op most placed fit = absurd (grind (arith, fit))
site_in_range nodes (o ∷ os) zero op most placed fit =
    node_in_range nodes o.node most
    (left (is_placed nodes o) (list_all (is_placed nodes) os) placed)
site_in_range nodes (o ∷ os) (suc x) op most placed fit =
    site_in_range nodes os x op most
    (right (is_placed nodes o) (list_all (is_placed nodes) os) placed) fit

-- what the lines go by: at most 8 nodes, and objects on them, each with its name
pub record IsPlaced (d : SoFar) : Type 0 where
  pub eight : nat_le d.script.nodes 8 ≡ true
  pub placed : list_all (is_placed d.script.nodes) d.script.objects ≡ true
  pub labels : length d.script.labels ≡ length d.script.objects
