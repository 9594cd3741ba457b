-- A node keeps its number when an event stands.
use Rattle.std.proofs.Common.{◌≡◌, Option, ap, ◌∙◌}
use Rattle.cam_know.specs.Knowledge.{Knowledge}
use Rattle.cam_node.specs.declared.knowing.Heard.{Heard}
use Rattle.cam_node.specs.declared.plan.Change.{Change}
use Rattle.cam_node.specs.declared.plan.Change.TheVariants as changes
use Rattle.cam_node.specs.Standing.{Stands}
use Rattle.cam_node.specs.Represents.{Node}

pub stands_number : (change : Change) (heard : Option Heard) (known : Knowledge) (old new : Node)
    → Stands change heard known old new → new.number ≡ old.number
stands_number changes.Nothing heard known old new stands = stands.number
stands_number (changes.Started b counts) heard known old new stands = stands.learnt.number
stands_number (changes.Answered a n reply count) heard known old new stands = stands.learnt.number
stands_number (changes.Decided o) heard known old new stands = stands.2.number ∙ stands.1.number
stands_number (changes.GaveUp a b) heard known old new stands = stands.2.number ∙ stands.1.number
stands_number (changes.WentAhead ahead) heard known old new stands = stands.number
stands_number (changes.Served tables) heard known old new stands = stands.number
stands_number (changes.Prepared f) heard known old new stands = stands.2.number ∙ stands.1.number
stands_number (changes.Voted vote) heard known old new stands =
    ap (λ (n : Node). n.number) stands.2.rest ∙ stands.1.number
stands_number (changes.Secured f) heard known old new stands = stands.learnt.number
