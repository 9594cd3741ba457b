-- Decisions and what is known of them.
use Rattle.cam_node.proofs.Shapes.{rules_are_shaped}
use Rattle.cam_node.proofs.Informed.{known_is_informed}
use Rattle.cam_node.proofs.decisions_are_informed.Goals as goal

pub returns-clause-shapes : goal.returns-clause-shapes
returns-clause-shapes c = rules_are_shaped

pub returns-clause-informed : goal.returns-clause-informed
returns-clause-informed c = known_is_informed
