-- The text is the diagram of the run, and so a document.
use Rattle.cam_diagram.proofs.Whole.{drawn_is_document}
use Rattle.cam_diagram.proofs.document.draw.Goals as goal

pub returns-clause-well_formed : goal.returns-clause-well_formed
returns-clause-well_formed c =
    drawn_is_document c.args.scene.now c.args.trace.now _ c.in_ok-text.ensures
