-- The node to which a letter was sent.
use Rattle.std.proofs.Common.{Some, None, sym, ◌∙◌}
use Rattle.cam_cluster.proofs.NumberedLetters.{no_event, of_event}
use Rattle.cam_cluster.proofs.works.letters.receiver.Goals as goal

pub returns-in_err-event : goal.returns-in_err-event
returns-in_err-event c =
    c.from_residual.ensures ∙ sym (no_event _ _ c.in_err-event.ensures.lookup.0)

pub returns-in-Some : goal.returns-in-Some
returns-in-Some c =
    sym (of_event _ _ _ _ c.in_ok-event.ensures.lookup.0 c.in_ok-event.ensures.lookup.1
    c.in-Some.ensures)

pub returns-in-None : goal.returns-in-None
returns-in-None c =
    sym (of_event _ _ _ _ c.in_ok-event.ensures.lookup.0 c.in_ok-event.ensures.lookup.1
    c.in-None.ensures)
