use Rattle.std.proofs.Common.{◌≡◌, min, reverse, take, sym, ap, ◌∙◌, arith, rules}
use Rattle.std.proofs.lemmas.List.{length-reverse}
use Rattle.cam_report.specs.Traces.{sent_before, letter_number}
use Rattle.cam_report.proofs.Counting.{number_among}
use Rattle.cam_report.proofs.numbering.Numbering.number.Goals as goal

pub returns-in-Some : goal.returns-in-Some
returns-in-Some c = λ es numbered within.
    let event : c.min-event.result ≡ min c.in-Some.letter.event c.args.events = search rules in
    let before = c.sent_before.ensures.value (reverse es) numbered (omega (arith, within, event, length-reverse es)) in
    number_among es c.args.events c.in-Some.letter c.sent_before.result within (before ∙ ap (sent_before (reverse es)) event)
    ∙ ap (letter_number (reverse (take c.args.events es))) (sym c.in-Some.is)
