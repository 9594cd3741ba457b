use Rattle.std.proofs.Common.{◌≡◌, List, Some, reverse, take, arith, ap, ◌∙◌}
use Rattle.std.proofs.lemmas.Grind.{common_steps}
use Rattle.std.proofs.lemmas.List.{take_all}
use Rattle.cam_event.specs.declared.Event.{Event}
use Rattle.cam_report.specs.Traces.{letter_number}
use Rattle.cam_report.proofs.why.write_link.Goals as goal

pub returns : goal.returns
returns c = λ es numbered all.
    let whole : take c.args.events es ≡ es = take_all c.args.events es (omega (arith, all)) in
    let number : c.number-letter.result ≡ letter_number (reverse es) (Some c.args.link.now.letter) =
    c.number-letter.ensures es numbered (omega (arith, all)) ∙ ap (λ (xs : List Event). letter_number (reverse xs) (Some c.args.link.now.letter)) whole
    in
    grind (arith, common_steps, number)
