use Rattle.std.proofs.Common.{◌≡◌, length, reverse, take, arith, ◌∙◌}
use Rattle.std.proofs.lemmas.Grind.{common_steps}
use Rattle.std.proofs.lemmas.List.{length-reverse}
use Rattle.cam_report.specs.Traces.{sent_before}
use Rattle.cam_report.proofs.Counting.{all_among, front_length}
use Rattle.cam_report.proofs.trace.write_event.Goals as goal

pub returns : goal.returns
returns c = λ events numbered within.
    let t = reverse (take c.args.number events) in
    let count = front_length events c.args.number within in
    let letter = c.number-letter.ensures events numbered within in
    let sent : c.sent_before-first.result ≡ sent_before t (length t) =
    c.sent_before-first.ensures.value (reverse events) numbered (omega (arith, within, length-reverse events)) ∙ all_among events c.args.number within
    in
    grind (arith, common_steps, count, letter, sent)
