use Rattle.std.proofs.Common.{◌≡◌, reverse, arith, ap, ◌∙◌}
use Rattle.std.proofs.lemmas.Grind.{common_steps}
use Rattle.std.proofs.lemmas.List.{reverse-reverse}
use Rattle.cam_plain.specs.Legal.{history}
use Rattle.cam_report.proofs.Settling.{history_back}
use Rattle.cam_report.proofs.witness.history_text.Goals as goal

pub returns : goal.returns
returns c =
    let oldest : reverse (history c.args.deeds.now) ≡ c.args.deeds.now = ap reverse (history_back c.args.deeds.now) ∙ reverse-reverse c.args.deeds.now in
    grind (arith, common_steps, oldest)
