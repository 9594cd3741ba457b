use Rattle.std.proofs.Common.{◌≡◌, ◌∷◌, arith}
use Rattle.std.proofs.lemmas.Grind.{common_steps}
use Rattle.cam_report.proofs.Spaced.{words_all}
use Rattle.cam_report.proofs.words.write_items.Goals as goal

pub returns-after-loop-item : goal.returns-after-loop-item
returns-after-loop-item c =
    let items : c.args.items.now ≡ c.in-Some.first.now ∷ c.in-Some.rest.now = cc (c.as_slice.ensures, c.in-Some.ensures.cases.0) in
    grind (arith, common_steps, words_all _ _ _ items)
