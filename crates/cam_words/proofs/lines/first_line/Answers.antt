use Rattle.std.proofs.Common.{◌≡◌, ◌+◌, ◌<◌, ◌∙◌, length, sym, arith}
use Rattle.std.proofs.lemmas.List.{take_rest}
use Rattle.cam_words.specs.FirstLine.{line_len}
use Rattle.cam_words.proofs.FirstLine.{lines_of_one, lines_of_first}
use Rattle.cam_words.proofs.lines.first_line.Goals as goal

pub returns-then-end-text-clause-value : goal.returns-then-end-text-clause-value
returns-then-end-text-clause-value c =
    lines_of_one c.args.text.now c.requires (sym c.line_len-end.ensures.value ∙ c.if-end-text.true)

pub returns-clause-value : goal.returns-clause-value
returns-clause-value c =
    let text = c.args.text.now in
    let end : c.line_len-end.result ≡ line_len text = c.line_len-end.ensures.value in
    let below : line_len text < length text = omega arith in
    rw (take_rest text (c.line_len-end.result + 1), c.without_cr.ensures.value, end) (lines_of_first text below)
