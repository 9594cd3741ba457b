use Rattle.std.proofs.Common.{◌∙◌, ap, sym, arith}
use Rattle.cam_words.specs.Lines.{lines_of}
use Rattle.cam_script.specs.Grammar.{read_lines}
use Rattle.cam_script.proofs.Within.{stands_within}
use Rattle.cam_script.proofs.Gives.{goes_on, next_stands}
use Rattle.cam_script.proofs.parser.read_lines.Goals as goal

pub read_line-requires : goal.read_line-requires
read_line-requires c = stands_within c.loop-rest.so_far c.loop-rest.invariant.stands

pub loop-rest-preserved : goal.loop-rest-preserved
loop-rest-preserved c =
    let before = c.loop-rest.so_far in
    let line = c.first_line.result.0.now in
    let lines = lines_of c.first_line.result.1.now in
    record {
      from_one = omega arith;
      count = omega (arith, c.first_line.ensures.rest, c.loop-rest.invariant.count);
      stands = next_stands before c.read_line.new.self c.loop-rest.number line c.loop-rest.invariant.stands c.in_ok-read_line.ensures;
      value =
          sym (goes_on before c.read_line.new.self c.loop-rest.number line lines c.in_ok-read_line.ensures)
          ∙ ap (read_lines before c.loop-rest.number) (sym c.first_line.ensures.value)
          ∙ c.loop-rest.invariant.value;
    }
