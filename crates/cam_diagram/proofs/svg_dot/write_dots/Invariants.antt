use Rattle.std.proofs.Common.{◌≡◌, ◌++◌, drop}
use Rattle.cam_diagram.specs.Dots.{dots_text}
use Rattle.cam_diagram.proofs.svg_dot.write_dots.Given as goal

abbrev pub invariant-loop-number : goal.invariant-loop-number
invariant-loop-number l =
    l.xml ++ dots_text l.captions l.right l.number (drop l.number l.dots)
    ≡ l.fn.xml ++ dots_text l.captions l.right 0 l.dots
