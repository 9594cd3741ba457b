-- What is kept is told place by place; here it is a text.
use Rattle.std.proofs.Common.{◌≡◌, ◌∙◌, ℕ, List, Option, true, false, ap, length, map, subst, sym, IfNone, IfSome}
use Rattle.std.proofs.lemmas.List.{length-map}
use Rattle.cam_shrink.specs.Cuts.{alone, places_below, IsPart}
use Rattle.cam_shrink.specs.Least.{EachIsNeeded}
use Rattle.cam_whatif.specs.Reports.{shows}
use Rattle.cam_whatif.specs.Smallest.{Shows}
use Rattle.cam_whatif.specs.Texts.{text_at}
use Rattle.cam_whatif.proofs.Smallest.{missing_of, smallest_of}
use Rattle.cam_whatif.proofs.shrinking.shrink_lines.Goals as goal

pub returns-in-None-clause-none : goal.returns-in-None-clause-none
returns-in-None-clause-none c =
    let lines = map (λ line. line.now) c.args.lines.now in
    let many = length c.args.lines.now in
    missing_of c.args.line.now lines many (sym (length-map c.args.lines.now (λ line. line.now)))
    (subst (λ (o : Option (List ℕ)). IfNone o (false ≡ shows c.args.line.now (text_at lines (places_below many)))) c.in-None.is
    c.in_ok-kept.ensures.none)
