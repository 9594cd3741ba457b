use Rattle.std.proofs.Common.{take, reverse}
use Rattle.cam_report.specs.Gathered.{TellsValues, TellsViews}
use Rattle.cam_report.proofs.views.views_of.Given as goal

abbrev pub invariant-loop-deed : goal.invariant-loop-deed
invariant-loop-deed l = record {
  values : TellsValues (reverse (take l.deed-index l.deeds)) l.values;
  views : TellsViews (reverse (take l.deed-index l.deeds)) l.views;
}
