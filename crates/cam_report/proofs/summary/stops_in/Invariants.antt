use Rattle.std.proofs.Common.{◌≡◌, ◌≤◌, take, reverse, length, filter}
use Rattle.cam_report.specs.Summary.{is_stop}
use Rattle.cam_report.proofs.summary.stops_in.Given as goal

abbrev pub invariant-loop-event : goal.invariant-loop-event
invariant-loop-event l = record {
  counted : l.stops ≡ length (filter (λ e. is_stop e.note) (reverse (take l.event-index l.event-items)));
  few : l.stops ≤ l.event-index;
}
