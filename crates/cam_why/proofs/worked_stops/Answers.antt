-- Each by computing.
use Rattle.std.proofs.Common.{refl}
use Rattle.cam_why.proofs.worked_stops.Goals as goal

pub returns : goal.returns
returns c = record {
  abort_stops = refl;
  abort_before = refl;
  abort_cause = refl;
  abort_chain = record { reached = refl; read = refl };
  crash_stops = refl;
  crash_cause = refl;
  crash_chain = record { reached = refl; read = refl };
  no_stop = refl;
}
