-- A log to which no Version could be appended: it had none.
use Rattle.std.proofs.Common.{rules}
use Rattle.cam_recman.proofs.Said.{not_first}
use Rattle.cam_recman.proofs.migrating.migrate.Goals as goal

pub returns : goal.returns
returns g c = record {
  migrated = tt;
  whole = tt;
  already = tt;
  untouched = search (rules, not_first);
  unchanged = search rules;
  any_moment = search rules;
  bad_record = search rules;
  disk_fault = search rules;
  later = c.append.ensures.later;
  faults_within = c.append.ensures.faults_within;
  unbounded = c.append.ensures.unbounded;
  tells = c.append.ensures.tells;
}
