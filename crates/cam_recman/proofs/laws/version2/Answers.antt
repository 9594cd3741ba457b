use Rattle.cam_recman.proofs.Said.{first_says, entry_says, snapshot_says, migrated_says, version2_is_left, version2_is_recovered, version2_says, said_is_recovered}
use Rattle.cam_recman.proofs.laws.version2.Goals as goal

pub returns-clause-first : goal.returns-clause-first
returns-clause-first c = first_says

pub returns-clause-entry : goal.returns-clause-entry
returns-clause-entry c = entry_says

pub returns-clause-snapshot : goal.returns-clause-snapshot
returns-clause-snapshot c = snapshot_says

pub returns-clause-migrated : goal.returns-clause-migrated
returns-clause-migrated c = migrated_says

pub returns-clause-left : goal.returns-clause-left
returns-clause-left c = version2_is_left

pub returns-clause-recovered : goal.returns-clause-recovered
returns-clause-recovered c = version2_is_recovered

pub returns-clause-said : goal.returns-clause-said
returns-clause-said c = said_is_recovered

pub returns-clause-says : goal.returns-clause-says
returns-clause-says c = version2_says
