use Rattle.cam_recman.proofs.Folding.{recovery_is_of_the_records, one_more_entry_adds, written_entry_adds, stopped_append_recovers}
use Rattle.cam_recman.proofs.Saying.{outcomes_are_those_said, held_is_what_was_secured}
use Rattle.cam_recman.proofs.Counts.{counts_are_the_greatest, count_is_the_last}
use Rattle.cam_recman.proofs.Firsts.{fault_is_the_first, first_is_the_fault}
use Rattle.cam_recman.proofs.laws.recovery.Goals as goal

pub returns-clause-recovered : goal.returns-clause-recovered
returns-clause-recovered c = recovery_is_of_the_records

pub returns-clause-outcomes : goal.returns-clause-outcomes
returns-clause-outcomes c = outcomes_are_those_said

pub returns-clause-held : goal.returns-clause-held
returns-clause-held c = held_is_what_was_secured

pub returns-clause-counts : goal.returns-clause-counts
returns-clause-counts c = counts_are_the_greatest

pub returns-clause-count : goal.returns-clause-count
returns-clause-count c = count_is_the_last

pub returns-clause-one_more : goal.returns-clause-one_more
returns-clause-one_more c = one_more_entry_adds

pub returns-clause-written : goal.returns-clause-written
returns-clause-written c = written_entry_adds

pub returns-clause-stopped : goal.returns-clause-stopped
returns-clause-stopped c = stopped_append_recovers

pub returns-clause-first : goal.returns-clause-first
returns-clause-first c = fault_is_the_first

pub returns-clause-faulty : goal.returns-clause-faulty
returns-clause-faulty c = first_is_the_fault
