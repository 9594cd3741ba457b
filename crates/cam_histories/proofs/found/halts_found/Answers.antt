-- Two runs whose halts differ at one input.
use Rattle.cam_histories.proofs.FoundRuns.{lines_lead_to_the_halt, lines_keep_the_event}
use Rattle.cam_histories.proofs.found.halts_found.Goals as goal

pub returns-clause-leads : goal.returns-clause-leads
returns-clause-leads c = lines_lead_to_the_halt

pub returns-clause-keeps : goal.returns-clause-keeps
returns-clause-keeps c = lines_keep_the_event
