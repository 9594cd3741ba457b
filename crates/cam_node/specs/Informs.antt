-- The names of a letter's outcomes that are new to a node, each once, in order of names.
use Rattle.std.specs.Prelude.{not, List, filter, flat_map}
use Rattle.cam_names.specs.declared.name.Name.{Name}
use Rattle.cam_know.specs.declared.Outcome.{Outcome}
use Rattle.cam_know.specs.Knowledge.{Knowledge}
use Rattle.cam_know.specs.Known.{knows_abort, knows_commit, aborted_name, committed_name}
use Rattle.cam_event.specs.Rules.{sorted_names}

abbrev pub aborts_from : Knowledge → List Outcome → List Name
aborts_from k os = sorted_names (filter (λ a. not (knows_abort k a)) (flat_map aborted_name os))

abbrev pub commits_from : Knowledge → List Outcome → List Name
commits_from k os = sorted_names (filter (λ a. not (knows_commit k a)) (flat_map committed_name os))
