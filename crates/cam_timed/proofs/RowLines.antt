-- The scripts of the worked runs, as the checker reads them.
use Rattle.std.proofs.Common.{refl}
use Rattle.cam_words.specs.Numbers.{number_at, node_at, value_at, new_name_at, declared_at}
use Rattle.cam_script.specs.Declarations.{nodes_line, object_line, kind_word_at, start_at}
use Rattle.cam_script.specs.Operations.{op_word_at, op_of, op_at}
use Rattle.cam_script.specs.Steps.{call_line, commit_line, abort_line, giveup_line, drain_line, tell_line}
use Rattle.cam_script.specs.Variables.{variable_at}
use Rattle.cam_timed.specs.RowLines.{RowsAreRead}
use Rattle.cam_timed.specs.TimedLines.{begin_by_time, ask_by_time, tick_line, expire_line, untimed_line}
use Rattle.cam_timed.specs.TimedGrammar.{with_first_word, read_timed_line}

pub rows_are_read : RowsAreRead
unfolding number_at node_at value_at new_name_at declared_at variable_at nodes_line object_line kind_word_at start_at op_word_at op_of op_at call_line commit_line abort_line giveup_line drain_line tell_line begin_by_time ask_by_time tick_line expire_line untimed_line with_first_word read_timed_line
rows_are_read = record { quiet = refl; expiry = refl; grandchild = refl }
