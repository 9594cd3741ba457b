-- What clap matches and what it refuses.
use Rattle.std.proofs.Common.{map, string_bytes}
use Rattle.clap.specs.Words.{app_of, kind_of, subcommand_rows_of}
use Rattle.cam_args.proofs.Passing.{clap_reads, clap_refuses}
use Rattle.cam_args.proofs.words.matches_of.Goals as goal

pub returns-in-Ok-clause-read : goal.returns-in-Ok-clause-read
returns-in-Ok-clause-read c = clap_reads (app_of c.in_ok-command_line.field-0)
    (map string_bytes c.args.words.now)
    (subcommand_rows_of c.in-Ok.matches) c.in_ok-command_line.ensures c.in-Ok.ensures.kinds
    (λ simple. (c.in-Ok.ensures.matches simple).1)

pub returns-in-Err-clause-each : goal.returns-in-Err-clause-each
returns-in-Err-clause-each c =
    clap_refuses (app_of c.in_ok-command_line.field-0) (map string_bytes c.args.words.now)
    (kind_of c.in-Err.error) c.fault_of.result c.in_ok-command_line.ensures c.fault_of.ensures
    c.in-Err.ensures.kinds
