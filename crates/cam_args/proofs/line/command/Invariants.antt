-- With the values that are left the command has all of them.
use Rattle.std.proofs.Common.{◌≡◌, false, map, drop}
use Rattle.std.specs.List.{fold}
use Rattle.clap.specs.Words.{app_of}
use Rattle.clap.specs.declared.builder.command.Command.TheViews.{out-Command as fields_of}
use Rattle.cam_args.specs.Line.{command_app, with_value}
use Rattle.cam_args.proofs.line.command.Given as goal

abbrev pub invariant-loop-value : goal.invariant-loop-value
invariant-loop-value l =
    (fold with_value (app_of l.command) (map (λ s. s.now) (drop l.value-index l.values))
    ≡ command_app l.name (map (λ s. s.now) l.values))
    × ((fields_of l.command).has_globals ≡ false)
