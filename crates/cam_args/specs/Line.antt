-- The command line as clap is told it: a subcommand for each command's first word, with what stands
-- behind that word, in order.
use Rattle.std.specs.Prelude.{Bool, true, false, ◌==◌, if◌then◌else◌, List, [], ◌∷◌, codes, map, Option, Some, None, unwrap_or}
use Rattle.std.specs.List.{fold}
use Rattle.std.specs.Str.{bytes_eq}
use Rattle.clap.specs.Walk.{Row, Text, first_of}
use Rattle.clap.specs.declared.error.kind.ErrorKind.{ErrorKind}
use Rattle.clap.specs.declared.error.kind.ErrorKind.TheVariants as kinds
use Rattle.cam_args.specs.declared.ArgsFault.{ArgsFault}
use Rattle.cam_args.specs.declared.ArgsFault.TheVariants.{Usage, NoMemory}
use Rattle.clap.specs.Simple.{App, Shape, new_app, new_rule, on_top, with_rule, with_subcommand}

-- the word begins with `-` (45)
abbrev pub is_dashed : Text → Bool
is_dashed [] = false
is_dashed (b ∷ bs) = b == 45

-- what stands behind the first word of a command
abbrev pub values_of : Text → List Text
values_of name =
    if bytes_eq name (codes "witness") then codes "name" ∷ []
    else if bytes_eq name (codes "why") then codes "event" ∷ []
    else if bytes_eq name (codes "gen") then codes "seed" ∷ codes "size" ∷ []
    else if bytes_eq name (codes "storm")
    then codes "seed" ∷ codes "actions" ∷ codes "threads" ∷ codes "mode" ∷ []
    else []

-- the first word of each command
abbrev pub first_words : List Text
first_words = codes "run" ∷ codes "trace" ∷ codes "witness" ∷ codes "gen" ∷ codes "storm"
    ∷ codes "inspect" ∷ codes "upgrade"
    ∷ codes "why" ∷ codes "timed" ∷ []

-- a value that has to stand there
abbrev pub with_value : App → Text → App
with_value line value = with_rule line (record (new_rule value) { required = true })

-- a command by its first word, with its values
abbrev pub command_app : Text → List Text → App
command_app name values = fold with_value (new_app name) values

abbrev pub with_command : App → Text → List Text → App
with_command line name values = with_subcommand line (command_app name values).top

-- a line with no command yet: all its words are the caller's, one of them has to be a command, and
-- there is no help
abbrev pub empty_shape : Shape → Shape
empty_shape line = record line {
  no_binary_name = true;
  disable_help_flag = true;
  disable_help_subcommand = true;
  subcommand_required = true;
}

abbrev pub empty_line : App
empty_line = on_top empty_shape (new_app (codes "camelot"))

abbrev pub command_line : App
command_line = fold (λ line name. with_command line name (values_of name)) empty_line first_words

-- a value of a command
abbrev pub value_at : List Row → Text → Text
value_at rows value = unwrap_or (first_of value rows) []

-- the words of a command and its values
abbrev pub words_in : Option (Text × List Row) → List Text
words_in (Some (name, rows)) = name ∷ map (value_at rows) (values_of name)
words_in None = []

-- what an error of a kind is here
abbrev pub fault_of_kind : ErrorKind → ArgsFault
fault_of_kind kinds.OutOfMemory = NoMemory
fault_of_kind _ = Usage
