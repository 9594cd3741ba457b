-- Whether words ask for what goes over disks, by the command that was read, or by none.
use Rattle.std.proofs.Common.{◌≡◌, ◌↔◌, ℕ, Bool, true, false, List, Result, Ok, Err, refl, sym, ap, ◌∙◌, subst}
use mathlib.Core.Bool.{true≢false}
use Rattle.cam_args.specs.declared.Command.{Command}
use Rattle.cam_args.specs.declared.ArgsFault.{ArgsFault}
use Rattle.cam_args.specs.declared.ArgsFault.TheVariants.{Usage, NoMemory}
use Rattle.cam_args.specs.Forms.{IsForm as IsFormOf, Finds, IsNoForm, UnlessNoMemory}
use Rattle.cam_run.specs.Commands.{UsesDisks, uses_disks}

-- the command that words are the form of is one alone
read_command : Result Command ArgsFault → Command → Command
read_command (Ok command) other = command
read_command (Err fault) other = other

one_command : (words : List (List ℕ)) (command other : Command) → Finds words (Ok command)
    → IsFormOf words other → command ≡ other
unfolding read_command
one_command words command other finds form =
    ap (λ (r : Result Command ArgsFault). read_command r other) (finds other form)

pub asks_by : (words : List (List ℕ)) (command : Command) (asks : Bool) → asks ≡ uses_disks command
    → IsFormOf words command → Finds words (Ok command)
    → (asks ≡ true) ↔ UsesDisks words
asks_by words command asks is form finds = (
  λ yes. (command, form, sym is ∙ yes),
  λ other.
      is
      ∙ subst (λ (c : Command). uses_disks c ≡ true)
      (sym (one_command words command other.0 finds other.1)) other.2,
)

pub asks_nothing : (words : List (List ℕ)) (fault : ArgsFault) → fault ≡ Usage
    → UnlessNoMemory (Err fault)
    (◌≡◌ {A = Result Command ArgsFault} (Err fault) (Err Usage) ↔ IsNoForm words)
    → (false ≡ true) ↔ UsesDisks words
asks_nothing words Usage is told = (
  λ yes. absurd (true≢false (sym yes)),
  λ other. absurd (told.0 refl other.0 other.1),
)
asks_nothing words NoMemory is told = absurd cc
