-- A command that is read and found for each form is refused exactly where there is no form.
use Rattle.std.proofs.Common.{◌≡◌, ◌↔◌, List, ℕ, Result, Ok, Err, IfOk, refl}
use Rattle.cam_args.specs.declared.Command.{Command}
use Rattle.cam_args.specs.declared.ArgsFault.{ArgsFault}
use Rattle.cam_args.specs.declared.ArgsFault.TheVariants.{Usage, NoMemory}
use Rattle.cam_args.specs.Forms.{IsForm, IsNoForm, Finds, UnlessNoMemory}
use Rattle.cam_args.proofs.Spelling.{no_error}

pub refused : (words : List (List ℕ)) (r : Result Command ArgsFault) → IfOk r (IsForm words)
    → Finds words r → UnlessNoMemory r (r ≡ Err Usage ↔ IsNoForm words)
refused words (Ok command) read each =
    (λ e. absurd (no_error (Ok command) Usage command e refl), λ none. absurd (none command read))
refused words (Err Usage) read each =
    (λ e command form. no_error (Err Usage) Usage command refl (each command form), λ none. refl)
refused words (Err NoMemory) read each = tt
