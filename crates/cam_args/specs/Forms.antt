-- The forms of the command line, behind the program's name: the words in which each command is
-- written. Nothing else is a form.
use Rattle.std.specs.Prelude.{◌≡◌, ◌≤◌, ⊤, ℕ, Bool, if◌then◌else◌, List, [], ◌∷◌, ◌++◌, codes, decimal, Result, Ok, Err}
use Rattle.cam_names.specs.Names.{IsName}
use Rattle.cam_names.specs.Text.{name_text}
use Rattle.cam_args.specs.declared.Command.{Command}
use Rattle.cam_args.specs.declared.ArgsFault.{ArgsFault}
use Rattle.cam_args.specs.declared.ArgsFault.TheVariants.{Usage, NoMemory}
use Rattle.cam_args.specs.declared.Command.TheVariants.{Run, Trace, Witness, Gen, Storm, Inspect, Upgrade, Why, Timed}

-- a number within two bounds
abbrev pub IsFrom : ℕ → ℕ → ℕ → Type 0
IsFrom least most n = (least ≤ n) × (n ≤ most)

-- the ranges of a command's numbers, and that its name is one
abbrev pub IsCommand : Command → Type 0
IsCommand (Witness a) = IsName a
IsCommand (Gen seed size) = IsFrom 0 18446744073709551615 seed × IsFrom 1 400 size
IsCommand (Storm seed actions threads calm) = IsFrom 0 18446744073709551615 seed
    × IsFrom 1 64 actions × IsFrom 1 4 threads
IsCommand (Why event) = IsFrom 0 4294967295 event
IsCommand _ = ⊤

-- calm or rough
abbrev pub mode_word : Bool → List ℕ
mode_word calm = if calm then codes "calm" else codes "rough"

-- a command in words
abbrev pub words_of : Command → List (List ℕ)
words_of Run = codes "run" ∷ []
words_of Trace = codes "trace" ∷ []
words_of (Witness a) = codes "witness" ∷ name_text a ∷ []
words_of (Gen seed size) = codes "gen" ∷ decimal seed ∷ decimal size ∷ []
words_of (Storm seed actions threads calm) =
    codes "storm" ∷ decimal seed ∷ decimal actions ∷ decimal threads ∷ mode_word calm ∷ []
words_of Inspect = codes "inspect" ∷ []
words_of Upgrade = codes "upgrade" ∷ []
words_of (Why event) = codes "why" ∷ decimal event ∷ []
words_of Timed = codes "timed" ∷ []

-- the words are the form of the command
pub record IsForm (words : List (List ℕ)) (command : Command) : Type 0 where
  pub is : IsCommand command
  pub spelt : words ≡ words_of command

-- the words are no form
abbrev pub IsNoForm : List (List ℕ) → Type 0
IsNoForm words = (command : Command) → ¬ (IsForm words command)

-- what is written where there is no form
abbrev pub usage : List ℕ
usage =
    codes
    "usage: camelot run | trace | witness NAME | gen SEED SIZE | storm SEED ACTIONS THREADS MODE | inspect | upgrade | why EVENT | timed"
    ++ 10 ∷ []

-- a fact of what was read, unless memory ran out
abbrev pub UnlessNoMemory : Result Command ArgsFault → Type 0 → Type 0
UnlessNoMemory (Ok command) Holds = Holds
UnlessNoMemory (Err Usage) Holds = Holds
UnlessNoMemory (Err NoMemory) Holds = ⊤

-- each command whose form the words are is found, unless memory ran out
abbrev pub Finds : List (List ℕ) → Result Command ArgsFault → Type 0
Finds words found = UnlessNoMemory found
    ((command : Command) → IsForm words command → found ≡ Ok command)

-- five words
abbrev pub five : List ℕ → List ℕ → List ℕ → List ℕ → List ℕ → List (List ℕ)
five a b c d e = a ∷ b ∷ c ∷ d ∷ e ∷ []
