-- The forms of the words of `camscope`: the words in which each request is written. Nothing else is
-- a form.
use Rattle.std.specs.Prelude.{◌≡◌, ◌≤◌, ◌⊎◌, ⊤, ℕ, Bool, false, true, ◌==◌, nat_le, ◌&&◌, List, [], ◌∷◌, ◌++◌, bytes_eq, codes, length, map, string_bytes, if◌then◌else◌}
use Rattle.std.specs.List.{list_all, list_any}
use Rattle.cam_scope_args.specs.declared.question.Lit.{Lit}
use Rattle.cam_scope_args.specs.declared.question.Lit.TheVariants.{All, Action, Stop}
use Rattle.cam_scope_args.specs.declared.question.Question.{Question}
use Rattle.cam_scope_args.specs.declared.question.Question.TheVariants.{Explain, Columns, Draw, Shiviz, Check, Shrink, Orders, Sweep, Compare}
use Rattle.cam_scope_args.specs.declared.words.Request.{Request}
use Rattle.cam_scope_args.specs.declared.words.Request.TheVariants.{Tell, Gen, Help, Version}

-- a word that begins with `-` names neither a file nor an action
abbrev pub is_dashed : List ℕ → Bool
is_dashed [] = false
is_dashed (byte ∷ rest) = byte == 45

-- digits alone, and at least one
abbrev pub is_digit : ℕ → Bool
is_digit byte = nat_le 48 byte && nat_le byte 57

abbrev pub is_number : List ℕ → Bool
is_number [] = false
is_number (byte ∷ rest) = is_digit byte && list_all is_digit rest

-- the word of a question
abbrev pub word_of : Question → List ℕ
word_of Explain = codes "explain"
word_of Columns = codes "columns"
word_of (Draw lit) = codes "draw"
word_of Shiviz = codes "shiviz"
word_of Check = codes "check"
word_of (Shrink line) = codes "shrink"
word_of Orders = codes "orders"
word_of (Sweep options) = codes "sweep"
word_of Compare = codes "compare"

-- an option of a sweep: a kind of faults, `--show` before the number of an end, or a number
abbrev pub is_option : List ℕ → Bool
is_option word =
    if bytes_eq word (codes "--restart") then true
    else if bytes_eq word (codes "--stop") then true
    else if bytes_eq word (codes "--lose") then true
    else if bytes_eq word (codes "--repeat") then true
    else if bytes_eq word (codes "--show") then true
    else is_number word

-- its option, with a value
abbrev pub lit_words : Lit → List (List ℕ)
lit_words All = []
lit_words (Action name) = codes "--action" ∷ name.now ∷ []
lit_words (Stop event) = codes "--stop" ∷ event.now ∷ []

abbrev pub option_words : Question → List (List ℕ)
option_words (Draw lit) = lit_words lit
option_words (Shrink line) = codes "--keep" ∷ line.now ∷ []
option_words (Sweep options) = map string_bytes options.now
option_words _ = []

-- a name does not begin with `-`, and an event is a number
abbrev pub CanBeLit : Lit → Type 0
CanBeLit All = ⊤
CanBeLit (Action name) = is_dashed name.now ≡ false
CanBeLit (Stop event) = is_number event.now ≡ true

-- what is lit, by its option
abbrev pub IsLit : List ℕ → List ℕ → Lit → Type 0
IsLit option value lit = (lit_words lit ≡ option ∷ value ∷ []) × CanBeLit lit

abbrev pub CanBeAsked : Question → Type 0
CanBeAsked (Draw lit) = CanBeLit lit
CanBeAsked (Shrink line) = is_dashed line.now ≡ false
CanBeAsked (Sweep options) = list_all is_option (map string_bytes options.now) ≡ true
CanBeAsked _ = ⊤

-- Options of a sweep stand before the file.
abbrev pub MayStandBehind : Question → Type 0
MayStandBehind (Sweep options) = ⊥
MayStandBehind _ = ⊤

-- how many files a question is asked of: any number, two, or one at most
abbrev pub TakesSoMany : Question → List (List ℕ) → Type 0
TakesSoMany Check files = ⊤
TakesSoMany Compare files = length files ≡ 2
TakesSoMany _ files = length files ≤ 1

-- A question of files in words. Its option stands before the file or behind it.
abbrev pub AreWordsOf : List (List ℕ) → Question → List (List ℕ) → Type 0
AreWordsOf words question files = CanBeAsked question
    × ((words ≡ word_of question ∷ option_words question ++ files)
    ⊎ (MayStandBehind question × (words ≡ word_of question ∷ files ++ option_words question)))

-- the word of a question without an option
pub record IsPlain (word : List ℕ) (question : Question) : Type 0 where
  pub asks : word ≡ word_of question
  pub options : option_words question ≡ []
  pub can : CanBeAsked question
  pub behind : MayStandBehind question
  pub many : (files : List (List ℕ)) → length files ≤ 1 → TakesSoMany question files

-- the word of a question, with its option and the value of that
pub record IsOption (word option value : List ℕ) (question : Question) : Type 0 where
  pub asks : word ≡ word_of question
  pub options : option_words question ≡ option ∷ value ∷ []
  pub can : CanBeAsked question
  pub behind : MayStandBehind question
  pub many : (files : List (List ℕ)) → length files ≤ 1 → TakesSoMany question files

-- the words ask this question of these files
pub record IsAsked (words : List (List ℕ)) (question : Question) (files : List (List ℕ)) : Type 0 where
  pub spelt : AreWordsOf words question files
  pub many : TakesSoMany question files
  pub names : list_any is_dashed files ≡ false

-- a script is asked for by its seed and its size
pub record IsMade (words : List (List ℕ)) (seed size : List ℕ) : Type 0 where
  pub spelt : words ≡ codes "gen" ∷ seed ∷ size ∷ []
  pub from : is_number seed ≡ true
  pub long : is_number size ≡ true

-- The words are the form of the request.
abbrev pub IsForm : List (List ℕ) → Request → Type 0
IsForm words (Tell question files) = IsAsked words question (map string_bytes files.now)
IsForm words (Gen seed size) = IsMade words seed.now size.now
IsForm words Help = words ≡ codes "--help" ∷ []
IsForm words Version = words ≡ codes "--version" ∷ []

-- They are no form.
abbrev pub IsNoForm : List (List ℕ) → Type 0
IsNoForm words = (request : Request) → ¬ (IsForm words request)
