-- The words of a line, and faults at them. Places in a line count from 0, columns from 1; a word is the places where it begins and ends.
use Rattle.std.specs.Prelude.{ℕ, ◌+◌, ◌==◌, ◌≤◌, ◌||◌, Bool, true, false, List, [], ◌∷◌, length, drop, slice_range, bytes_eq, Option, Some, None, Result, Ok, Err, if◌then◌else◌}
use Rattle.cam_words.specs.declared.fault.ScriptFault.{ScriptFault}
use Rattle.cam_words.specs.declared.cause.Cause.{Cause}
use Rattle.cam_words.specs.declared.cause.Cause.TheVariants as causes
use Rattle.cam_words.specs.declared.fault.ScriptFault.TheVariants.{Bad}
use Rattle.cam_words.specs.declared.word.Word.{Word}

-- reading goes on from left to right, up to the first fault
infixl 10 ◌>>=◌
abbrev pub ◌>>=◌ : {A B : Type 0} → Result A ScriptFault → (A → Result B ScriptFault) → Result B ScriptFault
(Ok x) >>= f = f x
(Err e) >>= f = Err e

-- the fault of this cause at this place of the line of this number
abbrev pub refuse : {A : Type 0} → ℕ → ℕ → Cause → Result A ScriptFault
refuse number at cause = Err (Bad number (at + 1) cause)

-- what was read, or the fault
abbrev pub or_refuse : {A : Type 0} → Option A → ℕ → ℕ → Cause → Result A ScriptFault
or_refuse (Some x) number at cause = Ok x
or_refuse None number at cause = refuse number at cause

-- the fault if something is wrong
abbrev pub refuse_if : Bool → ℕ → ℕ → Cause → Result (Unit {0}) ScriptFault
refuse_if true number at cause = refuse number at cause
refuse_if false number at cause = Ok tt

-- Words are separated by blanks and tabs.
abbrev pub is_blank : ℕ → Bool
is_blank b = (b == 32) || (b == 9)

-- the place after the blanks from `at` on
abbrev pub blanks_end : ℕ → List ℕ → ℕ
blanks_end at [] = at
blanks_end at (b ∷ bs) = if is_blank b then blanks_end (at + 1) bs else at

-- the place after the word from `at` on
abbrev pub word_end : ℕ → List ℕ → ℕ
word_end at [] = at
word_end at (b ∷ bs) = if is_blank b then at else word_end (at + 1) bs

-- the word that begins at this place
abbrev pub word_from : ℕ → List ℕ → Word
word_from start line = record { start = start; end = word_end start (drop start line) }

-- the next word from `at` on: an empty one at the line's end if there is none
abbrev pub next_word : ℕ → List ℕ → Word
next_word at line = word_from (blanks_end at (drop at line)) line

-- A word is within the line.
abbrev pub IsInLine : List ℕ → Word → Type 0
IsInLine line word = (word.start ≤ word.end) × (word.end ≤ length line)

-- A place is not before this one, and within the line.
abbrev pub IsFurther : ℕ → List ℕ → ℕ → Type 0
IsFurther at line further = (at ≤ further) × (further ≤ length line)

-- the bytes of a word
abbrev pub text_of : Word → List ℕ → List ℕ
text_of word line = slice_range line word.start word.end

abbrev pub is_missing : Word → Bool
is_missing word = word.start == word.end

-- The next word after a word that ends at `at`. If it is missing, the fault is one past the line's last word.
abbrev pub some_word : ℕ → ℕ → Word → Result Word ScriptFault
some_word number at word = if is_missing word then refuse number at causes.MissingWord else Ok word

abbrev pub word_at : ℕ → ℕ → List ℕ → Result Word ScriptFault
word_at number at line = some_word number at (next_word at line)

-- No word is left. If there is one, the fault is at it.
abbrev pub no_word : ℕ → Word → Result (Unit {0}) ScriptFault
no_word number word = if is_missing word then Ok tt else refuse number word.start causes.ExtraWord

abbrev pub end_at : ℕ → ℕ → List ℕ → Result (Unit {0}) ScriptFault
end_at number at line = no_word number (next_word at line)

-- the third word after one that ends at `at`, empty if there is none: the fourth word of a line
abbrev pub third_word : ℕ → List ℕ → Word
third_word at line = next_word (next_word (next_word at line).end line).end line

-- what the table has for this word
abbrev pub looked_up : {A : Type 0} → List (List ℕ × A) → List ℕ → Option A
looked_up [] word = None
looked_up (row ∷ rows) word = if bytes_eq word row.0 then Some row.1 else looked_up rows word

-- the place of this name among the names, counted on from `place`
abbrev pub place_from : ℕ → List (List ℕ) → List ℕ → Option ℕ
place_from place [] name = None
place_from place (n ∷ names) name = if bytes_eq n name then Some place else place_from (place + 1) names name

abbrev pub place_of : List (List ℕ) → List ℕ → Option ℕ
place_of names name = place_from 0 names name
