-- The causes of faults, by their numbers.
use Rattle.std.specs.Prelude.{ℕ}
use Rattle.cam_words.specs.declared.cause.Cause.{Cause}
use Rattle.cam_words.specs.declared.cause.Cause.TheVariants as causes

abbrev pub cause_number : Cause → ℕ
cause_number causes.TooLong = 1
cause_number causes.ByteNotAllowed = 2
cause_number causes.UnknownWord = 3
cause_number causes.MissingWord = 4
cause_number causes.ExtraWord = 5
cause_number causes.InvalidNumber = 6
cause_number causes.InvalidName = 7
cause_number causes.DeclaredAgain = 8
cause_number causes.Undeclared = 9
cause_number causes.Misplaced = 10
cause_number causes.NoSuchNode = 11
cause_number causes.TooMany = 12
