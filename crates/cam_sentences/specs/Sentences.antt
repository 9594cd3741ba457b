-- Which sentence each refusal, cause, note and fault of a letter has. The sentences stand in src/.
use Rattle.std.specs.Prelude.{ℕ, List, []}
use Rattle.cam_words.specs.declared.cause.Cause.{Cause}
use Rattle.cam_words.specs.declared.cause.Cause.TheVariants as causes
use Rattle.cam_event.specs.declared.LineRefusal.{LineRefusal}
use Rattle.cam_event.specs.declared.LineRefusal.TheVariants as refusals
use Rattle.cam_event.specs.declared.Note.{Note}
use Rattle.cam_event.specs.declared.Note.TheVariants as notes
use Rattle.cam_event.specs.declared.LetterFault.{LetterFault}
use Rattle.cam_event.specs.declared.LetterFault.TheVariants as faults
use Rattle.cam_sentences.specs.declared.refusals.TheConstants as refused
use Rattle.cam_sentences.specs.declared.causes.TheConstants as caused
use Rattle.cam_sentences.specs.declared.notes.TheConstants as noted
use Rattle.cam_sentences.specs.declared.faults.TheConstants as unread

abbrev pub refusal_text : LineRefusal → List ℕ
refusal_text refusals.Unbound = refused.UNBOUND.now
refusal_text refusals.NoLetter = refused.NO_LETTER.now
refusal_text refusals.Halted = refused.HALTED.now
refusal_text refusals.Ended = refused.ENDED.now
refusal_text refusals.OpenCall = refused.OPEN_CALL.now
refusal_text refusals.OpenChild = refused.OPEN_CHILD.now
refusal_text refusals.NotOpen = refused.NOT_OPEN.now
refusal_text refusals.TooDeep = refused.TOO_DEEP.now
refusal_text refusals.NothingToDo = refused.NOTHING_TO_DO.now

abbrev pub cause_text : Cause → List ℕ
cause_text causes.TooLong = caused.TOO_LONG.now
cause_text causes.ByteNotAllowed = caused.BYTE_NOT_ALLOWED.now
cause_text causes.UnknownWord = caused.UNKNOWN_WORD.now
cause_text causes.MissingWord = caused.MISSING_WORD.now
cause_text causes.ExtraWord = caused.EXTRA_WORD.now
cause_text causes.InvalidNumber = caused.INVALID_NUMBER.now
cause_text causes.InvalidName = caused.INVALID_NAME.now
cause_text causes.DeclaredAgain = caused.DECLARED_AGAIN.now
cause_text causes.Undeclared = caused.UNDECLARED.now
cause_text causes.Misplaced = caused.MISPLACED.now
cause_text causes.NoSuchNode = caused.NO_SUCH_NODE.now
cause_text causes.TooMany = caused.TOO_MANY.now

-- a plain note says nothing
abbrev pub note_text : Note → List ℕ
note_text notes.Plain = []
note_text (notes.Stopped a reason) = noted.STOPPED.now
note_text notes.Missed = noted.MISSED.now
note_text notes.Again = noted.AGAIN.now
note_text notes.Ended = noted.ENDED.now
note_text notes.Late = noted.LATE.now
note_text (notes.Preparing f) = noted.PREPARING.now
note_text notes.Voted = noted.VOTED.now

abbrev pub fault_text : LetterFault → List ℕ
fault_text faults.Short = unread.SHORT.now
fault_text faults.Tag = unread.TAG.now
fault_text faults.Number = unread.NUMBER.now
fault_text faults.Order = unread.ORDER.now
fault_text faults.Rest = unread.REST.now
