-- Deeds and notes in words, by the names of a script.
use Rattle.std.specs.Prelude.{ℕ, Bool, true, false, List, [], ◌++◌, codes, decimal}
use Rattle.std.specs.Fmt.{signed_decimal}
use Rattle.cam_event.specs.declared.Deed.{Deed}
use Rattle.cam_event.specs.declared.Deed.TheVariants.{Create, Ask, Call, Perform, Bounce, Got, AskCommit, AskAbort, Commit, Abort, Secure, Inform, Crash}
use Rattle.cam_event.specs.declared.Note.{Note}
use Rattle.cam_event.specs.declared.Note.TheVariants as notes
use Rattle.cam_scope.specs.declared.names.Names.{Names}
use Rattle.cam_scope.specs.Words.{answer_text, name_word, object_word, op_text, reason_text, seen_text}

-- what a node hears of an action
abbrev pub heard : Bool → List ℕ
heard true = codes "hears commit "
heard false = codes "hears abort "

abbrev pub deed_text : Names → List (List ℕ) → Deed → List ℕ
deed_text names labels (Create a) = codes "create " ++ name_word names a
deed_text names labels (Ask a b) = name_word names a ++ codes " asks for " ++ name_word names b
deed_text names labels (Call a n x op c) = name_word names a ++ codes " calls " ++ object_word labels x ++ codes " " ++ op_text op
deed_text names labels (Perform a n answer) = codes "perform for " ++ name_word names a ++ codes ": " ++ answer_text answer
deed_text names labels (Bounce a n u) = name_word names a ++ codes " meets the lock of " ++ name_word names u
deed_text names labels (Got a n seen) = name_word names a ++ codes " got " ++ seen_text names seen
deed_text names labels (AskCommit a v) = name_word names a ++ codes " asks to commit " ++ signed_decimal v
deed_text names labels (AskAbort a) = name_word names a ++ codes " asks to abort"
deed_text names labels (Commit a) = codes "commit " ++ name_word names a
deed_text names labels (Abort a) = codes "abort " ++ name_word names a
deed_text names labels (Secure f s c) = codes "secure " ++ name_word names f
deed_text names labels (Inform s a committed) = heard committed ++ name_word names a
deed_text names labels (Crash s) = codes "restart of node " ++ decimal s

-- a note: nothing for a plain one
abbrev pub note_text : Names → Note → List ℕ
note_text names notes.Plain = []
note_text names (notes.Stopped a reason) = codes "STOP " ++ name_word names a ++ codes ": " ++ reason_text names reason
note_text names notes.Missed = codes "missed"
note_text names notes.Again = codes "again"
note_text names notes.Ended = codes "ended"
note_text names notes.Late = codes "late"
note_text names (notes.Preparing f) = codes "prepare " ++ name_word names f
note_text names notes.Voted = codes "voted"
