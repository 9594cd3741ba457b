-- How deeds are written: in traces, and in witnesses.
use Rattle.std.specs.Prelude.{ℕ, Bool, true, false, List, [], ◌∷◌, ◌++◌, codes, decimal}
use Rattle.std.specs.Fmt.{signed_decimal}
use Rattle.cam_names.specs.Text.{name_text}
use Rattle.cam_event.specs.declared.Deed.{Deed}
use Rattle.cam_event.specs.declared.Deed.TheVariants.{Create, Ask, Call, Perform, Bounce, Got, AskCommit, AskAbort, Commit, Abort, Secure, Inform, Crash}
use Rattle.cam_report.specs.Words.{object_text, op_words, answer_words, seen_words}

abbrev pub outcome_word : Bool → List ℕ
outcome_word true = codes "commit"
outcome_word false = codes "abort"

-- a deed in words
abbrev pub deed_words : List (List ℕ) → Deed → List (List ℕ)
deed_words labels (Create a) = codes "create" ∷ name_text a ∷ []
deed_words labels (Ask a b) = codes "ask" ∷ name_text a ∷ name_text b ∷ []
deed_words labels (Call a n x op c) = codes "call" ∷ name_text a ∷ decimal n ∷ object_text labels x ∷ op_words op ++ decimal c ∷ []
deed_words labels (Perform a n answer) = codes "perform" ∷ name_text a ∷ decimal n ∷ answer_words answer
deed_words labels (Bounce a n u) = codes "bounce" ∷ name_text a ∷ decimal n ∷ name_text u ∷ []
deed_words labels (Got a n seen) = codes "got" ∷ name_text a ∷ decimal n ∷ seen_words seen
deed_words labels (AskCommit a v) = codes "askcommit" ∷ name_text a ∷ signed_decimal v ∷ []
deed_words labels (AskAbort a) = codes "askabort" ∷ name_text a ∷ []
deed_words labels (Commit a) = codes "commit" ∷ name_text a ∷ []
deed_words labels (Abort a) = codes "abort" ∷ name_text a ∷ []
deed_words labels (Secure f s c) = codes "secure" ∷ name_text f ∷ decimal s ∷ decimal c ∷ []
deed_words labels (Inform s a committed) = codes "inform" ∷ decimal s ∷ outcome_word committed ∷ name_text a ∷ []
deed_words labels (Crash s) = codes "crash" ∷ decimal s ∷ []
