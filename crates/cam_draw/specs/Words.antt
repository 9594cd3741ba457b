-- The words of events, by the names of a script.
use Rattle.std.specs.Prelude.{ℕ, eqb, Bool, false, if◌then◌else◌, List, [], ◌∷◌, ◌++◌, Option, Some, None, slice_get, codes, decimal}
use Rattle.std.specs.Option.{option_map_or}
use Rattle.cam_names.specs.declared.name.Name.{Name}
use Rattle.cam_names.specs.Names.{name_eq}
use Rattle.cam_know.specs.declared.Reason.{Reason}
use Rattle.cam_know.specs.declared.Reason.TheVariants as reasons
use Rattle.cam_event.specs.declared.Event.{Event}
use Rattle.cam_event.specs.declared.Note.{Note}
use Rattle.cam_event.specs.declared.Note.TheVariants as notes
use Rattle.cam_event.specs.declared.Deed.{Deed}
use Rattle.cam_event.specs.declared.Deed.TheVariants.{Commit, Abort, Inform}
use Rattle.cam_scope.specs.declared.events.NamedEvent.{NamedEvent}
use Rattle.cam_scope.specs.declared.letters.NamedLetter.{NamedLetter}
use Rattle.cam_scope.specs.declared.names.Names.{Names}
use Rattle.cam_scope.specs.declared.scope.Scope.{Scope}
use Rattle.cam_scope.specs.Deeds.{deed_text}
use Rattle.cam_scope.specs.Words.{kind_text, name_word}

-- what made an action an orphan
abbrev pub cause_words : Names → Reason → List ℕ
cause_words names (reasons.Abort u) = name_word names u ++ codes " was aborted"
cause_words names (reasons.Crash s old new) = codes "node " ++ decimal s ++ codes " restarted"

unfoldable pub stop_word : List ℕ
stop_word = codes "STOP orphan "

-- a note: nothing for a plain one
abbrev pub note_words : Names → Note → List ℕ
note_words names notes.Plain = []
note_words names (notes.Stopped a reason) = stop_word ++ name_word names a ++ codes ": " ++ cause_words names reason
note_words names notes.Missed = codes "missed: the node has restarted since"
note_words names notes.Again = codes "again: this was done before"
note_words names notes.Ended = codes "ended: this call is old"
note_words names notes.Late = codes "late: this changes nothing"
note_words names (notes.Preparing f) = codes "asks for votes on " ++ name_word names f
note_words names notes.Voted = codes "a vote is counted"

-- the action that a deed decides
abbrev pub decided : Deed → Option Name
decided (Commit a) = Some a
decided (Abort a) = Some a
decided _ = None

-- whether a node hears here of what it has just decided itself
abbrev pub is_news_of : Option Name → Deed → Bool
is_news_of (Some b) (Inform s a committed) = name_eq a b
is_news_of _ _ = false

-- a text behind others
abbrev pub joined : List ℕ → List ℕ → List ℕ
joined [] text = text
joined (c ∷ cs) text = c ∷ cs ++ codes "; " ++ text

abbrev pub with_deed : Names → List (List ℕ) → List ℕ → Option Name → Deed → List ℕ
with_deed names labels words last d = if is_news_of last d then words else joined words (deed_text names labels d)

-- words, and behind them those of deeds, but for what a node hears of the decision before
abbrev pub with_deeds : Names → List (List ℕ) → List ℕ → Option Name → List Deed → List ℕ
with_deeds names labels words last [] = words
with_deeds names labels words last (d ∷ ds) =
    with_deeds names labels (with_deed names labels words last d) (decided d) ds

abbrev pub sending : NamedLetter → List ℕ
sending letter = codes "sends " ++ kind_text letter.kind ++ codes " to node " ++ decimal letter.to

-- the first letter that an event sent, if it sent one
abbrev pub first_sent : List NamedLetter → NamedEvent → List ℕ
first_sent letters e = if eqb e.sent 0 then [] else option_map_or sending (slice_get letters e.sent_before) []

abbrev pub sent_words : Scope → ℕ → List ℕ
sent_words scope number = option_map_or (first_sent scope.letters) (slice_get scope.events number) []

abbrev pub or_else : List ℕ → List ℕ → List ℕ
or_else [] other = other
or_else (c ∷ cs) other = c ∷ cs

unfoldable pub no_outcome : List ℕ
no_outcome = codes "hears no outcome"

-- The words in the row of an event: its note and its deeds, or else what it sent; by news alone it may hear of no action.
abbrev pub words : Scope → List (List ℕ) → ℕ → Event → List ℕ
words scope labels number e =
    or_else
    (or_else (with_deeds scope.names labels (note_words scope.names e.note) None e.deeds) (sent_words scope number))
    no_outcome
