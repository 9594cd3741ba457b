-- What is shown when an event is pointed at, and the action that an event is of.
use Rattle.std.specs.Prelude.{ℕ, ◌-◌, List, [], ◌∷◌, ◌++◌, Option, Some, None, slice_get, codes, decimal}
use Rattle.std.specs.List.{flat_map}
use Rattle.std.specs.Option.{option_map_or}
use Rattle.cam_names.specs.declared.name.Name.{Name}
use Rattle.cam_event.specs.declared.Event.{Event}
use Rattle.cam_event.specs.declared.Note.{Note}
use Rattle.cam_event.specs.declared.Note.TheVariants as notes
use Rattle.cam_event.specs.declared.Deed.{Deed}
use Rattle.cam_event.specs.declared.Deed.TheVariants.{Create, Ask, Call, Perform, Bounce, Got, AskCommit, AskAbort, Commit, Abort, Secure, Inform, Crash}
use Rattle.cam_scope.specs.declared.events.NamedEvent.{NamedEvent}
use Rattle.cam_scope.specs.declared.letters.NamedLetter.{NamedLetter}
use Rattle.cam_scope.specs.declared.names.Names.{Names}
use Rattle.cam_scope.specs.declared.scope.Scope.{Scope}
use Rattle.cam_scope.specs.Deeds.{deed_text}
use Rattle.cam_scope.specs.Words.{kind_text, name_word}
use Rattle.cam_draw.specs.Words.{note_words}

abbrev pub line_words : Option ℕ → List ℕ
line_words None = []
line_words (Some line) = codes ", line " ++ decimal line

abbrev pub way_words : NamedLetter → List ℕ
way_words letter = codes ", " ++ kind_text letter.kind ++ codes " from node " ++ decimal letter.from

abbrev pub way_of : List NamedLetter → ℕ → List ℕ
way_of letters number = option_map_or way_words (slice_get letters (number - 1)) []

unfoldable pub by_letter : List ℕ
by_letter = codes ", by letter "

abbrev pub numbered_letter : List NamedLetter → ℕ → List ℕ
numbered_letter letters number = by_letter ++ decimal number ++ way_of letters number

abbrev pub letter_words : List NamedLetter → Option ℕ → List ℕ
letter_words letters None = []
letter_words letters (Some number) = numbered_letter letters number

abbrev pub line_and_letter : List NamedLetter → NamedEvent → List ℕ
line_and_letter letters e = line_words e.line ++ letter_words letters e.received

abbrev pub origin_words : Scope → ℕ → List ℕ
origin_words scope number = option_map_or (line_and_letter scope.letters) (slice_get scope.events number) []

abbrev pub deed_line : Names → List (List ℕ) → Deed → List ℕ
deed_line names labels d = codes "\n" ++ deed_text names labels d

-- What is shown when an event is pointed at: where and by which letter it happened, its note, and each deed on a line.
abbrev pub deeds_words : Scope → List (List ℕ) → ℕ → Event → List ℕ
deeds_words scope labels number e =
    codes "event " ++ decimal number ++ codes " at node " ++ decimal e.node ++ origin_words scope number
    ++ codes "\n" ++ note_words scope.names e.note ++ flat_map (deed_line scope.names labels) e.deeds

-- the action of a deed; what a node hears is no deed of an action, nor is a restart
abbrev pub doer : Deed → Option Name
doer (Create a) = Some a
doer (Ask a child) = Some a
doer (Call a n x op c) = Some a
doer (Perform a n answer) = Some a
doer (Bounce a n holder) = Some a
doer (Got a n seen) = Some a
doer (AskCommit a v) = Some a
doer (AskAbort a) = Some a
doer (Commit a) = Some a
doer (Abort a) = Some a
doer (Secure f s c) = Some f
doer (Inform s a committed) = None
doer (Crash s) = None

abbrev pub or_name : Option Name → Option Name → Option Name
or_name None other = other
or_name (Some a) other = Some a

abbrev pub first_doer : List Deed → Option Name
first_doer [] = None
first_doer (d ∷ ds) = or_name (doer d) (first_doer ds)

-- the action of an event: that of its note, or else of its first deed that is of one
abbrev pub subject : Note → List Deed → Option Name
subject (notes.Stopped a reason) deeds = Some a
subject (notes.Preparing f) deeds = Some f
subject _ deeds = first_doer deeds

abbrev pub action_word : Names → Event → List ℕ
action_word names e = option_map_or (name_word names) (subject e.note e.deeds) []
