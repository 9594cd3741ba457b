-- What is told of the notes of events, and of the letters that no event received.
use Rattle.std.specs.Prelude.{ℕ, suc, ◌-◌, Bool, true, false, if◌then◌else◌, List, [], ◌∷◌, ◌++◌, Option, Some, None, slice_get, codes, decimal}
use Rattle.std.specs.Option.{option_map_or}
use Rattle.cam_event.specs.declared.Event.{Event}
use Rattle.cam_event.specs.declared.Note.{Note}
use Rattle.cam_event.specs.declared.Note.TheVariants as notes
use Rattle.cam_scope.specs.declared.scope.Scope.{Scope}
use Rattle.cam_scope.specs.declared.events.NamedEvent.{NamedEvent}
use Rattle.cam_scope.specs.declared.letters.NamedLetter.{NamedLetter}
use Rattle.cam_scope.specs.declared.letters.Fate.{Fate}
use Rattle.cam_scope.specs.declared.letters.Fate.TheVariants.{Waiting, Received, Lost, MetHalt}
use Rattle.cam_scope.specs.Words.{kind_text}
use Rattle.cam_sentences.specs.Sentences.{note_text}
use Rattle.cam_explain.specs.Parts.{line_part}

-- a plain note says nothing, and stops are told of by themselves
abbrev pub is_told : Note → Bool
is_told notes.Plain = false
is_told (notes.Stopped a reason) = false
is_told _ = true

-- the letter that an event received: `letter 9, call, `
abbrev pub received_part : Scope → Option ℕ → List ℕ
received_part scope None = []
received_part scope (Some number) =
    option_map_or (λ letter. codes "letter " ++ decimal number ++ codes ", " ++ kind_text letter.kind ++ codes ", ")
    (slice_get scope.letters (number - 1)) []

abbrev pub named_part : Scope → ℕ → NamedEvent → List ℕ
named_part scope event named =
    received_part scope named.received ++ codes "event " ++ decimal event ++ option_map_or line_part named.line []

abbrev pub told_text : Scope → ℕ → Event → List ℕ
told_text scope event e =
    option_map_or (named_part scope event) (slice_get scope.events event) [] ++ codes " of node " ++ decimal e.node ++ codes ": "
    ++ note_text e.note ++ codes "\n"

abbrev pub notes_from : Scope → ℕ → List Event → List ℕ
notes_from scope event [] = []
notes_from scope event (e ∷ es) = (if is_told e.note then told_text scope event e else []) ++ notes_from scope (suc event) es

abbrev pub fate_text : Fate → List ℕ
fate_text Waiting = codes "was not delivered.\n"
fate_text Received = []
fate_text (Lost line) = codes "was lost in line " ++ decimal line ++ codes ".\n"
fate_text (MetHalt line) = codes "met the halt of its node in line " ++ decimal line ++ codes ".\n"

abbrev pub is_received : Fate → Bool
is_received Received = true
is_received _ = false

-- a letter that no event received, by its number
abbrev pub letter_text : ℕ → NamedLetter → List ℕ
letter_text number letter =
    if is_received letter.fate then []
    else codes "letter " ++ decimal number ++ codes ", " ++ kind_text letter.kind ++ codes " from node " ++ decimal letter.from ++ codes " to "
    ++ decimal letter.to ++ codes ", " ++ fate_text letter.fate

-- those of these letters that no event received, of which the first has this number
abbrev pub letters_from : ℕ → List NamedLetter → List ℕ
letters_from number [] = []
letters_from number (letter ∷ letters) = letter_text number letter ++ letters_from (suc number) letters
