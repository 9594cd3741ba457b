-- The text of a trace, and of a witness.
use Rattle.std.specs.Prelude.{ℕ, ◌+◌, nat_lt, if◌then◌else◌, List, [], ◌∷◌, ◌++◌, length, reverse, flat_map, Option, Some, None, codes, decimal}
use Rattle.cam_event.specs.declared.LetterId.{LetterId}
use Rattle.cam_event.specs.declared.Event.{Event}
use Rattle.cam_event.specs.declared.Sent.{Sent}
use Rattle.cam_event.specs.declared.Body.{Body}
use Rattle.cam_event.specs.declared.Body.TheVariants as bodies
use Rattle.cam_event.specs.declared.Note.{Note}
use Rattle.cam_event.specs.declared.Note.TheVariants as notes
use Rattle.cam_event.specs.declared.Mark.{Mark}
use Rattle.cam_event.specs.declared.Deed.{Deed}
use Rattle.cam_report.specs.Words.{line, inner_line}
use Rattle.cam_report.specs.DeedWords.{deed_words}
use Rattle.cam_report.specs.Report.{mark_text}

-- The text of a witness: its deeds, the oldest first, and `legal`.
abbrev pub witness_text : List (List ℕ) → List Deed → List ℕ
witness_text labels L = flat_map (λ d. line (deed_words labels d)) (reverse L) ++ line (codes "legal" ∷ [])

-- how many letters were sent before an event, and the number of a letter, from 1
abbrev pub sent_before : List Event → ℕ → ℕ
sent_before [] i = 0
sent_before (e ∷ before) i = if nat_lt (length before) i then sent_before before i + length e.sent else sent_before before i

abbrev pub letter_number : List Event → Option LetterId → ℕ
letter_number t None = 0
letter_number t (Some letter) = sent_before t letter.event + letter.place + 1

-- the word of a note, and of a letter
abbrev pub note_word : Note → List ℕ
note_word notes.Plain = codes "plain"
note_word (notes.Stopped a reason) = codes "stopped"
note_word notes.Missed = codes "missed"
note_word notes.Again = codes "again"
note_word notes.Ended = codes "ended"
note_word notes.Late = codes "late"
note_word (notes.Preparing f) = codes "preparing"
note_word notes.Voted = codes "voted"

abbrev pub body_word : Body → List ℕ
body_word (bodies.Start b counts) = codes "start"
body_word (bodies.Call a n x op c counts) = codes "call"
body_word (bodies.Answer a n reply) = codes "answer"
body_word (bodies.Finish a v counts) = codes "finish"
body_word (bodies.Quit a) = codes "quit"
body_word (bodies.Prepare f c) = codes "prepare"
body_word (bodies.Vote f c agrees) = codes "vote"
body_word (bodies.Query f) = codes "query"
body_word bodies.News = codes "news"

-- the letters of an event, numbered on from k
abbrev pub sent_text : ℕ → List Sent → List ℕ
sent_text k [] = []
sent_text k (m ∷ ms) = inner_line (codes "sent" ∷ decimal k ∷ codes "to" ∷ decimal m.to ∷ body_word m.body ∷ []) ++ sent_text (k + 1) ms

-- an event with its deeds and letters
abbrev pub event_text : List (List ℕ) → List Event → Event → List ℕ
event_text labels before e =
    line (codes "event" ∷ decimal (length before) ∷ codes "node" ∷ decimal e.node ∷ codes "letter" ∷ decimal (letter_number before e.got)
    ∷ codes "note" ∷ note_word e.note ∷ [])
    ++ flat_map (λ d. inner_line (deed_words labels d)) e.deeds ++ sent_text (sent_before before (length before) + 1) e.sent

abbrev pub events_text : List (List ℕ) → List Event → List ℕ
events_text labels [] = []
events_text labels (e ∷ before) = events_text labels before ++ event_text labels before e

-- The text of a trace: its events, the oldest first, and the marks.
abbrev pub trace_text : List (List ℕ) → List Event → List Mark → List ℕ
trace_text labels t left = events_text labels t ++ flat_map mark_text left
