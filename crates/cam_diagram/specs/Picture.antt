-- The dots and arrows of a trace: one dot for each event, and an arrow for each event that received a letter.
use Rattle.std.specs.Prelude.{ℕ, true, false, List, [], ◌∷◌, ◌++◌, length, reverse, slice_get, Option, Some, None, codes}
use Rattle.std.specs.Option.{option_map_or}
use Rattle.cam_event.specs.declared.LetterId.{LetterId}
use Rattle.cam_event.specs.declared.Event.{Event}
use Rattle.cam_event.specs.declared.Note.{Note}
use Rattle.cam_event.specs.declared.Note.TheVariants as notes
use Rattle.cam_event.specs.declared.Deed.{Deed}
use Rattle.cam_event.specs.declared.Deed.TheVariants as deeds
use Rattle.cam_event.specs.declared.Body.{Body}
use Rattle.cam_event.specs.declared.Body.TheVariants as bodies
use Rattle.cam_diagram.specs.declared.Sign.{Sign}
use Rattle.cam_diagram.specs.declared.Sign.TheVariants.{Plain, Idle, Asking, Commit, Abort, Stop, Restart}
use Rattle.cam_diagram.specs.declared.Kind.{Kind}
use Rattle.cam_diagram.specs.declared.Kind.TheVariants as kinds
use Rattle.cam_diagram.specs.declared.Fate.{Fate}
use Rattle.cam_diagram.specs.declared.Fate.TheVariants.{Waiting, Lost, MetHalt}
use Rattle.cam_diagram.specs.declared.Dot.{Dot}
use Rattle.cam_diagram.specs.declared.Arrow.{Arrow}

-- the sign of a note alone
abbrev pub note_sign : Note → Sign
note_sign notes.Plain = Plain
note_sign notes.Voted = Plain
note_sign (notes.Preparing f) = Asking
note_sign (notes.Stopped a reason) = Stop
note_sign notes.Missed = Idle
note_sign notes.Again = Idle
note_sign notes.Ended = Idle
note_sign notes.Late = Idle

-- a decision shows, unless an orphan is stopped
abbrev pub unless_stop : Sign → Sign → Sign
unless_stop Stop shown = Stop
unless_stop _ shown = shown

abbrev pub deed_sign : Sign → Deed → Sign
deed_sign sign (deeds.Crash s) = Restart
deed_sign sign (deeds.Commit a) = unless_stop sign Commit
deed_sign sign (deeds.Abort a) = unless_stop sign Abort
deed_sign sign _ = sign

-- the sign after deeds, the newest first
abbrev pub sign_after : Sign → List Deed → Sign
sign_after sign [] = sign
sign_after sign (d ∷ before) = deed_sign (sign_after sign before) d

abbrev pub sign : Event → Sign
sign e = sign_after (note_sign e.note) (reverse e.deeds)

-- an event is in the lane of its node
abbrev pub dot : Event → Dot
dot e = record { node = e.node; sign = sign e }

abbrev pub kind_of : Body → Kind
kind_of (bodies.Start b counts) = kinds.Start
kind_of (bodies.Call a n x op c counts) = kinds.Call
kind_of (bodies.Answer a n reply) = kinds.Answer
kind_of (bodies.Finish a v counts) = kinds.Finish
kind_of (bodies.Quit a) = kinds.Quit
kind_of (bodies.Prepare f c) = kinds.Prepare
kind_of (bodies.Vote f c true) = kinds.VoteYes
kind_of (bodies.Vote f c false) = kinds.VoteNo
kind_of (bodies.Query f) = kinds.Query
kind_of bodies.News = kinds.News

-- the node of an event of the run; 0 if the run has no such event
abbrev pub node_at : List Event → ℕ → ℕ
node_at run number = option_map_or (λ e. e.node) (slice_get run number) 0

-- the kind of the letter that an event sent at a place, and of a letter of the run
abbrev pub kind_in : Event → ℕ → Kind
kind_in e place = option_map_or (λ sent. kind_of sent.body) (slice_get e.sent place) kinds.News

abbrev pub kind_at : List Event → LetterId → Kind
kind_at run letter = option_map_or (λ e. kind_in e letter.place) (slice_get run letter.event) kinds.News

-- the arrow to the event of a number, in the lane of a node, if it received a letter: from the event that sent it
abbrev pub arrow : List Event → ℕ → ℕ → Option LetterId → List Arrow
arrow run number node None = []
arrow run number node (Some letter) =
    record {
      letter = letter;
      kind = kind_at run letter;
      from = record { node = node_at run letter.event; event = letter.event };
      to = record { node = node; event = number };
    } ∷ []

-- the arrows to events, the newest first, in the whole run
abbrev pub arrows : List Event → List Event → List Arrow
arrows run [] = []
arrows run (e ∷ before) = arrows run before ++ arrow run (length before) e.node e.got

unfoldable pub sign_word : Sign → List ℕ
sign_word Plain = codes "plain"
sign_word Idle = codes "idle"
sign_word Asking = codes "asking"
sign_word Commit = codes "commit"
sign_word Abort = codes "abort"
sign_word Stop = codes "stop"
sign_word Restart = codes "restart"

-- a ring; two rings; a rhomb; an octagon; a box under two strokes
abbrev pub ring : List ℕ
ring = codes "M-10 0a10 10 0 1 0 20 0a10 10 0 1 0 -20 0z"

unfoldable pub sign_shape : Sign → List ℕ
sign_shape Plain = ring
sign_shape Idle = ring
sign_shape Asking = ring
sign_shape Commit =
    codes "M-10 0a10 10 0 1 0 20 0a10 10 0 1 0 -20 0zM-13 0a13 13 0 1 0 26 0a13 13 0 1 0 -26 0z"
sign_shape Abort = codes "M0 -14L14 0L0 14L-14 0z"
sign_shape Stop = codes "M-5 -12H5L12 -5V5L5 12H-5L-12 5V-5z"
sign_shape Restart = codes "M-13 -6h26v14h-26zM-11 -9l22 -4M-11 -13l22 -4"

unfoldable pub kind_word : Kind → List ℕ
kind_word kinds.Start = codes "start"
kind_word kinds.Call = codes "call"
kind_word kinds.Answer = codes "answer"
kind_word kinds.Finish = codes "finish"
kind_word kinds.Quit = codes "quit"
kind_word kinds.Prepare = codes "prepare"
kind_word kinds.VoteYes = codes "vote yes"
kind_word kinds.VoteNo = codes "vote no"
kind_word kinds.Query = codes "query"
kind_word kinds.News = codes "news"

-- letters of one purpose look alike
unfoldable pub kind_class : Kind → List ℕ
kind_class kinds.Start = codes "work"
kind_class kinds.Call = codes "work"
kind_class kinds.Answer = codes "reply"
kind_class kinds.Finish = codes "end"
kind_class kinds.Quit = codes "end"
kind_class kinds.Prepare = codes "vote"
kind_class kinds.VoteYes = codes "vote"
kind_class kinds.VoteNo = codes "vote"
kind_class kinds.Query = codes "vote"
kind_class kinds.News = codes "news"

unfoldable pub fate_word : Fate → List ℕ
fate_word Waiting = codes " waits"
fate_word Lost = codes " lost"
fate_word MetHalt = codes " met a halt"

-- a ring; a cross; two bars
unfoldable pub fate_shape : Fate → List ℕ
fate_shape Waiting = codes "M-3 0a3 3 0 1 0 6 0a3 3 0 1 0 -6 0z"
fate_shape Lost = codes "M-4 -4l8 8M4 -4l-8 8"
fate_shape MetHalt = codes "M-2 -5v10M3 -5v10"
