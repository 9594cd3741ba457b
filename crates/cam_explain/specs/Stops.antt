-- What is told of the stops of a run: which action, why it is an orphan, and the letters that brought the news.
use Rattle.std.specs.Prelude.{ℕ, suc, ◌-◌, ◌^◌, nat_lt, if◌then◌else◌, List, [], ◌∷◌, ◌++◌, length, option_and_then, slice_get, codes, decimal}
use Rattle.std.specs.List.{flat_map}
use Rattle.std.specs.Option.{option_map_or}
use Rattle.cam_names.specs.declared.name.Name.{Name}
use Rattle.cam_names.specs.Names.{name_eq}
use Rattle.cam_know.specs.declared.Reason.{Reason}
use Rattle.cam_know.specs.declared.Reason.TheVariants.{Abort, Crash}
use Rattle.cam_event.specs.declared.Event.{Event}
use Rattle.cam_event.specs.declared.Note.{Note}
use Rattle.cam_event.specs.declared.Note.TheVariants as notes
use Rattle.cam_event.specs.Pasts.{plain_all}
use Rattle.cam_why.specs.declared.link.Link.{Link}
use Rattle.cam_why.specs.Causes.{brings}
use Rattle.cam_why.specs.Chains.{chain_to}
use Rattle.cam_scope.specs.declared.scope.Scope.{Scope}
use Rattle.cam_scope.specs.declared.letters.NamedLetter.{NamedLetter}
use Rattle.cam_scope.specs.Numbers.{letter_number}
use Rattle.cam_scope.specs.Words.{kind_text, name_word}
use Rattle.cam_explain.specs.Parts.{line_part}

abbrev pub aborted_text : Scope → Name → Name → List ℕ
aborted_text scope u a =
    if name_eq u a then codes "it was aborted" else codes "its ancestor " ++ (name_word scope.names u ++ codes " was aborted")

abbrev pub crashed_text : ℕ → ℕ → ℕ → List ℕ
crashed_text s old new =
    (codes "it depends on count " ++ (decimal old ++ codes " of node ")) ++ ((decimal s ++ codes ", which restarted to count ") ++ decimal new)

abbrev pub orphan_text : Scope → Name → Reason → List ℕ
orphan_text scope a (Abort u) = aborted_text scope u a
orphan_text scope a (Crash s old new) = crashed_text s old new

-- `, event 6 (line 13)`
abbrev pub event_part : Scope → ℕ → List ℕ
event_part scope event =
    codes ", event " ++ decimal event ++ option_map_or line_part (option_and_then (λ e. e.line) (slice_get scope.events event)) []

-- The event that brought a reason about, the last of them; 0 if none did. A run has one. A trace has the newest event first.
abbrev pub cause_in : List Event → Reason → ℕ
cause_in [] reason = 0
cause_in (e ∷ before) reason = if brings (plain_all before) e.deeds reason then length before else cause_in before reason

abbrev pub news_text : ℕ → ℕ → NamedLetter → List ℕ
news_text number to letter =
    (codes "  letter " ++ (decimal number ++ codes ", ")) ++ ((kind_text letter.kind ++ codes ", took the news from node ")
    ++ ((decimal letter.from ++ codes " to ") ++ ((decimal letter.to ++ codes ", event ") ++ (decimal to ++ codes "\n"))))

-- a letter of the chain, by its number
abbrev pub link_text : Scope → Link → List ℕ
link_text scope link =
    option_map_or (news_text (letter_number scope.events link.letter) link.to)
    (slice_get scope.letters (letter_number scope.events link.letter - 1)) []

abbrev pub why_text : Scope → ℕ → List Link → List ℕ
why_text scope cause links = codes "  The cause" ++ (event_part scope cause ++ (codes "\n" ++ flat_map (link_text scope) links))

-- the cause of a stop, and the letters that led from there; of events that have a number of 32 bits, as all have
abbrev pub chain_text : Scope → List Event → ℕ → Reason → List ℕ
chain_text scope t event reason =
    if nat_lt event (2 ^ 32) then why_text scope (cause_in t reason) (chain_to t (cause_in t reason) event) else []

abbrev pub stopped_text : Scope → ℕ → ℕ → Name → Reason → List ℕ
stopped_text scope event node a reason =
    (name_word scope.names a ++ codes " is stopped at node ") ++ (decimal node ++ (event_part scope event
    ++ (codes ". It is an orphan: " ++ orphan_text scope a reason)))

abbrev pub one_text : Scope → List Event → ℕ → ℕ → Name → Reason → List ℕ
one_text scope t event node a reason = stopped_text scope event node a reason ++ (codes ".\n" ++ chain_text scope t event reason)

abbrev pub stop_text : Scope → List Event → ℕ → ℕ → Note → List ℕ
stop_text scope t event node (notes.Stopped a reason) = one_text scope t event node a reason
stop_text scope t event node _ = []

-- The stops of these events, of which the first has this number, within a trace.
abbrev pub stops_from : Scope → List Event → ℕ → List Event → List ℕ
stops_from scope t event [] = []
stops_from scope t event (e ∷ es) = stop_text scope t event e.node e.note ++ stops_from scope t (suc event) es
