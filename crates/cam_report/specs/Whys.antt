-- The text that tells why an action was stopped: the stop as the report has it, its cause, and the letters of the chain with their numbers.
use Rattle.std.specs.Prelude.{◌≡◌, ℕ, List, [], ◌∷◌, ◌++◌, flat_map, Some, codes, decimal}
use Rattle.std.specs.Option.{option_map_or}
use Rattle.cam_event.specs.declared.Event.{Event}
use Rattle.cam_event.specs.Inputs.{event_at}
use Rattle.cam_why.specs.declared.link.Link.{Link}
use Rattle.cam_why.specs.declared.link.Why.{Why}
use Rattle.cam_why.specs.Passes.{IsWhy}
use Rattle.cam_report.specs.Words.{line}
use Rattle.cam_report.specs.Report.{stop_text}
use Rattle.cam_report.specs.Traces.{letter_number}

-- the line of the report on a stop
abbrev pub stop_line : List Event → ℕ → List ℕ
stop_line t j = option_map_or (λ e. stop_text j e.note) (event_at t j) []

-- a letter of the chain, by its number in order of sending
abbrev pub link_text : List Event → Link → List ℕ
link_text t link =
    line (codes "letter" ∷ decimal (letter_number t (Some link.letter)) ∷ codes "from" ∷ decimal link.from ∷ codes "to" ∷ decimal link.to ∷ [])

abbrev pub why_text : List Event → ℕ → Why → List ℕ
why_text t j why = stop_line t j ++ line (codes "cause" ∷ decimal why.cause ∷ []) ++ flat_map (link_text t) why.links

-- The text tells why event j stopped an action, with a chain of which none has fewer letters.
pub record IsWhyText (t : List Event) (j : ℕ) (text : List ℕ) : Type 0 where
  pub why : Why
  pub answers : IsWhy t j why
  pub spelled : text ≡ why_text t j why
