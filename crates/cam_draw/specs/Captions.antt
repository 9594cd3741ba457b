-- What the captions of events say. A trace has the newest event first.
use Rattle.std.specs.Prelude.{ℕ, ◌+◌, ◌-◌, ◌^◌, min, Bool, List, [], ◌∷◌, ◌++◌, length, replicate, get_or, set, Option, Some, None, slice_get, unwrap_or, option_map, codes, decimal, string_bytes}
use Rattle.std.specs.Option.{option_map_or}
use Rattle.cam_event.specs.declared.Event.{Event}
use Rattle.cam_scope.specs.declared.events.NamedEvent.{NamedEvent}
use Rattle.cam_scope.specs.declared.scope.Scope.{Scope}
use Rattle.cam_diagram.specs.declared.Sign.{Sign}
use Rattle.cam_diagram.specs.declared.Sign.TheVariants.{Restart}
use Rattle.cam_diagram.specs.declared.Caption.{Caption}
use Rattle.cam_diagram.specs.Picture.{sign}
use Rattle.cam_draw.specs.declared.light.Light.{Light}
use Rattle.cam_draw.specs.Light.{is_letter_lit, is_lit}
use Rattle.cam_draw.specs.Words.{words}
use Rattle.cam_draw.specs.Deeds.{action_word, deeds_words}

-- one more, of 32 bits: the greatest number stays
abbrev pub one_more : ℕ → ℕ
one_more n = min (n + 1) (2 ^ 32 - 1)

abbrev pub with_restart : Sign → List ℕ → ℕ → List ℕ
with_restart Restart restarts node = set restarts node (one_more (get_or restarts node 0))
with_restart _ restarts node = restarts

-- of each node how often it restarted
abbrev pub restarts : List Event → List ℕ
restarts [] = replicate 256 0
restarts (e ∷ before) = with_restart (sign e) (restarts before) e.node

-- the new count of a node that restarts: the first is 1
abbrev pub count_words : ℕ → List ℕ
count_words restarts = codes "count " ++ decimal (one_more restarts)

abbrev pub beside : Sign → List ℕ → ℕ → Option (List ℕ)
beside Restart restarts node = Some (count_words (one_more (get_or restarts node 0)))
beside _ restarts node = None

-- what a caption says, as bytes
pub record Saying : Type 0 where
  pub line : ℕ
  pub sent_before : ℕ
  pub action : List ℕ
  pub words : List ℕ
  pub deeds : List ℕ
  pub beside : Option (List ℕ)
  pub lit : Bool
  pub lit_letter : Bool

abbrev pub saying : Caption → Saying
saying c =
    record {
      line = c.line;
      sent_before = c.sent_before;
      action = string_bytes c.action;
      words = string_bytes c.words;
      deeds = string_bytes c.deeds;
      beside = option_map string_bytes c.beside;
      lit = c.lit;
      lit_letter = c.lit_letter;
    }

-- the line of an event, 0 if it has none; and how many letters were sent before it
abbrev pub line_of : Scope → ℕ → ℕ
line_of scope number = option_map_or (λ e. unwrap_or e.line 0) (slice_get scope.events number) 0

abbrev pub sent_before : Scope → ℕ → ℕ
sent_before scope number = option_map_or (λ e. e.sent_before) (slice_get scope.events number) 0

-- The caption of the event of a number, beside which this stands.
abbrev pub caption : Scope → List (List ℕ) → Light → ℕ → Event → Option (List ℕ) → Saying
caption scope labels light number e beside =
    record {
      line = line_of scope number;
      sent_before = sent_before scope number;
      action = action_word scope.names e;
      words = words scope labels number e;
      deeds = deeds_words scope labels number e;
      beside = beside;
      lit = is_lit light number;
      lit_letter = is_letter_lit light number;
    }

-- The captions of a trace, in order: of each event what it did, and the new count of a node that restarts.
abbrev pub captions : Scope → List (List ℕ) → Light → List Event → List Saying
captions scope labels light [] = []
captions scope labels light (e ∷ before) =
    captions scope labels light before
    ++ caption scope labels light (length before) e (beside (sign e) (restarts before) e.node) ∷ []
