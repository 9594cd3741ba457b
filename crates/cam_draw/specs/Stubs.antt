-- The letters that no event received, as stubs.
use Rattle.std.specs.Prelude.{ℕ, ◌+◌, ◌-◌, ◌^◌, eqb, min, if◌then◌else◌, List, [], ◌∷◌, ◌++◌, length, slice_get, Option, Some, None}
use Rattle.cam_event.specs.declared.Event.{Event}
use Rattle.cam_scope.specs.declared.letters.Fate as scope_fate
use Rattle.cam_scope.specs.declared.letters.Fate.TheVariants as fates
use Rattle.cam_scope.specs.declared.letters.NamedLetter.{NamedLetter}
use Rattle.cam_diagram.specs.declared.Fate.{Fate}
use Rattle.cam_diagram.specs.declared.Fate.TheVariants.{Waiting, Lost, MetHalt}
use Rattle.cam_diagram.specs.declared.Stub.{Stub}
use Rattle.cam_diagram.specs.Picture.{kind_at}
use Rattle.cam_draw.specs.declared.light.Light.{Light}
use Rattle.cam_draw.specs.Light.{are_stubs_lit}

-- what became of a letter, unless an event received it
abbrev pub fate_of : scope_fate.Fate → Option Fate
fate_of fates.Received = None
fate_of fates.Waiting = Some Waiting
fate_of (fates.Lost line) = Some Lost
fate_of (fates.MetHalt line) = Some MetHalt

-- stubs of one event are below one another
abbrev pub above : Option Stub → ℕ → ℕ
above None event = 0
above (Some s) event = if eqb s.from.event event then min (s.above + 1) (2 ^ 32 - 1) else 0

abbrev pub stub_of : List Event → Light → NamedLetter → Fate → ℕ → Stub
stub_of run light letter fate above =
    record {
      letter = letter.id;
      kind = kind_at run letter.id;
      from = record { node = letter.from; event = letter.id.event };
      to = letter.to;
      fate = fate;
      above = above;
      lit = are_stubs_lit light letter.id.event;
    }

-- one stub more where no event received the letter, and none where one did
abbrev pub with_fate : List Event → Light → NamedLetter → List Stub → Option Fate → List Stub
with_fate run light letter stubs None = stubs
with_fate run light letter stubs (Some fate) = stubs ++ stub_of run light letter fate (above (slice_get stubs (length stubs - 1)) letter.id.event) ∷ []

abbrev pub with_letter : List Event → Light → NamedLetter → List Stub → List Stub
with_letter run light letter stubs = with_fate run light letter stubs (fate_of letter.fate)

-- the stubs of letters, the newest first: one for each that no event received, in order of sending
abbrev pub stubs : List Event → Light → List NamedLetter → List Stub
stubs run light [] = []
stubs run light (letter ∷ before) = with_letter run light letter (stubs run light before)
