-- The table from which the numbers of letters are read.
use Rattle.std.specs.Prelude.{◌≡◌, ℕ, ◌+◌, ◌≤◌, ◌^◌, List, length, get_or, All}
use Rattle.cam_event.specs.declared.Event.{Event}
use Rattle.cam_report.specs.declared.numbering.Numbering.{Numbering}
use Rattle.cam_report.specs.Traces.{sent_before}

-- The table has how many letters were sent before each event of the trace, and in all.
pub record IsNumbering (t : List Event) (numbering : Numbering) : Type 0 where
  pub long : length numbering.before.items ≡ length t + 1
  pub counted : (i : ℕ) → i ≤ length t → get_or numbering.before.items i 0 ≡ sent_before t i

-- so small that the number of no letter passes 16 bytes
abbrev pub IsSmall : Numbering → Type 0
IsSmall numbering = All (λ n. n ≤ 2 ^ 127) numbering.before.items
