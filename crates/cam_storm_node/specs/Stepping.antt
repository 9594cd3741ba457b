-- What a storm node comes to with an item with which it has something to do.
use Rattle.std.specs.Prelude.{◌≡◌, ℕ, [], ◌∷◌, ◌++◌, Result, Ok, Err}
use Rattle.cam_journal.specs.declared.input.CoreFault.{CoreFault}
use Rattle.cam_journal.specs.declared.input.CoreInput.{CoreInput}
use Rattle.cam_journal.specs.Taking.{IsNext, entry, letter_in}
use Rattle.cam_gen.specs.Storms.{Words}
use Rattle.cam_storm.specs.Events.{Copied, Stepped}
use Rattle.cam_storm.specs.Lawful.{SeatHistory, lawful, names}
use Rattle.cam_storm.specs.Core.{Answers}
use Rattle.cam_storm_node.specs.Playing.{StormNodeFields, IsPlaying}

-- A step: its event answers the item and may come next, and the storm node is then the replay of
-- the history with it. After a fault it is the replay of the history as it was.
abbrev pub HasStepped :
    Words → ℕ → SeatHistory → CoreInput Copied → StormNodeFields → Result Stepped CoreFault
    → Type 0
HasStepped words s history item new (Ok e) =
    Answers words s history item e
    × IsNext names (lawful words) s history (letter_in item) e
    × ((number : ℕ)
    → IsPlaying words new s (history ++ entry names number (letter_in item) e ∷ []))
HasStepped words s history item new (Err fault) = IsPlaying words new s history

-- it is a node of the same number in the same storm
pub record StaysOf (old new : StormNodeFields) : Type 0 where
  pub storm : new.storm ≡ old.storm
  pub tops : new.tops ≡ old.tops
  pub number : new.node.number ≡ old.node.number
