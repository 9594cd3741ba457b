-- An event of a node of a storm with the letters that it sends, and a letter with its copies.
use Rattle.std.specs.Prelude.{ℕ, List}
use Rattle.cam_event.specs.declared.Event.{Event}
use Rattle.cam_event.specs.declared.Letter.{Letter}

-- a letter, and how often it comes
pub record Copied : Type 0 where
  pub letter : Letter
  pub copies : ℕ

-- an event, and its letters, in order
pub record Stepped : Type 0 where
  pub event : Event
  pub letters : List Copied
