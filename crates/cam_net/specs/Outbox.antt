-- A network with the letters that are put next.
use Rattle.std.specs.Prelude.{◌≡◌, ℕ, List, ◌++◌, map, take, drop}
use Rattle.std.specs.List.{AllByRecursion}
use Rattle.cam_event.specs.declared.Letter.{Letter}
use Rattle.cam_wire.specs.Laws.{IsSpelled}
use Rattle.cam_wire.specs.OneSet.{HasOneSetEach}
use Rattle.cam_wire.specs.Spelling.{spelled}
use Rattle.cam_net.specs.Letters.{InFlightFields, put_as}

pub record OutboxFields : Type 0 where
  pub net : List InFlightFields
  pub unput : List Letter

-- as the network will have them all
abbrev pub all_put : OutboxFields → List InFlightFields
all_put outbox = outbox.net ++ map put_as outbox.unput

-- The first of the letters were put, so many, in order. Those whose names have one dependency set
-- each are there as bytes that spell them.
pub record HasPutSome (old new : OutboxFields) : Type 0 where
  pub many : ℕ
  pub net : new.net ≡ old.net ++ map put_as (take many old.unput)
  pub unput : new.unput ≡ drop many old.unput
  pub spells :
      AllByRecursion HasOneSetEach old.unput
      → AllByRecursion (λ (l : Letter). IsSpelled l (spelled l)) (take many old.unput)
