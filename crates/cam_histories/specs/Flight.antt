-- The letters of a run in flight: those that its network has, in the bytes that spell them, and
-- after them those that are still to be put there.
use Rattle.std.specs.Prelude.{◌≡◌, ◌<◌, ℕ, Bool, false, List, [], ◌∷◌, ◌++◌, map, length, Some}
use Rattle.cam_type.specs.declared.ObjectDecl.{ObjectDecl}
use Rattle.cam_event.specs.declared.LetterId.{LetterId}
use Rattle.cam_event.specs.declared.Event.{Event}
use Rattle.cam_event.specs.declared.Letter.{Letter}
use Rattle.cam_event.specs.Readings.{by_knowledge}
use Rattle.cam_wire.specs.Laws.{IsSpelled}
use Rattle.cam_wire.specs.OfTrace.{letter_of}
use Rattle.cam_wire.specs.Spelling.{spelled}
use Rattle.cam_net.specs.Letters.{InFlightFields, put_as}
use Rattle.cam_runs.specs.Running.{letters, has_number}
use Rattle.cam_runs.specs.Standing.{Standing}
use Rattle.cam_histories.specs.Network.{StandsFor}

-- The run sent this letter under the id, with what its sender let it carry.
abbrev pub IsSent : List ObjectDecl → List Event → LetterId → Letter → Type 0
IsSent objects t id letter = letter_of (by_knowledge objects) t id ≡ Some letter

abbrev pub AreSent : List ObjectDecl → List Event → List Letter → List LetterId → Type 0
AreSent objects t [] [] = Unit {0}
AreSent objects t [] (id ∷ ids) = ⊥
AreSent objects t (letter ∷ more) [] = ⊥
AreSent objects t (letter ∷ more) (id ∷ ids) = IsSent objects t id letter
    × AreSent objects t more ids

-- The network has that letter, as the bytes that spell it.
pub record IsCarried (objects : List ObjectDecl) (t : List Event) (id : LetterId)
    (kept : InFlightFields) : Type 0 where
  pub letter : Letter
  pub sent : IsSent objects t id letter
  pub bytes : kept.bytes ≡ spelled letter
  pub spells : IsSpelled letter kept.bytes

-- These are the letters of a network, and after them those that are still to be put.
abbrev pub AreInFlight : List ObjectDecl → List Event → List InFlightFields → List Letter
    → List LetterId → Type 0
AreInFlight objects t [] unput ids = AreSent objects t unput ids
AreInFlight objects t (kept ∷ net) unput [] = ⊥
AreInFlight objects t (kept ∷ net) unput (id ∷ ids) = IsCarried objects t id kept
    × AreInFlight objects t net unput ids

-- the network once these are put
abbrev pub with_put : List InFlightFields → List Letter → List InFlightFields
with_put net unput = net ++ map put_as unput

-- The network has the letters of the run, but for these, which are put next. No number above theirs
-- was lost or delivered.
pub record IsNetworkOf (objects : List ObjectDecl) (st : Standing) (net : List InFlightFields)
    (unput : List Letter) (halted : List Bool) : Type 0 where
  pub stands : StandsFor st (with_put net unput) halted
  pub flight : AreInFlight objects st.running.trace net unput (letters st.running.trace)
  pub lost : (number : ℕ) → length (with_put net unput) < number
      → has_number st.running.lost number ≡ false
  pub delivered : (number : ℕ) → length (with_put net unput) < number
      → has_number st.running.delivered number ≡ false
