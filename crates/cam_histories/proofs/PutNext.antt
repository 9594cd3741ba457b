-- A letter that is still to be put is put.
use Rattle.std.proofs.Common.{◌≡◌, ◌<◌, List, [], ◌∷◌, ◌++◌, length}
use Rattle.std.proofs.Common.{refl, sym, ap, subst}
use Rattle.cam_type.specs.declared.ObjectDecl.{ObjectDecl}
use Rattle.cam_event.specs.declared.LetterId.{LetterId}
use Rattle.cam_event.specs.declared.Event.{Event}
use Rattle.cam_event.specs.declared.Letter.{Letter}
use Rattle.cam_wire.specs.Laws.{IsSpelled}
use Rattle.cam_wire.specs.Spelling.{spelled}
use Rattle.cam_net.specs.Letters.{InFlightFields, put_as}
use Rattle.cam_runs.specs.Running.{letters}
use Rattle.cam_histories.specs.Network.{StandsFor}
use Rattle.cam_histories.specs.Flight.{AreInFlight, with_put}
use Rattle.cam_histories.specs.FlightLaws.{PutStands}

-- a letter that is put
flight_put : (objects : List ObjectDecl) (t : List Event) (net : List InFlightFields)
    (letter : Letter) (unput : List Letter) (ids : List LetterId)
    → IsSpelled letter (spelled letter)
    → AreInFlight objects t net (letter ∷ unput) ids
    → AreInFlight objects t (net ++ put_as letter ∷ []) unput ids
flight_put objects t [] letter unput [] spells are = elim are [ ]
flight_put objects t [] letter unput (id ∷ ids) spells are =
    (record { letter = letter; sent = are.0; bytes = refl; spells = spells }, are.1)
flight_put objects t (kept ∷ net) letter unput [] spells are = elim are [ ]
flight_put objects t (kept ∷ net) letter unput (id ∷ ids) spells are =
    (are.0, flight_put objects t net letter unput ids spells are.1)

one_by_one : (net : List InFlightFields) (letter : Letter) (unput : List Letter)
    → with_put net (letter ∷ unput) ≡ with_put (net ++ put_as letter ∷ []) unput
one_by_one [] letter unput = refl
one_by_one (kept ∷ net) letter unput = ap (λ xs. kept ∷ xs) (one_by_one net letter unput)

pub put_stands : PutStands
put_stands objects st net letter unput halted spells is =
    let same = one_by_one net letter unput in
    record {
      stands = subst (λ xs. StandsFor st xs halted) same is.stands;
      flight = flight_put objects st.running.trace net letter unput
          (letters st.running.trace) spells is.flight;
      lost = λ number above. is.lost number (subst
          (λ (xs : List InFlightFields). length xs < number) (sym same) above);
      delivered = λ number above. is.delivered number
          (subst (λ (xs : List InFlightFields). length xs < number) (sym same) above);
    }
