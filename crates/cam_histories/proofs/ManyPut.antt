-- Letters that are put next may be written, and once some are put the network stands as before.
use Rattle.std.proofs.Common.{◌≡◌, ℕ, zero, suc, Bool, List, [], ◌∷◌, ◌++◌, map, take}
use Rattle.std.proofs.Common.{drop, refl, sym, ap, subst}
use Rattle.std.specs.List.{AllByRecursion}
use Rattle.cam_type.specs.declared.ObjectDecl.{ObjectDecl}
use Rattle.cam_event.specs.declared.LetterId.{LetterId}
use Rattle.cam_event.specs.declared.Event.{Event}
use Rattle.cam_event.specs.declared.Letter.{Letter}
use Rattle.cam_wire.specs.Laws.{IsSpelled}
use Rattle.cam_wire.specs.OneSet.{HasOneSetEach}
use Rattle.cam_wire.specs.Spelling.{spelled}
use Rattle.cam_wire.specs.Writable.{IsWritable}
use Rattle.cam_net.specs.Letters.{InFlightFields, put_as}
use Rattle.cam_runs.specs.Running.{letters}
use Rattle.cam_runs.specs.Standing.{Standing}
use Rattle.cam_histories.specs.Flight.{IsSent, AreSent, AreInFlight, IsNetworkOf}
use Rattle.cam_histories.specs.FlightLaws.{AllMayBeWritten, SomePutStand}
use Rattle.cam_histories.proofs.Handing.{SentAs, sent_as}
use Rattle.cam_histories.proofs.LetterBytes.{one_set}
use Rattle.cam_histories.proofs.PutNext.{put_stands}
use Rattle.cam_histories.proofs.Writing.{letters_are_in_range}

-- what holds of each letter that was sent holds of those that are put next
module _ (P : Letter → Type 0) (objects : List ObjectDecl) (t : List Event)
    (each : (id : LetterId) (letter : Letter) → IsSent objects t id letter → P letter) where
  of_sent : (unput : List Letter) (ids : List LetterId) → AreSent objects t unput ids
      → AllByRecursion P unput
  of_sent [] ids are = tt
  of_sent (letter ∷ unput) [] are = elim are [ ]
  of_sent (letter ∷ unput) (id ∷ ids) are = (each id letter are.0, of_sent unput ids are.1)

  pub of_flight : (net : List InFlightFields) (unput : List Letter) (ids : List LetterId)
      → AreInFlight objects t net unput ids → AllByRecursion P unput
  of_flight [] unput ids are = of_sent unput ids are
  of_flight (kept ∷ net) unput [] are = elim are [ ]
  of_flight (kept ∷ net) unput (id ∷ ids) are = of_flight net unput ids are.1

pub all_may_be_written : AllMayBeWritten
all_may_be_written objects taken st net unput halted run few short is =
    let t : List Event = st.running.trace in (
      of_flight IsWritable objects t
          (λ id letter sent.
          let how : SentAs objects t id letter = sent_as objects t id letter sent in
          subst IsWritable how.is
          (letters_are_in_range objects taken t id how.mail run few short how.at).0)
          net unput (letters t) is.flight,
      of_flight HasOneSetEach objects t
          (λ id letter sent. one_set objects t id letter (taken, run) sent) net unput (letters t)
          is.flight,
    )

none_more : (net : List InFlightFields) → net ≡ net ++ []
none_more [] = refl
none_more (kept ∷ net) = ap (λ xs. kept ∷ xs) (none_more net)

one_then : (net more : List InFlightFields) (kept : InFlightFields)
    → (net ++ kept ∷ []) ++ more ≡ net ++ kept ∷ more
one_then [] more kept = refl
one_then (first ∷ net) more kept = ap (λ xs. first ∷ xs) (one_then net more kept)

-- the first of them, so many
first_put : (objects : List ObjectDecl) (st : Standing) (halted : List Bool) (n : ℕ)
    (net : List InFlightFields) (unput : List Letter)
    → AllByRecursion (λ (l : Letter). IsSpelled l (spelled l)) (take n unput)
    → IsNetworkOf objects st net unput halted
    → IsNetworkOf objects st (net ++ map put_as (take n unput)) (drop n unput) halted
first_put objects st halted zero net unput spells is =
    subst (λ xs. IsNetworkOf objects st xs unput halted) (none_more net) is
first_put objects st halted (suc n) net [] spells is =
    subst (λ xs. IsNetworkOf objects st xs [] halted) (none_more net) is
first_put objects st halted (suc n) net (letter ∷ unput) spells is =
    subst (λ xs. IsNetworkOf objects st xs (drop n unput) halted)
    (one_then net (map put_as (take n unput)) (put_as letter))
    (first_put objects st halted n (net ++ put_as letter ∷ []) unput spells.1
    (put_stands objects st net letter unput halted spells.0 is))

pub some_put_stand : SomePutStand
some_put_stand objects st old new halted sets put is =
    subst (λ xs. IsNetworkOf objects st xs new.unput halted) (sym put.net)
    (subst (λ ls. IsNetworkOf objects st (old.net ++ map put_as (take put.many old.unput)) ls
    halted)
    (sym put.unput)
    (first_put objects st halted put.many old.net old.unput (put.spells sets) is))
