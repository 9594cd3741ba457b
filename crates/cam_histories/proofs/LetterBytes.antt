-- The bytes of a network of a run, and what may be written.
use Rattle.std.proofs.Common.{◌≡◌, ℕ, zero, suc, ◌+◌, ◌-◌, Bool, true, false, if◌then◌else◌, List}
use Rattle.std.proofs.Common.{[], ◌∷◌, ◌++◌, take, Option, Some, None, refl, sym, ap, ◌∙◌, subst}
use Rattle.std.proofs.Common.{arith}
use Rattle.std.specs.Prelude.{slice_get, option_map}
use Rattle.std.specs.Option.{option_map_or}
use Rattle.std.proofs.lemmas.Bool.{ne_eqb}
use Rattle.cam_names.specs.declared.name.Name.{Name}
use Rattle.cam_names.specs.Dependencies.{as_counts}
use Rattle.cam_type.specs.declared.ObjectDecl.{ObjectDecl}
use Rattle.cam_know.specs.declared.Outcome.TheVariants.{Committed}
use Rattle.cam_event.specs.declared.LetterId.{LetterId}
use Rattle.cam_event.specs.declared.Event.{Event}
use Rattle.cam_event.specs.declared.Letter.{Letter}
use Rattle.cam_event.specs.Gained.{deps}
use Rattle.cam_event.specs.Pasts.{plain_all}
use Rattle.cam_event.specs.Inputs.{Mail, letter_at}
use Rattle.cam_event.specs.ByDeltas.{load_at, load_by, received_of}
use Rattle.cam_event.specs.DeltasByPast.{trace_to}
use Rattle.cam_event.specs.Readings.{by_knowledge}
use Rattle.cam_event.proofs.Members.{In}
use Rattle.cam_agree.proofs.DepsAgreed.{known_in}
use Rattle.cam_agree.proofs.Ran.{Ran}
use Rattle.cam_delta.proofs.DeltaLists.{begins_in}
use Rattle.cam_delta.proofs.Growing.{listed}
use Rattle.cam_delta.proofs.OwnPast.{listed_final}
use Rattle.cam_delta.proofs.Prefixes.{load_to, listed_to}
use Rattle.cam_delta.proofs.Telling.{told_known}
use Rattle.cam_wire.specs.OfTrace.{spelling_of}
use Rattle.cam_wire.specs.OneSet.{HasOneSetEach}
use Rattle.cam_wire.specs.Spelling.{spelled}
use Rattle.cam_wire.specs.Writable.{IsWritable}
use Rattle.cam_net.specs.Letters.{InFlightFields, unless_lost, letter_of as kept_of}
use Rattle.cam_runs.specs.Running.{letters, has_number, letter_of as run_letter}
use Rattle.cam_runs.specs.Standing.{Standing}
use Rattle.cam_histories.specs.Network.{AreLetters}
use Rattle.cam_histories.specs.Flight.{IsSent, IsCarried, AreInFlight, IsNetworkOf}
use Rattle.cam_histories.specs.FlightLaws.{UnputMayBeWritten, BytesAreSpellings, CutsAreFronts}
use Rattle.cam_histories.proofs.Writing.{letters_are_in_range}
use Rattle.cam_histories.proofs.Handing.{SentAs, sent_as}

-- each commit on a letter has the dependencies that the run says
pub said_so : (objects : List ObjectDecl) (t : List Event) (id : LetterId) (mail : Mail)
    → Ran objects t → letter_at t id ≡ Some mail
    → (b : Name) (counts : List ℕ) → In (Committed b counts) (load_at objects t id).know.outcomes
    → counts ≡ as_counts (deps objects (plain_all t) b)
said_so objects t id mail run at b counts i =
    let u : List Event = trace_to t id.event in
    let there : In (Committed b counts) (listed objects u mail.from) =
    told_known objects u mail.from mail.to (Committed b counts)
    (subst (λ d. In (Committed b counts) d.know.outcomes)
    (ap (load_by objects (received_of objects t) (Some id)) at ∙ load_to objects t id mail) i) in
    listed_final objects t mail.from run b counts
    (begins_in (listed objects u mail.from) (listed objects t mail.from) (Committed b counts)
    (listed_to objects t id.event mail.from) there)

pub one_set : (objects : List ObjectDecl) (t : List Event) (id : LetterId) (letter : Letter)
    → Ran objects t → IsSent objects t id letter → HasOneSetEach letter
one_set objects t id letter run sent =
    let is : SentAs objects t id letter = sent_as objects t id letter sent in
    subst HasOneSetEach is.is
    (λ a d e knows_d knows_e.
    said_so objects t id is.mail run is.at a d
    (known_in (load_at objects t id).know (Committed a d) knows_d)
    ∙ sym (said_so objects t id is.mail run is.at a e
    (known_in (load_at objects t id).know (Committed a e) knows_e)))

first_unput : (objects : List ObjectDecl) (t : List Event) (net : List InFlightFields)
    (letter : Letter) (unput : List Letter) (ids : List LetterId)
    → AreInFlight objects t net (letter ∷ unput) ids → (id : LetterId) × IsSent objects t id letter
first_unput objects t [] letter unput [] are = elim are [ ]
first_unput objects t [] letter unput (id ∷ ids) are = (id, are.0)
first_unput objects t (kept ∷ net) letter unput [] are = elim are [ ]
first_unput objects t (kept ∷ net) letter unput (id ∷ ids) are =
    first_unput objects t net letter unput ids are.1

pub unput_may_be_written : UnputMayBeWritten
unput_may_be_written objects taken st net letter unput halted run few short is =
    let found = first_unput objects st.running.trace net letter unput
    (letters st.running.trace) is.flight in
    let sent : SentAs objects st.running.trace found.0 letter =
    sent_as objects st.running.trace found.0 letter found.1 in (
      subst IsWritable sent.is (letters_are_in_range objects taken st.running.trace found.0
          sent.mail run few short sent.at).0,
      one_set objects st.running.trace found.0 letter (taken, run) found.1,
    )

-- the bytes at a place
spelled_as : (objects : List ObjectDecl) (t : List Event) (id : LetterId) (kept : InFlightFields)
    → IsCarried objects t id kept
    → kept.bytes ≡ spelling_of (by_knowledge objects) t id
spelled_as objects t id kept is = is.bytes ∙ sym (ap (λ o. option_map_or spelled o []) is.sent)

kept_bytes : (f : List ℕ → List ℕ) (objects : List ObjectDecl) (t : List Event) (lost : Bool)
    (id : LetterId) (kept : InFlightFields)
    → kept.lost ≡ lost → IsCarried objects t id kept
    → option_map (λ (k : InFlightFields). f k.bytes) (unless_lost (Some kept))
    ≡ option_map (λ i. f (spelling_of (by_knowledge objects) t i)) (if lost then None else Some id)
kept_bytes f objects t true id kept is carried = rw is refl
kept_bytes f objects t false id kept is carried =
    rw is (ap (λ bs. Some (f bs)) (spelled_as objects t id kept carried))

gone : (f : List ℕ → List ℕ) (objects : List ObjectDecl) (t : List Event) (b : Bool)
    → (let none : Option LetterId = None in let bytes : Option (List ℕ) = None in bytes
    ≡ option_map (λ i. f (spelling_of (by_knowledge objects) t i)) (if b then None else none))
gone f objects t true = refl
gone f objects t false = refl

at_place : (f : List ℕ → List ℕ) (objects : List ObjectDecl) (st : Standing) (number place : ℕ)
    (ids : List LetterId) (net : List InFlightFields)
    → AreLetters st number ids net → AreInFlight objects st.running.trace net [] ids
    → option_map (λ (k : InFlightFields). f k.bytes) (unless_lost (slice_get net place))
    ≡ option_map (λ i. f (spelling_of (by_knowledge objects) st.running.trace i))
    (if has_number st.running.lost (number + place) then None else slice_get ids place)
at_place f objects st number place [] [] are carried =
    gone f objects st.running.trace (has_number st.running.lost (number + place))
at_place f objects st number place [] (kept ∷ net) are carried = elim are [ ]
at_place f objects st number zero (id ∷ ids) [] are carried = elim are [ ]
at_place f objects st number (suc place) (id ∷ ids) [] are carried = elim are [ ]
at_place f objects st number zero (id ∷ ids) (kept ∷ net) are carried =
    let here : number ≡ number + zero = omega arith in
    kept_bytes f objects st.running.trace (has_number st.running.lost (number + zero)) id kept
    (are.0.lost ∙ ap (has_number st.running.lost) here) carried.0
at_place f objects st number (suc place) (id ∷ ids) (kept ∷ net) are carried =
    let here : number + 1 + place ≡ number + suc place = omega arith in
    at_place f objects st (number + 1) place ids net are.1 carried.1
    ∙ ap (λ n. option_map (λ i. f (spelling_of (by_knowledge objects) st.running.trace i))
    (if has_number st.running.lost n then None else slice_get ids place)) here

before : (place : ℕ) → suc place - 1 ≡ place
before place = omega arith

no_more : (net : List InFlightFields) → net ++ [] ≡ net
no_more [] = refl
no_more (kept ∷ net) = ap (λ xs. kept ∷ xs) (no_more net)

fronts : (f : List ℕ → List ℕ) (objects : List ObjectDecl) (st : Standing)
    (net : List InFlightFields) (halted : List Bool) (number : ℕ)
    → IsNetworkOf objects st net [] halted
    → option_map (λ (k : InFlightFields). f k.bytes) (kept_of net number)
    ≡ option_map (λ i. f (spelling_of (by_knowledge objects) st.running.trace i))
    (run_letter st.running number)
fronts f objects st net halted zero is = refl
fronts f objects st net halted (suc place) is =
    let next : 1 + place ≡ suc place = omega arith in
    rw (ne_eqb (suc place) 0 (λ e. omega (arith, e)), before place)
    (at_place f objects st 1 place (letters st.running.trace) net
    (subst (AreLetters st 1 (letters st.running.trace)) (no_more net) is.stands.letters) is.flight
    ∙ ap (λ n. option_map (λ i. f (spelling_of (by_knowledge objects) st.running.trace i))
    (if has_number st.running.lost n then None else slice_get (letters st.running.trace) place))
    next)

pub bytes_are_spellings : BytesAreSpellings
bytes_are_spellings objects st net halted number is =
    fronts (λ bs. bs) objects st net halted number is

pub cuts_are_fronts : CutsAreFronts
cuts_are_fronts objects st net halted number bytes is =
    fronts (take bytes) objects st net halted number is
