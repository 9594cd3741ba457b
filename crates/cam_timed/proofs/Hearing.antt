-- The table of what nodes have heard of is kept by each turn.
use Rattle.std.proofs.Common.{◌≡◌, if◌then◌else◌, cond, ℕ, eqb, Bool, true, false, ◌&&◌, List, [], ◌∷◌, ◌++◌, Option, Some, None, unwrap_or, refl, sym, ap, ◌∙◌, subst, arith}
use Rattle.std.specs.HashMap.{HashMap, get}
use Rattle.std.proofs.lemmas.Bool.{and_parts, eqb-true}
use Rattle.cam_type.specs.declared.ObjectDecl.{ObjectDecl}
use Rattle.cam_event.specs.declared.Event.{Event}
use Rattle.cam_event.specs.declared.Deed.{Deed}
use Rattle.cam_event.specs.Rules.{Did}
use Rattle.cam_timed.specs.declared.TimedEvent.{TimedEvent}
use Rattle.cam_timed.specs.declared.machine.Letter.{Letter}
use Rattle.cam_timed.specs.declared.machine.hearing.Reach.{Reach}
use Rattle.cam_timed.specs.declared.machine.hearing.Road.{Road}
use Rattle.cam_timed.specs.declared.ruled.NodeInput.{NodeInput}
use Rattle.cam_timed.specs.Here.{input_of}
use Rattle.cam_timed.specs.Moments.{events, moment_now, until_of}
use Rattle.cam_timed.specs.Reaches.{Hears, IsReach, KeepsHeard, nowhere, raised, reach_in, road, road_eq}
use Rattle.cam_timed.specs.TimedRules.{moment_by, pause_by, paused, timed_did, timed_got_of, timed_next, timed_node_of}
use Rattle.cam_timed.specs.Travelling.{timed_informs}
use Rattle.cam_timed.specs.Turns.{IsTurn}
use Rattle.cam_timed.proofs.Deciding.{turn_letter}
use Rattle.cam_timed.proofs.Reaching.{heard_max, letter_heard, reach_still}

-- What is put into the table for a pair of nodes.
pub road_put :
    {S : Type 0} (old new : HashMap Road Reach S) (m s : ℕ) (r : Reach)
    → ((q : Road)
    → get road_eq new q ≡ cond (road_eq (road m s) q) (Some r) (get road_eq old q))
    → (k n : ℕ) → reach_in new k n ≡ (if eqb m k && eqb s n then r else reach_in old k n)
road_put old new m s r put k n =
    ap (λ (o : Option Reach). unwrap_or o nowhere) (put (road k n)) ∙ by (eqb m k && eqb s n)
  where
    by : (b : Bool) → unwrap_or (cond b (Some r) (get road_eq old (road k n))) nowhere
        ≡ (if b then r else reach_in old k n)
    by true = refl
    by false = refl

-- nothing was heard if nothing has happened
pub none_heard : {S : Type 0} (heard : HashMap Road Reach S)
    → ((m s : ℕ) → reach_in heard m s ≡ nowhere) → KeepsHeard [] heard
none_heard heard none m s =
    subst (IsReach [] m s) (sym (none m s)) (record {
      commits = record { few = omega arith; informed_of = λ a there. cc };
      aborts = record { few = omega arith; informed_of = λ a there. cc };
    })

-- what a turn's event begins with
first_of_turn :
    (objects : List ObjectDecl) (T : List TimedEvent) (input : NodeInput) (s : ℕ) (letter : Letter)
    → IsTurn objects T s input (Some letter)
    → (more : List Deed)
    × ((timed_next objects T (input_of input)).event.deeds
    ≡ timed_informs (events T) s (Some letter.id) ++ more)
first_of_turn objects T input s letter turn =
    (rest.deeds, λ i. timed_informs (events T) (turn.node i) (sym is i) ++ rest.deeds)
  where
    is : Some letter.id ≡ timed_got_of (input_of input)
    is = (turn_letter T (timed_got_of (input_of input)) letter turn.comes).0

    did : Did
    did =
        timed_did objects T (input_of input) (timed_node_of T (input_of input))
        (timed_got_of (input_of input))

    now : ℕ
    now =
        moment_by T (input_of input)
        (moment_now T (timed_node_of T (input_of input)) (timed_got_of (input_of input)))

    rest : Did
    rest = paused (pause_by (until_of T) now (input_of input) did.deeds) did

-- The table is kept after a turn, whose letter it has then.
pub hears_kept :
    {S : Type 0} (objects : List ObjectDecl) (T : List TimedEvent) (s : ℕ) (input : NodeInput)
    (letter : Option Letter) (old new : HashMap Road Reach S) → IsTurn objects T s input letter
    → Hears s letter old new → KeepsHeard (events T) old
    → KeepsHeard (events (timed_next objects T (input_of input) ∷ T)) new
hears_kept objects T s input None old new turn hears keeps m n =
    let e = timed_next objects T (input_of input) in
    subst (IsReach (events (e ∷ T)) m n) (sym (hears m n))
    (reach_still e.event (events T) m n (reach_in old m n) (keeps m n))
hears_kept objects T s input (Some letter) old new turn hears keeps m n =
    subst (IsReach t m n) (sym (hears m n)) (by (eqb letter.mail.from m && eqb s n) refl)
  where
    e : TimedEvent
    e = timed_next objects T (input_of input)

    t : List Event
    t = events (e ∷ T)

    still : (k l : ℕ) → IsReach t k l (reach_in old k l)
    still k l = reach_still e.event (events T) k l (reach_in old k l) (keeps k l)

    first : (more : List Deed) × (e.event.deeds ≡ timed_informs (events T) s (Some letter.id) ++ more)
    first = first_of_turn objects T input s letter turn

    letters : IsReach t letter.mail.from s
        (record { commits = letter.commits; aborts = letter.aborts })
    letters =
        letter_heard objects T s letter e.event first.0 turn.run
        (turn_letter T (timed_got_of (input_of input)) letter turn.comes).1 turn.node first.1

    both : IsReach t letter.mail.from s (raised letter (reach_in old letter.mail.from s))
    both =
        let before = still letter.mail.from s in
        record {
          commits = heard_max t s true _ _ letter.commits before.commits letters.commits;
          aborts = heard_max t s false _ _ letter.aborts before.aborts letters.aborts;
        }

    by : (b : Bool) → (eqb letter.mail.from m && eqb s n) ≡ b
        → IsReach t m n (if b then raised letter (reach_in old letter.mail.from s)
        else reach_in old m n)
    by true is =
        let parts = and_parts (eqb letter.mail.from m) (eqb s n) is in
        let r = raised letter (reach_in old letter.mail.from s) in
        subst (λ (k : ℕ). IsReach t k n r) (eqb-true letter.mail.from m parts.0)
        (subst (λ (l : ℕ). IsReach t letter.mail.from l r) (eqb-true s n parts.1) both)
    by false other = still m n
