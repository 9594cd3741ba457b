-- What is decided by tables is the event that comes next; and it has no crash.
use Rattle.std.proofs.Common.{◌≡◌, inl, inr, ℕ, max, List, [], ◌∷◌, Option, Some, None, refl, sym, ap, ◌∙◌, subst, arith}
use Rattle.std.specs.List.{AllByRecursion}
use Rattle.std.specs.Option.{option_map_or}
use Rattle.cam_names.specs.declared.name.Name.{Name}
use Rattle.cam_type.specs.declared.ObjectDecl.{ObjectDecl}
use Rattle.cam_event.specs.declared.Deed.{Deed}
use Rattle.cam_event.specs.declared.Deed.TheVariants.{Crash}
use Rattle.cam_event.specs.declared.LetterId.{LetterId}
use Rattle.cam_event.specs.Inputs.{mail_got}
use Rattle.cam_event.specs.Pasts.{plain_all}
use Rattle.cam_event.specs.Rules.{Did}
use Rattle.cam_event.proofs.Members.{In, in_new, in_right}
use Rattle.cam_own.specs.Replies.{IsNoCrash}
use Rattle.cam_timed.specs.declared.TimedEvent.{TimedEvent}
use Rattle.cam_timed.specs.declared.Pause.{Pause}
use Rattle.cam_timed.specs.declared.machine.Letter.{Letter}
use Rattle.cam_timed.specs.declared.machine.deciding.Decided.{Decided}
use Rattle.cam_timed.specs.declared.ruled.NodeInput.{NodeInput}
use Rattle.cam_timed.specs.Here.{ComesFromNode, input_of}
use Rattle.cam_timed.specs.KeptSights.{kept_sight}
use Rattle.cam_timed.specs.Machine.{KeepsLetter, id_of, mail_of}
use Rattle.cam_timed.specs.Moments.{events, moment_of, moment_brought, moment_now, until_of}
use Rattle.cam_timed.specs.TimedRules.{TimedInput, timed_node_of, timed_got_of, moment_by, until_given, pause_by, paused, timed_rule, timed_did, event_by, timed_next}
use Rattle.cam_timed.specs.TimedRuns.{TimedMayCome, IsTimedRun}
use Rattle.cam_timed.specs.Travelling.{carrier, abort_paths, timed_informs}
use Rattle.cam_timed.specs.Turns.{IsLetterOf, IsTurn, AreFirst, taken}
use Rattle.cam_timed.proofs.LiveHeld.{crash_counts}
use Rattle.cam_timed.proofs.RuleHolds.{timed_holds}
use Rattle.cam_timed.proofs.TablesTell.{tables_tell_the_rule}
use Rattle.cam_timed.proofs.Told.{first_each}

-- the letter that comes
pub turn_id : (T : List TimedEvent) (got : Option LetterId) (letter : Option Letter) → IsLetterOf T got letter → id_of letter ≡ got
turn_id T None None is = refl
turn_id T (Some id) (Some letter) is = ap (λ (x : LetterId). Some x) is.0
turn_id T None (Some letter) is = absurd is
turn_id T (Some id) None is = absurd is

pub turn_mail : (T : List TimedEvent) (got : Option LetterId) (letter : Option Letter) → IsLetterOf T got letter → mail_of letter ≡ mail_got (events T) (id_of letter)
turn_mail T None None is = refl
turn_mail T (Some id) (Some letter) is = sym is.1.mail
turn_mail T None (Some letter) is = absurd is
turn_mail T (Some id) None is = absurd is

pub turn_letter : (T : List TimedEvent) (got : Option LetterId) (letter : Letter) → IsLetterOf T got (Some letter) → (Some letter.id ≡ got) × KeepsLetter T letter
turn_letter T (Some id) letter is = (ap (λ (x : LetterId). Some x) is.0, is.1)
turn_letter T None letter is = absurd is

-- it comes from a node
pub turn_from : (T : List TimedEvent) (got : Option LetterId) (letter : Option Letter) → IsLetterOf T got letter → ComesFromNode (mail_of letter)
turn_from T None None is = tt
turn_from T (Some id) (Some letter) is = is.1.from
turn_from T None (Some letter) is = absurd is
turn_from T (Some id) None is = absurd is

-- the node's moment with the letter's
turn_moment : (T : List TimedEvent) (s own : ℕ) (got : Option LetterId) (letter : Option Letter) → IsLetterOf T got letter → own ≡ moment_of T s → max own (option_map_or (λ (l : Letter). l.moment) letter 0) ≡ moment_now T s got
turn_moment T s own None None is same = ap (λ n. max n 0) same
turn_moment T s own (Some id) (Some letter) is same = λ i. max (same i) ((is.1.moment ∙ ap (λ (x : LetterId). moment_brought T (Some x)) is.0) i)
turn_moment T s own None (Some letter) is same = absurd is
turn_moment T s own (Some id) None is same = absurd is

-- The event is the next one.
pub decided_next : (objects : List ObjectDecl) (T : List TimedEvent) (s : ℕ) (input : NodeInput) (letter : Option Letter) (first : List Deed) (own moment until : ℕ) (held : Name → ℕ) (did : Did) (pause : Option Pause)
    → IsTurn objects T s input letter → AreFirst T s input first → own ≡ moment_of T s → ((a : Name) → held a ≡ until_of T a)
    → did ≡ timed_rule objects (kept_sight objects (events T) s first) (mail_of letter) (input_of input)
    → moment ≡ moment_by T (input_of input) (max own (option_map_or (λ (l : Letter). l.moment) letter 0))
    → until ≡ until_given T (input_of input)
    → pause ≡ pause_by held moment (input_of input) did.deeds
    → taken s letter first (record { did = paused pause did; moment = moment; until = until; pause = pause }) ≡ timed_next objects T (input_of input)
decided_next objects T s input letter first own moment until held did pause turn firsts at tells ruled now gives why =
    λ i. event_by (sym turn.node i) (id i) (first_is i) (now_is i) (gives i) (pause_is i) (did_is i)
  where
    timed_input : TimedInput
    timed_input = input_of input

    got : Option LetterId
    got = timed_got_of timed_input

    id : id_of letter ≡ got
    id = turn_id T got letter turn.comes

    first_is : first ≡ timed_informs (events T) (timed_node_of T timed_input) got
    first_is = firsts ∙ ap (λ n. timed_informs (events T) n got) (sym turn.node)

    now_is : moment ≡ moment_by T timed_input (moment_now T (timed_node_of T timed_input) got)
    now_is = now ∙ ap (moment_by T timed_input) (turn_moment T s own got letter turn.comes at ∙ ap (λ n. moment_now T n got) (sym turn.node))

    did_is : did ≡ timed_did objects T timed_input (timed_node_of T timed_input) got
    did_is =
        ruled
        ∙ (λ i. timed_rule objects (kept_sight objects (events T) (sym turn.node i) (first_is i)) ((turn_mail T got letter turn.comes ∙ ap (mail_got (events T)) id) i) timed_input)
        ∙ sym (tables_tell_the_rule objects T timed_input turn.run turn.may)

    pause_is : pause ≡ pause_by (until_of T) (moment_by T timed_input (moment_now T (timed_node_of T timed_input) got)) timed_input (timed_did objects T timed_input (timed_node_of T timed_input) got).deeds
    pause_is = why ∙ (λ i. pause_by (λ a. tells a i) (now_is i) timed_input (did_is i).deeds)

-- each of a list
pub all_in : {X : Type 0} (P : X → Type 0) (xs : List X) → ((x : X) → In x xs → P x) → AllByRecursion P xs
all_in P [] h = tt
all_in P (x ∷ xs) h = (h x (inl refl), all_in P xs (λ y i. h y (inr i)))

-- a deed that is no crash of any node
no_crash : (d : Deed) → ((r : ℕ) → d ≡ Crash r → ⊥) → IsNoCrash d
no_crash (Crash r) none = none r refl
no_crash _ none = tt

-- The first Informs have no crash,
pub first_calm : (objects : List ObjectDecl) (T : List TimedEvent) (s : ℕ) (input : NodeInput) (first : List Deed) → AreFirst T s input first → AllByRecursion IsNoCrash first
first_calm objects T s input first is =
    subst (AllByRecursion IsNoCrash) (sym is)
    (all_in IsNoCrash (timed_informs (events T) s got) (λ d i. subst IsNoCrash (sym (first_each (events T) (abort_paths (events T)) s got (carrier (events T) got) d i).is) tt))
  where
    got : Option LetterId
    got = timed_got_of (input_of input)

-- nor has an event that comes next in a run by time.
pub decided_calm : (objects : List ObjectDecl) (T : List TimedEvent) (s : ℕ) (input : NodeInput) (letter : Option Letter) (first : List Deed) (decided : Decided)
    → IsTimedRun objects T → TimedMayCome objects T (input_of input) → taken s letter first decided ≡ timed_next objects T (input_of input) → AllByRecursion IsNoCrash decided.did.deeds
decided_calm objects T s input letter first decided run may is = all_in IsNoCrash decided.did.deeds (λ d i. no_crash d (none d i))
  where
    e : TimedEvent
    e = taken s letter first decided

    next : IsTimedRun objects (e ∷ T)
    next = (record { input = input_of input; may = may; is_next = is }, run)

    none : (d : Deed) → In d decided.did.deeds → (r : ℕ) → d ≡ Crash r → ⊥
    none d i r same =
        let there : In (Crash r) (plain_all (events (e ∷ T))) = in_new e.event.deeds (plain_all (events T)) (Crash r) (in_right first decided.did.deeds (Crash r) (subst (λ x. In x decided.did.deeds) same i)) in
        let many = crash_counts (plain_all (events (e ∷ T))) r there in
        let one = (timed_holds objects (e ∷ T) next).no_crash r in
        absurd (omega (arith, many, one))
