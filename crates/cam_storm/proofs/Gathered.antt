-- A gathered run is a run of the storm.
use Rattle.std.proofs.Common.{◌≡◌, ℕ, eqb, Bool, if◌then◌else◌, List, [], ◌∷◌, length, map, reverse, Option, Some, refl, sym, ap, ◌∙◌, subst, arith}
use Rattle.std.specs.Prelude.{nat_lt}
use Rattle.std.proofs.lemmas.Bool.{eq-eqb}
use Rattle.cam_type.specs.declared.ObjectDecl.{ObjectDecl}
use Rattle.cam_event.specs.declared.LetterId.{LetterId}
use Rattle.cam_event.specs.declared.Event.{Event}
use Rattle.cam_event.specs.Inputs.{mail_got, node_of, got_of}
use Rattle.cam_event.specs.ByPast.{next}
use Rattle.cam_event.specs.ByKnowledge.{node_step}
use Rattle.cam_event.specs.ByDeltas.{Received, as_carried, load_by, received_of}
use Rattle.cam_know.specs.Order.{told_in_order}
use Rattle.cam_event.specs.Runs.{IsRun}
use Rattle.cam_delta.proofs.Growing.{history, newest_received}
use Rattle.cam_delta.proofs.SameReadings.{events_agree}
use Rattle.cam_journal.specs.declared.entry.RunStep.{RunStep}
use Rattle.cam_journal.specs.Trace.{IsRun as Run}
use Rattle.cam_gen.specs.Storms.{Words, objects_of, tops_of, restarts_at}
use Rattle.cam_storm.specs.Events.{Copied}
use Rattle.cam_storm.specs.Events.{Stepped}
use Rattle.cam_storm.specs.Runs.{own_count, sent_count, IsStormNext, StormRun}
use Rattle.cam_storm.specs.Own.{own_sent}
use Rattle.cam_storm.specs.Lawful.{sends, mail_in, load_in, carried, lawful, names, IsStormStep}
use Rattle.cam_storm.proofs.Counted.{count_own, sent_own}
use Rattle.cam_storm.proofs.Letters.{LettersHold, copied_at, new_letter, letters_more, comes}
use Rattle.cam_storm.proofs.Turned.{IsTurned, AreTurned, OnlyNodes, only_nodes, turned, ev, trace_of, own_of, numbered_events, map_reverse}
use Rattle.cam_storm.specs.Laws.{events_of, IsGathered, GatheredAreStorms, StormsAreRuns}
use Rattle.cam_journal.specs.Seats.{Sitting}
use Rattle.std.proofs.lemmas.List.{reverse-reverse}
use Rattle.cam_storm.proofs.GatheredInputs.{storm_is_run, Holds, step_of, Put, letter_copies, put_input}

-- with one more step all of it holds
more_holds : (words : Words) (before : List (RunStep Stepped Copied)) (x : RunStep Stepped Copied) → IsTurned words before x → Holds words before → Holds words (x ∷ before)
more_holds words before x is holds = record { own = owns; letters = letters; storm = (storm_next, holds.storm) }
  where
    objects : List ObjectDecl
    objects = objects_of words

    t : List Event
    t = trace_of before

    s : ℕ
    s = x.node

    own : List Received
    own = own_of s before

    run : IsRun objects t
    run = storm_is_run words t holds.storm

    step : IsStormStep words s own x.received x.event
    step = step_of words before x is

    node : (ev x).node ≡ s
    node = ap (λ (e : Event). e.node) step.is_next

    got : (ev x).got ≡ got_of step.input
    got = ap (λ (e : Event). e.got) step.is_next

    came : (mail_in x.received ≡ mail_got t (ev x).got) × (load_in x.received ≡ load_by objects (received_of objects t) (ev x).got (mail_got t (ev x).got))
    came = comes words before (ev x).got x.received holds.letters is.lawful.named is.lawful.sent

    new : carried x.event x.received ≡ newest_received objects (ev x) t
    new = λ i. record { event = ev x; mail = came.0 i; load = came.1 i }

    owns : (r : ℕ) → own_of r (x ∷ before) ≡ history objects (trace_of (x ∷ before)) r
    owns r = λ i. if eqb (sym node i) r then new i ∷ holds.own r i else holds.own r i

    sent : own_sent own ≡ sent_count t s
    sent = ap own_sent (holds.own s) ∙ sent_own objects t s

    mine : carried x.event x.received ∷ own ≡ history objects (ev x ∷ t) s
    mine = ap (λ (b : Bool). if b then carried x.event x.received ∷ own else own) (sym (eq-eqb s s refl)) ∙ owns s

    letters : LettersHold words (x ∷ before)
    letters = letters_more words x before holds.letters (λ p c at.
        let found = copied_at words s (carried x.event x.received ∷ own) (own_sent own) (ev x).sent x.event.letters p c step.letters at in
        new_letter words (ev x) t s own (carried x.event x.received) p found.0 c node sent mine found.1 found.2)

    put : Put words t s step.input
    put = put_input words before s step.input x.received holds is.node
        (λ letter e.
        let g : (ev x).got ≡ Some letter = got ∙ e in (
          came.0 ∙ ap (mail_got t) g,
          letter_copies words before letter (ev x).got x.received holds.letters is.lawful.named is.lawful.sent g,
        ))
        step.may step.so

    input_got : mail_got t (ev x).got ≡ mail_got t (got_of step.input)
    input_got = ap (mail_got t) got

    loaded : load_in x.received ≡ load_by objects (received_of objects t) (got_of step.input) (mail_got t (got_of step.input))
    loaded = came.1 ∙ ap (λ (g : Option LetterId). load_by objects (received_of objects t) g (mail_got t g)) got

    event_is : ev x ≡ next objects t step.input
    event_is =
        step.is_next
        ∙ (λ i. node_step objects s (map as_carried (holds.own s i)) step.input ((came.0 ∙ input_got) i) (told_in_order (loaded i).know))
        ∙ ap (λ (n : ℕ). node_step objects n (map as_carried (history objects t n)) step.input (mail_got t (got_of step.input)) (told_in_order (load_by objects (received_of objects t) (got_of step.input) (mail_got t (got_of step.input))).know)) (sym put.node)
        ∙ events_agree objects t step.input run put.may

    length_is : length own ≡ own_count t (node_of t step.input)
    length_is = ap (λ (h : List Received). length h) (holds.own s) ∙ count_own objects t s ∙ ap (own_count t) (sym put.node)

    storm_next : IsStormNext words t (ev x)
    storm_next = record {
      input = step.input;
      may = put.may;
      so = put.so;
      tops_first = step.tops_first ∙ (λ i. nat_lt (length_is i) (tops_of words (sym put.node i)));
      restarts = step.restarts ∙ ap (restarts_at words) length_is;
      here = (let e = node in let n = is.node.0 in omega arith, let e = node in let n = is.node.1 in omega arith);
      is_next = event_is;
    }

pub all_hold : (words : Words) (xs : List (RunStep Stepped Copied)) → AreTurned words xs → Holds words xs
all_hold words [] are = record {
  own = λ s. refl;
  letters = λ i p y c at there. cc;
  storm = tt;
}
all_hold words (x ∷ before) are = more_holds words before x are.0 (all_hold words before are.1)

-- what was gathered is the steps of the run, turned
pub gathered_turned : (words : Words) (seats : List (Sitting Stepped Copied)) (gathered : List (ℕ × Stepped)) (all : IsGathered words seats gathered) → AreTurned words (reverse all.trace) × (events_of gathered ≡ trace_of (reverse all.trace))
gathered_turned words seats gathered all =
    let back : reverse (reverse all.trace) ≡ all.trace = reverse-reverse all.trace in (
      turned words (reverse all.trace) (subst (λ (trace : List (RunStep Stepped Copied)). Run names sends (lawful words) trace) (sym back) all.run) (subst OnlyNodes (sym back) (only_nodes all.trace all.nodes_only)),
      ap (λ (es : List (ℕ × Stepped)). reverse (map (λ (p : ℕ × Stepped). p.1.event) es)) all.events_are ∙ ap (λ (es : List Event). reverse es) (numbered_events 0 all.trace) ∙ sym (map_reverse ev all.trace),
    )

pub gathered_are_storms : GatheredAreStorms
gathered_are_storms words seats gathered all =
    let is = gathered_turned words seats gathered all in
    subst (StormRun words) (sym is.1) (all_hold words (reverse all.trace) is.0).storm

pub storms_are_runs : StormsAreRuns
storms_are_runs = storm_is_run
