-- Where an event is put in of which nobody learnt, the other nodes do the same.
use Rattle.std.proofs.Common.{◌≡◌, ℕ}
use Rattle.std.proofs.Common.{List, [], ◌++◌, map, length, Option, option_map, refl}
use Rattle.std.proofs.Common.{sym, ap, ◌∙◌}
use Rattle.std.specs.Option.{option_map_or}
use Rattle.cam_names.specs.declared.name.Name.{Name}
use Rattle.cam_type.specs.declared.ObjectDecl.{ObjectDecl}
use Rattle.cam_know.specs.Knowledge.{Knowledge}
use Rattle.cam_know.specs.Known.{nothing, both}
use Rattle.cam_know.specs.Order.{told_in_order}
use Rattle.cam_event.specs.declared.Event.{Event}
use Rattle.cam_event.specs.declared.Want.{Want}
use Rattle.cam_event.specs.declared.Want.TheVariants as wants
use Rattle.cam_event.specs.Inputs.{Input, Begins, Requests, Receives, Tells, Queries, Restarts}
use Rattle.cam_event.specs.Inputs.{Mail}
use Rattle.cam_event.specs.Inputs.{mail_got, node_of, got_of}
use Rattle.cam_event.specs.Sights.{Sight}
use Rattle.cam_event.specs.Refusals.{refusal, query_refusal}
use Rattle.cam_event.specs.Readings.{by_knowledge}
use Rattle.cam_event.specs.ByKnowledge.{held, sight_with, new_informs}
use Rattle.cam_event.specs.Carried.{Carried}
use Rattle.cam_event.specs.ByKnowledge.{held_sight, node_step}
use Rattle.cam_event.specs.Loads.{Load}
use Rattle.cam_event.specs.ByDeltas.{Received, as_carried, received_of, of_node}
use Rattle.cam_event.specs.ByDeltas.{load_by}
use Rattle.cam_histories.specs.PutIn.{moved_letter, moved_event, moved_input, put_in}
use Rattle.cam_histories.specs.Laws.{history_of}
use Rattle.cam_histories.specs.PutIn.{IsUnseen}
use Rattle.cam_histories.specs.PutIn.{nameless, LettersAreMoved, LoadsAreMoved, HistoriesAreMoved}
use Rattle.cam_histories.specs.PutIn.{RefusalsStay, QueryRefusalsStay, EventsAreMoved}
use Rattle.cam_histories.proofs.Nameless.{bare, held_bare}
use Rattle.cam_histories.proofs.NamelessSteps.{sight_bare, step_bare}
use Rattle.cam_histories.proofs.Nameless.{carried_bare}
use Rattle.cam_histories.proofs.Numbers.{letters_moved, mails_moved}
use Rattle.cam_histories.proofs.PutInHistories.{same_so, load_moved, got_moved}

-- the step of a node, for an input under its new number
moved_step : (p : ℕ) (objects : List ObjectDecl) (n : ℕ) (h : List Carried) (input : Input)
    (mail : Option Mail) (k : Knowledge)
    → node_step objects n h (moved_input p input) mail k
    ≡ moved_event p (node_step objects n h input mail k)
moved_step p objects n h (Begins s) mail k = refl
moved_step p objects n h (Requests r) mail k = refl
moved_step p objects n h (Receives letter) mail k = refl
moved_step p objects n h (Tells s to) mail k = refl
moved_step p objects n h (Queries s f) mail k = refl
moved_step p objects n h (Restarts s) mail k = refl

-- two histories that are the same but for numbers
carried_alike : (h j : List Received) → map nameless h ≡ map nameless j
    → map bare (map as_carried h) ≡ map bare (map as_carried j)
carried_alike h j same = sym (carried_bare h) ∙ ap (map as_carried) same ∙ carried_bare j

pub step_alike : (objects : List ObjectDecl) (n : ℕ) (h j : List Received) (input : Input)
    (mail : Option Mail) (k : Knowledge) → map nameless h ≡ map nameless j
    → node_step objects n (map as_carried h) input mail k
    ≡ node_step objects n (map as_carried j) input mail k
step_alike objects n h j input mail k same =
    sym (step_bare objects n (map as_carried h) input mail k)
    ∙ ap (λ cs. node_step objects n cs input mail k) (carried_alike h j same)
    ∙ step_bare objects n (map as_carried j) input mail k

-- what a node goes by, but for its events
abbrev pub eventless : Sight → Sight
eventless g = record g { events = [] }

sight_alone : (objects : List ObjectDecl) (n : ℕ) (h : List Carried)
    → eventless (held_sight objects n (map bare h) nothing)
    ≡ eventless (held_sight objects n h nothing)
sight_alone objects n h =
    ap (λ k. eventless (sight_with objects n (map bare h) (new_informs n nothing k)
    (both k nothing)))
    (held_bare objects h)
    ∙ ap eventless
    (sight_bare objects n h (new_informs n nothing (held objects h))
    (both (held objects h) nothing))

pub sight_alike : (objects : List ObjectDecl) (n : ℕ) (h j : List Received)
    → map nameless h ≡ map nameless j
    → eventless (held_sight objects n (map as_carried h) nothing)
    ≡ eventless (held_sight objects n (map as_carried j) nothing)
sight_alike objects n h j same =
    sym (sight_alone objects n (map as_carried h))
    ∙ ap (λ cs. eventless (held_sight objects n cs nothing)) (carried_alike h j same)
    ∙ sight_alone objects n (map as_carried j)

-- the laws
pub letters_are_moved : LettersAreMoved
letters_are_moved s behind before e letter unseen = letters_moved before e behind letter

pub loads_are_moved : LoadsAreMoved
loads_are_moved objects s behind before e letter unseen =
    load_moved objects s before e unseen.at behind
    (same_so objects s before e unseen.at behind unseen.others) unseen.others letter

pub histories_are_moved : HistoriesAreMoved
histories_are_moved objects s m behind before e unseen off =
    (same_so objects s before e unseen.at behind unseen.others).own m off

pub sights_stay : (objects : List ObjectDecl) (s m : ℕ) (behind before : List Event) (e : Event)
    → IsUnseen s behind e → (s ≡ m → ⊥)
    → eventless ((by_knowledge objects).sight (put_in behind e before) m)
    ≡ eventless ((by_knowledge objects).sight (behind ++ before) m)
sights_stay objects s m behind before e unseen off =
    sight_alike objects m (history_of objects (put_in behind e before) m)
    (history_of objects (behind ++ before) m)
    (histories_are_moved objects s m behind before e unseen off)

-- a refusal does not go by the node's events
pub refusal_alone : (g : Sight) (a : Name) (want : Want) → refusal g a want
    ≡ refusal (eventless g) a want
refusal_alone g a (wants.Ask m) = refl
refusal_alone g a (wants.Call x op) = refl
refusal_alone g a (wants.Commit v) = refl
refusal_alone g a wants.Abort = refl
refusal_alone g a (wants.GiveUp b) = refl

pub refusals_stay : RefusalsStay
refusals_stay objects s m behind before e a want unseen off =
    refusal_alone ((by_knowledge objects).sight (put_in behind e before) m) a want
    ∙ ap (λ g. refusal g a want) (sights_stay objects s m behind before e unseen off)
    ∙ sym (refusal_alone ((by_knowledge objects).sight (behind ++ before) m) a want)

pub query_refusals_stay : QueryRefusalsStay
query_refusals_stay objects s m behind before e f unseen off =
    ap (λ g. query_refusal g f) (sights_stay objects s m behind before e unseen off)

-- the node of an input
pub node_moved : (behind before : List Event) (e : Event) (input : Input)
    → node_of (put_in behind e before) (moved_input (length before) input)
    ≡ node_of (behind ++ before) input
node_moved behind before e (Begins s) = refl
node_moved behind before e (Requests r) = refl
node_moved behind before e (Receives letter) =
    ap (λ o. option_map_or (λ (m : Mail). m.to) o 0) (letters_moved before e behind letter)
node_moved behind before e (Tells s to) = refl
node_moved behind before e (Queries s f) = refl
node_moved behind before e (Restarts s) = refl

got_of_moved : (p : ℕ) (input : Input) → got_of (moved_input p input)
    ≡ option_map (moved_letter p) (got_of input)
got_of_moved p (Begins s) = refl
got_of_moved p (Requests r) = refl
got_of_moved p (Receives letter) = refl
got_of_moved p (Tells s to) = refl
got_of_moved p (Queries s f) = refl
got_of_moved p (Restarts s) = refl

pub events_are_moved : EventsAreMoved
events_are_moved objects s behind before e input unseen off =
    ap (λ n. node_step objects n (map as_carried (of_node now n)) moves
    (mail_got after (got_of moves))
    (told_in_order (load_by objects now (got_of moves) (mail_got after (got_of moves))).know))
    (node_moved behind before e input)
    ∙ (λ i. node_step objects n (map as_carried (of_node now n)) moves (mails i)
    (told_in_order (loads i).know))
    ∙ step_alike objects n (of_node now n) (of_node was n) moves mail (told_in_order load.know)
    (histories_are_moved objects s n behind before e unseen off)
    ∙ moved_step p objects n (map as_carried (of_node was n)) input mail (told_in_order load.know)
  where
    p : ℕ
    p = length before

    after : List Event
    after = put_in behind e before

    now : List Received
    now = received_of objects after

    was : List Received
    was = received_of objects (behind ++ before)

    moves : Input
    moves = moved_input p input

    n : ℕ
    n = node_of (behind ++ before) input

    mail : Option Mail
    mail = mail_got (behind ++ before) (got_of input)

    load : Load
    load = load_by objects was (got_of input) mail

    mails : mail_got after (got_of moves) ≡ mail
    mails = ap (mail_got after) (got_of_moved p input) ∙ mails_moved before e behind (got_of input)

    loads : load_by objects now (got_of moves) (mail_got after (got_of moves)) ≡ load
    loads =
        ap (λ g. load_by objects now g (mail_got after g)) (got_of_moved p input)
        ∙ got_moved objects s before e unseen.at behind
        (same_so objects s before e unseen.at behind unseen.others) unseen.others (got_of input)
