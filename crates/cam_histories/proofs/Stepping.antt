-- A step of a node in a run is the run's next event.
use Rattle.std.proofs.Common.{◌≡◌, ℕ, List, ◌∷◌, map, Option, Some, None, refl, sym, ap, ◌∙◌, subst}
use Rattle.std.proofs.lemmas.Bool.{ne_eqb}
use Rattle.cam_type.specs.declared.ObjectDecl.{ObjectDecl}
use Rattle.cam_know.specs.Known.{nothing}
use Rattle.cam_event.specs.declared.Event.{Event}
use Rattle.cam_event.specs.Inputs.{Input, Receives, Restarts, Mail, mail_got, node_of, got_of}
use Rattle.cam_event.specs.Loads.{Load, no_load}
use Rattle.cam_event.specs.Sights.{Sight}
use Rattle.std.specs.Option.{option_map_or}
use Rattle.cam_know.specs.Order.{told_in_order}
use Rattle.cam_comman.specs.Letters.{load_on}
use Rattle.cam_node.specs.Calls.{mail_on}
use Rattle.cam_event.specs.ByKnowledge.{node_step, held_sight}
use Rattle.cam_event.specs.ByDeltas.{Received, as_carried, next_by_deltas, load_by, received_of}
use Rattle.cam_event.specs.Runs.{MayCome}
use Rattle.cam_agree.proofs.Ran.{Ran}
use Rattle.cam_delta.proofs.Growing.{newest_received, history_here, history_there}
use Rattle.cam_delta.proofs.SameSteps.{ran_events}
use Rattle.cam_node.specs.Halting.{IsThrough}
use Rattle.cam_node.specs.Lawful.{MayBePut, HasLetter, IsLetter}
use Rattle.cam_node.specs.Represents.{Node, Represents}
use Rattle.cam_histories.specs.Laws.{history_of, load_of_input}
use Rattle.cam_histories.specs.ReadBack.{received_with}
use Rattle.cam_histories.specs.Stepping.{HasStepped, StepsLeadOn, RestartsLeadOn, LettersArePut, OwnInputsArePut}
use Rattle.cam_histories.proofs.Putting.{ran_inputs_put}
use Rattle.cam_histories.proofs.ReadBack.{nodes_stand_as_good}

-- what the run has of its next event
newest : (objects : List ObjectDecl) (t : List Event) (input : Input)
    → newest_received objects (next_by_deltas objects t input) t
    ≡ received_with (next_by_deltas objects t input) (mail_got t (got_of input))
    (load_of_input objects t input)
newest objects t input = refl

-- the run's next event, and a node that stands for it
stepped : (objects : List ObjectDecl) (t : List Event) (input : Input) (new : Node) (event : Event)
    → Ran objects t → MayCome objects t input
    → new.number ≡ node_of t input → event ≡ next_by_deltas objects t input
    → Represents objects (received_with event (mail_got t (got_of input))
    (load_of_input objects t input) ∷ history_of objects t (node_of t input)) new
    → HasStepped objects t input new event
stepped objects t input new event run may number is stands = record {
  node = node;
  held = is;
  next = is ∙ ran_events objects t input run may;
  number = number ∙ sym node;
  own = subst Own (sym is) (history_here objects whole t);
  represents = subst (λ (e : Event). Represents objects (history_of objects (e ∷ t) e.node) new)
      (sym is) here;
  others = λ m off. history_there objects event t m (ne_eqb event.node m off);
}
  where
    node : event.node ≡ node_of t input
    node = ap (λ (e : Event). e.node) is

    whole : Event
    whole = next_by_deltas objects t input

    Own : Event → Type 0
    Own e = history_of objects (e ∷ t) e.node
        ≡ received_with e (mail_got t (got_of input)) (load_of_input objects t input)
        ∷ history_of objects t e.node

    here : Represents objects (history_of objects (whole ∷ t) (node_of t input)) new
    here =
        subst (λ h. Represents objects h new) (sym (history_here objects whole t))
        (subst (λ (e : Event). Represents objects
        (received_with e (mail_got t (got_of input)) (load_of_input objects t input)
        ∷ history_of objects t (node_of t input)) new) is stands)

pub steps_lead_on : StepsLeadOn
steps_lead_on objects taken t input old new mail load event run may number through stands put step =
    stepped objects t input new event (taken, run) may (step.number ∙ number) is
    (subst (λ (m : Option Mail). Represents objects
    (received_with event m (load_of_input objects t input) ∷ h) new) put.is_mail
    (nodes_stand_as_good objects h event mail load (load_of_input objects t input) new put.as_good
    (step.represents h (by_number (λ n. IsThrough objects n h) through) stands may_put)))
  where
    s : ℕ
    s = node_of t input

    h : List Received
    h = history_of objects t s

    by_number : (P : ℕ → Type 0) → P s → P old.number
    by_number P p = subst P (sym number) p

    may_put : MayBePut objects old.number (held_sight objects old.number (map as_carried h) nothing)
        input mail load
    may_put = by_number (λ n. MayBePut objects n
        (held_sight objects n (map as_carried h) nothing) input mail load) put.may

    is : event ≡ next_by_deltas objects t input
    is =
        step.next h (by_number (λ n. IsThrough objects n h) through) stands may_put
        ∙ (λ i. node_step objects (number i) (map as_carried h) input (put.is_mail i)
        (put.as_good.order i))

pub restarts_lead_on : RestartsLeadOn
restarts_lead_on objects taken t s logged new entries event run may ended keeps restart =
    stepped objects t (Restarts s) new event (taken, run) may restart.number
    (restart.next (history_of objects t s) ended keeps)
    (restart.keeps (history_of objects t s) ended keeps).represents

-- a letter that was read back
pub letters_are_put : LettersArePut
letters_are_put objects t id mail found at back = record {
  is_mail = ap Some back.is_mail ∙ sym at;
  as_good = back.load;
  may =
      subst (λ (s : ℕ). HasLetter objects s (Some (mail_on found)) (load_on found)) (sym to)
      (subst (λ (m : Mail). IsLetter objects mail.to m (load_on found)) (sym back.is_mail) back.may);
}
  where
    to : node_of t (Receives id) ≡ mail.to
    to = ap (λ o. option_map_or (λ (m : Mail). m.to) o 0) at

-- no letter comes with the node's own inputs
pub own_inputs_are_put : OwnInputsArePut
own_inputs_are_put objects taken t input run may none = record {
  is_mail = mail;
  as_good = record {
    have = ap (λ (l : Load). l.have) load;
    place = ap (λ (l : Load). l.place) load;
    order = ap (λ (l : Load). told_in_order l.know) load;
  };
  may =
      subst (λ (o : Option Mail). MayBePut objects (node_of t input) sight input o no_load) (sym mail)
      (subst (MayBePut objects (node_of t input) sight input (mail_got t (got_of input))) (sym load)
      (ran_inputs_put objects t input (taken, run) may));
}
  where
    sight : Sight
    sight =
        held_sight objects (node_of t input)
        (map as_carried (history_of objects t (node_of t input))) nothing

    mail : None ≡ mail_got t (got_of input)
    mail = ap (mail_got t) (sym none)

    load : no_load ≡ load_of_input objects t input
    load = λ i. load_by objects (received_of objects t) (sym none i) (mail_got t (sym none i))
