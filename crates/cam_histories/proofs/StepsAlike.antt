-- The newest events of histories that differ in the numbers of their letters alone.
use Rattle.std.proofs.Common.{◌≡◌, ℕ, List, [], ◌∷◌, map, Option, Some, None}
use Rattle.std.proofs.Common.{refl, sym, ap, ◌∙◌, subst}
use Rattle.cam_type.specs.declared.ObjectDecl.{ObjectDecl}
use Rattle.cam_know.specs.Known.{nothing}
use Rattle.cam_know.specs.Knowledge.{Knowledge}
use Rattle.cam_know.specs.Order.{told_in_order}
use Rattle.cam_event.specs.declared.Event.{Event}
use Rattle.cam_event.specs.declared.LetterId.{LetterId}
use Rattle.cam_event.specs.Inputs.{Input, Begins, Requests, Receives, Tells, Queries, Restarts}
use Rattle.cam_event.specs.Inputs.{Mail, got_of}
use Rattle.cam_event.specs.Loads.{Load}
use Rattle.cam_event.specs.Sights.{Sight}
use Rattle.cam_event.specs.ByKnowledge.{held_sight, node_step}
use Rattle.cam_event.specs.Carried.{Carried}
use Rattle.cam_event.specs.ByDeltas.{Received, as_carried}
use Rattle.cam_node.specs.Halting.{IsTakenOf}
use Rattle.cam_node.specs.Lawful.{MayBePut, IsStepOf}
use Rattle.cam_histories.specs.Alike.{AreAlike}
use Rattle.cam_histories.specs.PutIn.{nameless, unnumbered}
use Rattle.cam_histories.proofs.Alike.{step_stays}

-- the input with the letter under another number
abbrev renamed : Input → Option LetterId → Input
renamed (Receives letter) (Some other) = Receives other
renamed (Receives letter) None = Receives letter
renamed (Begins s) got = Begins s
renamed (Requests r) got = Requests r
renamed (Tells s to) got = Tells s to
renamed (Queries s f) got = Queries s f
renamed (Restarts s) got = Restarts s

may_renamed : (objects : List ObjectDecl) (s : ℕ) (g : Sight) (input : Input)
    (got : Option LetterId) (mail : Option Mail) (load : Load)
    → MayBePut objects s g input mail load → MayBePut objects s g (renamed input got) mail load
may_renamed objects s g (Receives letter) (Some other) mail load may = may
may_renamed objects s g (Receives letter) None mail load may = may
may_renamed objects s g (Begins m) got mail load may = may
may_renamed objects s g (Requests r) got mail load may = may
may_renamed objects s g (Tells m to) got mail load may = may
may_renamed objects s g (Queries m f) got mail load may = may
may_renamed objects s g (Restarts m) got mail load may = may

none_of : (got : Option LetterId) → None ≡ unnumbered got → got ≡ None
none_of None is = refl
none_of (Some letter) is = cc

step_renamed : (objects : List ObjectDecl) (s : ℕ) (h : List Carried) (input : Input)
    (got : Option LetterId) (mail : Option Mail) (k : Knowledge)
    → unnumbered (got_of input) ≡ unnumbered got
    → record (node_step objects s h input mail k) { got = got }
    ≡ node_step objects s h (renamed input got) mail k
step_renamed objects s h (Receives letter) (Some other) mail k same = refl
step_renamed objects s h (Receives letter) None mail k same = cc
step_renamed objects s h (Begins m) got mail k same =
    ap (λ x. record (node_step objects s h (Begins m) mail k) { got = x }) (none_of got same)
step_renamed objects s h (Requests r) got mail k same =
    ap (λ x. record (node_step objects s h (Requests r) mail k) { got = x }) (none_of got same)
step_renamed objects s h (Tells m to) got mail k same =
    ap (λ x. record (node_step objects s h (Tells m to) mail k) { got = x }) (none_of got same)
step_renamed objects s h (Queries m f) got mail k same =
    ap (λ x. record (node_step objects s h (Queries m f) mail k) { got = x }) (none_of got same)
step_renamed objects s h (Restarts m) got mail k same =
    ap (λ x. record (node_step objects s h (Restarts m) mail k) { got = x }) (none_of got same)

-- one event, after the same history
step_as : (objects : List ObjectDecl) (s : ℕ) (h : List Received) (c d : Received)
    → nameless c ≡ nameless d → IsStepOf objects s h c → IsStepOf objects s h d
step_as objects s h c d same step = record {
  input = renamed step.input d.event.got;
  may =
      subst (λ (l : Load). MayBePut objects s g (renamed step.input d.event.got) d.mail l)
      (ap (λ (x : Received). x.load) same)
      (subst (λ (m : Option Mail). MayBePut objects s g (renamed step.input d.event.got) m c.load)
      (ap (λ (x : Received). x.mail) same)
      (may_renamed objects s g step.input d.event.got c.mail c.load step.may));
  is_next =
      (λ i. record (same_event i) { got = d.event.got })
      ∙ ap (λ (x : Event). record x { got = d.event.got }) step.is_next
      ∙ step_renamed objects s (map as_carried h) step.input d.event.got c.mail
      (told_in_order c.load.know)
      (ap (λ (x : Event). unnumbered x.got) (sym step.is_next)
      ∙ ap (λ (x : Received). x.event.got) same)
      ∙ λ i. node_step objects s (map as_carried h) (renamed step.input d.event.got)
      (same i).mail (told_in_order (same i).load.know);
}
  where
    g : Sight
    g = held_sight objects s (map as_carried h) nothing

    same_event : (nameless d).event ≡ (nameless c).event
    same_event = ap (λ (x : Received). x.event) (sym same)

-- a history and its newest event
abbrev first_or : Received → List Received → Received
first_or d [] = d
first_or d (c ∷ h) = c

abbrev rest_of : List Received → List Received
rest_of [] = []
rest_of (c ∷ h) = h

pub newest_alike : (c d : Received) (h j : List Received) → AreAlike (c ∷ h) (d ∷ j)
    → nameless c ≡ nameless d
newest_alike c d h j same = ap (first_or (nameless c)) same

pub older_alike : (c d : Received) (h j : List Received) → AreAlike (c ∷ h) (d ∷ j) → AreAlike h j
older_alike c d h j same = ap rest_of same

-- so each event of it
pub steps_alike : (objects : List ObjectDecl) (s : ℕ) (c d : Received) (h j : List Received)
    → AreAlike (c ∷ h) (d ∷ j) → IsStepOf objects s h c → IsStepOf objects s j d
steps_alike objects s c d h j same step =
    step_stays objects s h j d (older_alike c d h j same)
    (step_as objects s h c d (newest_alike c d h j same) step)

pub taken_alike : (objects : List ObjectDecl) (s : ℕ) (c d : Received) (h j : List Received)
    → AreAlike (c ∷ h) (d ∷ j) → IsTakenOf objects s h c → IsTakenOf objects s j d
taken_alike objects s c d h j same of = record {
  whole = whole;
  step =
      step_stays objects s h j whole (older_alike c d h j same)
      (step_as objects s h of.whole whole same_whole of.step);
  is =
      (λ i. named (sym newest i))
      ∙ ap named of.is;
}
  where
    newest : nameless c ≡ nameless d
    newest = newest_alike c d h j same

    named : Received → Received
    named x = record x { event = record x.event { got = d.event.got } }

    whole : Received
    whole = named of.whole

    same_whole : nameless of.whole ≡ nameless whole
    same_whole = λ i. record of.whole {
      event = record of.whole.event { got = numbers i };
    }
      where
        numbers : unnumbered of.whole.event.got ≡ unnumbered d.event.got
        numbers =
            ap (λ (x : Received). unnumbered x.event.got) (sym of.is)
            ∙ ap (λ (x : Received). x.event.got) newest
