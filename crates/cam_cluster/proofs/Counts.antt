-- Each input makes an event or leaves the mark of a halt: so inputs are counted.
use Rattle.std.proofs.Common.{◌≡◌, ℕ, ◌+◌, ◌≤◌, Bool, true, false, List}
use Rattle.std.proofs.Common.{[], ◌∷◌, ◌++◌, length, Option, Some, None, is_some, refl, sym, ap}
use Rattle.std.proofs.Common.{subst, arith, true≢false}
use Rattle.std.proofs.lemmas.List.{length-append}
use Rattle.cam_names.specs.declared.name.Name.{Name}
use Rattle.cam_event.specs.declared.Event.{Event}
use Rattle.cam_event.specs.declared.LetterId.{LetterId}
use Rattle.cam_event.specs.declared.Mark.{Mark}
use Rattle.cam_event.specs.declared.Mark.TheVariants as marks
use Rattle.cam_event.specs.Inputs.{Input, Receives, node_of}
use Rattle.cam_runs.specs.Halts.{accepted, appends}
use Rattle.cam_runs.specs.HaltedPlaying.{given_body}
use Rattle.cam_runs.specs.Standing.{Setting, Standing, after_input, deliver, deliver_waiting}
use Rattle.cam_runs.specs.Standing.{deliveries, put, waiting}
use Rattle.cam_histories.specs.InputLaws.{halt_of}
use Rattle.cam_cluster.specs.declared.works.Put.{Put}
use Rattle.cam_cluster.specs.declared.works.Put.TheVariants as puts
use Rattle.cam_cluster.specs.Drains.{AreDue, AreSaid, IsSaid}
use Rattle.cam_cluster.specs.Making.{AreCounted, halted_in}
use Rattle.cam_cluster.specs.Puts.{as_halt}

-- no input
pub none_counted : (st : Standing) → AreCounted st st []
none_counted st = record {
  inputs = omega arith;
  events = refl;
  marks = omega arith;
}

halted_more : (ends more : List Put) → halted_in (ends ++ more) ≡ halted_in ends + halted_in more
halted_more [] more = omega arith
halted_more (puts.Stood ∷ ends) more = halted_more ends more
halted_more (puts.Halted ∷ ends) more = let rest = halted_more ends more in omega (arith, rest)

-- some inputs, and others after them
pub counted_on : (a b d : Standing) (ends more : List Put) → AreCounted a b ends
    → AreCounted b d more → AreCounted a d (ends ++ more)
counted_on a b d ends more one two =
    let long = length-append ends more in
    let halted = halted_more ends more in
    let inputs = one.inputs in
    let then_inputs = two.inputs in
    let events = one.events in
    let then_events = two.events in
    let marks = one.marks in
    let then_marks = two.marks in
    record {
      inputs = omega (arith, long, inputs, then_inputs);
      events = omega (arith, long, halted, events, then_events);
      marks = omega (arith, halted, marks, then_marks);
    }

-- at most all of them are halts
pub halted_most : (ends : List Put) → halted_in ends ≤ length ends
halted_most [] = omega arith
halted_most (puts.Stood ∷ ends) = let rest = halted_most ends in omega (arith, rest)
halted_most (puts.Halted ∷ ends) = let rest = halted_most ends in omega (arith, rest)

-- what is done besides changes none of the counts
pub counted_as : (a b d : Standing) (ends : List Put) → d.turns ≡ b.turns
    → d.running.trace ≡ b.running.trace → d.running.marks ≡ b.running.marks
    → AreCounted a b ends → AreCounted a d ends
counted_as a b d ends turns trace are_marks one =
    let inputs = one.inputs in
    let events = one.events in
    let marks = one.marks in
    let same_turns : accepted d.turns ≡ accepted b.turns = ap accepted turns in
    let same_trace : length d.running.trace ≡ length b.running.trace =
    ap (λ (t : List Event). length t) trace in
    let same_marks : length d.running.marks ≡ length b.running.marks =
    ap (λ (ms : List Mark). length ms) are_marks in
    record {
      inputs = omega (arith, inputs, same_turns);
      events = omega (arith, events, same_trace);
      marks = omega (arith, marks, same_marks);
    }

-- one input
after_counted : (line : ℕ) (again : Bool) (st : Standing) (s : ℕ) (e : Event) (w : Bool)
    (done : Put) → AreCounted st (after_input line again st s e w (as_halt done)) (done ∷ [])
after_counted line again st s e w puts.Stood = record {
  inputs = refl;
  events = omega arith;
  marks = omega arith;
}
after_counted line again st s e w puts.Halted = record {
  inputs = refl;
  events = refl;
  marks = length-append st.running.marks (marks.Halted line s false ∷ []);
}

pub put_counted : (c : Setting) (st : Standing) (input : Input) (done : Put)
    → halt_of c st input ≡ as_halt done → AreCounted st (put c st input) (done ∷ [])
put_counted c st input done said = rw said (after_counted _ _ _ _ _ _ _)

-- a body that is given is no input
pub given_counted : (a b : Standing) (ends : List Put) (body : Option ℕ) (child : Option Name)
    → AreCounted a b ends → AreCounted a (given_body body child b) ends
given_counted a b ends (Some n) (Some child) one =
    counted_as a b (given_body (Some n) (Some child) b) ends refl refl refl one
given_counted a b ends (Some n) None one = one
given_counted a b ends None child one = one

-- letters that were handed over
pub deliveries_counted : (c : Setting) (ends : List Put) (st : Standing) → AreDue c ends st
    → AreSaid c ends st → AreCounted st (deliveries c (length ends) st) ends
deliveries_counted c [] st due said = none_counted _
deliveries_counted c (end ∷ ends) st due said =
    counted_on _ _ _ _ _ (first (waiting st) due.0 said.0) (deliveries_counted c ends
    (deliver_waiting c st (waiting st)) due.1 said.1)
  where
    first : (o : Option (ℕ × LetterId)) → is_some o ≡ true → IsSaid c st o end
        → AreCounted st (deliver_waiting c st o) (end ∷ [])
    first None some said_so = absurd (true≢false (sym some))
    first (Some w) some said_so =
        counted_as _ _ _ _ refl refl refl (put_counted c _ _ _ said_so)
