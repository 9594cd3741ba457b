-- What inputs add to what the disks went through: what holds of each input of a line holds of all
-- that a drain, a request or a play adds.
use Rattle.std.proofs.Common.{◌≡◌, ℕ, zero, suc, Bool, true, false, if◌then◌else◌}
use Rattle.std.proofs.Common.{List, [], ◌∷◌, ◌++◌, length, Option, Some, None, refl, sym, ap, ◌∙◌}
use Rattle.std.specs.Prelude.{nat_lt}
use Rattle.std.specs.List.{AllByRecursion}
use Rattle.std.proofs.lemmas.List.{append_assoc}
use Rattle.cam_names.specs.declared.name.Name.{Name}
use Rattle.cam_event.specs.declared.Event.{Event}
use Rattle.cam_event.specs.declared.LetterId.{LetterId}
use Rattle.cam_event.specs.Inputs as inputs
use Rattle.cam_event.specs.Inputs.{Requests, Receives, node_of}
use Rattle.cam_event.specs.declared.Mark.TheVariants as marks
use Rattle.cam_event.specs.declared.LetterFault.TheVariants.{Short}
use Rattle.cam_event.specs.Pasts.{plain_all}
use Rattle.cam_event.specs.Views.{view}
use Rattle.cam_script.specs.declared.Statement.{Statement}
use Rattle.cam_body.specs.declared.Next.{Next}
use Rattle.cam_body.specs.declared.Next.TheVariants as nexts
use Rattle.cam_body.specs.Work.{next, child_body}
use Rattle.cam_wire.specs.OfTrace.{spelling_of}
use Rattle.cam_runs.specs.Running.{waiting_weight}
use Rattle.cam_runs.specs.Playing.{body_of, in_order}
use Rattle.cam_runs.specs.Halts.{Turn, Input, accepted, appends}
use Rattle.cam_runs.specs.Standing.{Standing, Setting, put, deliver, waiting}
use Rattle.cam_runs.specs.Standing.{deliver_waiting, deliveries, drain, with_mark}
use Rattle.cam_runs.specs.HaltedLines.{cut}
use Rattle.cam_runs.specs.HaltedPlaying.{make_request, go, may_go_on, go_in_round}
use Rattle.cam_runs.specs.HaltedPlaying.{round, rounds}
use Rattle.cam_runs.proofs.HaltGrows.{after_turns}

-- Of each turn that was added this holds.
pub record Adds (P : Turn → Type 0) (old new : Standing) : Type 0 where
  pub more : List Turn
  pub is : new.turns ≡ more ++ old.turns
  pub each : AllByRecursion P more

all_of_both : (P : Turn → Type 0) (xs ys : List Turn) → AllByRecursion P xs → AllByRecursion P ys
    → AllByRecursion P (xs ++ ys)
all_of_both P [] ys first second = second
all_of_both P (x ∷ xs) ys first second = (first.0, all_of_both P xs ys first.1 second)

pub adds_none : (P : Turn → Type 0) (st : Standing) → Adds P st st
adds_none P st = record { more = []; is = refl; each = tt }

pub adds_both : (P : Turn → Type 0) (a b d : Standing) → Adds P a b → Adds P b d → Adds P a d
adds_both P a b d one two = record {
  more = two.more ++ one.more;
  is =
      two.is ∙ ap (λ x. two.more ++ x) one.is
      ∙ sym (append_assoc two.more one.more a.turns);
  each = all_of_both P two.more one.more two.each one.each;
}

-- what holds of the inputs of this setting
module _ (c : Setting) (P : Turn → Type 0)
    (puts : (s : ℕ) (w : Bool) → P (Input s c.line w (c.restarted s)))
  where
    pub put_adds : (st : Standing) (input : inputs.Input) → Adds P st (put c st input)
    put_adds st input =
        let t : List Event = st.running.trace in
        let s : ℕ = node_of t input in
        let w : Bool = appends c.reading t input in
        record {
          more = Input s c.line w (c.restarted s) ∷ [];
          is =
              after_turns c.line (c.restarted s) st s (c.reading.next t input) w
              (c.halts st.turns s w (c.restarted s));
          each = (puts s w, tt);
        }

    pub deliver_adds : (st : Standing) (k : ℕ) (letter : LetterId)
        → Adds P st (deliver c st k letter)
    deliver_adds st k letter =
        let one = put_adds st (Receives letter) in
        record { more = one.more; is = one.is; each = one.each }

    waiting_adds : (st : Standing) (w : Option (ℕ × LetterId))
        → Adds P st (deliver_waiting c st w)
    waiting_adds st None = adds_none P st
    waiting_adds st (Some w) = deliver_adds st w.0 w.1

    deliveries_add : (n : ℕ) (st : Standing) → Adds P st (deliveries c n st)
    deliveries_add zero st = adds_none P st
    deliveries_add (suc n) st =
        let one : Standing = deliver_waiting c st (waiting st) in
        adds_both P st one (deliveries c n one) (waiting_adds st (waiting st))
        (deliveries_add n one)

    pub drain_adds : (st : Standing) → Adds P st (drain c st)
    drain_adds st = deliveries_add (waiting_weight st.running) st

    pub make_adds : (st : Standing) (a : Name) (child : Option ℕ) (n : Next)
        → Adds P st (make_request c st a child n)
    make_adds st a child (nexts.Request want) =
        let one = put_adds st (Requests (record { action = a; want = want })) in
        record { more = one.more; is = one.is; each = one.each }
    make_adds st a child nexts.Wait = adds_none P st
    make_adds st a child nexts.Over = adds_none P st

    pub go_adds : (bodies : List (List Statement)) (st : Standing) (a : Name)
        → Adds P st (go c bodies st a)
    go_adds bodies st a =
        make_adds st a
        (child_body (body_of bodies st.running a) (view (plain_all st.running.trace) a))
        (next (body_of bodies st.running a) (view (plain_all st.running.trace) a))

    if_adds : (b : Bool) (st one other : Standing) → Adds P st one → Adds P st other
        → Adds P st (if b then one else other)
    if_adds true st one other first second = first
    if_adds false st one other first second = second

    names_add : (bodies : List (List Statement)) (names : List Name) (st : Standing)
        → Adds P st (go_in_round c bodies names st)
    names_add bodies [] st = adds_none P st
    names_add bodies (a ∷ more) st =
        let one : Standing = if may_go_on c st a then go c bodies st a else st in
        adds_both P st one (go_in_round c bodies more one)
        (if_adds (may_go_on c st a) st (go c bodies st a) st (go_adds bodies st a)
        (adds_none P st))
        (names_add bodies more one)

    round_adds : (bodies : List (List Statement)) (st : Standing) → Adds P st (round c bodies st)
    round_adds bodies st =
        let gone : Standing = go_in_round c bodies (in_order st.running.bodies) st in
        adds_both P st gone (drain c gone)
        (names_add bodies (in_order st.running.bodies) st) (drain_adds gone)

    pub rounds_add : (bodies : List (List Statement)) (n : ℕ) (st : Standing)
        → Adds P st (rounds c bodies n st)
    rounds_add bodies zero st = adds_none P st
    rounds_add bodies (suc n) st =
        let one : Standing = round c bodies st in
        adds_both P st one
        (if nat_lt (accepted st.turns) (accepted one.turns) then rounds c bodies n one else one)
        (round_adds bodies st)
        (if_adds (nat_lt (accepted st.turns) (accepted one.turns)) one (rounds c bodies n one) one
        (rounds_add bodies n one) (adds_none P one))

    pub cut_adds : (st : Standing) (k bytes : ℕ) (letter : LetterId)
        → Adds P st (cut c st k bytes letter)
    cut_adds st k bytes letter =
        by (nat_lt bytes (length (spelling_of c.reading st.running.trace letter)))
      where
        short : Standing
        short =
            record st { running = with_mark (marks.Cut c.line k Short bytes) st.running }

        by : (b : Bool) → Adds P st (if b then short else deliver c st k letter)
        by true = record { more = []; is = refl; each = tt }
        by false = deliver_adds st k letter
