-- On runs a letter is received by the node to which it was sent, also where nodes halt.
use Rattle.std.proofs.Common.{◌≡◌, Bool, true, false, List, [], ◌∷◌, length, Option, Some, None, refl, sym, ap, subst}
use Rattle.std.specs.Prelude.{is_some}
use Rattle.std.specs.Option.{option_map_or}
use Rattle.cam_type.specs.declared.ObjectDecl.{ObjectDecl}
use Rattle.cam_event.specs.declared.Event.{Event}
use Rattle.cam_event.specs.Inputs.{Input, Begins, Requests, Receives, Tells, Queries, Restarts, Mail, letter_at, node_of, got_of}
use Rattle.cam_event.specs.Runs.{MayCome, IsNext}
use Rattle.cam_event.specs.Taken.{MayStand}
use Rattle.cam_agree.proofs.Ran.{Ran}
use Rattle.cam_delta.specs.Laws.{IsAddressed, AreAddressed, RunsAreAddressed, HaltedRunsAreAddressed}

input_addressed : (objects : List ObjectDecl) (t : List Event) (input : Input) → MayCome objects t input → IsAddressed t (node_of t input) (got_of input)
input_addressed objects t (Begins s) may = tt
input_addressed objects t (Requests r) may = tt
input_addressed objects t (Receives letter) may = by (letter_at t letter) refl may
  where
    by : (o : Option Mail) → letter_at t letter ≡ o → is_some o ≡ true → IsAddressed t (node_of t (Receives letter)) (Some letter)
    by None e h = cc
    by (Some m) e h = (m, e, sym (ap (λ o. option_map_or (λ (x : Mail). x.to) o 0) e))
input_addressed objects t (Tells s to) may = tt
input_addressed objects t (Queries s f) may = tt
input_addressed objects t (Restarts s) may = tt

next_addressed : (objects : List ObjectDecl) (t : List Event) (e : Event) → IsNext objects t e → IsAddressed t e.node e.got
next_addressed objects t e is = subst (λ (x : Event). IsAddressed t x.node x.got) (sym is.is_next) (input_addressed objects t is.input is.may)

pub runs_are_addressed : RunsAreAddressed
runs_are_addressed objects [] run = tt
runs_are_addressed objects (e ∷ t) run = (next_addressed objects t e run.0, runs_are_addressed objects t run.1)

may_stand : (objects : List ObjectDecl) (t : List Event) (e : Event) (b : Bool) → MayStand objects t e b → IsAddressed t e.node e.got
may_stand objects t e true is = subst (λ (x : Event). IsAddressed t x.node x.got) (sym is.taken) (next_addressed objects t is.whole is.may)
may_stand objects t e false is = next_addressed objects t e is

pub halted_runs_are_addressed : HaltedRunsAreAddressed
halted_runs_are_addressed objects taken [] run = tt
halted_runs_are_addressed objects taken (e ∷ t) run = (may_stand objects t e (taken (length t)) run.0, halted_runs_are_addressed objects taken t run.2)

pub ran_addressed : (objects : List ObjectDecl) (t : List Event) → Ran objects t → AreAddressed t
ran_addressed objects t run = halted_runs_are_addressed objects run.0 t run.1
