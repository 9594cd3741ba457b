-- A round passes over actions that are over.
use Rattle.std.proofs.Common.{◌≡◌, inl, inr, ℕ, Bool, true, false}
use Rattle.std.proofs.Common.{if◌then◌else◌, List, [], ◌∷◌, ◌++◌, Option, Some, None}
use Rattle.std.proofs.Common.{refl, sym, ap, ◌∙◌, subst}
use Rattle.std.specs.Prelude.{filter}
use Rattle.std.proofs.lemmas.Bool.{cases_Bool}
use Rattle.cam_names.specs.declared.name.Name.{Name}
use Rattle.cam_type.specs.declared.ObjectDecl.{ObjectDecl}
use Rattle.cam_body.specs.declared.Next.{Next}
use Rattle.cam_body.specs.declared.Next.TheVariants as nexts
use Rattle.cam_body.specs.Work.{child_body, next}
use Rattle.cam_event.specs.declared.Event.{Event}
use Rattle.cam_event.specs.Inputs.{Requests, node_of}
use Rattle.cam_event.specs.Pasts.{plain_all}
use Rattle.cam_event.specs.Taken.{taken_of}
use Rattle.cam_event.specs.Views.{view}
use Rattle.cam_runs.specs.Halts.{Halting, appends}
use Rattle.cam_runs.specs.HaltedPlaying.{given_body, go, go_in_round, make_request, may_go_on}
use Rattle.cam_runs.specs.Playing.{body_of}
use Rattle.cam_runs.specs.Requests.{asked_in}
use Rattle.cam_runs.specs.Standing.{Setting, Standing, after_input, made, put}
use Rattle.cam_script.specs.declared.Statement.{Statement}
use Rattle.cam_histories.specs.InputLaws.{halt_of, held_setting}
use Rattle.cam_cluster.specs.Rounds.{after_name}
use Rattle.cam_cluster.specs.Over.{RoundsPassOver, is_over}
use Rattle.cam_cluster.proofs.Over.{over_goes_not_on, over_later}

-- A request adds one event at most.
record Grows (old new : Standing) : Type 0 where
  pub events : List Event
  pub trace : new.running.trace ≡ events ++ old.running.trace

input_grows : (line : ℕ) (again : Bool) (st : Standing) (s : ℕ) (e : Event) (w : Bool)
    (o : Option Bool) → Grows st (after_input line again st s e w o)
input_grows line again st s e w None = record { events = e ∷ []; trace = refl }
input_grows line again st s e w (Some true) = record { events = taken_of e ∷ []; trace = refl }
input_grows line again st s e w (Some false) = record { events = []; trace = refl }

given_grows : (old new : Standing) (body : Option ℕ) (a : Option Name) → Grows old new
    → Grows old (given_body body a new)
given_grows old new (Some body) (Some a) grows =
    record { events = grows.events; trace = grows.trace }
given_grows old new (Some body) None grows =
    record { events = grows.events; trace = grows.trace }
given_grows old new None a grows = record { events = grows.events; trace = grows.trace }

request_grows : (c : Setting) (st : Standing) (a : Name) (child : Option ℕ) (n : Next)
    → Grows st (make_request c st a child n)
request_grows c st a child (nexts.Request want) =
    let request = Requests (record { action = a; want = want }) in
    given_grows st (put c st request) child (asked_in (made st (put c st request))) (input_grows _
    _ _ _ _ _ _)
request_grows c st a child nexts.Wait = record { events = []; trace = refl }
request_grows c st a child nexts.Over = record { events = []; trace = refl }

turn_grows : (c : Setting) (bodies : List (List Statement)) (st : Standing) (a : Name)
    → Grows st (after_name c bodies st a)
turn_grows c bodies st a = by (may_go_on c st a)
  where
    by : (t : Bool) → Grows st (if t then go c bodies st a else st)
    by true =
        request_grows c st a
        (child_body (body_of bodies st.running a) (view (plain_all st.running.trace) a))
        (next (body_of bodies st.running a) (view (plain_all st.running.trace) a))
    by false = record { events = []; trace = refl }

-- One that is over is passed over; one that is kept has its turn, and the others stay over.
module _ (objects : List ObjectDecl) (halts : Halting) (line : ℕ) (restarted : ℕ → Bool)
    (bodies : List (List Statement)) (kept : Name → Bool) where
  abbrev c : Setting
  c = held_setting objects halts line restarted

  abbrev AreOver : Standing → Type 0
  AreOver st = (a : Name) → kept a ≡ false → is_over st.running.trace a ≡ true

  over_behind : (st : Standing) (a : Name) → AreOver st → AreOver (after_name c bodies st a)
  over_behind st a over b left =
      let grows = turn_grows c bodies st a in
      subst (λ (t : List Event). is_over t b ≡ true) (sym grows.trace)
      (over_later grows.events st.running.trace b (over b left))

  passes : (names : List Name) (st : Standing) → AreOver st
      → go_in_round c bodies (filter kept names) st ≡ go_in_round c bodies names st
  passes [] st over = refl
  passes (a ∷ names) st over =
      elim (cases_Bool (kept a)) [
        | inl has_turn ↦
            rw has_turn (passes names (after_name c bodies st a) (over_behind st a over))
        | inr left ↦
            let stays = over_goes_not_on objects halts line restarted st a (over a left) in
            rw left
            (passes names st over
            ∙ ap (λ (t : Bool). go_in_round c bodies names (if t then go c bodies st a else st))
            (sym stays))
      ]

pub rounds_pass_over : RoundsPassOver
rounds_pass_over objects halts line restarted bodies st kept names over =
    passes objects halts line restarted bodies kept names st over
