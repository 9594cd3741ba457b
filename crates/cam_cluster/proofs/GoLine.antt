-- The line `go` where the action goes on, and where memory runs out.
use Rattle.std.proofs.Common.{◌≡◌, ℤ, ℕ, ◌+◌, Bool, true, false, List, [], ◌∷◌, ◌++◌}
use Rattle.std.proofs.Common.{Option, Ok, Err, Some, None, refl, sym, ap, ◌∙◌, subst}
use Rattle.std.specs.Prelude.{slice_get}
use Rattle.std.specs.List.{list_any}
use Rattle.cam_names.specs.declared.name.Name.{Name}
use Rattle.cam_names.specs.Names.{home_node}
use Rattle.cam_event.specs.declared.Event.{Event}
use Rattle.cam_event.specs.declared.LineRefusal.{LineRefusal}
use Rattle.cam_event.specs.declared.Want.TheVariants as wants
use Rattle.cam_event.specs.Inputs.{Requests}
use Rattle.cam_event.specs.Readings.{by_knowledge}
use Rattle.cam_event.specs.Refusals.{first_of_two, has_call, has_child, has_ended, is_not_open}
use Rattle.cam_event.specs.Sights.{Sight}
use Rattle.cam_body.specs.declared.Next.{Next}
use Rattle.cam_body.specs.declared.Next.TheVariants as nexts
use Rattle.cam_net.specs.Waiting.{is_halted}
use Rattle.cam_node.specs.declared.Input.TheVariants as inputs
use Rattle.cam_node.specs.Log.{Logged}
use Rattle.cam_runs.specs.Halts.{appends}
use Rattle.cam_runs.specs.HaltedLines.{Led, Passed, after_line, is_restart}
use Rattle.cam_runs.specs.HaltedLines.{setting}
use Rattle.cam_runs.specs.HaltedPlaying.{given_body, go, make_request}
use Rattle.cam_runs.specs.Playing.{go_refusal}
use Rattle.cam_runs.specs.Requests.{asked_in, home_sight}
use Rattle.cam_runs.specs.Standing.{Setting, Standing, after_input, made, put}
use Rattle.cam_runs.specs.UnderHalts.{IsUnderHalts}
use Rattle.cam_runs.proofs.MayAsk.{first_two}
use Rattle.cam_script.specs.declared.Act.TheVariants as acts
use Rattle.cam_script.specs.declared.Script.{Script}
use Rattle.cam_script.specs.declared.Statement.{Statement}
use Rattle.cam_script.specs.Law.{IsScript}
use Rattle.cam_histories.specs.InputLaws.{halt_of}
use Rattle.cam_cluster.specs.declared.LineFault.TheVariants as line_faults
use Rattle.cam_cluster.specs.declared.works.Put.{Put}
use Rattle.cam_cluster.specs.declared.workers.Workers.{Workers}
use Rattle.cam_cluster.specs.GoLines.{IsGoOfSome, IsLineOfGo, KeepsLinesAtWork}
use Rattle.cam_cluster.specs.Goes.{GoesOfSome, HasGone, KeepsWorkersAsBefore, MayGo, next_of}
use Rattle.cam_cluster.specs.Puts.{KeepsAsBefore}
use Rattle.cam_cluster.specs.SoFar.{LinesFields}
use Rattle.cam_cluster.specs.VariableLines.{action_of}
use Rattle.cam_cluster.specs.Works.{NodeFields}
use Rattle.cam_cluster.proofs.BegunLine.{next_leads}
use Rattle.cam_cluster.proofs.Led.{keeps_others}
use Rattle.cam_cluster.proofs.TriedEnds.{IsSaid}
use Rattle.cam_cluster.proofs.WorkersStand.{workers_stay}
use Rattle.cam_cluster.proofs.GoTests.{home_said, named, node_says, placed, says_node, taken}
use Rattle.cam_cluster.proofs.GoTests.{tested}

-- a request leaves what the variables stand for
bound_after_input : (line : ℕ) (again : Bool) (st : Standing) (s : ℕ) (e : Event) (appends : Bool)
    (o : Option Bool) → (after_input line again st s e appends o).running.bound ≡ st.running.bound
bound_after_input line again st s e appends None = refl
bound_after_input line again st s e appends (Some true) = refl
bound_after_input line again st s e appends (Some false) = refl

bound_given : (body : Option ℕ) (b : Option Name) (st : Standing)
    → (given_body body b st).running.bound ≡ st.running.bound
bound_given (Some n) (Some b) st = refl
bound_given (Some n) None st = refl
bound_given None b st = refl

pub bound_made : (c : Setting) (st : Standing) (a : Name) (child : Option ℕ) (n : Next)
    → (make_request c st a child n).running.bound ≡ st.running.bound
bound_made c st a child (nexts.Request want) =
    bound_given child
    (asked_in (made st (put c st (Requests (record { action = a; want = want })))))
    (put c st (Requests (record { action = a; want = want })))
    ∙ bound_after_input c.line (c.restarted (home_node a)) st (home_node a)
    (c.reading.next st.running.trace (Requests (record { action = a; want = want })))
    (appends c.reading st.running.trace (Requests (record { action = a; want = want })))
    (halt_of c st (Requests (record { action = a; want = want })))
bound_made c st a child nexts.Wait = refl
bound_made c st a child nexts.Over = refl

-- what stands against it, by the tests in order
go_free : (g : Sight) (a : Name) → go_refusal g a ≡ None
    → (has_ended g a ≡ None) × (is_not_open g a ≡ None)
go_free g a none =
    let one = first_two _ _ none in
    let two = first_two _ _ one.1 in
    let three = first_two _ _ two.1 in
    (one.0, three.1)

-- the node of its home says this of it
module _ (line v : ℕ) (bodies : List (List Statement)) (old new : LinesFields)
    (might may : ℕ → Logged → Type 0) (before : Workers)
    (some : IsGoOfSome line v bodies old might before) (a : Name)
    (at : action_of old.bound v ≡ Some a) (place : ℕ) (home : home_node a ≡ place + 1)
    (runs : is_halted old.works.halted (place + 1) ≡ false) (node : NodeFields)
    (is_node : slice_get old.works.nodes place ≡ Some node) (value : ℤ) (o : Option LineRefusal)
    (told : IsSaid node (inputs.Request (record { action = a; want = wants.Commit value })) o) where
  may_go : o ≡ None → (script : Script) (st : Standing) → IsScript script
      → KeepsLinesAtWork script st old might before → MayGo script st a
  may_go free script st is keeps =
      let tests = go_free (home_sight (by_knowledge script.objects) st.running a) a
      (node_says line v bodies old new might may before some a at place home runs node is_node
      value o told script st is keeps ∙ free) in record {
        low = (placed line v bodies old new might may before some a at script st keeps v a (named
            line v bodies old new might may before some a at script st keeps)).0;
        high = (placed line v bodies old new might may before some a at script st keeps v a (named
            line v bodies old new might may before some a at script st keeps)).1;
        awake = home_said line v bodies old new might may before some a at place home script st
            false is keeps runs;
        running = tests.0;
        is_open = tests.1;
      }

  -- it may go on
  pub goes_of_some : o ≡ None → GoesOfSome a bodies old.works might before
  goes_of_some free = record {
    script = some.script;
    standing = some.standing;
    is_script = some.is_script;
    bodies_are = some.bodies_are;
    keeps = some.keeps.lines.runs;
    are_workers = some.keeps.workers;
    may = may_go free some.script some.standing some.is_script some.keeps;
  }

  -- and went on.
  pub gone_line : o ≡ None → (behind : Workers) (end : Option Put)
      → HasGone line a bodies old.works might before end new.works may behind
      → new.bound ≡ old.bound ++ None ∷ []
      → IsLineOfGo line v bodies old might before new may behind (Ok end)
  gone_line free behind end has is_now script st halts later is bodies_are keeps next =
      let c = setting (by_knowledge script.objects) halts
      (record { line = line; act = acts.Go v }) later in
      let gone = has script st halts (λ s. list_any (is_restart s) later) is bodies_are
      keeps.lines.runs keeps.workers (may_go free script st is keeps) in
      let said = says_node line v bodies old new might may before some a at place home runs node
      is_node value o told script st is keeps ∙ free in
      let now : Standing = go c script.bodies st a in
      let passes = taken line v bodies old new might may before some a at script st None keeps said
      halts later in record {
        name = a;
        at = named line v bodies old new might may before some a at script st keeps;
        passed = tested line v bodies old new might may before some a at script st None keeps said;
        made = gone.made;
        stands = λ ends.
            subst (λ (p : Passed). KeepsLinesAtWork script (after_line st line p) new may behind)
            (sym passes) (record {
              lines = record {
                runs =
                    keeps_others script now (after_line st line (Led now None)) new.works
                    new.works.marks may
                    (record { trace = refl; lost = refl; delivered = refl }) refl refl refl
                    (gone.runs ends).all_marks
                    (subst (λ (p : Passed). IsUnderHalts script (after_line st line p)) passes
                    (next_leads script st (record { line = line; act = acts.Go v }) halts later
                    is keeps.lines.runs.under next)) (gone.runs ends);
                variables =
                    is_now
                    ∙ ap (λ (bs : List (Option Name)). bs ++ None ∷ [])
                    (keeps.lines.variables ∙ sym (bound_made c st a _ (next_of script.bodies st
                    a)));
              };
              workers = workers_stay now (after_line st line (Led now None)) behind [] refl refl
                  (gone.workers ends);
            });
      }

module _ (line v : ℕ) (bodies : List (List Statement)) (old new : LinesFields)
    (might may : ℕ → Logged → Type 0) (before : Workers)
    (some : IsGoOfSome line v bodies old might before) where
  -- Memory ran out.
  pub go_wanting : KeepsAsBefore old.works might new.works may
      → new.bound ≡ old.bound → (behind : Workers) → KeepsWorkersAsBefore old.works might before
      behind
      → IsLineOfGo line v bodies old might before new may behind (Err line_faults.NoMemory)
  go_wanting same is_now behind at_work script st halts later is bodies_are keeps next = record {
    lines = record {
      runs = same script st is keeps.lines.runs;
      variables = is_now ∙ keeps.lines.variables;
    };
    workers = at_work script st keeps.lines.runs keeps.workers;
  }
