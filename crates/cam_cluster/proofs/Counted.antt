-- Of a line that puts one input one more is accepted.
use Rattle.std.proofs.Common.{◌≡◌, ℕ, ◌+◌, Bool, true, false, if◌then◌else◌, List, Option, Some}
use Rattle.std.proofs.Common.{None}
use Rattle.std.proofs.Common.{length, sym, ap, subst}
use Rattle.std.specs.Prelude.{nat_lt}
use Rattle.std.proofs.lemmas.Option.{same_Some}
use Rattle.cam_bytes.specs.declared.WireFault.{WireFault}
use Rattle.cam_bytes.specs.declared.WireFault.TheVariants as faults
use Rattle.cam_names.specs.declared.name.Name.{Name}
use Rattle.cam_names.specs.Names.{family, home_node}
use Rattle.cam_event.specs.declared.LetterId.{LetterId}
use Rattle.cam_event.specs.declared.LetterFault.TheVariants.{Short}
use Rattle.cam_event.specs.declared.LineRefusal.{LineRefusal}
use Rattle.cam_event.specs.declared.Mark.TheVariants as marks
use Rattle.cam_event.specs.declared.Want.{Want}
use Rattle.cam_event.specs.declared.Want.TheVariants as wants
use Rattle.cam_event.specs.Inputs.{Input, Begins, Queries, Receives, Requests, Tells, node_of}
use Rattle.cam_event.specs.Refusals.{query_refusal, refusal, tell_refusal}
use Rattle.cam_body.specs.declared.Next.{Next}
use Rattle.cam_body.specs.declared.Next.TheVariants as nexts
use Rattle.cam_runs.specs.Halts.{accepted, appends}
use Rattle.cam_runs.specs.HaltedLines.{Led, Passed, act, after_line, cut, halted_or, is_halted}
use Rattle.cam_runs.specs.HaltedLines.{led_asking, led_creating, of_letter, of_variable}
use Rattle.cam_runs.specs.HaltedLines.{take_request, unless}
use Rattle.cam_runs.specs.HaltedPlaying.{go, make_request, requested}
use Rattle.cam_runs.specs.Playing.{go_refusal}
use Rattle.cam_runs.specs.Requests.{home_sight, variable}
use Rattle.cam_runs.specs.Running.{letter_of}
use Rattle.cam_runs.specs.Standing.{Standing, Setting, addressee, deliver, put, with_mark}
use Rattle.cam_runs.proofs.HaltGrows.{after_turns}
use Rattle.cam_script.specs.declared.Act.{Act}
use Rattle.cam_script.specs.declared.Act.TheVariants as acts
use Rattle.cam_script.specs.declared.Statement.{Statement}
use Rattle.cam_histories.specs.Lines.{line_refusal, test_letter, test_request, test_variable}
use Rattle.cam_wire.specs.OfTrace.{spelling_of}
use Rattle.cam_cluster.specs.Goes.{is_request, next_of}
use Rattle.cam_cluster.specs.LetterLines.{cut_fault, short_at}
use Rattle.cam_cluster.specs.Taking.{PutsInput}

module _ (c : Setting) (st : Standing) (line : ℕ) where
  abbrev Counts : Passed → Type 0
  Counts passed = accepted (after_line st line passed).turns ≡ accepted st.turns + 1

  pub one_put : (input : Input) → accepted (put c st input).turns ≡ accepted st.turns + 1
  one_put input =
      let t = st.running.trace in
      let s : ℕ = node_of t input in
      ap accepted
      (after_turns c.line (c.restarted s) st s (c.reading.next t input)
      (appends c.reading t input)
      (c.halts st.turns s (appends c.reading t input) (c.restarted s)))

  -- where no test refuses it
  unless_counts : (o : Option LineRefusal) (passed : Passed) → o ≡ None → Counts passed
      → Counts (unless o passed)
  unless_counts None passed none counts = counts
  unless_counts (Some refusal) passed none counts =
      let gone : ◌≡◌ {A = Option LineRefusal} (Some refusal) None = none in cc

  variable_counts : (o : Option Name) (test : Name → Option LineRefusal) (line_is : Name → Passed)
      → test_variable o test ≡ None
      → ((a : Name) → test a ≡ None → Counts (line_is a)) → Counts (of_variable o line_is)
  variable_counts (Some a) test line_is none counts = counts a none
  variable_counts None test line_is none counts = cc

  letter_counts : (o : Option LetterId) (test : LetterId → Option LineRefusal)
      (line_is : LetterId → Passed) → test_letter o test ≡ None
      → ((l : LetterId) → test l ≡ None → Counts (line_is l)) → Counts (of_letter o line_is)
  letter_counts (Some l) test line_is none counts = counts l none
  letter_counts None test line_is none counts = cc

  request_counts : (a : Name) (want : Want) → test_request c.reading st a want ≡ None
      → Counts (take_request c st a want)
  request_counts a want none =
      unless_counts
      (halted_or st (home_node a) (refusal (home_sight c.reading st.running a) a want))
      (led_asking st (requested c st a want)) none
      (one_put (Requests (record { action = a; want = want })))

  of_variable_counts : (v : ℕ) (want : Want)
      → test_variable (variable st.running v) (λ a. test_request c.reading st a want) ≡ None
      → Counts (of_variable (variable st.running v) (λ a. take_request c st a want))
  of_variable_counts v want none =
      variable_counts (variable st.running v) (λ a. test_request c.reading st a want)
      (λ a. take_request c st a want) none (λ a none_of. request_counts a want none_of)

  pub input_counts : (bodies : List (List Statement)) (a : Act) → PutsInput a
      → line_refusal c.reading st a ≡ None → Counts (act c bodies st a)
  input_counts bodies (acts.Begin s) puts none =
      unless_counts (is_halted st s) (led_creating None st (put c st (Begins s))) none
      (one_put (Begins s))
  input_counts bodies (acts.Start s body) puts none =
      unless_counts (is_halted st s) (led_creating (Some body) st (put c st (Begins s))) none
      (one_put (Begins s))
  input_counts bodies (acts.Ask p m) puts none = of_variable_counts p (wants.Ask m) none
  input_counts bodies (acts.Call v x op) puts none = of_variable_counts v (wants.Call x op) none
  input_counts bodies (acts.Commit v value) puts none =
      of_variable_counts v (wants.Commit value) none
  input_counts bodies (acts.Abort v) puts none = of_variable_counts v wants.Abort none
  input_counts bodies (acts.GiveUp v w) puts none =
      variable_counts (variable st.running v)
      (λ a. test_variable (variable st.running w)
      (λ b. test_request c.reading st a (wants.GiveUp b)))
      (λ a. of_variable (variable st.running w) (λ b. take_request c st a (wants.GiveUp b))) none
      (λ a none_of. variable_counts (variable st.running w)
      (λ b. test_request c.reading st a (wants.GiveUp b))
      (λ b. take_request c st a (wants.GiveUp b)) none_of
      (λ b none_then. request_counts a (wants.GiveUp b) none_then))
  input_counts bodies (acts.Deliver k) puts none =
      letter_counts (letter_of st.running k) (λ l. is_halted st (addressee st l))
      (λ l. unless (is_halted st (addressee st l)) (Led (deliver c st k l) None)) none
      (λ l none_of. unless_counts (is_halted st (addressee st l)) (Led (deliver c st k l) None)
      none_of (one_put (Receives l)))
  input_counts bodies (acts.Tell s to) puts none =
      unless_counts (halted_or st s (tell_refusal s to)) (Led (put c st (Tells s to)) None) none
      (one_put (Tells s to))
  input_counts bodies (acts.Query s v) puts none =
      variable_counts (variable st.running v)
      (λ a. halted_or st s (query_refusal (c.reading.sight st.running.trace s) (family a)))
      (λ a. unless (halted_or st s (query_refusal (c.reading.sight st.running.trace s) (family a)))
      (Led (put c st (Queries s (family a))) None))
      none
      (λ a none_of. unless_counts
      (halted_or st s (query_refusal (c.reading.sight st.running.trace s) (family a)))
      (Led (put c st (Queries s (family a))) None) none_of (one_put (Queries s (family a))))
  input_counts bodies (acts.Go v) puts none = elim puts [ ]
  input_counts bodies (acts.Cut k bytes) puts none = elim puts [ ]
  input_counts bodies (acts.Lose k) puts none = elim puts [ ]
  input_counts bodies (acts.Restart s) puts none = elim puts [ ]
  input_counts bodies acts.Drain puts none = elim puts [ ]
  input_counts bodies acts.Play puts none = elim puts [ ]
  input_counts bodies (acts.Stop s calls) puts none = elim puts [ ]

  -- An action that makes a request by its body makes it.
  made_counts : (a : Name) (child : Option ℕ) (n : Next) → is_request n ≡ true
      → accepted (make_request c st a child n).turns ≡ accepted st.turns + 1
  made_counts a child (nexts.Request want) makes =
      one_put (Requests (record { action = a; want = want }))
  made_counts a child nexts.Wait makes = cc
  made_counts a child nexts.Over makes = cc

  pub go_counts : (bodies : List (List Statement)) (v : ℕ) (a : Name)
      → variable st.running v ≡ Some a → line_refusal c.reading st (acts.Go v) ≡ None
      → is_request (next_of bodies st a) ≡ true → Counts (act c bodies st (acts.Go v))
  go_counts bodies v a at none makes = by (variable st.running v) at none
    where
      tests : Name → Option LineRefusal
      tests b = halted_or st (home_node b) (go_refusal (home_sight c.reading st.running b) b)

      by : (o : Option Name) → o ≡ Some a → test_variable o tests ≡ None
          → Counts (of_variable o (λ b. unless (tests b) (Led (go c bodies st b) None)))
      by (Some b) at none =
          unless_counts (tests b) (Led (go c bodies st b) None) none (made_counts b _ (next_of
          bodies st b) (rw (same_Some b a at) makes))
      by None at none = cc

  -- a letter of which all bytes arrive
  pub cut_counts : (bodies : List (List Statement)) (k bytes : ℕ)
      → line_refusal c.reading st (acts.Cut k bytes) ≡ None
      → cut_fault c.reading st (acts.Cut k bytes) ≡ None
      → Counts (act c bodies st (acts.Cut k bytes))
  cut_counts bodies k bytes none whole = by (letter_of st.running k) none whole
    where
      whole_counts : (l : LetterId) (b : Bool)
          → ◌≡◌ {A = Option WireFault} (if b then Some (faults.Short bytes) else None) None
          → accepted (if b then record st {
            running = with_mark (marks.Cut c.line k Short bytes) st.running;
          } else deliver c st k l).turns
          ≡ accepted st.turns + 1
      whole_counts l true none = cc
      whole_counts l false none = one_put (Receives l)

      by : (o : Option LetterId) → test_letter o (λ l. is_halted st (addressee st l)) ≡ None
          → short_at c.reading st bytes o ≡ None
          → Counts (of_letter o (λ l. unless (is_halted st (addressee st l))
          (Led (cut c st k bytes l) None)))
      by None none whole = cc
      by (Some l) none whole =
          unless_counts (is_halted st (addressee st l)) (Led (cut c st k bytes l) None) none
          (whole_counts l (nat_lt bytes (length (spelling_of c.reading st.running.trace l))) whole)
