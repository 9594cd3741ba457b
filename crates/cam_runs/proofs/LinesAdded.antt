-- What a line adds to what the disks went through: what holds of its inputs, of a restart and of its
-- own stop holds of each turn that it adds.
use Rattle.std.proofs.Common.{◌≡◌, ℕ, Bool, true, List, [], ◌∷◌, Option, Some, None, refl, ap}
use Rattle.std.proofs.lemmas.Bool.{eqb-true}
use Rattle.cam_names.specs.declared.name.Name.{Name}
use Rattle.cam_names.specs.Names.{family, home_node}
use Rattle.cam_event.specs.declared.LetterId.{LetterId}
use Rattle.cam_event.specs.declared.LineRefusal.{LineRefusal}
use Rattle.cam_event.specs.declared.Want.{Want}
use Rattle.cam_event.specs.declared.Want.TheVariants as wants
use Rattle.cam_event.specs.Inputs.{Begins, Requests, Tells, Queries, Restarts}
use Rattle.cam_event.specs.Refusals.{refusal, tell_refusal, query_refusal}
use Rattle.cam_script.specs.declared.Act.{Act}
use Rattle.cam_script.specs.declared.Act.TheVariants as acts
use Rattle.cam_script.specs.declared.Statement.{Statement}
use Rattle.cam_runs.specs.Running.{letter_of}
use Rattle.cam_runs.specs.Requests.{home_sight, variable}
use Rattle.cam_runs.specs.Playing.{go_refusal}
use Rattle.cam_runs.specs.Halts.{Turn, Input, Stop, Restart}
use Rattle.cam_runs.specs.Standing.{Standing, Setting, put, deliver, addressee, drain, ended_halt}
use Rattle.cam_runs.specs.HaltedLines.{is_restart_act}
use Rattle.cam_runs.specs.HaltedLines.{Passed, Led, unless, of_variable, of_letter, is_halted}
use Rattle.cam_runs.specs.HaltedLines.{halted_or, led_creating, take_request, cut, act, after_line}
use Rattle.cam_runs.specs.HaltedPlaying.{go, play}
use Rattle.cam_runs.proofs.TurnsAdded.{Adds, adds_both, put_adds, deliver_adds}
use Rattle.cam_runs.proofs.TurnsAdded.{drain_adds, go_adds, rounds_add, cut_adds}

-- the line that restarts a node
pub restart_is : (s : ℕ) (does : Act) → is_restart_act s does ≡ true → does ≡ acts.Restart s
restart_is s (acts.Restart m) h = ap acts.Restart (eqb-true m s h)
restart_is s (acts.Begin m) h = cc
restart_is s (acts.Start m body) h = cc
restart_is s (acts.Ask p m) h = cc
restart_is s (acts.Call v x op) h = cc
restart_is s (acts.Commit v value) h = cc
restart_is s (acts.Abort v) h = cc
restart_is s (acts.GiveUp v w) h = cc
restart_is s (acts.Go v) h = cc
restart_is s (acts.Deliver n) h = cc
restart_is s (acts.Cut n bytes) h = cc
restart_is s (acts.Lose n) h = cc
restart_is s acts.Drain h = cc
restart_is s acts.Play h = cc
restart_is s (acts.Tell m to) h = cc
restart_is s (acts.Query m v) h = cc
restart_is s (acts.Stop m calls) h = cc

-- what a line adds, however it ends
abbrev PassedAdds : (Turn → Type 0) → Standing → ℕ → Passed → Type 0
PassedAdds P st line passed = Adds P st (after_line st line passed)

module _ (P : Turn → Type 0) (st : Standing) (line : ℕ) where
  led_adds : (one : Standing) (binds : Option Name) → Adds P st one
      → PassedAdds P st line (Led one binds)
  led_adds one binds h = record { more = h.more; is = h.is; each = h.each }

  unless_adds : (o : Option LineRefusal) (passed : Passed) → PassedAdds P st line passed
      → PassedAdds P st line (unless o passed)
  unless_adds (Some refusal) passed h = record { more = []; is = refl; each = tt }
  unless_adds None passed h = h

  variable_adds : (o : Option Name) (passed : Name → Passed)
      → ((a : Name) → PassedAdds P st line (passed a))
      → PassedAdds P st line (of_variable o passed)
  variable_adds None passed h = record { more = []; is = refl; each = tt }
  variable_adds (Some a) passed h = h a

  letter_adds : (o : Option LetterId) (passed : LetterId → Passed)
      → ((l : LetterId) → PassedAdds P st line (passed l))
      → PassedAdds P st line (of_letter o passed)
  letter_adds None passed h = record { more = []; is = refl; each = tt }
  letter_adds (Some l) passed h = h l

-- what holds of each turn that a line may add
pub record MayAdd (c : Setting) (P : Turn → Type 0) (does : Act) : Type 0 where
  pub puts : (s : ℕ) (w : Bool) → P (Input s c.line w (c.restarted s))
  pub restarts : (s : ℕ) → P (Restart s)
  pub stops : (s calls : ℕ) → does ≡ acts.Stop s calls → P (Stop s calls)

module _ (c : Setting) (P : Turn → Type 0) (bodies : List (List Statement)) (st : Standing)
    (line : ℕ)
  where
    creating_adds : ((s : ℕ) (w : Bool) → P (Input s c.line w (c.restarted s))) → (s : ℕ)
        (body : Option ℕ) → PassedAdds P st line (led_creating body st (put c st (Begins s)))
    creating_adds puts s body =
        let one = put_adds c P puts st (Begins s) in
        record { more = one.more; is = one.is; each = one.each }

    request_adds : ((s : ℕ) (w : Bool) → P (Input s c.line w (c.restarted s))) → (a : Name)
        (want : Want) → PassedAdds P st line (take_request c st a want)
    request_adds puts a want =
        let one = put_adds c P puts st (Requests (record { action = a; want = want })) in
        unless_adds P st line
        (halted_or st (home_node a) (refusal (home_sight c.reading st.running a) a want)) _
        (record { more = one.more; is = one.is; each = one.each })

    pub act_adds : (does : Act) → MayAdd c P does
        → PassedAdds P st line (act c bodies st does)
    act_adds (acts.Begin s) may =
        unless_adds P st line (is_halted st s) _ (creating_adds may.puts s None)
    act_adds (acts.Start s body) may =
        unless_adds P st line (is_halted st s) _ (creating_adds may.puts s (Some body))
    act_adds (acts.Ask p m) may =
        variable_adds P st line (variable st.running p) _
        (λ a. request_adds may.puts a (wants.Ask m))
    act_adds (acts.Call v x op) may =
        variable_adds P st line (variable st.running v) _
        (λ a. request_adds may.puts a (wants.Call x op))
    act_adds (acts.Commit v value) may =
        variable_adds P st line (variable st.running v) _
        (λ a. request_adds may.puts a (wants.Commit value))
    act_adds (acts.Abort v) may =
        variable_adds P st line (variable st.running v) _
        (λ a. request_adds may.puts a wants.Abort)
    act_adds (acts.GiveUp v w) may =
        variable_adds P st line (variable st.running v) _
        (λ a. variable_adds P st line (variable st.running w) _
        (λ b. request_adds may.puts a (wants.GiveUp b)))
    act_adds (acts.Go v) may =
        variable_adds P st line (variable st.running v) _ (λ a.
        unless_adds P st line
        (halted_or st (home_node a) (go_refusal (home_sight c.reading st.running a) a)) _
        (led_adds P st line (go c bodies st a) None (go_adds c P may.puts bodies st a)))
    act_adds (acts.Deliver k) may =
        letter_adds P st line (letter_of st.running k) _ (λ l.
        unless_adds P st line (is_halted st (addressee st l)) _
        (led_adds P st line (deliver c st k l) None (deliver_adds c P may.puts st k l)))
    act_adds (acts.Cut k bytes) may =
        letter_adds P st line (letter_of st.running k) _ (λ l.
        unless_adds P st line (is_halted st (addressee st l)) _
        (led_adds P st line (cut c st k bytes l) None (cut_adds c P may.puts st k bytes l)))
    act_adds (acts.Lose k) may =
        letter_adds P st line (letter_of st.running k) _
        (λ l. record { more = []; is = refl; each = tt })
    act_adds (acts.Restart s) may =
        let ended : Standing = ended_halt st s in
        led_adds P st line (put c ended (Restarts s)) None
        (adds_both P st ended (put c ended (Restarts s))
        (record { more = Restart s ∷ []; is = refl; each = (may.restarts s, tt) })
        (put_adds c P may.puts ended (Restarts s)))
    act_adds acts.Drain may =
        led_adds P st line (drain c st) None (drain_adds c P may.puts st)
    act_adds acts.Play may =
        led_adds P st line (play c bodies st) None (rounds_add c P may.puts bodies 514 st)
    act_adds (acts.Tell s to) may =
        unless_adds P st line (halted_or st s (tell_refusal s to)) _
        (led_adds P st line (put c st (Tells s to)) None (put_adds c P may.puts st (Tells s to)))
    act_adds (acts.Query s v) may =
        variable_adds P st line (variable st.running v) _ (λ a.
        unless_adds P st line
        (halted_or st s (query_refusal (c.reading.sight st.running.trace s) (family a))) _
        (led_adds P st line (put c st (Queries s (family a))) None
        (put_adds c P may.puts st (Queries s (family a)))))
    act_adds (acts.Stop s calls) may =
        unless_adds P st line (is_halted st s) _
        (record { more = Stop s calls ∷ []; is = refl; each = (may.stops s calls refl, tt) })
