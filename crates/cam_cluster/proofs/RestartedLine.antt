-- The line `restart`: what it comes to, by how the restart ended.
use Rattle.std.proofs.Common.{◌≡◌, ℕ, ◌+◌, List, [], ◌∷◌, ◌++◌, Option, Some, None, Ok, Err, refl}
use Rattle.std.proofs.Common.{sym, ap, ◌∙◌, subst}
use Rattle.std.specs.Prelude.{IfSome, Result, length, slice_get}
use Rattle.cam_base.specs.declared.memory.NoMemory.{NoMemory}
use Rattle.std.specs.List.{list_any}
use Rattle.cam_names.specs.declared.name.Name.{Name}
use Rattle.cam_event.specs.declared.Event.{Event}
use Rattle.cam_event.specs.Inputs.{Restarts}
use Rattle.cam_event.specs.Readings.{by_knowledge}
use Rattle.cam_node.specs.Log.{Logged}
use Rattle.cam_runs.specs.Halts.{Halting}
use Rattle.cam_runs.specs.HaltedLines.{Led, after_line, is_restart, setting}
use Rattle.cam_runs.specs.Standing.{Standing, Setting, ended_halt, put}
use Rattle.cam_runs.specs.UnderHalts.{IsNextStep, IsUnderHalts}
use Rattle.cam_script.specs.declared.Act.TheVariants as acts
use Rattle.cam_script.specs.declared.Script.{Script}
use Rattle.cam_script.specs.declared.Step.{Step}
use Rattle.cam_script.specs.Law.{IsScript}
use Rattle.cam_histories.specs.Found.{IsBeyond}
use Rattle.cam_histories.specs.InputLaws.{halt_of}
use Rattle.cam_cluster.specs.declared.works.Put.{Put}
use Rattle.cam_cluster.specs.declared.works.Put.TheVariants as puts
use Rattle.cam_cluster.specs.declared.works.restart.Restart.{Restart}
use Rattle.cam_cluster.specs.declared.works.restart.Restart.TheVariants as ends
use Rattle.cam_cluster.specs.Puts.{as_halt}
use Rattle.cam_cluster.specs.Restarts.{HasRestartedAs, IsRestartLine}
use Rattle.cam_cluster.specs.SoFar.{KeepsLines, KeepsLinesAsBefore, LinesFields}
use Rattle.cam_cluster.specs.Works.{KeepsRun}
use Rattle.cam_cluster.proofs.BegunLine.{next_leads}
use Rattle.cam_cluster.proofs.Led.{bound_stays, keeps_others}

pub some_so : {T : Type 0} (o : Option T) (P Q : T → Type 0) → ((x : T) → P x → Q x)
    → IfSome o P → IfSome o Q
some_so None P Q so holds = tt
some_so (Some x) P Q so holds = so x holds

module _ (script : Script) (st : Standing) (halts : Halting) (later : List Step) (line s : ℕ)
    (old new : LinesFields) (may : ℕ → Logged → Type 0) (is : IsScript script)
    (under : IsUnderHalts script st) (variables : old.bound ≡ st.running.bound)
    (next : IsNextStep script st (record { line = line; act = acts.Restart s }))
    (bound : new.bound ≡ old.bound ++ None ∷ []) where
  abbrev c : Setting
  c = setting (by_knowledge script.objects) halts (record { line = line; act = acts.Restart s })
      later

  abbrev after : Standing
  after = put c (ended_halt st s) (Restarts s)

  led : (done : Put) → halt_of c (ended_halt st s) (Restarts s) ≡ as_halt done
      → KeepsRun script after new.works may
      → KeepsLines script (after_line st line (Led after None)) new may
  led done so runs = record {
    runs =
        keeps_others _ _ _ _ _ _ (record { trace = refl; lost = refl; delivered = refl }) refl
        refl refl runs.all_marks (next_leads _ _ _ halts later is under next) runs;
    variables =
        bound ∙ ap (λ (bs : List (Option Name)). bs ++ None ∷ []) (variables ∙ sym (bound_stays c
        (ended_halt st s) (Restarts s) _ so));
  }

module _ (place s : ℕ) (back : place + 1 ≡ s) (old new : LinesFields)
    (might may : ℕ → Logged → Type 0) (bound : new.bound ≡ old.bound ++ None ∷ []) where
  -- the lines where the run is the one in which the halt was taken
  kept_found : (script : Script) (st found : Standing) (k m : ℕ) (before : List Event) (e : Event)
      → IsBeyond script.objects k m before e st found → old.bound ≡ st.running.bound
      → old.bound ≡ found.running.bound
  kept_found script st found k m before e beyond same =
      same ∙ sym (ap (λ (z : Standing). z.running.bound) beyond.stands.is)

  ended : (done : Restart) → HasRestartedAs place old.works might done new.works may
      → IsRestartLine (place + 1) old might new may (Ok done)
  ended ends.Stood has = λ script st halts line later is keeps next stands. led script st halts
      later line (place + 1) old new may is keeps.runs.under keeps.variables next bound puts.Stood
      stands (has script st halts line (λ m. list_any (is_restart m) later) is keeps.runs stands)
  ended ends.Found has = λ script st halts line later is keeps next. record {
    halted = has.halted script st is keeps.runs;
    stands = λ found k before e under beyond stands. led script found halts later line (place + 1)
        old new may is under (kept_found script st found k (place + 1) before e beyond
        keeps.variables) (rw (ap (λ (z : Standing). z.running.bound) beyond.stands.is) next) bound
        puts.Stood stands (has.stands script st found k before e halts line (λ m. list_any
        (is_restart m) later) is keeps.runs under beyond stands);
  }
  ended ends.Failed has = λ script st halts line later is keeps next. has

  pub restart_ended : (done : Restart) → HasRestartedAs place old.works might done new.works may
      → IsRestartLine s old might new may (Ok done)
  restart_ended done has =
      subst (λ (n : ℕ). IsRestartLine n old might new may (Ok done)) back (ended done has)

-- memory ran out before
pub restart_wanting : (s : ℕ) (old new : LinesFields) (might may : ℕ → Logged → Type 0)
    (result : Result Restart NoMemory) (wanting : NoMemory) → result ≡ Err wanting
    → KeepsLinesAsBefore old might new may → IsRestartLine s old might new may result
restart_wanting s old new might may result wanting is before =
    subst (IsRestartLine s old might new may) (sym is)
    (λ script st halts line later is_script keeps next. before script st is_script keeps)
