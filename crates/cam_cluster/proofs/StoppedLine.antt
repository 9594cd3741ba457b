-- The line `stop`, at the node of a place: what the run says of it, and what it comes to.
use Rattle.std.proofs.Common.{◌≡◌, ℕ, ◌+◌, ◌<◌, Bool, true, false, List, [], ◌∷◌, ◌++◌, length}
use Rattle.std.proofs.Common.{Option, None, Ok, Err, refl, sym, ap, ◌∙◌, subst}
use Rattle.cam_names.specs.declared.name.Name.{Name}
use Rattle.cam_event.specs.declared.LineRefusal.{LineRefusal}
use Rattle.cam_event.specs.declared.LineRefusal.TheVariants as refusals
use Rattle.cam_event.specs.Readings.{by_knowledge}
use Rattle.cam_event.specs.Refusals.{where_so}
use Rattle.cam_net.specs.Waiting.{is_halted}
use Rattle.cam_node.specs.Log.{Logged}
use Rattle.cam_runs.specs.Halts.{Halting, Stop}
use Rattle.cam_runs.specs.HaltedLines.{Led, Passed, act, after_line, setting, unless}
use Rattle.cam_runs.specs.Running.{has_number}
use Rattle.cam_runs.specs.Standing.{Standing, Setting}
use Rattle.cam_runs.specs.UnderHalts.{IsNextStep, IsUnderHalts}
use Rattle.cam_script.specs.declared.Act.TheVariants as acts
use Rattle.cam_script.specs.declared.Script.{Script}
use Rattle.cam_script.specs.declared.Step.{Step}
use Rattle.cam_script.specs.Law.{IsScript}
use Rattle.cam_cluster.specs.declared.LineFault.{LineFault}
use Rattle.cam_cluster.specs.declared.LineFault.TheVariants as line_faults
use Rattle.cam_cluster.specs.InputLines.{IsRefusedAs}
use Rattle.cam_cluster.specs.LetterLines.{IsDone, IsEndedBy, IsLineBy}
use Rattle.cam_cluster.specs.Puts.{HasStopped}
use Rattle.cam_cluster.specs.SoFar.{IsRefused, KeepsLines, LinesFields}
use Rattle.cam_cluster.specs.Stops.{IsStop}
use Rattle.cam_cluster.specs.Works.{KeepsRun}
use Rattle.cam_cluster.proofs.BegunLine.{next_leads, told_halted}
use Rattle.cam_cluster.proofs.Led.{keeps_others}
use Rattle.cam_cluster.proofs.TriedLine.{refused_line}

module _ (script : Script) (st : Standing) (halts : Halting) (later : List Step)
    (line place calls : ℕ) (old new : LinesFields) (might may : ℕ → Logged → Type 0)
    (is : IsScript script) (keeps : KeepsLines script st old might)
    (there : place < length old.works.nodes)
    (next : IsNextStep script st (record { line = line; act = acts.Stop (place + 1) calls })) where
  abbrev c : Setting
  c = setting (by_knowledge script.objects) halts
      (record { line = line; act = acts.Stop (place + 1) calls }) later

  abbrev leads : Passed
  leads = Led (record st { turns = Stop (place + 1) calls ∷ st.turns }) None

  halted_is : (b : Bool) → is_halted old.works.halted (place + 1) ≡ b
      → has_number st.halted (place + 1) ≡ b
  halted_is b said = sym (told_halted script st old.works might is keeps.runs place there) ∙ said

  pub stopped : is_halted old.works.halted (place + 1) ≡ false
      → HasStopped place calls old.works might new.works may → new.bound ≡ old.bound ++ None ∷ []
      → IsDone script st c (acts.Stop (place + 1) calls) new may
  stopped runs before bound = record {
    passed = ap (λ (b : Bool). where_so b refusals.Halted) awake;
    stands =
        subst (λ (p : Passed). KeepsLines script (after_line st line p) new may) (sym passes)
        (record {
          runs =
              keeps_others _ _ _ _ _ _ (record {
                trace = refl;
                lost = refl;
                delivered = refl;
              }) refl refl refl kept.all_marks (subst (λ (p : Passed). IsUnderHalts script
              (after_line st line p)) passes (next_leads _ _ _ halts later is keeps.runs.under
              next)) kept;
          variables = bound ∙ ap (λ (bs : List (Option Name)). bs ++ None ∷ []) keeps.variables;
        });
  }
    where
      awake : has_number st.halted (place + 1) ≡ false
      awake = halted_is false runs

      passes : act c script.bodies st (acts.Stop (place + 1) calls) ≡ leads
      passes = ap (λ (b : Bool). unless (where_so b refusals.Halted) leads) awake

      behind : Standing
      behind = record st { turns = Stop (place + 1) calls ∷ st.turns }

      kept : KeepsRun script behind new.works may
      kept = before script st is keeps.runs

  pub stop_refused : (fault : LineFault) → is_halted old.works.halted (place + 1) ≡ true
      → IsRefusedAs line refusals.Halted old might new may fault
      → IsEndedBy (IsStop (place + 1) calls) script st c (acts.Stop (place + 1) calls) new may
      (Err fault)
  stop_refused line_faults.NoMemory stops before = before script st is keeps
  stop_refused (line_faults.Refused told) stops has =
      rw has.0 (refused_line _ _ halts later _ _ _ _ _ _ _ is keeps next (ap (λ (b : Bool).
      where_so b refusals.Halted) (halted_is true stops)) (ap (λ (b : Bool). unless (where_so b
      refusals.Halted) leads) (halted_is true stops)) has.1)

-- how the line ends, at the node of this number
module _ (line place node calls : ℕ) (back : place + 1 ≡ node) (old new : LinesFields)
    (might may : ℕ → Logged → Type 0) (there : place < length old.works.nodes) where
  pub stop_done : is_halted old.works.halted (place + 1) ≡ false
      → HasStopped place calls old.works might new.works may → new.bound ≡ old.bound ++ None ∷ []
      → IsLineBy line (acts.Stop node calls) (IsStop node calls) old might new may (Ok tt)
  stop_done runs before bound =
      rw (← back) (λ script st halts later is keeps next. stopped script st halts later line place
      calls old new might may is keeps there next runs before bound)

  pub stop_halted : (fault : LineFault) → is_halted old.works.halted (place + 1) ≡ true
      → IsRefusedAs line refusals.Halted old might new may fault
      → IsLineBy line (acts.Stop node calls) (IsStop node calls) old might new may (Err fault)
  stop_halted fault stops has =
      subst (λ (n : ℕ). IsLineBy line (acts.Stop n calls) (IsStop n calls) old might new may
      (Err fault)) back
      (λ script st halts later is keeps next.
      stop_refused script st halts later line place calls old new might may is keeps there next
      fault stops has)
