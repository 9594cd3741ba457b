-- How a line ends that hands a letter over.
use Rattle.std.proofs.Common.{◌≡◌, ℕ, suc, ◌+◌, Bool, true, List, [], ◌∷◌, ◌++◌}
use Rattle.std.proofs.Common.{Option, Some, None, Err, refl, sym, ap, ◌∙◌, subst, arith}
use Rattle.std.specs.Option.{option_map_or}
use Rattle.cam_names.specs.declared.name.Name.{Name}
use Rattle.cam_event.specs.declared.LetterFault.TheVariants.{Short}
use Rattle.cam_event.specs.declared.LetterId.{LetterId}
use Rattle.cam_event.specs.declared.LineRefusal.TheVariants as refusals
use Rattle.cam_event.specs.declared.Mark.{Mark}
use Rattle.cam_event.specs.declared.Mark.TheVariants as marks
use Rattle.cam_event.specs.Inputs.{Mail, Receives}
use Rattle.cam_event.specs.Readings.{by_knowledge}
use Rattle.cam_event.specs.Refusals.{where_so}
use Rattle.cam_net.specs.Waiting as net
use Rattle.cam_node.specs.Log.{Logged}
use Rattle.cam_runs.specs.Halts.{Halting}
use Rattle.cam_runs.specs.HaltedLines.{Passed, Led, act, after_line, is_halted, is_restart, setting}
use Rattle.cam_runs.specs.Running.{has_number, letter_of}
use Rattle.cam_runs.specs.Standing.{Standing, Setting, addressee, deliver}
use Rattle.cam_runs.specs.UnderHalts.{IsNextStep, IsUnderHalts}
use Rattle.cam_script.specs.declared.Act.{Act}
use Rattle.cam_script.specs.declared.Script.{Script}
use Rattle.cam_script.specs.declared.Step.{Step}
use Rattle.cam_script.specs.Law.{IsScript}
use Rattle.cam_histories.specs.InputLaws.{held_setting}
use Rattle.cam_histories.specs.Lines.{line_refusal, test_letter}
use Rattle.cam_cluster.specs.declared.LineFault.TheVariants as line_faults
use Rattle.cam_cluster.specs.declared.works.Put.{Put}
use Rattle.cam_cluster.specs.declared.works.letters.Coming.{Coming}
use Rattle.cam_cluster.specs.Coming.{HasDelivered, HasFound}
use Rattle.cam_cluster.specs.LetterLines.{HasLedLetter, HasMarkedCut, HasTaken}
use Rattle.cam_cluster.specs.LetterLines.{IsLedByLetter, with_cut}
use Rattle.cam_cluster.specs.SoFar.{HasRefused, KeepsLines, KeepsLinesAsBefore, LinesFields}
use Rattle.cam_cluster.specs.Works.{WorksFields, KeepsRun}
use Rattle.cam_cluster.proofs.BegunLine.{next_leads}
use Rattle.cam_cluster.proofs.ComingLetters.{IsThere, there}
use Rattle.cam_cluster.proofs.Led.{bound_stays, keeps_others}
use Rattle.cam_cluster.proofs.PlacedNodes.{after_is}
use Rattle.std.specs.List.{list_any}

-- Whether the receiver of a letter that was found is halted.
pub halted_as : (script : Script) (st : Standing) (works : WorksFields) (may : ℕ → Logged → Type 0)
    → KeepsRun script st works may → works.outbox.unput ≡ [] → (number : ℕ) (coming : Coming)
    → letter_of st.running number ≡ Some coming.letter
    → addressee st coming.letter ≡ coming.place + 1
    → has_number st.halted (addressee st coming.letter)
    ≡ net.is_halted works.halted (suc coming.place)
halted_as script st works may keeps none_left number coming is to =
    let here : IsThere st coming.letter = there script _ works may keeps none_left _ _ is in
    let high = here.travels.to.1 in
    ap (has_number st.halted) to ∙ sym (keeps.whole.network.stands.nodes (coming.place + 1) (omega
    arith) (omega (arith, high, to, to_is here))) ∙ ap (net.is_halted works.halted) (after_is
    coming.place)
  where
    to_is : (here : IsThere st coming.letter) → addressee st coming.letter ≡ here.mail.to
    to_is here = ap (λ (o : Option Mail). option_map_or (λ (m : Mail). m.to) o 0) here.at

-- The letter is taken for the line, or the line is refused.
module _ (line number : ℕ) (old mid : LinesFields) (might mays : ℕ → Logged → Type 0)
    (before : KeepsLinesAsBefore old might mid mays) (none_left : mid.works.outbox.unput ≡ [])
    (new : LinesFields) (may : ℕ → Logged → Type 0) where
  pub no_letter : HasFound number mid.works mays None
      → HasRefused line refusals.NoLetter mid mays new may
      → HasTaken line number old might new may (Err (line_faults.Refused refusals.NoLetter))
  no_letter found has script st is keeps =
      let kept = before script st is keeps in
      record {
        test =
            ap (λ (o : Option LetterId). test_letter o
            (λ (l : LetterId). is_halted st (addressee st l))) (found script st is kept.runs);
        stands = has script st kept;
      }

  pub halted_letter : (coming : Coming) → HasFound number mid.works mays (Some coming)
      → net.is_halted mid.works.halted (suc coming.place) ≡ true
      → HasRefused line refusals.Halted mid mays new may
      → HasTaken line number old might new may (Err (line_faults.Refused refusals.Halted))
  halted_letter coming found stops has script st is keeps =
      let kept = before script st is keeps in
      let f = found script st is kept.runs in
      record {
        test =
            ap (λ (o : Option LetterId). test_letter o (λ (l : LetterId). is_halted st (addressee st
            l))) f.0 ∙ ap (λ (b : Bool). where_so b refusals.Halted) (halted_as _ _ _ _
            kept.runs none_left _ _ f.0 f.1 ∙ stops);
        stands = has script st kept;
      }

-- a letter was handed over, and the variable stands for nothing
pub led_letter : (line number : ℕ) (old new : WorksFields) (might may : ℕ → Logged → Type 0)
    (bound now : List (Option Name)) (done : Put)
    → HasDelivered line number old might done new may → now ≡ bound ++ None ∷ []
    → HasLedLetter line number (record { works = old; bound = bound }) might done
    (record { works = new; bound = now }) may
led_letter line number old new might may bound now done has is_now script st halts restarted id is
    keeps numbered halt under = record {
      runs =
          keeps_others _ _ _ _ _ _ (record { trace = refl; lost = refl; delivered = refl })
          refl refl refl runs.all_marks under runs;
      variables =
          is_now ∙ ap (λ (bs : List (Option Name)). bs ++ None ∷ []) (keeps.variables ∙ sym
          (bound_stays c st (Receives id) _ halt));
    }
  where
    c : Setting
    c = held_setting script.objects halts line restarted

    after : Standing
    after = deliver c st number id

    runs : KeepsRun script after new may
    runs = has script st halts restarted id is keeps.runs numbered halt

-- its mark was left where it was cut short
pub marked_cut : (line number bytes : ℕ) (works : WorksFields) (ms : List Mark)
    (may : ℕ → Logged → Type 0) (bound now : List (Option Name))
    → ms ≡ works.marks ++ marks.Cut line number Short bytes ∷ [] → now ≡ bound ++ None ∷ []
    → HasMarkedCut line number bytes (record { works = works; bound = bound }) may
    (record { works = record works { marks = ms }; bound = now }) may
marked_cut line number bytes works ms may bound now is_marks is_now script st keeps under = record {
  runs =
      keeps_others _ _ _ _ _ _ (record { trace = refl; lost = refl; delivered = refl }) refl
      refl refl (is_marks ∙ ap (λ (x : List Mark). x ++ marks.Cut line number Short bytes ∷ [])
      keeps.runs.all_marks) under keeps.runs;
  variables = is_now ∙ ap (λ (bs : List (Option Name)). bs ++ None ∷ []) keeps.variables;
}

-- A line of this letter that leads to its delivery.
module _ (script : Script) (st : Standing) (halts : Halting) (later : List Step) (line number : ℕ)
    (act_is : Act) (mid : LinesFields) (mays : ℕ → Logged → Type 0) (is : IsScript script)
    (keeps : KeepsLines script st mid mays)
    (next : IsNextStep script st (record { line = line; act = act_is })) where
  abbrev c : Setting
  c = setting (by_knowledge script.objects) halts (record { line = line; act = act_is }) later

  -- what the line comes to is under way
  pub comes_under_way : (p : Passed) → act c script.bodies st act_is ≡ p
      → IsUnderHalts script (after_line st line p)
  comes_under_way p passes =
      rw (← passes) (next_leads _ _ _ halts later is keeps.runs.under next)

  pub delivered_by : (id : LetterId) (done : Put) (new : LinesFields) (may : ℕ → Logged → Type 0)
      → letter_of st.running number ≡ Some id
      → line_refusal (by_knowledge script.objects) st act_is ≡ None
      → act c script.bodies st act_is ≡ Led (deliver c st number id) None
      → HasLedLetter line number mid mays done new may
      → IsLedByLetter script st c act_is number done new may
  delivered_by id done new may numbered passed leads has = record {
    letter = id;
    is_letter = numbered;
    led = record {
      passed = passed;
      stands = λ halt. rw leads (has script st halts (λ s. list_any (is_restart s) later) id is
          keeps numbered halt (comes_under_way (Led (deliver c st number id) None) leads));
    };
  }
