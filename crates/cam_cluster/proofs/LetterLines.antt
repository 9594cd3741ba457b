-- The lines that deliver or cut a letter: what each comes to.
use Rattle.std.proofs.Common.{◌≡◌, ℕ, ◌+◌, Bool, false, if◌then◌else◌, Option, Some, None, Ok, Err}
use Rattle.std.proofs.Common.{sym, ap, ◌∙◌, subst}
use Rattle.cam_bytes.specs.declared.WireFault.{WireFault}
use Rattle.cam_bytes.specs.declared.WireFault.TheVariants as faults
use Rattle.cam_event.specs.declared.Letter.{Letter}
use Rattle.cam_event.specs.declared.LetterId.{LetterId}
use Rattle.cam_event.specs.declared.LineRefusal.TheVariants as refusals
use Rattle.cam_event.specs.Readings.{by_knowledge}
use Rattle.cam_event.specs.Refusals.{where_so}
use Rattle.cam_node.specs.Log.{Logged}
use Rattle.cam_runs.specs.HaltedLines.{Passed, Led, act, after_line, cut, is_halted, of_letter}
use Rattle.cam_runs.specs.HaltedLines.{setting, unless}
use Rattle.cam_runs.specs.Running.{has_number, letter_of}
use Rattle.cam_runs.specs.Standing.{Standing, Setting, addressee, deliver}
use Rattle.cam_script.specs.declared.Act.{Act}
use Rattle.cam_script.specs.declared.Act.TheVariants as acts
use Rattle.cam_script.specs.declared.Script.{Script}
use Rattle.cam_histories.specs.Lines.{line_refusal, test_letter}
use Rattle.cam_cluster.specs.declared.LineFault.{LineFault}
use Rattle.cam_cluster.specs.declared.LineFault.TheVariants as line_faults
use Rattle.cam_cluster.specs.declared.arrival.Arrival.TheVariants.{Whole, Cut}
use Rattle.cam_cluster.specs.declared.lines.cut.CutLetter.TheVariants as cuts
use Rattle.cam_cluster.specs.declared.works.Put.{Put}
use Rattle.cam_cluster.specs.declared.works.letters.Coming.{Coming}
use Rattle.cam_cluster.specs.Coming.{HasArrived}
use Rattle.cam_cluster.specs.LetterLines.{HasLedLetter, HasMarkedCut, HasTaken, IsCut, IsDelivery}
use Rattle.cam_cluster.specs.LetterLines.{IsLineBy, IsTaken, letter_refusal, with_cut, short_at}
use Rattle.cam_cluster.specs.SoFar.{KeepsLines, LinesFields}
use Rattle.cam_cluster.specs.Works.{KeepsRun}
use Rattle.cam_cluster.proofs.LetterEnds.{comes_under_way, delivered_by, halted_as}
use Rattle.cam_cluster.proofs.LineEnds.{refusal_ends, wanting_ends}

-- A line was refused, or found no memory, when its letter was to be taken.
module _ {T : Type 0}
    (ends : Script → Standing → Setting → LinesFields → (ℕ → Logged → Type 0) → T → Type 0)
    (line number : ℕ) (act_is : Act)
    (tested : (script : Script) (st : Standing)
    → line_refusal (by_knowledge script.objects) st act_is ≡ letter_refusal st number)
    (old new : LinesFields) (might may : ℕ → Logged → Type 0) where
  pub not_taken : (fault : LineFault) → HasTaken line number old might new may (Err fault)
      → IsLineBy line act_is ends old might new may (Err fault)
  not_taken (line_faults.Refused refusal) has =
      refusal_ends ends line act_is old new might may refusal (λ script st is keeps.
      record {
        test = tested script st ∙ (has script st is keeps).test;
        stands = (has script st is keeps).stands;
      })
  not_taken line_faults.NoMemory before = wanting_ends ends _ _ _ _ _ _ before

-- The line leads to the delivery of the letter that was taken.
module _ (line number : ℕ) (coming : Coming) (old mid new : LinesFields)
    (might mays may : ℕ → Logged → Type 0) (taken : IsTaken number old might mid mays coming) where
  awake : (script : Script) (st : Standing) → KeepsRun script st mid.works mays
      → letter_of st.running number ≡ Some coming.letter
      → addressee st coming.letter ≡ coming.place + 1
      → has_number st.halted (addressee st coming.letter) ≡ false
  awake script st runs numbered to =
      halted_as _ _ _ _ runs taken.all _ _ numbered to ∙ taken.awake

  -- nothing stands against it
  passes : (st : Standing) → letter_of st.running number ≡ Some coming.letter
      → has_number st.halted (addressee st coming.letter) ≡ false
      → letter_refusal st number ≡ None
  passes st numbered runs =
      ap (λ (o : Option LetterId). test_letter o (λ (l : LetterId). is_halted st (addressee st l)))
      numbered ∙ ap (λ (b : Bool). where_so b refusals.Halted) runs

  comes_to : (st : Standing) (behind : LetterId → Standing)
      → letter_of st.running number ≡ Some coming.letter
      → has_number st.halted (addressee st coming.letter) ≡ false
      → of_letter (letter_of st.running number)
      (λ (l : LetterId). unless (is_halted st (addressee st l)) (Led (behind l) None))
      ≡ Led (behind coming.letter) None
  comes_to st behind numbered runs =
      ap (λ (o : Option LetterId). of_letter o
      (λ (l : LetterId). unless (is_halted st (addressee st l)) (Led (behind l) None))) numbered
      ∙ ap (λ (b : Bool). unless (where_so b refusals.Halted) (Led (behind coming.letter) None))
      runs

  pub deliver_ends : (done : Put) → HasLedLetter line number mid mays done new may
      → IsLineBy line (acts.Deliver number) (IsDelivery number) old might new may (Ok done)
  deliver_ends done has script st halts later is keeps next =
      let kept = taken.as_before script st is keeps in
      let f = taken.found script st is kept.runs in
      let runs = awake script st kept.runs f.0 f.1 in
      delivered_by _ _ halts later _ _ _ _ _ is kept next _ _ _ _ f.0 (passes st f.0
      runs) (comes_to st (λ (l : LetterId). deliver (setting (by_knowledge script.objects) halts
      (record { line = line; act = acts.Deliver number }) later) st number l) f.0 runs) has

  -- and so it is where all bytes of the letter arrive
  pub cut_delivers : (bytes : ℕ) (letter : Letter) (done : Put)
      → HasArrived bytes coming.letter mid.works mays (Whole letter)
      → HasLedLetter line number mid mays done new may
      → IsLineBy line (acts.Cut number bytes) (IsCut number bytes) old might new may
      (Ok (cuts.Delivered done))
  cut_delivers bytes letter done arrived has script st halts later is keeps next =
      let kept = taken.as_before script st is keeps in
      let f = taken.found script st is kept.runs in
      let runs = awake script st kept.runs f.0 f.1 in
      let all = (arrived script st is kept.runs).0 in
      let c = setting (by_knowledge script.objects) halts (record {
        line = line;
        act = acts.Cut
            number bytes;
      }) later in (
        ap (short_at (by_knowledge script.objects) st bytes) f.0 ∙ ap (λ (b : Bool). if b then Some
            (faults.Short bytes) else None) all,
        delivered_by _ _ halts later _ _ _ _ _ is kept next _ _ _ _ f.0 (passes st f.0
            runs) (comes_to st (λ (l : LetterId). cut c st number bytes l) f.0 runs ∙ ap (λ (b :
            Bool). Led (if b then with_cut line number bytes st else deliver c st number
            coming.letter) None) all) has,
      )

  -- where fewer arrive its mark is left
  pub cut_marks : (bytes : ℕ) (fault : WireFault)
      → HasArrived bytes coming.letter mid.works mays (Cut fault)
      → HasMarkedCut line number bytes mid mays new may
      → IsLineBy line (acts.Cut number bytes) (IsCut number bytes) old might new may
      (Ok (cuts.Bad fault))
  cut_marks bytes fault arrived has script st halts later is keeps next =
      let kept = taken.as_before script st is keeps in
      let f = taken.found script st is kept.runs in
      let runs = awake script st kept.runs f.0 f.1 in
      let a = arrived script st is kept.runs in
      let c = setting (by_knowledge script.objects) halts (record {
        line = line;
        act = acts.Cut
            number bytes;
      }) later in
      let leads : act c script.bodies st (acts.Cut number bytes)
      ≡ Led (with_cut line number bytes st) None =
      comes_to st (λ (l : LetterId). cut c st number bytes l) f.0 runs ∙ ap (λ (b : Bool). Led (if b
      then with_cut line number bytes st else deliver c st number coming.letter) None) a.0 in (
        ap (short_at (by_knowledge script.objects) st bytes) f.0 ∙ ap (λ (b : Bool). if b then Some
            (faults.Short bytes) else None) a.0 ∙ ap Some (sym a.1),
        record {
          passed = passes st f.0 runs;
          stands =
              rw leads (has script st kept (comes_under_way _ _ halts later _ number _ mid mays
              is kept next _ leads));
        },
      )
