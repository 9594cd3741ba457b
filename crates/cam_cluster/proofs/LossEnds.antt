-- The line that loses a letter: what it comes to.
use Rattle.std.proofs.Common.{◌≡◌, ℕ, true, false, List, [], ◌∷◌, ◌++◌, Option, Some, None, Ok, Err}
use Rattle.std.proofs.Common.{is_some, refl, sym, ap, ◌∙◌, subst, true≢false}
use Rattle.cam_names.specs.declared.name.Name.{Name}
use Rattle.cam_event.specs.declared.Letter.{Letter}
use Rattle.cam_event.specs.declared.LetterId.{LetterId}
use Rattle.cam_event.specs.declared.LineRefusal.TheVariants as refusals
use Rattle.cam_event.specs.Readings.{by_knowledge}
use Rattle.cam_net.specs.Letters.{as_lost, changed, has_letter}
use Rattle.cam_node.specs.Log.{Logged}
use Rattle.cam_runs.specs.HaltedLines.{Passed, Led, act, after_line, lose, of_letter, setting}
use Rattle.cam_runs.specs.Running.{letter_of}
use Rattle.cam_runs.specs.Standing.{Standing}
use Rattle.cam_runs.specs.UnderHalts.{IsUnderHalts}
use Rattle.cam_script.specs.declared.Act.TheVariants as acts
use Rattle.cam_script.specs.declared.Script.{Script}
use Rattle.cam_histories.specs.Lines.{test_letter}
use Rattle.cam_histories.specs.Whole.{IsWhole}
use Rattle.cam_histories.proofs.ManyLines.{losses_stand}
use Rattle.cam_cluster.specs.declared.LineFault.TheVariants as line_faults
use Rattle.cam_cluster.specs.LetterLines.{IsLineBy, IsLoss}
use Rattle.cam_cluster.specs.SoFar.{HasRefused, KeepsLines, KeepsLinesAsBefore, LinesFields}
use Rattle.cam_cluster.specs.Works.{WorksFields, KeepsRun, sites_of}
use Rattle.cam_cluster.proofs.ComingLetters.{found_lost, has_it}
use Rattle.cam_cluster.proofs.LetterEnds.{comes_under_way}
use Rattle.cam_cluster.proofs.Led.{keeps_others}
use Rattle.cam_cluster.proofs.LineEnds.{refusal_ends}

-- A letter that the network has is lost.
pub lost_keeps : (script : Script) (st : Standing) (works : WorksFields)
    (may : ℕ → Logged → Type 0) (number : ℕ) → KeepsRun script st works may
    → works.outbox.unput ≡ [] → has_letter works.outbox.net number ≡ true
    → KeepsRun script (lose st number)
    (record works {
      outbox =
          record {
            net = changed as_lost works.outbox.net number;
            unput = works.outbox.unput;
          };
    }) may
lost_keeps script st works may number keeps none_left has = record {
  under = lost.0;
  one_each = keeps.one_each;
  eight = keeps.eight;
  nodes = keeps.nodes;
  whole = rw none_left lost.1;
  halts = keeps.halts;
  undecided = keeps.undecided;
  sent = keeps.sent;
  events = keeps.events;
  all_marks = keeps.all_marks;
  few = keeps.few;
  stops = keeps.stops;
}
  where
    lost : IsUnderHalts script (lose st number) × IsWhole script.objects (lose st number)
        (sites_of works.nodes) (changed as_lost works.outbox.net number) [] works.halted
    lost =
        losses_stand script st number (sites_of works.nodes) works.outbox.net works.halted has
        keeps.under (rw (← none_left) keeps.whole)

some_letter : (o : Option LetterId) (p : Passed) → is_some o ≡ true
    → of_letter o (λ (l : LetterId). p) ≡ p
some_letter None p has = absurd (true≢false (sym has))
some_letter (Some l) p has = refl

not_refused : (o : Option LetterId) → is_some o ≡ true
    → test_letter o (λ (l : LetterId). None) ≡ None
not_refused None has = absurd (true≢false (sym has))
not_refused (Some l) has = refl

module _ (line number : ℕ) (old : LinesFields) (might mays : ℕ → Logged → Type 0)
    (works : WorksFields) (bound now : List (Option Name))
    (before : KeepsLinesAsBefore old might (record { works = works; bound = bound }) mays)
    (none_left : works.outbox.unput ≡ []) where
  abbrev lost_now : LinesFields
  lost_now =
      record {
        works = record works {
          outbox =
              record {
                net = changed as_lost works.outbox.net number;
                unput = works.outbox.unput;
              };
        };
        bound = now;
      }

  pub loss_ends : has_letter works.outbox.net number ≡ true → now ≡ bound ++ None ∷ []
      → IsLineBy line (acts.Lose number) (IsLoss number) old might lost_now mays (Ok tt)
  loss_ends has is_now script st halts later is keeps next =
      let kept = before script st is keeps in
      let sent = sym (has_it script st works mays kept.runs none_left number) ∙ has in
      let c = setting (by_knowledge script.objects) halts (record {
        line = line;
        act = acts.Lose
            number;
      }) later in
      let leads : act c script.bodies st (acts.Lose number) ≡ Led (lose st number) None =
      some_letter _ (Led (lose st number) None) sent in
      record {
        passed = not_refused _ sent;
        stands =
            rw leads (record {
              runs =
                  keeps_others _ _ _ _ _ _ (record {
                    trace = refl;
                    lost = refl;
                    delivered =
                        refl;
                  }) refl refl refl kept.runs.all_marks (comes_under_way _ _ halts later _
                  number _ (record { works = works; bound = bound }) mays is kept next _ leads)
                  (lost_keeps _ _ _ _ _ kept.runs none_left has);
              variables = is_now ∙ ap (λ (bs : List (Option Name)). bs ++ None ∷ []) kept.variables;
            });
      }

  pub loss_refused : (new : LinesFields) (may : ℕ → Logged → Type 0)
      → has_letter works.outbox.net number ≡ false
      → HasRefused line refusals.NoLetter (record { works = works; bound = bound }) mays new may
      → IsLineBy line (acts.Lose number) (IsLoss number) old might new may
      (Err (line_faults.Refused refusals.NoLetter))
  loss_refused new may has refused =
      refusal_ends (IsLoss number) _ _ _ _ _ _ _ (λ script st is keeps.
      record {
        test =
            ap (λ (o : Option LetterId). test_letter o (λ (l : LetterId). None)) (found_lost script
            _ _ mays (before script st is keeps).runs none_left _ has);
        stands = refused script st (before script st is keeps);
      })
