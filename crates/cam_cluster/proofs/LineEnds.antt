-- How a line ends that is refused, or that finds no memory; and what the lines keep then.
use Rattle.std.proofs.Common.{◌≡◌, ℕ, Some, Err, ap, ◌∙◌, subst}
use Rattle.cam_event.specs.declared.LineRefusal.{LineRefusal}
use Rattle.cam_event.specs.Readings.{by_knowledge}
use Rattle.cam_node.specs.Log.{Logged}
use Rattle.cam_runs.specs.HaltedLines.{Passed, Refused, Led, act, after_line, setting}
use Rattle.cam_runs.specs.Standing.{Standing, Setting}
use Rattle.cam_runs.specs.UnderHalts.{IsUnderHalts}
use Rattle.cam_script.specs.declared.Act.{Act}
use Rattle.cam_script.specs.declared.Script.{Script}
use Rattle.cam_script.specs.Law.{IsScript}
use Rattle.cam_histories.specs.Lines.{line_refusal, refused_by}
use Rattle.cam_histories.proofs.Lines.{lines_are_tested}
use Rattle.cam_cluster.specs.declared.LineFault.TheVariants as line_faults
use Rattle.cam_cluster.specs.LetterLines.{IsLineBy}
use Rattle.cam_cluster.specs.SoFar.{AreLinesOfSome, KeepsLines, KeepsLinesAsBefore, LinesFields}
use Rattle.cam_cluster.specs.Coming.{AreWorksOfSome}
use Rattle.cam_cluster.specs.Puts.{KeepsAsBefore}
use Rattle.cam_cluster.specs.Works.{WorksFields}
use Rattle.cam_cluster.proofs.BegunLine.{next_leads}

-- a line that is refused by this test
pub refused_is : (p : Passed) (refusal : LineRefusal) → refused_by p ≡ Some refusal
    → p ≡ Refused refusal
refused_is (Refused r) refusal is = ap Refused (same r refusal is)
  where
    same : (a b : LineRefusal) → Some a ≡ Some b → a ≡ b
    same a b e = cc
refused_is (Led st binds) refusal is = cc

-- The run refuses the line, and the lines keep the run with its mark where that is under way.
pub record RefusesLine (script : Script) (st : Standing) (line : ℕ) (act_is : Act)
    (refusal : LineRefusal) (new : LinesFields) (may : ℕ → Logged → Type 0) : Type 0 where
  pub test : line_refusal (by_knowledge script.objects) st act_is ≡ Some refusal
  pub stands :
      IsUnderHalts script (after_line st line (Refused refusal))
      → KeepsLines script (after_line st line (Refused refusal)) new may

module _ {T : Type 0}
    (ends : Script → Standing → Setting → LinesFields → (ℕ → Logged → Type 0) → T → Type 0)
    (line : ℕ) (act_is : Act) (old new : LinesFields) (might may : ℕ → Logged → Type 0) where
  pub refusal_ends : (refusal : LineRefusal)
      → ((script : Script) (st : Standing) → IsScript script → KeepsLines script st old might
      → RefusesLine script st line act_is refusal new may)
      → IsLineBy line act_is ends old might new may (Err (line_faults.Refused refusal))
  refusal_ends refusal refuses script st halts later is keeps next =
      let r = refuses script st is keeps in
      record {
        test = r.test;
        stands =
            r.stands (subst (λ (p : Passed). IsUnderHalts script (after_line st line p)) (refused_is
            _ _ (lines_are_tested (setting (by_knowledge script.objects) halts (record {
              line =
                  line;
              act = act_is;
            }) later) script.bodies st act_is ∙ r.test)) (next_leads _ _ _
            halts later is keeps.runs.under next));
      }

  pub wanting_ends : KeepsLinesAsBefore old might new may
      → IsLineBy line act_is ends old might new may (Err line_faults.NoMemory)
  wanting_ends before script st halts later is keeps next = before script st is keeps

-- one after another they keep what they kept
pub both_before : (old mid new : LinesFields) (might mays may : ℕ → Logged → Type 0)
    → KeepsLinesAsBefore old might mid mays → KeepsLinesAsBefore mid mays new may
    → KeepsLinesAsBefore old might new may
both_before old mid new might mays may one other script st is keeps =
    other script st is (one script st is keeps)

pub then_before : (old mid new : WorksFields) (might mays may : ℕ → Logged → Type 0)
    → KeepsAsBefore old might mid mays → KeepsAsBefore mid mays new may
    → KeepsAsBefore old might new may
then_before old mid new might mays may one other script st is keeps =
    other script st is (one script st is keeps)

-- some run is kept still
pub some_lines : (old new : LinesFields) (might may : ℕ → Logged → Type 0)
    → KeepsLinesAsBefore old might new may → AreLinesOfSome old might → AreLinesOfSome new may
some_lines old new might may before some = record {
  script = some.script;
  standing = some.standing;
  is_script = some.is_script;
  keeps = before some.script some.standing some.is_script some.keeps;
}

pub some_works : (old new : WorksFields) (might may : ℕ → Logged → Type 0)
    → KeepsAsBefore old might new may → AreWorksOfSome old might → AreWorksOfSome new may
some_works old new might may before some = record {
  script = some.script;
  standing = some.standing;
  is_script = some.is_script;
  keeps = before some.script some.standing some.is_script some.keeps;
}

pub works_of_lines : (lines : LinesFields) (may : ℕ → Logged → Type 0)
    → AreLinesOfSome lines may → AreWorksOfSome lines.works may
works_of_lines lines may some = record {
  script = some.script;
  standing = some.standing;
  is_script = some.is_script;
  keeps = some.keeps.runs;
}
