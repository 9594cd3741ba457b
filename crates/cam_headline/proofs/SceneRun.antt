-- The worked scene, as the checker computes it.
use Rattle.std.proofs.Common.{◌≡◌, [], ◌∷◌, Ok, refl, ◌∙◌, pos}
use Rattle.std.specs.Prelude.{codes}
use Rattle.std.specs.Fmt.{digits}
use Rattle.cam_type.specs.declared.State.TheVariants.{Register}
use Rattle.cam_type.specs.declared.Op.TheVariants as ops
use Rattle.cam_script.specs.declared.Script.{Script}
use Rattle.cam_script.specs.declared.Act.TheVariants as acts
use Rattle.cam_script.specs.Grammar.{read_script}
use Rattle.cam_script.proofs.Read.{read}
use Rattle.cam_cut.specs.Witness.{witness}
use Rattle.cam_report.specs.Report.{report}
use Rattle.cam_report.specs.Traces.{witness_text}
use Rattle.cam_headline.specs.Headline.{one_run, events}
use Rattle.cam_headline.specs.Scene.{scene, scene_report, scene_witness, orphan_of_scene, IsWorked}

abbrev script : Script
script =
    record {
      nodes = 4;
      objects = record { node = 2; start = Register (pos 1) } ∷ record { node = 3; start = Register (pos 1) } ∷ [];
      labels = codes "x" ∷ codes "y" ∷ [];
      bodies = [];
      steps = record { line = 4; act = acts.Begin 1 }
          ∷ record { line = 5; act = acts.Ask 0 4 }
          ∷ record { line = 6; act = acts.Drain }
          ∷ record { line = 7; act = acts.Call 1 0 ops.Read }
          ∷ record { line = 8; act = acts.Drain }
          ∷ record { line = 9; act = acts.GiveUp 0 1 }
          ∷ record { line = 10; act = acts.Begin 1 }
          ∷ record { line = 11; act = acts.Call 6 0 (ops.Write (pos 2)) }
          ∷ record { line = 12; act = acts.Drain }
          ∷ record { line = 13; act = acts.Call 6 1 (ops.Write (pos 2)) }
          ∷ record { line = 14; act = acts.Drain }
          ∷ record { line = 15; act = acts.Commit 6 (pos 0) }
          ∷ record { line = 16; act = acts.Drain }
          ∷ record { line = 17; act = acts.Call 1 1 ops.Read }
          ∷ record { line = 18; act = acts.Drain }
          ∷ [];
    }

-- the grammar with its definitions opened
opened : read_script scene ≡ read scene
unfolding read
opened = refl

read_so : read scene ≡ Ok script
unfolding read
read_so = refl

reported : report script.objects script.labels (events script) (one_run script).marks ≡ scene_report
unfolding digits
reported = refl

witnessed : witness_text script.labels (witness (events script) orphan_of_scene) ≡ scene_witness
unfolding digits
witnessed = refl

pub is_worked : IsWorked
is_worked = record { script = script; spelled = opened ∙ read_so; reported = reported; witnessed = witnessed }
