-- The scenes with counters, as the checker computes them.
use Rattle.std.proofs.Common.{◌≡◌, [], ◌∷◌, Ok, refl, ◌∙◌, pos}
use Rattle.std.specs.Prelude.{codes}
use Rattle.std.specs.Fmt.{digits}
use Rattle.cam_type.specs.declared.State.TheVariants.{Counter}
use Rattle.cam_type.specs.declared.Op.TheVariants as ops
use Rattle.cam_script.specs.declared.Script.{Script}
use Rattle.cam_script.specs.declared.Act.TheVariants as acts
use Rattle.cam_script.specs.Grammar.{read_script}
use Rattle.cam_script.proofs.Read.{read}
use Rattle.cam_report.specs.Report.{report}
use Rattle.cam_headline.specs.Headline.{one_run, events}
use Rattle.cam_headline.specs.Counters.{adders, adders_report, greatest, greatest_report, CountersAreReported}

abbrev of_adders : Script
of_adders =
    record {
      nodes = 1;
      objects = record { node = 1; start = Counter (pos 10) } ∷ [];
      labels = codes "c" ∷ [];
      bodies = [];
      steps = record { line = 3; act = acts.Begin 1 }
          ∷ record { line = 4; act = acts.Begin 1 }
          ∷ record { line = 5; act = acts.Call 0 0 (ops.Add (pos 5)) }
          ∷ record { line = 6; act = acts.Call 1 0 (ops.Add (pos 7)) }
          ∷ record { line = 7; act = acts.Drain }
          ∷ record { line = 8; act = acts.Call 0 0 ops.Read }
          ∷ record { line = 9; act = acts.Drain }
          ∷ record { line = 10; act = acts.Commit 1 (pos 0) }
          ∷ record { line = 11; act = acts.Drain }
          ∷ record { line = 12; act = acts.Call 0 0 ops.Read }
          ∷ record { line = 13; act = acts.Drain }
          ∷ [];
    }

abbrev of_greatest : Script
of_greatest =
    record {
      nodes = 1;
      objects = record { node = 1; start = Counter (pos 9223372036854775807) } ∷ [];
      labels = codes "c" ∷ [];
      bodies = [];
      steps = record { line = 3; act = acts.Begin 1 }
          ∷ record { line = 4; act = acts.Call 0 0 (ops.Add (pos 1)) }
          ∷ record { line = 5; act = acts.Drain }
          ∷ record { line = 6; act = acts.Call 0 0 ops.Read }
          ∷ record { line = 7; act = acts.Drain }
          ∷ [];
    }

-- the grammar with its definitions opened
adders_opened : read_script adders ≡ read adders
unfolding read
adders_opened = refl

adders_read : read adders ≡ Ok of_adders
unfolding read
adders_read = refl

adders_reported : report of_adders.objects of_adders.labels (events of_adders) (one_run of_adders).marks ≡ adders_report
unfolding digits
adders_reported = refl

greatest_opened : read_script greatest ≡ read greatest
unfolding read
greatest_opened = refl

greatest_read : read greatest ≡ Ok of_greatest
unfolding read
greatest_read = refl

greatest_reported : report of_greatest.objects of_greatest.labels (events of_greatest) (one_run of_greatest).marks ≡ greatest_report
unfolding digits
greatest_reported = refl

pub counters_are_reported : CountersAreReported
counters_are_reported = (
  record { script = of_adders; spelled = adders_opened ∙ adders_read; reported = adders_reported },
  record { script = of_greatest; spelled = greatest_opened ∙ greatest_read; reported = greatest_reported },
)
