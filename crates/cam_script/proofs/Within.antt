-- What is declared behind some lines is within the limits of a script.
use Rattle.std.proofs.Common.{◌≤◌, List, [], ◌∷◌, length, arith}
use Rattle.cam_script.specs.declared.Act.{Act}
use Rattle.cam_script.specs.declared.Act.TheVariants as acts
use Rattle.cam_script.specs.declared.Step.{Step}
use Rattle.std.specs.Prelude.{Option, Some, None, IfSome}
use Rattle.cam_script.specs.SoFar.{Size, SoFar, Writing, step_cost}
use Rattle.cam_script.specs.Law.{spent_in}
use Rattle.cam_script.specs.Parse.{IsWithin}
use Rattle.cam_script.proofs.Stands.{IsWritten, Stands}

-- A step costs 1 at least.
some_cost : (sizes : List Size) (act : Act) → 1 ≤ step_cost sizes act
some_cost sizes (acts.Begin node) = omega arith
some_cost sizes (acts.Start node body) = omega arith
some_cost sizes (acts.Ask parent node) = omega arith
some_cost sizes (acts.Call action object op) = omega arith
some_cost sizes (acts.Commit action value) = omega arith
some_cost sizes (acts.Abort action) = omega arith
some_cost sizes (acts.GiveUp action child) = omega arith
some_cost sizes (acts.Go action) = omega arith
some_cost sizes (acts.Deliver letter) = omega arith
some_cost sizes (acts.Cut letter bytes) = omega arith
some_cost sizes (acts.Lose letter) = omega arith
some_cost sizes (acts.Restart node) = omega arith
some_cost sizes acts.Drain = omega arith
some_cost sizes acts.Play = omega arith
some_cost sizes (acts.Tell node to) = omega arith
some_cost sizes (acts.Query node action) = omega arith
some_cost sizes (acts.Stop node calls) = omega arith

steps_cost : (sizes : List Size) (steps : List Step) → length steps ≤ spent_in sizes steps
steps_cost sizes [] = omega arith
steps_cost sizes (s ∷ ss) = omega (arith, some_cost sizes s.act, steps_cost sizes ss)

statements_short : (d : SoFar) (w : Option Writing) → IsWritten d w → IfSome w (λ w. length w.statements ≤ 32)
statements_short d None h = tt
statements_short d (Some w) h = h.short

pub stands_within : (d : SoFar) → Stands d → IsWithin d
stands_within d s =
    let labels = s.labels in
    let objects = s.object_limit in
    let spent = s.spent in
    let room = s.room in
    let names = s.names in
    let bodies = s.body_limit in
    record {
      labels = omega (arith, labels, objects);
      steps = omega (arith, spent, room, steps_cost d.sizes d.script.steps);
      spent = s.room;
      bodies = omega (arith, names, bodies);
      names = s.names;
      statements = statements_short d d.writing s.written;
    }
