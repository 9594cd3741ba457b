use Rattle.std.proofs.Common.{Option, None, sym, subst}
use Rattle.cam_event.specs.declared.LetterId.{LetterId}
use Rattle.cam_timed.specs.Machine.{run_of}
use Rattle.cam_timed.specs.Turns.{IsLetterOf}
use Rattle.cam_timed.proofs.machine.Machine.step.Goals as goal

pub take-requires-clause-turn : goal.take-requires-clause-turn
take-requires-clause-turn c =
    let objects = c.args.objects.now in
    let T = run_of c.args.self.now in
    record {
      run = c.requires.keeps.run;
      may = c.requires.may;
      node = c.node_of.ensures.value T c.requires.line;
      range = c.node_of.ensures.range objects T c.requires.may c.requires.line;
      comes =
          subst (λ (got : Option LetterId). IsLetterOf T got None) (sym c.requires.line) tt;
    }
