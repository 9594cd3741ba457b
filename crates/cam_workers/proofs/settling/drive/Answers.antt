-- A turn by itself.
use Rattle.std.proofs.Common.{None, ◌+◌, inl, inr, refl}
use Rattle.cam_journal.specs.declared.input.CoreInput.TheVariants.{Drive}
use Rattle.cam_workers.specs.Rest.{IsDone}
use Rattle.cam_workers.proofs.HandedOver.{driven}
use Rattle.cam_workers.proofs.Turned.{turn_passes}
use Rattle.cam_workers.proofs.settling.drive.Goals as goal

pub returns-clause-passed : goal.returns-clause-passed
returns-clause-passed g c =
    let core = g.C.Core in
    elim c.in_ok-turn.ensures.turn [
      | inl taken ↦
          turn_passes core.is_replay core.faults core.names core.sends core.goes_to core.lawful
          core.answers core.is_idle (λ now. IsDone core.is_idle now c.args.at Drive)
          (c.args.at + 1) c.args.ended.now c.turn.new.self None c.in_ok-turn.field-0
          c.in_ok-turn.ensures.left.0 c.in_ok-turn.ensures.left.1 taken
          (driven core.sends core.goes_to core.is_idle c.args.ended.now c.args.ended.now.journal.id
          c.args.at (c.args.at + 1) refl)
      | inr none ↦ absurd none
    ]
