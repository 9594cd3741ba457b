-- A turn by itself, and turns with the letters of the history.
use Rattle.std.proofs.Common.{ℕ}
use Rattle.std.specs.Prelude.{Result, Ok, Err, OnOk}
use Rattle.cam_hall.specs.declared.turned.HallFault.{HallFault}
use Rattle.cam_journal.specs.declared.input.CoreInput.TheVariants.{Drive}
use Rattle.cam_workers.specs.Rest.{AreHandedOver, HasPassed, IsDone, IsNodeAtRest, Stood, stood}
use Rattle.cam_workers.proofs.Passing.{and_then}
use Rattle.cam_workers.proofs.settling.pass_node.Goals as goal

-- what holds where a call ended well, from what holds there
on_ok : {T F : Type 0} (result : Result T F) (P Q : Type 0) → (P → Q) → OnOk result P
    → OnOk result Q
on_ok (Ok value) P Q follows is = follows is
on_ok (Err fault) P Q follows is = tt

pub returns-clause-passed : goal.returns-clause-passed
returns-clause-passed g c =
    let core = g.C.Core in
    on_ok c.hand_over_history.result
    (HasPassed
    (λ now. (index : ℕ) → AreHandedOver core.sends core.goes_to core.is_idle now c.args.at index)
    (stood c.drive.new.ended) (stood c.hand_over_history.new.ended))
    (HasPassed (λ now. IsNodeAtRest core.sends core.goes_to core.is_idle now c.args.at)
    (stood c.args.ended.now) (stood c.hand_over_history.new.ended))
    (λ later.
    and_then (λ now. IsDone core.is_idle now c.args.at Drive)
    (λ now. (index : ℕ) → AreHandedOver core.sends core.goes_to core.is_idle now c.args.at index)
    (λ now. IsNodeAtRest core.sends core.goes_to core.is_idle now c.args.at)
    (stood c.args.ended.now) (stood c.drive.new.ended) (stood c.hand_over_history.new.ended)
    (λ now driven handed. record { driven = driven; handed = handed })
    c.in_ok-drive.ensures.passed later)
    c.hand_over_history.ensures.passed
