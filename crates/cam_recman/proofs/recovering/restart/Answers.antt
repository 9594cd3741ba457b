use Rattle.std.proofs.Common.{List, ℕ, subst}
use Rattle.cam_recman.specs.Faults.{IsRecovery}
use Rattle.cam_recman.proofs.recovering.restart.Goals as goal

pub returns : goal.returns
returns g c = subst (λ (entries : List (List ℕ)). IsRecovery entries c.recover.result) c.entries.ensures c.recover.ensures
