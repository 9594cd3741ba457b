-- Room changes no key.
use Rattle.cam_commit.specs.Calls.{yes}
use Rattle.cam_commit.proofs.Families.reserve.Goals as goal

pub returns-in_err-reserve-3-clause-same : goal.returns-in_err-reserve-3-clause-same
returns-in_err-reserve-3-clause-same c =
    record { preparing = c.reserve.ensures.keys.2; votes = λ f m n. c.reserve-2.ensures.keys.2 (yes f m n); secured = c.reserve-3.ensures.keys.2 }

pub returns-clause-same : goal.returns-clause-same
returns-clause-same c =
    record { preparing = c.reserve.ensures.keys.2; votes = λ f m n. c.reserve-2.ensures.keys.2 (yes f m n); secured = c.reserve-3.ensures.keys.2 }
