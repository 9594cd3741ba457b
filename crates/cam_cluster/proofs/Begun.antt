-- What stands once a line has ended a halt, or stopped a disk.
use Rattle.std.proofs.Common.{◌≡◌, ℕ, Bool, false, if◌then◌else◌, ◌∷◌, Option, Some, None, refl, ap}
use Rattle.std.proofs.Common.{◌∙◌}
use Rattle.std.proofs.lemmas.Bool.{eq-eqb}
use Rattle.cam_event.specs.declared.LineRefusal.{LineRefusal}
use Rattle.cam_event.specs.Refusals.{first_of_two, refusal}
use Rattle.cam_runs.specs.Halts.{Stop}
use Rattle.cam_runs.specs.Running.{has_number}
use Rattle.cam_runs.specs.Standing.{Standing, ended_halt}
use Rattle.cam_script.specs.declared.Act.{Act}
use Rattle.cam_script.specs.declared.Act.TheVariants as acts
use Rattle.cam_histories.proofs.HaltedLists.{without}

-- what stands once a line has ended a halt, or stopped a disk
abbrev pub begun : Standing → Act → Standing
begun st (acts.Restart s) = ended_halt st s
begun st (acts.Stop s calls) =
    if has_number st.halted s then st else record st { turns = Stop s calls ∷ st.turns }
begun st _ = st

pub first_none : (o p : Option LineRefusal) → first_of_two o p ≡ None → o ≡ None
first_none None p none = refl
first_none (Some refusal) p none = none

-- after a restart's first step its node is not halted
pub ended_awake : (st : Standing) (s : ℕ) → has_number (ended_halt st s).halted s ≡ false
ended_awake st s =
    without st.halted s s
    ∙ ap (λ (b : Bool). if b then false else has_number st.halted s) (eq-eqb s s refl)
