-- The state that an operation meets, by what is kept: the writes of a register or a queue, and the adds of a counter.
use Rattle.std.proofs.Common.{◌≡◌, ℕ, ℤ, List, refl, sym, ap, ◌∙◌}
use Rattle.std.specs.Int.{w64, cast_signed, cast_unsigned}
use Rattle.std.specs.Prelude.{filter}
use Rattle.cam_names.specs.declared.name.Name.{Name}
use Rattle.cam_type.specs.declared.State.{State}
use Rattle.cam_type.specs.declared.State.TheVariants.{Register, Queue, Counter}
use Rattle.cam_locks.specs.declared.LiveOp.{LiveOp}
use Rattle.cam_locks.specs.declared.versions.Version.{Version}
use Rattle.cam_locks.specs.Moss.{is_on, replay}
use Rattle.cam_locks.specs.Holding.{KeepsVersions}
use Rattle.cam_locks.specs.Changes.{met, LastIsLive}
use Rattle.cam_locks.specs.Sums.{sum_of, sum_on, IsStart}
use Rattle.cam_locks.proofs.WrittenStates.{writes_count, value_last}
use Rattle.cam_locks.proofs.SumLaws.{sum_reads, counter_holds}

-- What an operation meets, by what is kept, is what a replay gives.
pub met_is : (x : ℕ) (start : State) (ns : List Name) (os : List LiveOp) (next : ℕ) (vs : List Version) → IsStart start → KeepsVersions x start ns os next vs → LastIsLive os vs
    → met start vs (sum_on x os) ≡ replay start (filter (is_on x) os)
met_is x (Register v) ns os next vs range keeps live = value_last x (Register v) ns os next vs keeps live ∙ sym (writes_count (is_on x) (Register v) os refl)
met_is x (Queue items) ns os next vs range keeps live = value_last x (Queue items) ns os next vs keeps live ∙ sym (writes_count (is_on x) (Queue items) os refl)
met_is x (Counter v) ns os next vs range keeps live = sym (counter_holds v (filter (is_on x) os) range)

-- what is said of the state that an operation meets, by a sum that is read from its bits
pub met_read : {X : Type 0} (f : State → X) (start : State) (vs given : List Version) (os : List LiveOp) (k : ℤ) → given ≡ vs → k ≡ sum_of os
    → f (met start given (cast_signed w64 (cast_unsigned w64 k))) ≡ f (met start vs (sum_of os))
met_read {X} f start vs given os k vs_is k_is =
    ap (λ (us : List Version). f (met start us (cast_signed w64 (cast_unsigned w64 k)))) vs_is
    ∙ ap (λ (j : ℤ). f (met start vs (cast_signed w64 (cast_unsigned w64 j)))) k_is
    ∙ ap (λ (j : ℤ). f (met start vs j)) (sum_reads os)
