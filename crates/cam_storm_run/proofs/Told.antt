-- What holds of the events that were gathered holds of the trace that is told of them.
use Rattle.std.proofs.Common.{◌≡◌, ℕ, List, map, reverse, sym, subst}
use Rattle.std.specs.Prelude.{Err, IfOk, Ok, OnOk, Result}
use Rattle.cam_event.specs.declared.Event.{Event}
use Rattle.cam_storm.specs.Events.{Stepped}
use Rattle.cam_storm.specs.Laws.{events_of}

pub told : {F : Type 0} (result : Result (List Event) F) (gathered : List (ℕ × Stepped))
    (P : List Event → Type 0) → IfOk result (λ trace. trace ≡ map (λ p. p.1.event) gathered)
    → P (events_of gathered) → IfOk result (λ trace. P (reverse trace))
told (Ok trace) gathered P is holds = subst (λ (t : List Event). P (reverse t)) (sym is) holds
told (Err fault) gathered P is holds = tt

pub on_ok : {T F : Type 0} (result : Result T F) (P : Type 0) → P → OnOk result P
on_ok (Ok value) P holds = holds
on_ok (Err fault) P holds = tt
