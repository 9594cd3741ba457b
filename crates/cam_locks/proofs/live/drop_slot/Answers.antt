use Rattle.std.proofs.Common.{◌≡◌, ℕ, eqb, false, List, ap, sym, subst, ◌∙◌, arith, ◌<◌, length}
use Rattle.std.specs.Prelude.{filter}
use Rattle.std.proofs.lemmas.List.{get_or_default}
use Rattle.cam_locks.specs.declared.live.Slot.{Slot}
use Rattle.cam_locks.specs.Live.{live_of, is_live_at, IsPlaceOf, other}
use Rattle.cam_locks.proofs.Slots.{has_at, not_here, not_past}
use Rattle.cam_locks.proofs.DroppedSlots.{live_dropped, all_dropped, without_none}
use Rattle.cam_locks.proofs.live.drop_slot.Goals as goal
use Rattle.cam_locks.proofs.live.drop_slot.Goals.{else-place-len-via-then-place-len+else-index, else-place-len-via-else-place-len}

pub returns-then-index-clause-live : goal.returns-then-index-clause-live
returns-then-index-clause-live c =
    let ss = c.args.slots.now.items in
    let place = c.place_of-place.result in
    let s = c.index_mut.result.now in
    let within : place < length ss = omega (arith, c.if-place-len.true, c.len.ensures) in
    let one : c.index.result.now ≡ s = c.index.ensures ∙ get_or_default ss place c.index.result.now s within ∙ sym c.index_mut.ensures.value in
    live_dropped 0 ss c.requires.0 place s c.requires.1 within c.index_mut.ensures.value
    ∙ ap (λ (i : ℕ). filter (other i) (live_of ss)) (sym (ap (λ (t : Slot). t.operation.index) one) ∙ c.if-index.true)

pub returns-then-index-clause-all : goal.returns-then-index-clause-all
returns-then-index-clause-all c =
    let ss = c.args.slots.now.items in
    let within : c.place_of-place.result < length ss = omega (arith, c.if-place-len.true, c.len.ensures) in
    all_dropped ss c.place_of-place.result c.index_mut.result.now within c.index_mut.ensures.value

pub returns-else-place-len-clause-live : goal.returns-else-place-len-clause-live
returns-else-place-len-clause-live c =
    let ss = c.args.slots.now.items in
    let place = c.place_of-place.result in
    let at : IsPlaceOf ss c.args.index place = subst (λ (ts : List Slot). IsPlaceOf ts c.args.index place) c.as_slice.ensures.value c.place_of-place.ensures in
    let nowhere : is_live_at ss place c.args.index ≡ false = elim c.else-place-len.branch [
      | else-place-len-via-then-place-len+else-index w ↦
          let within : place < length ss = omega (arith, w.if-place-len.true, c.len.ensures) in
          let apart : eqb w.index.result.now.operation.index c.args.index ≡ false = grind (arith, w.if-index.false) in
          not_here ss place c.args.index w.index.result.now within w.index.ensures apart
      | else-place-len-via-else-place-len w ↦ not_past ss place c.args.index (omega (arith, w.if-place-len.false, c.len.ensures))
    ] in
    sym (without_none (live_of ss) c.args.index (has_at ss c.requires.0 place c.args.index c.requires.1 at ∙ nowhere))
