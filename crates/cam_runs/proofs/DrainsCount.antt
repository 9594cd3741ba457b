-- A drain adds nothing to what is left of the requests, and counts each delivery.
use Rattle.std.proofs.Common.{◌≡◌, ◌⊎◌, inl, inr, ℕ, zero, suc, ◌+◌, ◌≤◌, List, Option, Some, None, refl, sym, subst, arith}
use Rattle.cam_names.specs.declared.name.Name.{Name}
use Rattle.cam_event.specs.declared.LetterId.{LetterId}
use Rattle.cam_event.specs.Inputs.{Receives}
use Rattle.cam_script.specs.declared.Statement.{Statement}
use Rattle.cam_script.specs.SoFar.{Size}
use Rattle.cam_runs.specs.Halts.{accepted}
use Rattle.cam_runs.specs.RequestsLeft.{left_away, sum_in}
use Rattle.cam_runs.specs.Running.{waiting_weight}
use Rattle.cam_runs.specs.Standing.{deliver, deliver_waiting, deliveries, drain, waiting, Setting, Standing}
use Rattle.cam_runs.proofs.RequestsKept.{away_lowers, later_same, later_then, put_counts, put_later, sum_lowers, Later}
use Rattle.cam_runs.proofs.GivenBodies.{total}

pub record Down (sizes : List Size) (bodies : List (List Statement)) (old new : Standing) : Type 0 where
  pub less : total sizes bodies new.halted new ≤ total sizes bodies old.halted old
  pub count : accepted old.turns ≤ accepted new.turns

abbrev pub Drained : List Size → List (List Statement) → Standing → Standing → Type 0
Drained sizes bodies old new =
    Down sizes bodies old new × ((new ≡ old) ⊎ (accepted old.turns + 1 ≤ accepted new.turns))

later_down : (sizes : List Size) (bodies : List (List Statement)) (old new : Standing)
    → Later old new → Down sizes bodies old new
later_down sizes bodies old new later = record {
  less = subst (λ (ps : List (Name × ℕ)).
      sum_in (left_away sizes bodies new.halted new.running.trace) ps
      ≤ total sizes bodies old.halted old) (sym later.bodies)
      (sum_lowers (left_away sizes bodies old.halted old.running.trace)
      (left_away sizes bodies new.halted new.running.trace) old.running.bodies
      (away_lowers sizes bodies old.halted new.halted old new later later.halted));
  count = later.count;
}

deliver_later : (c : Setting) (st : Standing) (k : ℕ) (letter : LetterId)
    → Later st (deliver c st k letter)
deliver_later c st k letter =
    let one = put_later c st (Receives letter) in
    record { bodies = one.bodies; halted = one.halted; left = one.left; count = one.count }

pub deliveries_later : (c : Setting) (n : ℕ) (st : Standing) → Later st (deliveries c n st)
deliveries_later c zero st = later_same st
deliveries_later c (suc n) st =
    later_then st (deliver_waiting c st (waiting st)) (deliveries c (suc n) st)
    (one (waiting st)) (deliveries_later c n (deliver_waiting c st (waiting st)))
  where
    one : (o : Option (ℕ × LetterId)) → Later st (deliver_waiting c st o)
    one None = later_same st
    one (Some w) = deliver_later c st w.0 w.1

deliveries_count : (c : Setting) (n : ℕ) (st : Standing)
    → (deliveries c n st ≡ st) ⊎ (accepted st.turns + 1 ≤ accepted (deliveries c n st).turns)
deliveries_count c zero st = inl refl
deliveries_count c (suc n) st = by (deliveries_count c n st) (waiting st)
  where
    by : (deliveries c n st ≡ st) ⊎ (accepted st.turns + 1 ≤ accepted (deliveries c n st).turns)
        → (o : Option (ℕ × LetterId))
        → (deliveries c n (deliver_waiting c st o) ≡ st)
        ⊎ (accepted st.turns + 1 ≤ accepted (deliveries c n (deliver_waiting c st o)).turns)
    by others None = others
    by others (Some w) =
        let is = put_counts c st (Receives w.1) in
        let rest = (deliveries_later c n (deliver c st w.0 w.1)).count in
        inr (omega (arith, is, rest))

pub drain_down : (sizes : List Size) (bodies : List (List Statement)) (c : Setting) (st : Standing)
    → Drained sizes bodies st (drain c st)
drain_down sizes bodies c st = (
  later_down sizes bodies st (drain c st) (deliveries_later c (waiting_weight st.running) st),
  deliveries_count c (waiting_weight st.running) st,
)
