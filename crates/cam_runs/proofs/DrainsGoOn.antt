-- A drain is its next delivery and the drain of what stands then.
use Rattle.std.proofs.Common.{◌≡◌, ℕ, zero, suc, ◌+◌, ◌-◌, ◌≤◌, ◌<◌, Bool, Option, Some, None, refl, sym, ap, ◌∙◌, arith}
use Rattle.cam_event.specs.declared.LetterId.{LetterId}
use Rattle.cam_event.specs.Readings.{Reading, by_pasts, by_knowledge}
use Rattle.cam_runs.specs.Running.{waiting_weight}
use Rattle.cam_runs.specs.Halts.{Halting}
use Rattle.cam_runs.specs.Standing.{Standing, Setting, waiting, deliver, deliver_waiting, deliveries, drain}
use Rattle.cam_runs.specs.HaltedDraining.{setting_of, HaltedLowers, HaltedDrainsGoOn, DrainsAreOver}
use Rattle.cam_runs.proofs.Drained.{pasts_fall, held_fall}
use Rattle.cam_runs.proofs.HaltedDrained.{halted_lowers}

-- where none waits deliveries change nothing
idle_same : (c : Setting) (n : ℕ) (st : Standing) → waiting st ≡ None → deliveries c n st ≡ st
idle_same c zero st none = refl
idle_same c (suc n) st none =
    ap (λ o. deliveries c n (deliver_waiting c st o)) none ∙ idle_same c n st none

pub drains_are_over : DrainsAreOver
drains_are_over c st none = idle_same c (waiting_weight st.running) st none

one_less : (m k : ℕ) → suc m + k ≡ suc (m + k)
one_less m k = omega arith

no_more : (k : ℕ) → 0 + k ≡ k
no_more k = omega arith

module _ (reading : Reading) (lowers : HaltedLowers reading) (halts : Halting) (line : ℕ)
    (restarted : ℕ → Bool) where
  abbrev c : Setting
  c = setting_of reading halts line restarted

  -- more deliveries than the weight of what waits change nothing more
  more : (m k : ℕ) (st : Standing) → waiting_weight st.running ≤ m
      → deliveries c (m + k) st ≡ deliveries c m st
  more zero k st most =
      ap (λ n. deliveries c n st) (no_more k) ∙ idle_same c k st (by (waiting st) refl)
    where
      by : (o : Option (ℕ × LetterId)) → waiting st ≡ o → o ≡ None
      by None at = refl
      by (Some w) at =
          let less = lowers halts line restarted st w at in absurd (omega (arith, less, most))
  more (suc m) k st most =
      ap (λ n. deliveries c n st) (one_less m k)
      ∙ by (waiting st) refl (λ next less. more m k next less)
    where
      by : (o : Option (ℕ × LetterId)) → waiting st ≡ o
          → ((next : Standing) → waiting_weight next.running ≤ m
          → deliveries c (m + k) next ≡ deliveries c m next)
          → deliveries c (m + k) (deliver_waiting c st o) ≡ deliveries c m (deliver_waiting c st o)
      by None at rest = idle_same c (m + k) st at ∙ sym (idle_same c m st at)
      by (Some w) at rest =
          let less = lowers halts line restarted st w at in
          rest (deliver c st w.0 w.1) (omega (arith, less, most))

  pub goes_on : (st : Standing) (w : ℕ × LetterId) → waiting st ≡ Some w
      → drain c st ≡ drain c (deliver c st w.0 w.1)
  goes_on st w at =
      ap (λ n. deliveries c n st) many
      ∙ ap (λ o. deliveries c (least + rest) (deliver_waiting c st o)) at
      ∙ more least rest next (omega arith)
    where
      next : Standing
      next = deliver c st w.0 w.1

      least : ℕ
      least = waiting_weight next.running

      less : least < waiting_weight st.running
      less = lowers halts line restarted st w at

      rest : ℕ
      rest = waiting_weight st.running - 1 - least

      many : waiting_weight st.running ≡ suc (least + rest)
      many = let lower = less in omega (arith, lower)

pub halted_drains_go_on : HaltedDrainsGoOn
halted_drains_go_on objects = (
  (λ halts line restarted st w at.
      goes_on (by_pasts objects) (halted_lowers (by_pasts objects) (pasts_fall objects)) halts line
      restarted st w at),
  (λ halts line restarted st w at.
      goes_on (by_knowledge objects) (halted_lowers (by_knowledge objects) (held_fall objects)) halts
      line restarted st w at),
)
