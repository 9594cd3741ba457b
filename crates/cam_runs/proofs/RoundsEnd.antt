-- A play ends by its rule: where no more requests are left than rounds, one more round changes nothing.
use Rattle.std.proofs.Common.{◌≡◌, ◌⊎◌, inl, inr, ℕ, zero, suc, ◌+◌, ◌≤◌, ◌<◌, Bool, List, None, sym, ap, ◌∙◌, subst, arith}
use Rattle.std.specs.Prelude.{if◌then◌else◌}
use Rattle.std.proofs.lemmas.Bool.{le-ltb, lt-ltb}
use Rattle.cam_script.specs.declared.Script.{Script}
use Rattle.cam_script.specs.SoFar.{Size}
use Rattle.cam_runs.specs.Halts.{accepted}
use Rattle.cam_runs.specs.HaltedPlaying.{go_in_round, play, round, rounds}
use Rattle.cam_runs.specs.Playing.{in_order}
use Rattle.cam_runs.specs.Standing.{drain, waiting, Setting, Standing}
use Rattle.cam_runs.proofs.DrainsGoOn.{drains_are_over}
use Rattle.cam_runs.proofs.HaltedDrained.{halted_drains_leave_none}
use Rattle.cam_runs.proofs.HaltedPuts.{pasts}
use Rattle.cam_runs.proofs.GivenBodies.{total, HasCosts}
use Rattle.cam_runs.proofs.DrainsCount.{drain_down, Drained}
use Rattle.cam_runs.proofs.RoundsMove.{names_move, Moves}

module _ (sizes : List Size) (script : Script) (c : Setting) (costs : HasCosts sizes script.bodies) where
  abbrev pub one_round : Standing → Standing
  one_round st = round (pasts script c) script.bodies st

  abbrev pub left : Standing → ℕ
  left st = total sizes script.bodies st.halted st

  abbrev pub requests : Standing → Standing
  requests st = go_in_round (pasts script c) script.bodies (in_order st.running.bodies) st

  none_waits : (st : Standing) → waiting (one_round st) ≡ None
  none_waits st =
      (halted_drains_leave_none script.objects).0 c.halts c.line c.restarted (requests st)

  -- A round where no letter waits.
  quiet_round : (st : Standing) → waiting st ≡ None → Moves sizes script.bodies st (one_round st)
  quiet_round st none = by (names_move sizes script c (in_order st.running.bodies) st costs)
    where
      by : Moves sizes script.bodies st (requests st) → Moves sizes script.bodies st (one_round st)
      by (inl same) =
          inl (ap (drain (pasts script c)) same ∙ drains_are_over (pasts script c) st none)
      by (inr moved) =
          let down = (drain_down sizes script.bodies (pasts script c) (requests st)).0 in
          inr (record {
            less = let x = moved.less in let y = down.less in omega (arith, x, y);
            count = let x = moved.count in let y = down.count in omega (arith, x, y);
          })

  -- Any round.
  any_round : (st : Standing)
      → (left (one_round st) ≤ left st)
      × ((one_round st ≡ st) ⊎ (accepted st.turns + 1 ≤ accepted (one_round st).turns))
  any_round st = by (names_move sizes script c (in_order st.running.bodies) st costs)
    where
      drained : Drained sizes script.bodies (requests st) (one_round st)
      drained = drain_down sizes script.bodies (pasts script c) (requests st)

      by : Moves sizes script.bodies st (requests st)
          → (left (one_round st) ≤ left st)
          × ((one_round st ≡ st) ⊎ (accepted st.turns + 1 ≤ accepted (one_round st).turns))
      by (inl same) = (
        subst (λ (x : Standing). left (one_round st) ≤ left x) same drained.0.less,
        both drained.1,
      )
        where
          both : (one_round st ≡ requests st)
              ⊎ (accepted (requests st).turns + 1 ≤ accepted (one_round st).turns)
              → (one_round st ≡ st) ⊎ (accepted st.turns + 1 ≤ accepted (one_round st).turns)
          both (inl still) = inl (still ∙ same)
          both (inr more) =
              inr (subst (λ (x : Standing). accepted x.turns + 1 ≤ accepted (one_round st).turns) same more)
      by (inr moved) = (
        less,
        inr count,
      )
        where
          less : left (one_round st) ≤ left st
          less = let x = moved.less in let y = drained.0.less in omega (arith, x, y)

          count : accepted st.turns + 1 ≤ accepted (one_round st).turns
          count = let x = moved.count in let y = drained.0.count in omega (arith, x, y)

  abbrev pub IsOver : Standing → Type 0
  IsOver st = one_round st ≡ st

  -- the rule of rounds
  abbrev pub go_on : ℕ → Standing → Bool → Standing
  go_on n after b = if b then rounds (pasts script c) script.bodies n after else after

  still : (n : ℕ) (st : Standing) → one_round st ≡ st
      → rounds (pasts script c) script.bodies (suc n) st ≡ st
  still n st same =
      ap (go_on n (one_round st)) (le-ltb (accepted st.turns) (accepted (one_round st).turns)
      (subst (λ (x : Standing). accepted x.turns ≤ accepted st.turns) (sym same)
      (least (accepted st.turns))))
      ∙ same
    where
      least : (k : ℕ) → k ≤ k
      least k = omega arith

  further : (n : ℕ) (st : Standing) → accepted st.turns + 1 ≤ accepted (one_round st).turns
      → rounds (pasts script c) script.bodies (suc n) st
      ≡ rounds (pasts script c) script.bodies n (one_round st)
  further n st more =
      ap (go_on n (one_round st)) (lt-ltb (accepted st.turns) (accepted (one_round st).turns)
      (less (accepted st.turns) (accepted (one_round st).turns) more))
    where
      less : (x y : ℕ) → x + 1 ≤ y → x < y
      less x y h = omega (arith, h)

  -- Where no letter waits and more rounds may come than requests are left, the rounds end by the rule.
  rounds_over : (n : ℕ) (st : Standing) → waiting st ≡ None → left st < n
      → IsOver (rounds (pasts script c) script.bodies n st)
  rounds_over zero st none less = absurd (omega (arith, less))
  rounds_over (suc n) st none less =
      by (λ fewer. rounds_over n (one_round st) (none_waits st) fewer) (quiet_round st none)
    where
      by : (left (one_round st) < n → IsOver (rounds (pasts script c) script.bodies n (one_round st)))
          → Moves sizes script.bodies st (one_round st)
          → IsOver (rounds (pasts script c) script.bodies (suc n) st)
      by rest (inl same) = subst IsOver (sym (still n st same)) same
      by rest (inr moved) =
          subst IsOver (sym (further n st moved.count))
          (rest (let x = moved.less in omega (arith, less, x)))

  -- THE PLAY.
  pub play_over : (st : Standing) → left st ≤ 512
      → IsOver (play (pasts script c) script.bodies st)
  play_over st most = by (any_round st).1
    where
      by : (one_round st ≡ st) ⊎ (accepted st.turns + 1 ≤ accepted (one_round st).turns)
          → IsOver (rounds (pasts script c) script.bodies 514 st)
      by (inl same) = subst IsOver (sym (still 513 st same)) same
      by (inr more) =
          subst IsOver (sym (further 513 st more))
          (rounds_over 513 (one_round st) (none_waits st)
          (let x = (any_round st).0 in omega (arith, most, x)))
