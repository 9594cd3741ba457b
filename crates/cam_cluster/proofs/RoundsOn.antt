-- Rounds of a play go on while an input is put in each.
use Rattle.std.proofs.Common.{◌≡◌, ℕ, zero, suc, ◌+◌, Bool, true, false, if◌then◌else◌, List, refl}
use Rattle.std.proofs.Common.{sym, ap, ◌∙◌, arith}
use Rattle.std.specs.Prelude.{nat_lt}
use Rattle.std.proofs.lemmas.Bool.{le-ltb, lt-ltb}
use Rattle.cam_runs.specs.Halts.{accepted}
use Rattle.cam_runs.specs.HaltedPlaying.{round, rounds}
use Rattle.cam_runs.specs.Standing.{Setting, Standing}
use Rattle.cam_script.specs.declared.Statement.{Statement}
use Rattle.cam_cluster.specs.Plays.{rounds_whole}

module _ (c : Setting) (bodies : List (List Statement)) where
  -- an input is put in a round
  abbrev pub puts_one : Standing → Bool
  puts_one st = nat_lt (accepted st.turns) (accepted (round c bodies st).turns)

  -- and in each of so many, one after another
  abbrev pub EachPuts : ℕ → Standing → Type 0
  EachPuts zero st = Unit {0}
  EachPuts (suc n) st = (puts_one st ≡ true) × EachPuts n (round c bodies st)

  -- one round more
  pub one_more : (n : ℕ) (st : Standing)
      → round c bodies (rounds_whole c bodies n st) ≡ rounds_whole c bodies (suc n) st
  one_more zero st = refl
  one_more (suc n) st = one_more n (round c bodies st)

  pub each_more : (n : ℕ) (st : Standing) → EachPuts n st
      → puts_one (rounds_whole c bodies n st) ≡ true → EachPuts (suc n) st
  each_more zero st each last = (last, tt)
  each_more (suc n) st each last = (each.0, each_more n (round c bodies st) each.1 last)

  -- The rounds go on after those in each of which an input was put,
  pub rounds_on : (n left room : ℕ) (st : Standing) → room ≡ n + left → EachPuts n st
      → rounds c bodies room st ≡ rounds c bodies left (rounds_whole c bodies n st)
  rounds_on zero left room st is each =
      ap (λ (m : ℕ). rounds c bodies m st) (let e : room ≡ left = omega (arith, is) in e)
  rounds_on (suc n) left zero st is each = absurd (omega (arith, is))
  rounds_on (suc n) left (suc room) st is each =
      ap (λ (b : Bool). if b then rounds c bodies room (round c bodies st) else round c bodies st)
      each.0
      ∙ rounds_on n left room (round c bodies st) (omega (arith, is)) each.1

  -- and are over where none is put.
  rounds_over : (left : ℕ) (st : Standing) → puts_one st ≡ false
      → rounds c bodies (suc left) st ≡ round c bodies st
  rounds_over left st none =
      ap (λ (b : Bool). if b then rounds c bodies left (round c bodies st) else round c bodies st)
      none

  pub ended_by : (n left room : ℕ) (st : Standing) → room ≡ n + suc left → EachPuts n st
      → puts_one (rounds_whole c bodies n st) ≡ false
      → round c bodies (rounds_whole c bodies n st) ≡ rounds c bodies room st
  ended_by n left room st is each none =
      sym
      (rounds_on n (suc left) room st is each
      ∙ rounds_over left (rounds_whole c bodies n st) none)

-- whether more were accepted, by how many
pub more_accepted : (old new n : ℕ) → new ≡ old + n → nat_lt old new ≡ nat_lt 0 n
more_accepted old new zero is = le-ltb old new (omega (arith, is))
more_accepted old new (suc n) is =
    lt-ltb old new (omega (arith, is)) ∙ sym (lt-ltb 0 (suc n) (omega arith))
