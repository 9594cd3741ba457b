-- What is seen of a source and a sink in memory: their bytes, and which of their calls are to fail.
use Rattle.std.specs.Prelude.{ℕ, ◌≡◌, ◌+◌, ◌-◌, ◌^◌, min, List, Contains}

-- the numbers, from 1, of the calls that are to fail, the calls so far, and how often it failed
pub record Plan : Type 0 where
  pub fail : List ℕ
  pub calls : ℕ
  pub faults : ℕ

pub record MemoryState : Type 0 where
  -- the bytes that are left, or that were written
  pub bytes : List ℕ
  pub plan : Plan

-- A call is counted, up to the count's last value, and the plan stays.
pub record IsCounted (old new : Plan) : Type 0 where
  pub calls : new.calls ≡ min (old.calls + 1) (2 ^ 32 - 1)
  pub same : new.fail ≡ old.fail

-- the call that was counted last is to fail
abbrev pub IsToFail : Plan → Type 0
IsToFail plan = Contains plan.fail plan.calls
