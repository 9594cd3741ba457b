-- What a read to the end returns, and what it leaves.
use Rattle.std.specs.Prelude.{ℕ, ◌≡◌, ◌<◌, ◌≤◌, List, [], ◌++◌, length, Result, Ok, Err, Vec}
use Rattle.std.specs.declared.alloc.Global.{Global}
use Rattle.cam_io.specs.declared.fault.ReadFault.{ReadFault}
use Rattle.cam_io.specs.declared.fault.ReadFault.TheVariants.{Failed, TooLarge, NoMemory}

-- All of what was left; or a prefix of it was read, which is longer than the limit exactly if that is the fault.
abbrev pub IsRead : ℕ → List ℕ → List ℕ → Result (Vec ℕ Global) ReadFault → Type 0
IsRead limit old new (Ok bytes) = (bytes.items ≡ old) × (new ≡ [])
IsRead limit old new (Err TooLarge) = (front : List ℕ) × (limit < length front) × (old ≡ front ++ new)
IsRead limit old new (Err Failed) = (front : List ℕ) × (length front ≤ limit) × (old ≡ front ++ new)
IsRead limit old new (Err NoMemory) = (front : List ℕ) × (length front ≤ limit) × (old ≡ front ++ new)
