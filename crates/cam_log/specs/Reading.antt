-- How a log is read: its entries, or the first place at which the bytes are no log. That is
--     the first byte that differs from the header or is missing in it;
--     or the first byte of a length that is not whole, or that runs past the end;
--     or the end, if a gate is missing.
use Rattle.std.specs.Prelude.{ℕ, ◌+◌, ◌==◌, nat_le, zero, suc, List, [], ◌∷◌, ◌++◌, length, take, drop, Result, Ok, Err, if◌then◌else◌}
use Rattle.std.specs.Int.{w64, from_be_bytes}
use Rattle.cam_log.specs.declared.fault.LogFault.{LogFault}
use Rattle.cam_log.specs.declared.fault.LogFault.TheVariants.{NotALog}
use Rattle.cam_log.specs.Image.{header}

infixl 10 ◌>>=◌
abbrev pub ◌>>=◌ : {A B E : Type 0} → Result A E → (A → Result B E) → Result B E
(Ok x) >>= f = f x
(Err e) >>= f = Err e

-- the place after the header, if this much of it is still to come and these bytes are from `at` on
abbrev pub header_at : List ℕ → ℕ → List ℕ → Result ℕ LogFault
header_at [] at rest = Ok at
header_at (h ∷ hs) at [] = Err (NotALog at)
header_at (h ∷ hs) at (b ∷ rest) = if h == b then header_at hs (at + 1) rest else Err (NotALog at)

-- the gate at a place, by the bytes from there on and the end of all bytes
abbrev pub first_gate : ℕ → List ℕ → Result ℕ LogFault
first_gate end [] = Err (NotALog end)
first_gate end (b ∷ rest) = Ok b

abbrev pub gate_at : ℕ → List ℕ → Result ℕ LogFault
gate_at at bytes = first_gate (length bytes) (drop at bytes)

-- the length of an entry: it is whole, and as many bytes follow it
abbrev pub fitting : ℕ → ℕ → ℕ → Result ℕ LogFault
fitting at end size = if nat_le (at + 8 + size) end then Ok size else Err (NotALog at)

abbrev pub length_at : ℕ → List ℕ → Result ℕ LogFault
length_at at bytes =
    if nat_le (at + 8) (length bytes)
    then fitting at (length bytes) (from_be_bytes w64 (take 8 (drop at bytes)))
    else Err (NotALog at)

-- The entries with those from the gate at a place on. Each takes nine bytes at least, so a log has fewer of them than bytes: `room`,
-- at first the number of bytes, never ends the reading.
unfoldable pub entries_from : ℕ → List (List ℕ) → ℕ → List ℕ → Result (List (List ℕ)) LogFault
entries_from zero entries at bytes = Ok entries
entries_from (suc room) entries at bytes = do
  gate ← gate_at at bytes
  if gate == 1
      then (do
        size ← length_at (at + 1) bytes
        entries_from room (entries ++ take size (drop (at + 9) bytes) ∷ []) (at + 9 + size) bytes)
      else Ok entries

-- the entries of a log, in order
unfoldable pub read_log : List ℕ → Result (List (List ℕ)) LogFault
read_log bytes = do
  at ← header_at header 0 bytes
  entries_from (length bytes) [] at bytes
