-- Images of logs: an entry that was appended, beginnings of it, and lengths that run past the end.
use Rattle.std.proofs.Common.{◌≡◌, ℕ, List, [], ◌∷◌, ◌++◌, take, refl, Ok, Err}
use Rattle.cam_log.specs.declared.fault.LogFault.TheVariants.{NotALog}
use Rattle.cam_log.specs.Image.{header, log_bytes, gate_place, appended}
use Rattle.cam_log.specs.Reading.{entries_from, read_log}

-- a log of one entry, which is a Count record
abbrev entry : List ℕ
entry = 1 ∷ 0 ∷ 0 ∷ 0 ∷ 2 ∷ []

abbrev image : List ℕ
image = 67 ∷ 65 ∷ 77 ∷ 69 ∷ 76 ∷ 79 ∷ 84 ∷ 10 ∷ 1 ∷ 0 ∷ 0 ∷ 0 ∷ 0 ∷ 0 ∷ 0 ∷ 0 ∷ 5 ∷ 1 ∷ 0 ∷ 0 ∷ 0 ∷ 2 ∷ 0 ∷ []

pub record Rows : Type 0 where
  pub is_written : log_bytes (entry ∷ []) ≡ image
  pub is_read : read_log image ≡ Ok (entry ∷ [])
  pub its_gate : gate_place (entry ∷ []) ≡ 22
  pub without_its_gate : read_log (take 22 image) ≡ Err (NotALog 22)
  -- until the gate is opened the entry is not there, however much of it stands
  pub not_yet_opened : read_log (log_bytes [] ++ appended entry) ≡ Ok []
  pub torn : read_log (log_bytes [] ++ take 9 (appended entry)) ≡ Ok []
  pub no_bytes : read_log [] ≡ Err (NotALog 0)
  pub header_alone : read_log header ≡ Err (NotALog 8)
  pub other_header : read_log (take 3 header ++ 67 ∷ []) ≡ Err (NotALog 3)
  pub no_entries : read_log (header ++ 0 ∷ []) ≡ Ok []
  pub length_past_the_end : read_log (header ++ 1 ∷ 255 ∷ 255 ∷ 255 ∷ 255 ∷ 255 ∷ 255 ∷ 255 ∷ 255 ∷ []) ≡ Err (NotALog 9)
  pub length_not_whole : read_log (header ++ 1 ∷ 0 ∷ 0 ∷ []) ≡ Err (NotALog 9)
  pub empty_entry : read_log (header ++ 1 ∷ 0 ∷ 0 ∷ 0 ∷ 0 ∷ 0 ∷ 0 ∷ 0 ∷ 0 ∷ 0 ∷ []) ≡ Ok ([] ∷ [])

-- each by computing
pub rows : Rows
unfolding entries_from read_log
rows = record {
  is_written = refl;
  is_read = refl;
  its_gate = refl;
  without_its_gate = refl;
  not_yet_opened = refl;
  torn = refl;
  no_bytes = refl;
  header_alone = refl;
  other_header = refl;
  no_entries = refl;
  length_past_the_end = refl;
  length_not_whole = refl;
  empty_entry = refl;
}
