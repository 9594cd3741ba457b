-- What is shown of the image of a log, and what an upgrade writes of it; or the place of its first
-- fault.
--
-- An image whose fourth byte is C is that of a log with checkpoints, every other is that of a log.
-- It has 262,144 bytes at most: a longer one is wrong at that place.
use Rattle.std.specs.Prelude.{ℕ, ◌+◌, ◌==◌, nat_lt, Bool, List, [], ◌∷◌, ◌++◌, length, take, get_or, Result, Ok, Err, if◌then◌else◌}
use Rattle.cam_log.specs.declared.fault.LogFault.{LogFault}
use Rattle.cam_log.specs.declared.fault.LogFault.TheVariants as logs
use Rattle.cam_log.specs.Image.{log_bytes, gate_place}
use Rattle.cam_log.specs.Reading.{read_log}
use Rattle.cam_ckpt.specs.Reading.{read_ckpt}
use Rattle.cam_bytes.specs.Reading.{◌>>=◌}
use Rattle.cam_recman.specs.declared.RecFault.{RecFault}
use Rattle.cam_recman.specs.declared.RecFault.TheVariants as records
use Rattle.cam_recman.specs.Inspect.{inspect_text}
use Rattle.cam_recman.specs.Recovery.{said_by}
use Rattle.cam_recman.specs.Migrating.{version_entry}
use Rattle.cam_image.specs.declared.fault.ImageFault.{ImageFault}
use Rattle.cam_image.specs.declared.fault.ImageFault.TheVariants.{NotALog, BadRecord, NoMemory}

-- a fault of a log, and of its records, as one of its image
abbrev pub log_fault : LogFault → ImageFault
log_fault (logs.NotALog at) = NotALog at
log_fault logs.DiskFault = NoMemory
log_fault logs.NoMemory = NoMemory

abbrev pub record_fault : RecFault → ImageFault
record_fault (records.BadRecord entry at) = BadRecord entry at
record_fault records.NoMemory = NoMemory

abbrev pub in_log : {A : Type 0} → Result A LogFault → Result A ImageFault
in_log (Ok x) = Ok x
in_log (Err fault) = Err (log_fault fault)

abbrev pub in_records : {A : Type 0} → Result A RecFault → Result A ImageFault
in_records (Ok x) = Ok x
in_records (Err fault) = Err (record_fault fault)

-- the most bytes of an image
abbrev pub most_bytes : ℕ
most_bytes = 262144

abbrev pub if_not_too_long : List ℕ → Result (List (List ℕ)) LogFault
    → Result (List (List ℕ)) ImageFault
if_not_too_long image read = if nat_lt most_bytes (length image) then Err (NotALog most_bytes)
    else in_log read

-- the entries of the image of a log, of a log with checkpoints, and of either
abbrev pub log_entries : List ℕ → Result (List (List ℕ)) ImageFault
log_entries image = if_not_too_long image (read_log image)

abbrev pub ckpt_entries : List ℕ → Result (List (List ℕ)) ImageFault
ckpt_entries image = if_not_too_long image (read_ckpt image)

-- the fourth byte is C
abbrev pub is_checkpointed : List ℕ → Bool
is_checkpointed image = get_or image 3 0 == 67

abbrev pub entries_of : List ℕ → Result (List (List ℕ)) ImageFault
entries_of image = if is_checkpointed image then ckpt_entries image else log_entries image

-- the records of an image, in words
unfoldable pub inspected : List ℕ → Result (List ℕ) ImageFault
inspected image = do
  entries ← entries_of image
  in_records (inspect_text entries)

-- The image of a log in version 2: one that is of version 2 already, up to its closed gate; and one
-- of version 1 with an entry of a Version alone after the others, and a new closed gate.
abbrev pub in_version2 : ℕ → List (List ℕ) → List ℕ → List ℕ
in_version2 version entries image =
    if version == 1 then log_bytes (entries ++ version_entry ∷ [])
    else take (gate_place entries + 1) image

unfoldable pub upgraded : List ℕ → Result (List ℕ) ImageFault
upgraded image = do
  entries ← log_entries image
  said ← in_records (said_by entries)
  Ok (in_version2 said.version entries image)
