-- What is answered of the image of a log: its records in words, or the image of the same log in version 2; or a refusal.
use Rattle.std.specs.Prelude.{ℕ, ◌≡◌, List, [], ◌∷◌, Result, Ok, Err, codes, decimal}
use Rattle.cam_base.specs.Lines.{line}
use Rattle.cam_image.specs.declared.fault.ImageFault.{ImageFault}
use Rattle.cam_image.specs.declared.fault.ImageFault.TheVariants.{NotALog, BadRecord, NoMemory}
use Rattle.cam_image.specs.Images.{inspected, upgraded}
use Rattle.cam_run.specs.declared.image.Making.{Making}
use Rattle.cam_run.specs.declared.image.Making.TheVariants.{Text, Version2}

-- what is made of an image
abbrev pub made : Making → List ℕ → Result (List ℕ) ImageFault
made Text image = inspected image
made Version2 image = upgraded image

-- `refused log AT`, and `refused record ENTRY AT`
abbrev pub no_log_text : ℕ → List ℕ
no_log_text at = line (codes "refused" ∷ codes "log" ∷ decimal at ∷ [])

abbrev pub no_record_text : ℕ → ℕ → List ℕ
no_record_text entry at = line (codes "refused" ∷ codes "record" ∷ decimal entry ∷ decimal at ∷ [])

-- the answer to an image that is refused
abbrev pub IsRefusedImage : ImageFault → ℕ → List ℕ → Type 0
IsRefusedImage (NotALog at) status text = (status ≡ 3) × (text ≡ no_log_text at)
IsRefusedImage (BadRecord entry at) status text = (status ≡ 3) × (text ≡ no_record_text entry at)
IsRefusedImage NoMemory status text = ⊥

-- the answer to an image of which this is made
abbrev pub IsOfImage : Result (List ℕ) ImageFault → ℕ → List ℕ → Type 0
IsOfImage (Ok bytes) status text = (status ≡ 0) × (text ≡ bytes)
IsOfImage (Err fault) status text = IsRefusedImage fault status text

-- its status, where nothing fails
abbrev pub image_status : Result (List ℕ) ImageFault → ℕ
image_status (Ok bytes) = 0
image_status (Err (NotALog at)) = 3
image_status (Err (BadRecord entry at)) = 3
image_status (Err NoMemory) = 7
