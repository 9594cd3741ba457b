-- What a fault says of entries, by what reading them gives: out of memory says nothing.
use Rattle.std.specs.Prelude.{◌≡◌, Result, Err}
use Rattle.cam_recman.specs.declared.RecFault.{RecFault}
use Rattle.cam_recman.specs.declared.RecFault.TheVariants.{BadRecord, NoMemory}

abbrev pub Refuses : {A : Type 0} → RecFault → Result A RecFault → Type 0
Refuses (BadRecord entry at) reading = reading ≡ Err (BadRecord entry at)
Refuses NoMemory reading = Unit {0}
