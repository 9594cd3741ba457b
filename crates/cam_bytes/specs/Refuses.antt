-- What a fault says of the bytes, by what reading them gives: running out of memory says nothing.
use Rattle.std.specs.Prelude.{◌≡◌, Result, Err}
use Rattle.cam_bytes.specs.declared.WireFault.{WireFault}
use Rattle.cam_bytes.specs.declared.WireFault.TheVariants.{Short, BadTag, BadNumber, Order, Rest, NoMemory}

abbrev pub Refuses : {A : Type 0} → WireFault → Result A WireFault → Type 0
Refuses (Short at) reading = reading ≡ Err (Short at)
Refuses (BadTag at) reading = reading ≡ Err (BadTag at)
Refuses (BadNumber at) reading = reading ≡ Err (BadNumber at)
Refuses (Order at) reading = reading ≡ Err (Order at)
Refuses (Rest at) reading = reading ≡ Err (Rest at)
Refuses NoMemory reading = Unit {0}
