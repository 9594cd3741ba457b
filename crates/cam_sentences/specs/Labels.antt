-- The labels by which refusals are called.
use Rattle.std.specs.Prelude.{ℕ, List, codes}
use Rattle.cam_event.specs.declared.LineRefusal.{LineRefusal}
use Rattle.cam_event.specs.declared.LineRefusal.TheVariants.{Unbound, NoLetter, Halted, Ended, OpenCall, OpenChild, NotOpen, TooDeep, NothingToDo}

abbrev pub label : LineRefusal → List ℕ
label Unbound = codes "L1"
label NoLetter = codes "L2"
label Halted = codes "L3"
label Ended = codes "L4"
label OpenCall = codes "L5"
label OpenChild = codes "L6"
label NotOpen = codes "L7"
label TooDeep = codes "L8"
label NothingToDo = codes "L9"
