-- A drain ends in runs in which nodes halt: each delivery, at a halt too, lowers the weight of the
-- letters that wait, so at its end none waits for a node that is not halted.
use Rattle.std.specs.Prelude.{◌≡◌, ℕ, ◌<◌, Bool, List, Some, None}
use Rattle.cam_type.specs.declared.ObjectDecl.{ObjectDecl}
use Rattle.cam_event.specs.declared.LetterId.{LetterId}
use Rattle.cam_event.specs.Readings.{Reading, by_pasts, by_knowledge}
use Rattle.cam_script.specs.declared.Statement.{Statement}
use Rattle.cam_runs.specs.Running.{waiting_weight}
use Rattle.cam_runs.specs.Halts.{Halting}
use Rattle.cam_runs.specs.Standing.{Standing, Setting, deliver, waiting, drain}
use Rattle.cam_runs.specs.HaltedPlaying.{play}

-- a setting of a reading, whichever inputs are halts
abbrev pub setting_of : Reading → Halting → ℕ → (ℕ → Bool) → Setting
setting_of reading halts line restarted =
    record { reading = reading; halts = halts; line = line; restarted = restarted }

-- The delivery of the letter that waits lowers the weight,
abbrev pub HaltedLowers : Reading → Type 0
HaltedLowers reading =
    (halts : Halting) (line : ℕ) (restarted : ℕ → Bool) (st : Standing) (w : ℕ × LetterId)
    → waiting st ≡ Some w
    → waiting_weight (deliver (setting_of reading halts line restarted) st w.0 w.1).running
    < waiting_weight st.running

-- so a drain leaves none waiting,
abbrev pub HaltedLeavesNone : Reading → Type 0
HaltedLeavesNone reading =
    (halts : Halting) (line : ℕ) (restarted : ℕ → Bool) (st : Standing)
    → waiting (drain (setting_of reading halts line restarted) st) ≡ None

-- nor does a play.
abbrev pub HaltedPlayLeavesNone : Reading → Type 0
HaltedPlayLeavesNone reading =
    (halts : Halting) (line : ℕ) (restarted : ℕ → Bool) (bodies : List (List Statement))
    (st : Standing)
    → waiting (play (setting_of reading halts line restarted) bodies st) ≡ None

-- By either reading, whatever came before.
abbrev pub HaltedDeliveriesLower : Type 0
HaltedDeliveriesLower =
    (objects : List ObjectDecl)
    → HaltedLowers (by_pasts objects) × HaltedLowers (by_knowledge objects)

abbrev pub HaltedDrainsLeaveNone : Type 0
HaltedDrainsLeaveNone =
    (objects : List ObjectDecl)
    → HaltedLeavesNone (by_pasts objects) × HaltedLeavesNone (by_knowledge objects)

abbrev pub HaltedPlaysLeaveNone : Type 0
HaltedPlaysLeaveNone =
    (objects : List ObjectDecl)
    → HaltedPlayLeavesNone (by_pasts objects) × HaltedPlayLeavesNone (by_knowledge objects)

-- So a drain is its next delivery and the drain of what stands then,
abbrev pub DrainGoesOn : Reading → Type 0
DrainGoesOn reading =
    (halts : Halting) (line : ℕ) (restarted : ℕ → Bool) (st : Standing) (w : ℕ × LetterId)
    → waiting st ≡ Some w
    → drain (setting_of reading halts line restarted) st
    ≡ drain (setting_of reading halts line restarted)
    (deliver (setting_of reading halts line restarted) st w.0 w.1)

abbrev pub HaltedDrainsGoOn : Type 0
HaltedDrainsGoOn =
    (objects : List ObjectDecl) → DrainGoesOn (by_pasts objects) × DrainGoesOn (by_knowledge objects)

-- and changes nothing where none waits.
abbrev pub DrainsAreOver : Type 0
DrainsAreOver = (c : Setting) (st : Standing) → waiting st ≡ None → drain c st ≡ st
