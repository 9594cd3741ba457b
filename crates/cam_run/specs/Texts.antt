-- The texts of the program beside those of a run.
use Rattle.std.specs.Prelude.{ℕ, List, [], ◌∷◌, ◌++◌, codes, decimal}
use Rattle.cam_base.specs.Lines.{line}
use Rattle.cam_args.specs.Forms.{usage}

abbrev pub usage_text : List ℕ
usage_text = usage

abbrev pub read_fault_text : List ℕ
read_fault_text = codes "read fault" ++ 10 ∷ []

-- `disk fault NODE`, the node whose disk failed
abbrev pub disk_fault_text : ℕ → List ℕ
disk_fault_text node = line (codes "disk" ∷ codes "fault" ∷ decimal node ∷ [])

-- the run has no such action, and no such stop
abbrev pub no_action_text : List ℕ
no_action_text = codes "no such action" ++ 10 ∷ []

abbrev pub no_stop_text : List ℕ
no_stop_text = codes "no such stop" ++ 10 ∷ []

-- `refused LINE COLUMN Sn`, n the number of the cause; 83 is the letter S
abbrev pub refused_text : ℕ → ℕ → ℕ → List ℕ
refused_text at_line column cause = line (codes "refused" ∷ decimal at_line ∷ decimal column ∷ (83 ∷ decimal cause) ∷ [])
