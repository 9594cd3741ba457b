-- The scripts of the worked runs by time, as they are written.
use Rattle.std.specs.Prelude.{◌≡◌, ℕ, List, [], ◌∷◌, codes, Ok}
use Rattle.cam_timed.specs.Rows.{text, quiet_script, expiry_script, grandchild_script}
use Rattle.cam_timed.specs.TimedGrammar.{read_timed}

-- a quiet answer
abbrev pub quiet_lines : List ℕ
quiet_lines =
    text
    (codes "nodes 2" ∷ codes "object x 2 register 1"
    ∷ codes "begin P 1 100" ∷ codes "ask P C 2 50" ∷ codes "drain"
    ∷ codes "call C x write 4" ∷ codes "drain" ∷ codes "giveup P C" ∷ codes "tick 1 50"
    ∷ codes "giveup P C" ∷ codes "call C x read" ∷ codes "tell 1 2" ∷ codes "drain"
    ∷ codes "abort C" ∷ [])

-- an expiry
abbrev pub expiry_lines : List ℕ
expiry_lines =
    text
    (codes "nodes 1" ∷ codes "begin P 1 5" ∷ codes "tick 1 5" ∷ codes "expire P" ∷ codes "expire P"
    ∷ codes "tick 1 5" ∷ [])

-- an abort that travels with a finish and a prepare
abbrev pub grandchild_lines : List ℕ
grandchild_lines =
    text
    (codes "nodes 3" ∷ codes "object x 3 register 0" ∷ codes "object y 3 register 0"
    ∷ codes "begin P 1 100" ∷ codes "ask P C 2 90" ∷ codes "drain"
    ∷ codes "ask C G 2 10" ∷ codes "drain" ∷ codes "call G x write 1" ∷ codes "drain"
    ∷ codes "tick 2 10" ∷ codes "giveup C G" ∷ codes "call C y write 2" ∷ codes "drain"
    ∷ codes "commit C 0" ∷ codes "drain" ∷ codes "commit P 0" ∷ codes "drain"
    ∷ codes "begin Q 1 200" ∷ codes "call Q x write 5" ∷ codes "drain" ∷ [])

-- The worked runs are those of these scripts, as the grammar reads them.
pub record RowsAreRead : Type 0 where
  pub quiet : read_timed quiet_lines ≡ Ok quiet_script
  pub expiry : read_timed expiry_lines ≡ Ok expiry_script
  pub grandchild : read_timed grandchild_lines ≡ Ok grandchild_script
