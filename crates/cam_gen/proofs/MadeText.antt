-- A line of plain words: what it owes to stand in a script that is made, and how long it is.
use Rattle.std.proofs.Common.{◌≡◌, ℕ, ◌+◌, ◌≤◌, true, List, [], ◌∷◌, ◌++◌, length, ap, arith, length-append}
use Rattle.cam_base.specs.Lines.{words}
use Rattle.cam_script.specs.declared.Step.{Step}
use Rattle.cam_script.specs.Grammar.{read_line}
use Rattle.cam_script.specs.SoFar.{Variable}
use Rattle.cam_gen.proofs.PlainWords.{all_from, spaced, words_are}
use Rattle.cam_gen.proofs.MadeLines.{Goes, made}

-- the line that is written here is read, and goes on with so many variables
pub record IsLine (steps : List Step) (variables : List Variable) (spent number : ℕ) (text : List ℕ)
    (k : ℕ) : Type 0 where
  pub line : List ℕ
  pub is : text ≡ line ++ 10 ∷ []
  pub shown : all_from 32 line ≡ true
  pub few : length line ≤ 24
  pub goes : Goes (read_line (made steps variables spent) number line) k (spent + 1)

-- a line with so few bytes beside the blanks
pub line_few : (w : List ℕ) (ws : List (List ℕ)) → length w + length (spaced ws) ≤ 24
    → length (words (w ∷ ws)) ≤ 24
line_few w ws few =
    omega (arith, few, ap (λ (t : List ℕ). length t) (words_are w ws), length-append w (spaced ws))

-- a word more
pub one_short : (w : List ℕ) (ws : List (List ℕ))
    → length (spaced (w ∷ ws)) ≡ 1 + (length w + length (spaced ws))
one_short w ws = omega (arith, length-append w (spaced ws))
