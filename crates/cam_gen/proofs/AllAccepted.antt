-- Each script that is made is accepted: its lines are read one after another, and it is not too
-- long.
use Rattle.std.proofs.Common.{◌≡◌, ℕ, zero, suc, ◌+◌, ◌*◌, ◌==◌, if◌then◌else◌, Bool, ◌<◌, ◌≤◌, le-leb, nat_le, List, [], ◌∷◌, ◌++◌, length, Result, Ok, codes, refl, sym, ap, ◌∙◌, subst, arith, inl, inr, append_assoc, length-append}
use Rattle.std.specs.Prelude.{IsOk}
use Rattle.std.proofs.lemmas.Nat.{mod_below}
use Rattle.std.proofs.lemmas.Bool.Decides.{eqb_tells}
use Rattle.cam_base.specs.Lines.{line}
use Rattle.cam_words.specs.declared.fault.ScriptFault.{ScriptFault}
use Rattle.cam_words.specs.Words.{◌>>=◌}
use Rattle.cam_words.specs.Lines.{lines_of}
use Rattle.cam_words.specs.Numbers.{new_name_at, node_at, number_at, value_at}
use Rattle.cam_script.specs.declared.Script.{Script}
use Rattle.cam_script.specs.declared.Step.{Step}
use Rattle.cam_script.specs.Declarations.{kind_word_at, nodes_line, object_line, start_at}
use Rattle.cam_script.specs.Grammar.{read_line, read_lines, read_script, with_word}
use Rattle.cam_script.specs.SoFar.{SoFar, Variable, nothing}
use Rattle.cam_gen.specs.Draws.{draw_at, drawn, next_state, state_after}
use Rattle.cam_gen.specs.Script.{Written, begin_step, declarations, drain_step, script_of, step_at, step_of, steps_from}
use Rattle.cam_gen.proofs.DrawnSteps.{counted, either}
use Rattle.cam_gen.proofs.PlainWords.{next_line}
use Rattle.cam_gen.proofs.MadeLines.{Has, made}
use Rattle.cam_gen.proofs.MadeText.{IsLine}
use Rattle.cam_gen.proofs.MadeSteps.{abort_is, call_is, commit_is, drain_is, restart_is}
use Rattle.cam_gen.proofs.MadeVariables.{ask_is, begin_is}

below : (s n : ℕ) → 0 < n → drawn s n < n
below s n some = mod_below (draw_at s 0) n some

-- each step
module _ (steps : List Step) (vs : List Variable) (k spent number : ℕ) (has : Has vs k)
    (small : k < 512) (room : spent < 512) where
  abbrev IsRead : Written → Type 0
  IsRead step = IsLine steps vs spent number step.text step.variables

  begun : (s : ℕ) → IsRead (begin_step s k)
  begun s = begin_is steps vs k spent number has small room (drawn s 3) (below s 3 (omega arith))

  calm : (s : ℕ) → IsRead (drain_step s k)
  calm s = drain_is steps vs k spent number has small room

  of_kind : (kind s : ℕ) → 0 < k → IsRead (step_of kind s k)
  of_kind kind s some =
      either IsRead (nat_le kind 1) _ _ (begun s)
      (either IsRead (kind == 2) _ _
      (ask_is steps vs k spent number has small room (drawn s k) (drawn (next_state s) 3)
      (below s k some) (below (next_state s) 3 (omega arith)))
      (either IsRead (nat_le kind 5) _ _
      (call_is steps vs k spent number has small room (drawn s k) (drawn (next_state s) 4)
      (drawn (state_after s 2) 3) (drawn (state_after s 3) 100)
      (below s k some) (below (next_state s) 4 (omega arith))
      (below (state_after s 2) 3 (omega arith)) (below (state_after s 3) 100 (omega arith)))
      (either IsRead (kind == 6) _ _
      (commit_is steps vs k spent number has small room (drawn s k) (below s k some))
      (either IsRead (kind == 7) _ _
      (abort_is steps vs k spent number has small room (drawn s k) (below s k some))
      (either IsRead (kind == 8) _ _
      (either IsRead (drawn s 8 == 0) _ _
      (restart_is steps vs k spent number has small room (drawn (next_state s) 3)
      (below (next_state s) 3 (omega arith))) (calm (next_state s)))
      (calm s))))))

  step_is : (s : ℕ) → IsRead (step_at s k)
  step_is s = elim (eqb_tells k 0) [
    | inl none ↦ subst
        (λ (b : Bool). IsRead (if b then begin_step s k else step_of (drawn s 10) (next_state s) k))
        (sym none.0) (begun s)
    | inr some ↦ subst (λ (b : Bool).
        IsRead (if b then begin_step s k else step_of (drawn s 10) (next_state s) k)) (sym some.0)
        (of_kind (drawn s 10) (next_state s) (omega (arith, some.1)))
  ]

-- the rest of a script, from a step on
abbrev rest_of : ℕ → ℕ → ℕ → List ℕ
rest_of left s k = steps_from left s k ++ line (codes "drain" ∷ [])

record IsRest (d : SoFar) (number left s k : ℕ) : Type 0 where
  ok : IsOk (read_lines d number (lines_of (rest_of left s k)))
  few : length (steps_from left s k) ≤ 25 * left

-- a line is read, and then the lines behind it
line_read : (d next : SoFar) (number : ℕ) (one text : List ℕ) (rest : List ℕ)
    → lines_of text ≡ one ∷ lines_of rest → read_line d number one ≡ Ok next
    → IsOk (read_lines next (number + 1) (lines_of rest))
    → IsOk (read_lines d number (lines_of text))
line_read d next number one text rest lines is ok =
    subst (λ (ls : List (List ℕ)). IsOk (read_lines d number ls)) (sym lines)
    (subst (λ (r : Result SoFar ScriptFault).
    IsOk (r >>= λ n. read_lines n (number + 1) (lines_of rest))) (sym is) ok)

read_on : (left : ℕ) (steps : List Step) (vs : List Variable) (k spent number s : ℕ) → Has vs k
    → k ≤ spent → spent + left < 512
    → IsRest (made steps vs spent) number left s k
read_on zero steps vs k spent number s has few room =
    let l = drain_is steps vs k spent number has (omega (arith, few, room)) (omega (arith, room)) in
    record {
      ok = line_read (made steps vs spent) (made l.goes.steps l.goes.variables (spent + 1)) number
          l.line (line (codes "drain" ∷ [])) []
          (ap lines_of l.is ∙ next_line l.line [] l.shown) l.goes.is refl;
      few = omega arith;
    }
read_on (suc left) steps vs k spent number s has few room =
    let l = step_is steps vs k spent number has (omega (arith, few, room))
    (omega (arith, room)) s in
    let step = step_at s k in
    let more = steps_from left step.state step.variables in
    let drain = line (codes "drain" ∷ []) in
    let next = read_on left l.goes.steps l.goes.variables step.variables (spent + 1) (number + 1)
    step.state l.goes.has (omega (arith, few, counted s k)) (omega (arith, room)) in
    let text : rest_of (suc left) s k ≡ l.line ++ 10 ∷ (more ++ drain) =
    append_assoc step.text more drain ∙ ap (λ (t : List ℕ). t ++ (more ++ drain)) l.is
    ∙ append_assoc l.line (10 ∷ []) (more ++ drain) in
    record {
      ok = line_read (made steps vs spent) (made l.goes.steps l.goes.variables (spent + 1)) number
          l.line (rest_of (suc left) s k) (more ++ drain)
          (ap lines_of text ∙ next_line l.line (more ++ drain) l.shown) l.goes.is next.ok;
      few = omega (
        arith,
        next.few,
        l.few,
        length-append step.text more,
        ap (λ (t : List ℕ). length t) l.is,
        length-append l.line (10 ∷ []),
      );
    }

-- the declarations
abbrev five_lines : List (List ℕ)
five_lines = codes "nodes 3" ∷ codes "object r1 1 register 0" ∷ codes "object r2 2 register 0"
    ∷ codes "object r3 3 register 0" ∷ codes "object q1 1 queue" ∷ []

lines_declared : (rest : List ℕ) → lines_of (declarations ++ rest) ≡ five_lines ++ lines_of rest
lines_declared rest = refl

declared : (rest : List (List ℕ))
    → read_lines nothing 1 (five_lines ++ rest) ≡ read_lines (made [] [] 0) 6 rest
unfolding read_line with_word nodes_line object_line kind_word_at start_at number_at node_at
    value_at new_name_at
declared rest = refl

pub each_is_accepted : (seed size : ℕ) → size ≤ 400 → IsOk (read_script (script_of seed size))
each_is_accepted seed size few =
    let none : Has [] 0 = record { names = refl; many = refl; usable = tt } in
    let rest = read_on size [] [] 0 0 6 seed none (omega arith) (omega (arith, few)) in
    let split : script_of seed size ≡ declarations ++ rest_of size seed 0 = append_assoc
    declarations (steps_from size seed 0) (line (codes "drain" ∷ [])) in
    let short : length (script_of seed size) ≤ 262144 = omega (
      arith,
      rest.few,
      few,
      ap (λ (t : List ℕ). length t) split,
      length-append declarations (rest_of size seed 0),
      length-append (steps_from size seed 0) (line (codes "drain" ∷ [])),
    ) in
    let all : read_lines nothing 1 (lines_of (script_of seed size))
    ≡ read_lines (made [] [] 0) 6 (lines_of (rest_of size seed 0)) =
    ap (λ (t : List ℕ). read_lines nothing 1 (lines_of t)) split
    ∙ ap (λ (ls : List (List ℕ)). read_lines nothing 1 ls) (lines_declared (rest_of size seed 0))
    ∙ declared (lines_of (rest_of size seed 0)) in
    rw (le-leb (length (script_of seed size)) 262144 short)
    (subst (λ (r : Result Script ScriptFault). IsOk r) (sym all) rest.ok)
