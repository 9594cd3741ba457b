-- Steps by the draw of their kind, and the words of an operation.
use Rattle.std.proofs.Common.{◌≡◌, ℕ, ◌≤◌, ◌≢◌, ◌++◌, List, [], ◌∷◌, Bool, true, false, if◌then◌else◌, ◌==◌, nat_lt, nat_le, suc, ◌<◌, append_assoc, refl, sym, ap, subst, ◌∙◌, ◌+◌, Result, Ok, Err, OnOk, arith, ne_eqb, le-leb, codes, decimal}
use Rattle.std.proofs.lemmas.Bool.{lt-leb}
use Rattle.std.proofs.lemmas.Grind.{common_steps}
use Rattle.cam_base.specs.Lines.{words, line}
use Rattle.cam_gen.specs.Draws.{next_state, state_after, drawn}
use Rattle.cam_gen.specs.Script.{Written, object_word, op_words, operation_step, call_with, begin_step, call_step, drain_step, restart_step, step_of, step_at, steps_from}
use Rattle.cam_gen.specs.Writes.{Writes}
use Rattle.cam_gen.specs.declared.script.Writer.{Writer}

-- where there is a variable the draw decides
pub kind_step : (s t k kind : ℕ) → k ≢ 0 → kind ≡ drawn s 10 → t ≡ next_state s
    → step_at s k ≡ step_of kind t k
kind_step s t k kind some drawn_kind moved =
    let drawn_step : step_at s k ≡ step_of (drawn s 10) (next_state s) k = rw
    (ne_eqb k 0 some) refl in
    drawn_step ∙ ap (λ (x : ℕ). step_of x (next_state s) k) (sym drawn_kind)
    ∙ ap (λ (x : ℕ). step_of kind x k) (sym moved)

pub restart_kind : (s t k : ℕ) → drawn s 8 ≡ 0 → t ≡ next_state s → step_of 8 s k ≡ restart_step t k
restart_kind s t k low moved = kept ∙ ap (λ (x : ℕ). restart_step x k) (sym moved)
  where
    kept : step_of 8 s k ≡ restart_step (next_state s) k
    kept = rw low refl

pub calm_kind : (s t k : ℕ) → drawn s 8 ≢ 0 → t ≡ next_state s → step_of 8 s k ≡ drain_step t k
calm_kind s t k high moved = kept ∙ ap (λ (x : ℕ). drain_step x k) (sym moved)
  where
    kept : step_of 8 s k ≡ drain_step (next_state s) k
    kept = rw (ne_eqb (drawn s 8) 0 high) refl

pub either : (P : Written → Type 0) (b : Bool) (x y : Written) → P x → P y → P (if b then x else y)
either P true x y p q = p
either P false x y p q = q

-- a step has one variable more at most
pub counted : (s k : ℕ) → (step_at s k).variables ≤ k + 1
counted s k =
    either few (k == 0) _ _ (omega arith) (of_kind (drawn s 10) (next_state s))
  where
    few : Written → Type 0
    few step = step.variables ≤ k + 1

    of_kind : (kind t : ℕ) → few (step_of kind t k)
    of_kind kind t =
        either few (nat_le kind 1) _ _ (omega arith)
        (either few (kind == 2) _ _ (omega arith) (either few (nat_le kind 5) _ _ (omega arith) (
        either few (kind == 6) _ _ (omega arith) (either few (kind == 7) _ _ (omega arith) (
        either few (kind == 8) _ _ (either few (drawn t 8 == 0) _ _ (omega arith) (omega arith))
        (omega arith))))))

pub begin_kind : (s k kind : ℕ) → kind ≤ 1 → step_of kind s k ≡ begin_step s k
begin_kind s k kind low = rw (le-leb kind 1 low) refl

pub call_kind : (s k kind : ℕ) → 3 ≤ kind → kind ≤ 5 → step_of kind s k ≡ call_step s k
call_kind s k kind low high = rw (
  lt-leb kind 1 (omega (arith, low)),
  ne_eqb kind 2 (λ (e : kind ≡ 2). omega (arith, low, e)),
  le-leb kind 5 high,
) refl

pub last_kind : (s k kind : ℕ) → 9 ≤ kind → step_of kind s k ≡ drain_step s k
last_kind s k kind low =
    rw (
      lt-leb kind 1 (omega (arith, low)),
      ne_eqb kind 2 (λ (e : kind ≡ 2). omega (arith, low, e)),
      lt-leb kind 5 (omega (arith, low)),
      ne_eqb kind 6 (λ (e : kind ≡ 6). omega (arith, low, e)),
      ne_eqb kind 7 (λ (e : kind ≡ 7). omega (arith, low, e)),
      ne_eqb kind 8 (λ (e : kind ≡ 8). omega (arith, low, e)),
    ) refl

-- the words of an operation by three choices: whether it is on a register, and which of its kind
abbrev chosen : Bool → Bool → Bool → List ℕ → List (List ℕ)
chosen register first second value =
    if register then (if first then codes "read" ∷ [] else if second then codes "write" ∷ value ∷ []
    else codes "swap" ∷ value ∷ [])
    else (if first then codes "size" ∷ [] else if second then codes "put" ∷ value ∷ []
    else codes "take" ∷ [])

words_chosen : (w : List ℕ) (register first second : Bool) (value : List ℕ)
    → words (w ∷ chosen register first second value) ≡ w
    ++ 32 ∷ words (chosen register first second value)
words_chosen w true true second value = refl
words_chosen w true false true value = refl
words_chosen w true false false value = refl
words_chosen w false true second value = refl
words_chosen w false false true value = refl
words_chosen w false false false value = refl

-- a word in front of an operation's words
pub words_op : (w : List ℕ) (object op value : ℕ)
    → words (w ∷ op_words object op value) ≡ w ++ 32 ∷ words (op_words object op value)
words_op w object op value = words_chosen w (nat_lt object 3) (op == 0) (op == 1) (decimal value)

-- What holds of an operation's line behind the start of its call holds of the call's.
pub call_writes : (before mid : List ℕ) (new : Writer) (x object op s second third t k : ℕ)
    → x ≡ drawn s k → second ≡ next_state s → object ≡ drawn second 4 → third ≡ next_state second
    → op ≡ drawn third 3 → t ≡ next_state third
    → mid ≡ before ++ (codes "call A" ++ decimal (x + 1) ++ 32 ∷ object_word object ++ 32 ∷ [])
    → Writes mid new (operation_step object op t k) → Writes before new (call_step s k)
call_writes before mid new x object op s second third t k of_x to_second of_object to_third of_op
    to_t begun wrote =
    subst (λ (step : Written). Writes before new step) same
    (record {
      text = wrote.text ∙ ap (λ (m : List ℕ). m ++ line (op_words object op (drawn t 100)))
          begun ∙ moved;
      state = wrote.state;
      variables = wrote.variables;
    })
  where
    at_third : third ≡ state_after s 2
    at_third = to_third ∙ ap next_state to_second

    at_t : t ≡ state_after s 3
    at_t = to_t ∙ ap next_state at_third

    same : call_with x object op t k ≡ call_step s k
    same =
        ap (λ (a : ℕ). call_with a object op t k) of_x
        ∙ ap (λ (a : ℕ). call_with (drawn s k) a op t k)
        (of_object ∙ ap (λ (a : ℕ). drawn a 4) to_second)
        ∙ ap (λ (a : ℕ). call_with (drawn s k) (drawn (next_state s) 4) a t k)
        (of_op ∙ ap (λ (a : ℕ). drawn a 3) at_third)
        ∙ ap (λ (a : ℕ). call_with (drawn s k) (drawn (next_state s) 4)
        (drawn (state_after s 2) 3) a k) at_t

    spaced : words (object_word object ∷ op_words object op (drawn t 100))
        ≡ object_word object ++ 32 ∷ words (op_words object op (drawn t 100))
    spaced = words_op (object_word object) object op (drawn t 100)

    moved : (before ++ (codes "call A" ++ decimal (x + 1) ++ 32 ∷ object_word object ++ 32 ∷ []))
        ++ line (op_words object op (drawn t 100)) ≡ before ++ (call_with x object op t k).text
    moved = grind (arith, common_steps, spaced)

pub register_word : (object : ℕ) → object < 3
    → object_word object ≡ codes "r" ++ decimal (object + 1)
register_word object low = rw (le-leb (suc object) 3 low) refl

pub queue_word : (object : ℕ) → object ≡ 3 → object_word object ≡ codes "q1"
queue_word object is = ap object_word is

-- the steps that are left, after one of them
pub one_more : (before now whole : List ℕ) (s k t j left fewer : ℕ)
    → now ≡ before ++ (step_at s k).text → t ≡ (step_at s k).state → j ≡ (step_at s k).variables
    → left ≡ suc fewer
    → before ++ steps_from left s k ≡ whole → now ++ steps_from fewer t j ≡ whole
one_more before now whole s k t j left fewer wrote moved counts less stands =
    ap (λ (m : List ℕ). m ++ steps_from fewer t j) wrote
    ∙ append_assoc before (step_at s k).text (steps_from fewer t j)
    ∙ ap (λ (u : ℕ). before ++ ((step_at s k).text ++ steps_from fewer u j)) moved
    ∙ ap (λ (u : ℕ). before ++ ((step_at s k).text ++ steps_from fewer (step_at s k).state u))
    counts
    ∙ ap (λ (n : ℕ). before ++ steps_from n s k) (sym less) ∙ stands

pub on_ok : {T E P Q : Type 0} (r : Result T E) → (P → Q) → OnOk r P → OnOk r Q
on_ok (Ok v) f p = f p
on_ok (Err e) f p = p
