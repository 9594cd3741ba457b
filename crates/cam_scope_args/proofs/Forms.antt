-- What is told of words is so of their forms.
use Rattle.std.proofs.Common.{◌≡◌, ◌≤◌, suc, drop, if◌then◌else◌, ◌⊎◌, inl, inr, ◌∙◌, ◌&&◌, ◌||◌, ◌++◌, ℕ, Bool, true, false, not, refl, sym, ap, ap₂, arith, List, [], ◌∷◌, codes, length, map, string_bytes, Option, Some, None, IfNone, is_some}
use Rattle.std.specs.List.{list_all, list_any}
use mathlib.Core.Bool.{true≢false}
use Rattle.cam_scope_args.specs.declared.question.Lit.TheVariants.{All, Action, Stop}
use Rattle.cam_scope_args.specs.declared.question.Question.{Question}
use Rattle.cam_scope_args.specs.declared.question.Question.TheVariants.{Explain, Columns, Draw, Shiviz, Check, Shrink, Orders, Sweep, Compare}
use Rattle.cam_scope_args.specs.declared.words.Request.{Request}
use Rattle.cam_scope_args.specs.declared.words.Request.TheVariants.{Tell, Gen, Help, Version}
use Rattle.cam_scope_args.specs.Forms.{is_dashed, is_number, is_option, AreWordsOf, IsForm, IsNoForm, TakesSoMany}
use Rattle.cam_scope_args.specs.Tests.{are_files, are_numbers, are_two, is_asked, is_form, is_one_at_most, is_plain, is_swept, leading_options, takes_option}

either : (a b : Bool) → b ≡ true → (a || b) ≡ true
either true b is = refl
either false b is = is

-- a word without an option
plain_passes : (word : List ℕ) (files : List (List ℕ)) → is_plain word ≡ true → length files ≤ 1
    → list_any is_dashed files ≡ false → is_asked word files ≡ true
plain_passes word [] plain few names = ap (λ (b : Bool). b && true) plain
plain_passes word (f ∷ []) plain few names = ap₂ (λ (a b : Bool). a && not b) plain names
plain_passes word (f ∷ g ∷ fs) plain few names = absurd (omega (arith, few))

plain_passes_behind : (word : List ℕ) (files : List (List ℕ)) → is_plain word ≡ true
    → length files ≤ 1 → list_any is_dashed files ≡ false → is_asked word (files ++ []) ≡ true
plain_passes_behind word [] plain few names = ap (λ (b : Bool). b && true) plain
plain_passes_behind word (f ∷ []) plain few names = ap₂ (λ (a b : Bool). a && not b) plain names
plain_passes_behind word (f ∷ g ∷ fs) plain few names = absurd (omega (arith, few))

-- a word with an option
option_passes : (word option value : List ℕ) (files : List (List ℕ))
    → takes_option word option value ≡ true → length files ≤ 1 → list_any is_dashed files ≡ false
    → is_asked word (option ∷ value ∷ files) ≡ true
option_passes word option value [] takes few names = takes
option_passes word option value (f ∷ []) takes few names =
    ap₂ (λ (a b : Bool). (a && not b) || (takes_option word value f && are_files (option ∷ [])))
    takes names
option_passes word option value (f ∷ g ∷ fs) takes few names = absurd (omega (arith, few))

option_passes_behind : (word option value : List ℕ) (files : List (List ℕ))
    → takes_option word option value ≡ true → length files ≤ 1 → list_any is_dashed files ≡ false
    → is_asked word (files ++ option ∷ value ∷ []) ≡ true
option_passes_behind word option value [] takes few names = takes
option_passes_behind word option value (f ∷ []) takes few names =
    either (takes_option word f option && are_files (value ∷ []))
    (takes_option word option value && are_files (f ∷ []))
    (ap₂ (λ (a b : Bool). a && not b) takes names)
option_passes_behind word option value (f ∷ g ∷ fs) takes few names = absurd (omega (arith, few))

-- any number of files
files_pass : (files : List (List ℕ)) → list_any is_dashed files ≡ false
    → is_form (codes "check" ∷ files) ≡ true
files_pass files names = ap not names

nothing_behind : (files : List (List ℕ)) → files ++ [] ≡ files
nothing_behind [] = refl
nothing_behind (f ∷ fs) = ap (λ (gs : List (List ℕ)). f ∷ gs) (nothing_behind fs)

-- two files
two_pass : (files : List (List ℕ)) → length files ≡ 2 → list_any is_dashed files ≡ false → are_two files ≡ true
two_pass [] two names = absurd (omega (arith, two))
two_pass (a ∷ []) two names = absurd (omega (arith, two))
two_pass (a ∷ b ∷ []) two names = ap not names
two_pass (a ∷ b ∷ c ∷ rest) two names = absurd (omega (arith, two))

-- options of a sweep, and one file at most
file_passes : (files : List (List ℕ)) → length files ≤ 1 → list_any is_dashed files ≡ false → is_swept files ≡ true
file_passes [] few names = refl
file_passes (f ∷ []) few names = by (is_option f)
  where
    by : (b : Bool)
        → (is_one_at_most (drop (if b then suc 0 else 0) (f ∷ [])) && are_files (drop (if b then suc 0 else 0) (f ∷ []))) ≡ true
    by true = refl
    by false = ap not names
file_passes (f ∷ g ∷ fs) few names = absurd (omega (arith, few))

sweep_passes : (options files : List (List ℕ)) → list_all is_option options ≡ true → length files ≤ 1
    → list_any is_dashed files ≡ false → is_swept (options ++ files) ≡ true
sweep_passes [] files are few names = file_passes files few names
sweep_passes (o ∷ os) files are few names =
    by (is_option o) (list_all is_option os) refl are (λ rest. sweep_passes os files rest few names)
  where
    by : (b all : Bool) → list_all is_option os ≡ all → (b && all) ≡ true
        → (list_all is_option os ≡ true → is_swept (os ++ files) ≡ true)
        → (is_one_at_most (drop (if b then suc (leading_options (os ++ files)) else 0) (o ∷ os ++ files))
        && are_files (drop (if b then suc (leading_options (os ++ files)) else 0) (o ∷ os ++ files))) ≡ true
    by true true rest both passes = passes rest
    by true false rest both passes = absurd (true≢false (sym both))
    by false all rest both passes = absurd (true≢false (sym both))

-- by the question
question_passes : (words : List (List ℕ)) (question : Question) (files : List (List ℕ))
    → AreWordsOf words question files → TakesSoMany question files → list_any is_dashed files ≡ false
    → is_form words ≡ true
question_passes words Explain files (can, inl is) few names = ap is_form is ∙ plain_passes (codes "explain") files refl few names
question_passes words Explain files (can, inr (behind, is)) few names = ap is_form is ∙ plain_passes_behind (codes "explain") files refl few names
question_passes words Columns files (can, inl is) few names = ap is_form is ∙ plain_passes (codes "columns") files refl few names
question_passes words Columns files (can, inr (behind, is)) few names = ap is_form is ∙ plain_passes_behind (codes "columns") files refl few names
question_passes words (Draw All) files (can, inl is) few names = ap is_form is ∙ plain_passes (codes "draw") files refl few names
question_passes words (Draw All) files (can, inr (behind, is)) few names = ap is_form is ∙ plain_passes_behind (codes "draw") files refl few names
question_passes words (Draw (Action name)) files (can, inl is) few names =
    ap is_form is ∙ option_passes (codes "draw") (codes "--action") name.now files (ap not can) few names
question_passes words (Draw (Action name)) files (can, inr (behind, is)) few names =
    ap is_form is ∙ option_passes_behind (codes "draw") (codes "--action") name.now files (ap not can) few names
question_passes words (Draw (Stop event)) files (can, inl is) few names =
    ap is_form is ∙ option_passes (codes "draw") (codes "--stop") event.now files can few names
question_passes words (Draw (Stop event)) files (can, inr (behind, is)) few names =
    ap is_form is ∙ option_passes_behind (codes "draw") (codes "--stop") event.now files can few names
question_passes words Shiviz files (can, inl is) few names = ap is_form is ∙ plain_passes (codes "shiviz") files refl few names
question_passes words Shiviz files (can, inr (behind, is)) few names = ap is_form is ∙ plain_passes_behind (codes "shiviz") files refl few names
question_passes words Check files (can, inl is) few names = ap is_form is ∙ files_pass files names
question_passes words Check files (can, inr (behind, is)) few names =
    ap is_form is ∙ ap (λ (fs : List (List ℕ)). is_form (codes "check" ∷ fs)) (nothing_behind files)
    ∙ files_pass files names
question_passes words (Shrink line) files (can, inl is) few names =
    ap is_form is ∙ option_passes (codes "shrink") (codes "--keep") line.now files (ap not can) few names
question_passes words (Shrink line) files (can, inr (behind, is)) few names =
    ap is_form is ∙ option_passes_behind (codes "shrink") (codes "--keep") line.now files (ap not can) few names
question_passes words Orders files (can, inl is) few names = ap is_form is ∙ plain_passes (codes "orders") files refl few names
question_passes words Orders files (can, inr (behind, is)) few names = ap is_form is ∙ plain_passes_behind (codes "orders") files refl few names
question_passes words (Sweep options) files (can, inl is) few names =
    ap is_form is ∙ sweep_passes (map string_bytes options.now) files can few names
question_passes words (Sweep options) files (can, inr (behind, is)) few names = absurd behind
question_passes words Compare files (can, inl is) few names = ap is_form is ∙ two_pass files few names
question_passes words Compare files (can, inr (behind, is)) few names =
    ap is_form is ∙ ap (λ (fs : List (List ℕ)). is_form (codes "compare" ∷ fs)) (nothing_behind files)
    ∙ two_pass files few names

form_passes : (words : List (List ℕ)) (request : Request) → IsForm words request → is_form words ≡ true
form_passes words (Tell question files) form =
    question_passes words question (map string_bytes files.now) form.spelt form.many form.names
form_passes words (Gen seed size) form =
    ap is_form form.spelt ∙ ap₂ (λ (a b : Bool). a && b) form.from form.long
form_passes words Help form = ap is_form form
form_passes words Version form = ap is_form form

pub without_form : (words : List (List ℕ)) (found : Option Request) → is_some found ≡ is_form words
    → IfNone found (IsNoForm words)
without_form words (Some request) is = tt
without_form words None is = λ request form. true≢false (sym (form_passes words request form) ∙ sym is)
