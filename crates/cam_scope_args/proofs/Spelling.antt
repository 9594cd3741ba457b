-- A question's word, with its option or without, spells the question.
use Rattle.std.proofs.Common.{◌≡◌, ◌≤◌, ◌<◌, arith, suc, if◌then◌else◌, inl, inr, ℕ, refl, sym, ap, ap₂, ◌∙◌, ◌++◌, Bool, true, false, ◌&&◌, not, List, [], ◌∷◌, codes, drop, take, length, map, string_bytes}
use Rattle.std.specs.List.{list_all}
use Rattle.std.proofs.lemmas.List.{drop-map, take-append-drop, take-map}
use Rattle.cam_scope_args.specs.declared.question.Question.{Question}
use Rattle.cam_scope_args.specs.Forms.{is_option, option_words, word_of, AreWordsOf, IsOption, IsPlain}
use Rattle.cam_scope_args.specs.Tests.{are_files, is_one_at_most, is_swept, leading_options}

pub plain_words : (word : List ℕ) (question : Question) (files : List (List ℕ)) → IsPlain word question
    → AreWordsOf (word ∷ files) question files
plain_words word question files is =
    (is.can, inl (ap₂ (λ (w : List ℕ) (o : List (List ℕ)). w ∷ o ++ files) is.asks (sym is.options)))

pub words_before : (word option value : List ℕ) (question : Question) (files : List (List ℕ))
    → IsOption word option value question → AreWordsOf (word ∷ option ∷ value ∷ files) question files
words_before word option value question files is =
    (is.can, inl (ap₂ (λ (w : List ℕ) (o : List (List ℕ)). w ∷ o ++ files) is.asks (sym is.options)))

pub words_behind : (word option value : List ℕ) (question : Question) (files : List (List ℕ))
    → IsOption word option value question
    → AreWordsOf (word ∷ files ++ option ∷ value ∷ []) question files
words_behind word option value question files is =
    (is.can, inr (is.behind, ap₂ (λ (w : List ℕ) (o : List (List ℕ)). w ∷ files ++ o) is.asks (sym is.options)))

-- the words with which words begin are options
pub are_options : (words : List (List ℕ)) → list_all is_option (take (leading_options words) words) ≡ true
are_options [] = refl
are_options (word ∷ rest) = by (is_option word) refl (are_options rest)
  where
    by : (b : Bool) → is_option word ≡ b → list_all is_option (take (leading_options rest) rest) ≡ true
        → list_all is_option (take (if b then suc (leading_options rest) else 0) (word ∷ rest)) ≡ true
    by true is all = ap₂ (λ (a b : Bool). a && b) is all
    by false is all = refl

-- a sweep's options, and the files behind them
pub options_are : {X : Type 0} (f : X → List ℕ) (words : List X) (many : ℕ)
    → many ≡ leading_options (map f words) → list_all is_option (map f (take many words)) ≡ true
options_are f words many is =
    ap (list_all is_option) (sym (take-map f many words))
    ∙ ap (λ (n : ℕ). list_all is_option (take n (map f words))) is ∙ are_options (map f words)

pub sweep_words : {X : Type 0} (f : X → List ℕ) (words files : List X) (many : ℕ) → files ≡ drop many words
    → codes "sweep" ∷ map f words ≡ codes "sweep" ∷ map f (take many words) ++ map f files
sweep_words f words files many behind =
    ap (λ (ws : List (List ℕ)). codes "sweep" ∷ ws)
    (sym (take-append-drop many (map f words))
    ∙ ap₂ (λ (a b : List (List ℕ)). a ++ b) (take-map f many words)
    (drop-map f many words ∙ ap (map f) (sym behind)))

pub swept_by_files : {X : Type 0} (f : X → List ℕ) (words files : List X) (many : ℕ) → files ≡ drop many words
    → many ≡ leading_options (map f words)
    → is_swept (map f words) ≡ (is_one_at_most (map f files) && are_files (map f files))
swept_by_files f words files many behind is =
    ap (λ (n : ℕ). is_one_at_most (drop n (map f words)) && are_files (drop n (map f words))) (sym is)
    ∙ ap (λ (ws : List (List ℕ)). is_one_at_most ws && are_files ws) (drop-map f many words ∙ ap (map f) (sym behind))

pub one_at_most : (words : List (List ℕ)) → length words ≤ 1 → is_one_at_most words ≡ true
one_at_most [] few = refl
one_at_most (w ∷ []) few = refl
one_at_most (w ∷ v ∷ ws) few = absurd (omega (arith, few))

pub more_than_one : (words : List (List ℕ)) → 1 < length words → is_one_at_most words ≡ false
more_than_one [] many = absurd (omega (arith, many))
more_than_one (w ∷ []) many = absurd (omega (arith, many))
more_than_one (w ∷ v ∷ ws) many = refl
