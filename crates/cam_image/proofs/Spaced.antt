-- Words with a blank between them: the first ones, and each further one after a blank.
use Rattle.std.proofs.Common.{◌≡◌, ℕ, List, [], ◌∷◌, ◌++◌, map, sym, ap, ◌∙◌, append-nil, append_assoc, codes}
use Rattle.std.specs.List.{flat_map}
use Rattle.cam_base.specs.Lines.{words}
use Rattle.cam_names.specs.Dependencies.{pairs_of}
use Rattle.cam_names.specs.Text.{name_text}
use Rattle.cam_names.specs.Part.{PartFields}
use Rattle.cam_recman.specs.declared.Record.{Record}
use Rattle.cam_recman.specs.declared.Record.TheVariants.{Commit}
use Rattle.cam_recman.specs.Inspect.{pair_text, record_words}

-- pairs, each after a blank
abbrev pub spaced : List (ℕ × ℕ) → List ℕ
spaced pairs = flat_map (λ pair. 32 ∷ pair_text pair) pairs

words_one : (w : List ℕ) (pairs : List (ℕ × ℕ))
    → words (w ∷ map pair_text pairs) ≡ w ++ spaced pairs
words_one w [] = sym (append-nil w)
words_one w (pair ∷ pairs) = ap (λ (r : List ℕ). w ++ 32 ∷ r) (words_one (pair_text pair) pairs)

words_two : (v w : List ℕ) (pairs : List (ℕ × ℕ))
    → words (v ∷ w ∷ map pair_text pairs) ≡ words (v ∷ w ∷ []) ++ spaced pairs
words_two v w pairs = ap (λ (r : List ℕ). v ++ 32 ∷ r) (words_one w pairs)
    ∙ sym (append_assoc v (32 ∷ w) (spaced pairs))

-- a name is written, and then the pairs after it
pub commit_words : (one : Record) (a : List PartFields) (d : List ℕ) (old mid new : List ℕ)
    → one ≡ Commit a d
    → mid ≡ old ++ words (codes "commit" ∷ name_text a ∷ []) → new ≡ mid ++ spaced (pairs_of d)
    → new ≡ old ++ words (record_words one)
commit_words one a d old mid new is named paired =
    paired ∙ ap (λ (t : List ℕ). t ++ spaced (pairs_of d)) named
    ∙ append_assoc old (words (codes "commit" ∷ name_text a ∷ [])) (spaced (pairs_of d))
    ∙ ap (λ (t : List ℕ). old ++ t) (sym (words_two (codes "commit") (name_text a) (pairs_of d))
    ∙ ap (λ (r : Record). words (record_words r)) (sym is))
