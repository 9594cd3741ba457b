-- No finding is there exactly where a script keeps its expectations.
use Rattle.std.proofs.Common.{◌≡◌, ◌↔◌, ◌&&◌, ℕ, Bool, true, false, List, [], ◌∷◌, ◌++◌, map, refl, sym, ap, ◌∙◌, if◌then◌else◌}
use Rattle.std.specs.Prelude.{String}
use Rattle.std.proofs.lemmas.Bool.{true≢false}
use Rattle.std.specs.List.{flat_map, list_all}
use Rattle.std.specs.BTreeSet.{BTreeSet}
use Rattle.cam_event.specs.declared.Mark.{Mark}
use Rattle.cam_expect.specs.declared.expected.Expectation.{Expectation}
use Rattle.cam_expect.specs.declared.findings.Finding.{Finding}
use Rattle.cam_expect.specs.Findings.{found_at, is_allowed, is_met, line_of, missed, unexpected, Holds}

abbrev is_empty : {X : Type 0} → List X → Bool
is_empty [] = true
is_empty (x ∷ xs) = false

-- the line of what does not pass
abbrev left : {X : Type 0} → (X → Bool) → (X → ℕ) → X → List ℕ
left p line x = if p x then [] else line x ∷ []

both_empty : (b : Bool) (n : ℕ) (rest : List ℕ) → (if b then [] else n ∷ []) ++ rest ≡ [] → (b ≡ true) × (rest ≡ [])
both_empty true n rest e = (refl, e)
both_empty false n rest e = absurd (true≢false (sym (ap is_empty e)))

nothing_left : (b : Bool) (n : ℕ) (rest : List ℕ) → b ≡ true → rest ≡ [] → (if b then [] else n ∷ []) ++ rest ≡ []
nothing_left true n rest e none = none
nothing_left false n rest e none = absurd (true≢false (sym e))

together : (b c : Bool) → b ≡ true → c ≡ true → (b && c) ≡ true
together true c e f = f
together false c e f = e

first_true : (b c : Bool) → (b && c) ≡ true → b ≡ true
first_true true c e = refl
first_true false c e = e

second_true : (b c : Bool) → (b && c) ≡ true → c ≡ true
second_true true c e = e
second_true false c e = absurd (true≢false (sym e))

all_pass : {X : Type 0} (p : X → Bool) (line : X → ℕ) (xs : List X) → flat_map (left p line) xs ≡ [] → list_all p xs ≡ true
all_pass p line [] e = refl
all_pass p line (x ∷ xs) e =
    let h = both_empty (p x) (line x) (flat_map (left p line) xs) e in
    together (p x) (list_all p xs) h.0 (all_pass p line xs h.1)

none_left : {X : Type 0} (p : X → Bool) (line : X → ℕ) (xs : List X) → list_all p xs ≡ true → flat_map (left p line) xs ≡ []
none_left p line [] e = refl
none_left p line (x ∷ xs) e =
    nothing_left (p x) (line x) (flat_map (left p line) xs) (first_true (p x) (list_all p xs) e)
    (none_left p line xs (second_true (p x) (list_all p xs) e))

first_empty : (xs ys : List ℕ) → xs ++ ys ≡ [] → (xs ≡ []) × (ys ≡ [])
first_empty [] ys e = (refl, e)
first_empty (x ∷ xs) ys e = absurd (true≢false (sym (ap is_empty e)))

none_mapped : (fs : List Finding) → map found_at fs ≡ [] → fs ≡ []
none_mapped [] e = refl
none_mapped (f ∷ fs) e = absurd (true≢false (sym (ap is_empty e)))

appended : (xs ys : List ℕ) → xs ≡ [] → ys ≡ [] → xs ++ ys ≡ []
appended [] ys e f = f
appended (x ∷ xs) ys e f = absurd (true≢false (sym (ap is_empty e)))

pub none_found : {Y : Type 0} (facts : BTreeSet (String Y)) (es : List Expectation) (ms : List Mark) (fs : List Finding)
    → map found_at fs ≡ flat_map (missed facts) es ++ flat_map (unexpected es) ms
    → (fs ≡ []) ↔ Holds facts es ms
none_found facts es ms fs e = (
  λ none.
      let h = first_empty (flat_map (missed facts) es) (flat_map (unexpected es) ms) (sym e ∙ ap (map found_at) none) in
      (all_pass (is_met facts) (λ x. x.line) es h.0, all_pass (is_allowed es) line_of ms h.1),
  λ holds.
      none_mapped fs (e ∙ appended (flat_map (missed facts) es) (flat_map (unexpected es) ms)
      (none_left (is_met facts) (λ x. x.line) es holds.0) (none_left (is_allowed es) line_of ms holds.1)),
)
