-- What is among outcomes is among their aborts or their commits, sorted or not.
use Rattle.std.proofs.Common.{◌≡◌, inl, inr, ℕ, Bool, true, ◌||◌, List, [], ◌∷◌, flat_map, refl, ap}
use Rattle.std.specs.List.{list_any}
use Rattle.std.proofs.lemmas.Bool.{cases_Bool, or_cases, or_left, or_right}
use Rattle.cam_names.specs.declared.name.Name.{Name}
use Rattle.cam_names.specs.Names.{name_eq, name_lt}
use Rattle.cam_know.specs.declared.Outcome.{Outcome}
use Rattle.cam_know.specs.declared.Outcome.TheVariants.{Aborted, Committed}
use Rattle.cam_know.specs.Known.{outcome_eq, is_commit_of, aborted_name}
use Rattle.cam_wire.specs.Reading.{outcomes_of}
use Rattle.cam_wire.specs.Spelling.{committed_pair, put_commit, sorted_commits}
use Rattle.cam_wire.proofs.Again.{names_of}
use Rattle.cam_wire.proofs.Unique.{commit_eq}

abbrev pub Commits : Type 0
Commits = List (Name × List ℕ)

-- the aborts among outcomes, as names
pub aborts_among : (a : Name) (os : List Outcome) → list_any (name_eq a) (flat_map aborted_name os) ≡ list_any (outcome_eq (Aborted a)) os
aborts_among a [] = refl
aborts_among a (Aborted b ∷ os) = ap (λ (t : Bool). name_eq a b || t) (aborts_among a os)
aborts_among a (Committed b d ∷ os) = aborts_among a os

-- the commits among outcomes, as pairs and as names
pub commits_among : (c : Name × List ℕ) (os : List Outcome) → list_any (commit_eq c) (flat_map committed_pair os) ≡ list_any (outcome_eq (Committed c.0 c.1)) os
commits_among c [] = refl
commits_among c (Aborted b ∷ os) = commits_among c os
commits_among c (Committed b d ∷ os) = ap (λ (t : Bool). commit_eq c (b, d) || t) (commits_among c os)

pub named_among : (a : Name) (os : List Outcome) → list_any (name_eq a) (names_of (flat_map committed_pair os)) ≡ list_any (is_commit_of a) os
named_among a [] = refl
named_among a (Aborted b ∷ os) = named_among a os
named_among a (Committed b d ∷ os) = ap (λ (t : Bool). name_eq a b || t) (named_among a os)

pub no_commit_of : (a : Name) (names : List Name) (cs : Commits) → list_any (is_commit_of a) (outcomes_of names cs) ≡ list_any (name_eq a) (names_of cs)
no_commit_of a (b ∷ names) cs = no_commit_of a names cs
no_commit_of a [] [] = refl
no_commit_of a [] (c ∷ cs) = ap (λ (t : Bool). name_eq a c.0 || t) (no_commit_of a [] cs)

-- what is among the sorted commits is among the commits
put_among : (p : Name × List ℕ → Bool) (c : Name × List ℕ) (cs : Commits) → list_any p (put_commit c cs) ≡ true → (p c || list_any p cs) ≡ true
put_among p c [] h = h
put_among p c (d ∷ cs) h =
    elim (cases_Bool (name_lt c.0 d.0)) [
      | inl less ↦ rw less at h
      | inr no_less ↦ elim (cases_Bool (name_eq c.0 d.0)) [
        | inl same ↦ or_right (p c) (list_any p (d ∷ cs)) (rw (no_less, same) at h)
        | inr other ↦
            let h1 : (p d || list_any p (put_commit c cs)) ≡ true = rw (no_less, other) at h in
            elim (or_cases (p d) (list_any p (put_commit c cs)) h1) [
              | inl first ↦ or_right (p c) (list_any p (d ∷ cs)) (or_left (p d) (list_any p cs) first)
              | inr later ↦ elim (or_cases (p c) (list_any p cs) (put_among p c cs later)) [
                | inl it ↦ or_left (p c) (list_any p (d ∷ cs)) it
                | inr rest ↦ or_right (p c) (list_any p (d ∷ cs)) (or_right (p d) (list_any p cs) rest)
              ]
            ]
      ]
    ]

pub sorted_among : (p : Name × List ℕ → Bool) (cs : Commits) → list_any p (sorted_commits cs) ≡ true → list_any p cs ≡ true
sorted_among p [] h = h
sorted_among p (c ∷ cs) h =
    elim (or_cases (p c) (list_any p (sorted_commits cs)) (put_among p c (sorted_commits cs) h)) [
      | inl it ↦ or_left (p c) (list_any p cs) it
      | inr rest ↦ or_right (p c) (list_any p cs) (sorted_among p cs rest)
    ]
