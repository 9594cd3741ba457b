-- What is known of commits after one was noted.
use Rattle.std.proofs.Common.{◌≡◌, ℕ, ◌+◌, ◌<◌, length, take, get_or, eqb, Bool, true, false, ◌&&◌, ◌||◌, cond, List, [], ◌∷◌, Result, arith, sym, ap, ap₂, ◌∙◌, refl}
use Rattle.std.specs.Prelude.{IsOk, OnOk}
use Rattle.std.specs.List.{list_any}
use Rattle.std.specs.HashSet.{Updates}
use Rattle.std.proofs.lemmas.List.Folds.{list_any_more}
use Rattle.cam_names.proofs.Names.{name_eq_sym}
use Rattle.cam_know.specs.declared.Outcome.{Outcome}
use Rattle.cam_know.specs.declared.Outcome.TheVariants.{Committed}
use Rattle.cam_know.specs.declared.commits.Commit.{Commit}
use Rattle.cam_know.specs.declared.commits.Commits.{Commits}
use Rattle.cam_know.specs.Known.{counts_eq}
use Rattle.cam_know.specs.Commits.{commit_eq, is_commit, has_commit}
use Rattle.cam_know.proofs.Or.{or_nothing, or_commutes, or_associates}
use Rattle.cam_know.proofs.Results.{on_ok}

number_eq_sym : (m n : ℕ) → eqb m n ≡ eqb n m
number_eq_sym m n = grind arith

counts_eq_sym : (cs ds : List ℕ) → counts_eq cs ds ≡ counts_eq ds cs
counts_eq_sym [] [] = refl
counts_eq_sym [] (d ∷ ds) = refl
counts_eq_sym (c ∷ cs) [] = refl
counts_eq_sym (c ∷ cs) (d ∷ ds) = ap₂ (λ a b. a && b) (number_eq_sym c d) (counts_eq_sym cs ds)

commit_eq_sym : (c q : Commit) → commit_eq c q ≡ commit_eq q c
commit_eq_sym c q = ap₂ (λ a b. a && b) (name_eq_sym c.name q.name) (counts_eq_sym c.deps q.deps)

-- to note a commit where there is room does not fail
pub commit_noted : {X Y : Type 0} (r : Result X Y) (m n : Commits) (c : Commit) → IsOk r → OnOk r (Updates commit_eq m.commits n.commits c true)
    → (q : Commit) → has_commit n q ≡ (has_commit m q || is_commit q (Committed c.name c.deps))
commit_noted r m n c is updates q =
    (on_ok r (Updates commit_eq m.commits n.commits c true) is updates).0 q ∙ ap (λ t. cond t true (has_commit m q)) (commit_eq_sym c q) ∙ by (commit_eq q c) (has_commit m q)
  where
    by : (t b : Bool) → cond t true b ≡ (b || t)
    by true b = or_commutes true b
    by false b = or_nothing b

-- the step of the loop
pub noted_more : (c : Commit) (xs : List Outcome) (i : ℕ) (o : Outcome) (before now next : Bool) → i < length xs → o ≡ get_or xs i o
    → now ≡ (before || list_any (is_commit c) (take i xs)) → next ≡ (now || is_commit c o) → next ≡ (before || list_any (is_commit c) (take (i + 1) xs))
noted_more c xs i o before now next below is so_far step =
    step ∙ ap (λ t. t || is_commit c o) so_far ∙ or_associates before (list_any (is_commit c) (take i xs)) (is_commit c o)
    ∙ ap (λ x. before || (list_any (is_commit c) (take i xs) || is_commit c x)) is
    ∙ ap (λ t. before || t) (sym (list_any_more (is_commit c) xs i o below))
