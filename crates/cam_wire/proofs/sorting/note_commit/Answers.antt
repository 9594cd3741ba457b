use Rattle.std.proofs.Common.{◌≡◌, ℕ, true, false, List, ◌∷◌, flat_map, ap, ◌∙◌, sym, subst, arith}
use Rattle.std.specs.Option.{is_some}
use Rattle.std.specs.Map.{lookup}
use Rattle.std.specs.BTreeMap.{is_at}
use Rattle.cam_names.specs.declared.name.Name.{Name}
use Rattle.cam_names.specs.Names.{name_cmp}
use Rattle.cam_wire.specs.Spelling.{Rising, committed_pair, put_commit, sorted_commits}
use Rattle.cam_wire.proofs.Again.{names_of}
use Rattle.cam_wire.proofs.Sorted.{insert_is_put_commit, put_again, commits_rise}
use Rattle.cam_wire.proofs.sorting.note_commit.Goals as goal

pub returns-in_ok-insert : goal.returns-in_ok-insert
returns-in_ok-insert c outcomes sorted =
    let a = c.in-Committed.name in
    let deps = c.in-Committed.deps in
    let commits = c.args.commits.now.entries in
    let none : is_some (lookup (is_at (name_cmp a)) commits) ≡ false = grind arith in
    c.in_ok-insert.ensures.entries ∙ insert_is_put_commit a deps commits none ∙ ap (put_commit (a, deps)) sorted
    ∙ ap (λ o. sorted_commits (flat_map committed_pair (o ∷ outcomes))) (sym c.in-Committed.is)

pub returns-else-not-contains_key : goal.returns-else-not-contains_key
returns-else-not-contains_key c outcomes sorted =
    let a = c.in-Committed.name in
    let deps = c.in-Committed.deps in
    let commits = c.args.commits.now.entries in
    let rising = subst (λ (cs : List (Name × List ℕ)). Rising (names_of cs)) (sym sorted) (commits_rise (flat_map committed_pair outcomes)) in
    let some : is_some (lookup (is_at (name_cmp a)) commits) ≡ true = grind arith in
    sym (put_again a deps commits rising some) ∙ ap (put_commit (a, deps)) sorted
    ∙ ap (λ o. sorted_commits (flat_map committed_pair (o ∷ outcomes))) (sym c.in-Committed.is)
