-- How an action stands, by the names that were gathered.
use Rattle.std.proofs.Common.{◌≡◌, ◌||◌, List, [], ◌∷◌, refl, sym, ap, ◌∙◌}
use Rattle.std.proofs.Math.Bool.{or-false}
use Rattle.std.proofs.lemmas.List.Folds.{list_any-append}
use Rattle.std.specs.List.{flat_map, list_any}
use Rattle.std.specs.BTreeSet.{BTreeSet, contains}
use Rattle.cam_names.specs.declared.name.Name.{Name}
use Rattle.cam_names.specs.Names.{name_cmp, name_eq}
use Rattle.cam_event.specs.declared.Deed.{Deed}
use Rattle.cam_event.specs.declared.Deed.TheVariants.{Commit, Abort}
use Rattle.cam_event.specs.History.{is_commit, is_abort, committed, aborted}
use Rattle.cam_event.specs.Rules.{sorted_names}
use Rattle.cam_event.proofs.SortedNames.{sorted_any}
use Rattle.cam_report.specs.declared.milestones.Milestone.{Milestone}
use Rattle.cam_report.specs.declared.milestones.Milestone.TheVariants as milestones
use Rattle.cam_report.specs.Gathered.{reached}
use Rattle.cam_names.proofs.Names.{name_ties}

-- a name among those that the deeds reach
any_reached : (milestone : Milestone) (a : Name) (L : List Deed) → list_any (name_eq a) (flat_map (reached milestone) L) ≡ list_any (λ d. list_any (name_eq a) (reached milestone d)) L
any_reached milestone a [] = refl
any_reached milestone a (d ∷ L) = list_any-append (name_eq a) (reached milestone d) (flat_map (reached milestone) L) ∙ ap (λ r. list_any (name_eq a) (reached milestone d) || r) (any_reached milestone a L)

-- a set with just the reached names
pub has_reached : (milestone : Milestone) (L : List Deed) (names : BTreeSet Name) → names.keys ≡ sorted_names (flat_map (reached milestone) L) → (a : Name)
    → contains name_cmp names a ≡ list_any (λ d. list_any (name_eq a) (reached milestone d)) L
has_reached milestone L names keys a =
    ap (λ t. list_any t names.keys) (λ i k. sym (name_ties a k) i)
    ∙ ap (list_any (name_eq a)) keys ∙ sorted_any (name_eq a) (flat_map (reached milestone) L) ∙ any_reached milestone a L

commit_is : (a : Name) (d : Deed) → list_any (name_eq a) (reached milestones.Committed d) ≡ is_commit a d
commit_is a (Commit b) = or-false (name_eq a b)
commit_is a _ = refl

abort_is : (a : Name) (d : Deed) → list_any (name_eq a) (reached milestones.Aborted d) ≡ is_abort a d
abort_is a (Abort b) = or-false (name_eq a b)
abort_is a _ = refl

pub has_committed : (L : List Deed) (names : BTreeSet Name) → names.keys ≡ sorted_names (flat_map (reached milestones.Committed) L) → (a : Name) → contains name_cmp names a ≡ committed L a
has_committed L names keys a = has_reached milestones.Committed L names keys a ∙ ap (λ t. list_any t L) (λ i d. commit_is a d i)

pub has_aborted : (L : List Deed) (names : BTreeSet Name) → names.keys ≡ sorted_names (flat_map (reached milestones.Aborted) L) → (a : Name) → contains name_cmp names a ≡ aborted L a
has_aborted L names keys a = has_reached milestones.Aborted L names keys a ∙ ap (λ t. list_any t L) (λ i d. abort_is a d i)
