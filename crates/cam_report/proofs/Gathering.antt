-- What one more deed adds to what is gathered.
use Rattle.std.proofs.Common.{◌≡◌, ℕ, ◌+◌, ◌<◌, if◌then◌else◌, List, [], ◌∷◌, ◌++◌, length, take, reverse, get_or, refl, sym, ap, ◌∙◌}
use Rattle.std.specs.List.{flat_map}
use Rattle.std.specs.Ordering.{is_lt, is_eq, match_ordering}
use Rattle.std.specs.declared.cmp.Ordering.{Ordering}
use Rattle.std.specs.declared.cmp.Ordering.TheVariants.{Less, Equal, Greater}
use Rattle.std.specs.BTreeSet.{insert_key}
use Rattle.cam_names.specs.declared.name.Name.{Name}
use Rattle.cam_names.specs.Names.{name_cmp, name_lt}
use Rattle.cam_event.specs.Rules.{put_name, sorted_names}
use Rattle.cam_base.proofs.Newest.{taken_back}
use Rattle.cam_names.proofs.Names.{name_ties}
use Rattle.cam_event.specs.declared.Deed.{Deed}
use Rattle.cam_report.specs.declared.milestones.Milestone.{Milestone}
use Rattle.cam_report.specs.Gathered.{reached}

-- a set puts a name at its place
by_order : (o : Ordering) (a b : Name) (bs one other : List Name) → one ≡ other → match_ordering o (a ∷ b ∷ bs) (b ∷ bs) (b ∷ one) ≡ (if is_lt o then a ∷ b ∷ bs else if is_eq o then b ∷ bs else b ∷ other)
by_order Less a b bs one other e = refl
by_order Equal a b bs one other e = refl
by_order Greater a b bs one other e = ap (λ r. b ∷ r) e

pub insert_put : (bs : List Name) (a : Name) → insert_key name_cmp bs a ≡ put_name a bs
insert_put [] a = refl
insert_put (b ∷ bs) a =
    by_order (name_cmp a b) a b bs (insert_key name_cmp bs a) (put_name a bs) (insert_put bs a)
    ∙ ap (λ t. if name_lt a b then a ∷ b ∷ bs else if t then b ∷ bs else b ∷ put_name a bs) (sym (name_ties a b))

-- the names of one more deed
milestones_step : (milestone : Milestone) (ds : List Deed) (i : ℕ) (d : Deed) → i < length ds → d ≡ get_or ds i d → (names : List Name) → names ≡ reached milestone d
    → flat_map (reached milestone) (reverse (take (i + 1) ds)) ≡ names ++ flat_map (reached milestone) (reverse (take i ds))
milestones_step milestone ds i d h e names is =
    ap (flat_map (reached milestone)) (taken_back ds i d h e) ∙ ap (λ n. n ++ flat_map (reached milestone) (reverse (take i ds))) (sym is)

pub reached_none : (milestone : Milestone) (ds : List Deed) (i : ℕ) (d : Deed) → i < length ds → d ≡ get_or ds i d → [] ≡ reached milestone d
    → (old : List Name) → old ≡ sorted_names (flat_map (reached milestone) (reverse (take i ds)))
    → old ≡ sorted_names (flat_map (reached milestone) (reverse (take (i + 1) ds)))
reached_none milestone ds i d h e is old before = before ∙ sym (ap sorted_names (milestones_step milestone ds i d h e [] is))

pub reached_some : (milestone : Milestone) (ds : List Deed) (i : ℕ) (d : Deed) (a : Name) → i < length ds → d ≡ get_or ds i d → a ∷ [] ≡ reached milestone d
    → (old new : List Name) → old ≡ sorted_names (flat_map (reached milestone) (reverse (take i ds))) → new ≡ insert_key name_cmp old a
    → new ≡ sorted_names (flat_map (reached milestone) (reverse (take (i + 1) ds)))
reached_some milestone ds i d a h e is old new before gives =
    gives ∙ insert_put old a ∙ ap (put_name a) before ∙ sym (ap sorted_names (milestones_step milestone ds i d h e (a ∷ []) is))
