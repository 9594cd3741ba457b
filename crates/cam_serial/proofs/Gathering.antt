-- What one more deed, or one more operation, adds to what is gathered.
use Rattle.std.proofs.Common.{◌≡◌, Bool, true, false, ◌&&◌, ◌||◌, if◌then◌else◌, cond, List, [], ◌∷◌, ◌++◌, filter, Option, Some, None, unwrap_or, refl, sym, ap, ◌∙◌, append-nil}
use Rattle.std.specs.List.{list_all, flat_map}
use Rattle.std.specs.Ordering.{is_eq}
use Rattle.std.specs.BTreeMap.{BTreeMap, get}
use Rattle.std.specs.BTreeSet.{BTreeSet, contains}
use Rattle.cam_names.specs.declared.name.Name.{Name}
use Rattle.cam_names.specs.Names.{name_cmp, name_eq, ancestors, family}
use Rattle.cam_names.proofs.Names.{name_eq_same}
use Rattle.cam_type.specs.declared.ObjectDecl.{ObjectDecl}
use Rattle.cam_event.specs.declared.Deed.{Deed}
use Rattle.cam_event.specs.declared.Deed.TheVariants.{Commit}
use Rattle.cam_event.specs.declared.Operation.{Operation}
use Rattle.cam_event.specs.History.{committed}
use Rattle.cam_event.specs.Live.{live}
use Rattle.cam_names.proofs.Names.{name_ties_back}
use Rattle.cam_serial.specs.Serial.{committed_tops, serial_committed, seen_by, serial}
use Rattle.cam_serial.specs.Gathered.{TellsCommitted, is_above, group_in, TellsGroups, joined, own_of}

-- one more committed action
pub committed_put : (L : List Deed) (b : Name) (old new : BTreeSet Name) → TellsCommitted L old
    → ((q : Name) → contains name_cmp new q ≡ cond (is_eq (name_cmp b q)) true (contains name_cmp old q))
    → TellsCommitted (Commit b ∷ L) new
committed_put L b old new before put a = put a ∙ (λ i. cond (name_ties_back a b i) true (before a i)) ∙ cond_or (name_eq a b) (committed L a)
  where
    cond_or : (x y : Bool) → cond x true y ≡ (x || y)
    cond_or true y = refl
    cond_or false y = refl

-- a group taken out, and put back with an operation after it
pub group_put : (old gone new : BTreeMap Name (List Operation)) (b : Name) (o : Operation)
    → ((q : Name) → get name_cmp gone q ≡ cond (is_eq (name_cmp b q)) None (get name_cmp old q))
    → ((q : Name) → get name_cmp new q ≡ cond (is_eq (name_cmp b q)) (Some (group_in old b ++ o ∷ [])) (get name_cmp gone q))
    → (f : Name) → group_in new f ≡ group_in old f ++ (if name_eq f b then o ∷ [] else [])
group_put old gone new b o out put f =
    ap (λ g. unwrap_or g []) (put f ∙ (λ i. cond (name_ties_back f b i) (Some (group_in old b ++ o ∷ [])) ((out f ∙ (λ j. cond (name_ties_back f b j) None (get name_cmp old f))) i)))
    ∙ by (name_eq f b) refl
  where
    by : (t : Bool) → name_eq f b ≡ t → unwrap_or (cond t (Some (group_in old b ++ o ∷ [])) (cond t None (get name_cmp old f))) [] ≡ group_in old f ++ (if t then o ∷ [] else [])
    by true e = ap (λ n. group_in old n ++ o ∷ []) (sym (name_eq_same f b e))
    by false e = sym (append-nil (group_in old f))

-- What was gathered makes the serial list.
pub serial_is : (objects : List ObjectDecl) (L : List Deed) (names : BTreeSet Name) (groups : BTreeMap Name (List Operation)) (name : Option Name)
    → TellsCommitted L names → TellsGroups names (live objects L) groups
    → joined groups L ++ own_of names name (live objects L) ≡ serial objects L name
serial_is objects L names groups name tells gathered = by name
  where
    known : contains name_cmp names ≡ committed L
    known i a = tells a i

    grouped : joined groups L ≡ serial_committed objects L
    grouped =
        ap (λ (g : Name → List Operation). flat_map g (committed_tops L)) (λ i f. gathered f i)
        ∙ ap (λ (c : Name → Bool). flat_map (λ f. filter (λ o. name_eq f (family o.action) && list_all c (ancestors o.action)) (live objects L)) (committed_tops L)) known

    by : (n : Option Name) → joined groups L ++ own_of names n (live objects L) ≡ serial objects L n
    by None = append-nil (joined groups L) ∙ grouped
    by (Some a) = (λ i. grouped i ++ own i) ∙ choose (committed L (family a))
      where
        own : own_of names (Some a) (live objects L) ≡ (if committed L (family a) then [] else seen_by objects L a)
        own = ap (λ (c : Name → Bool). if c (family a) then [] else filter (λ o. name_eq (family a) (family o.action) && list_all (λ u. is_above (Some a) u || c u) (ancestors o.action)) (live objects L)) known

        choose : (b : Bool) → serial_committed objects L ++ (if b then [] else seen_by objects L a) ≡ (if b then serial_committed objects L else serial_committed objects L ++ seen_by objects L a)
        choose true = append-nil (serial_committed objects L)
        choose false = refl
