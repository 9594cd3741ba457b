-- What the table of quiesce moments has after one more deed, and after one more event.
use Rattle.std.proofs.Common.{◌≡◌, ℕ, ◌+◌, ◌<◌, Bool, true, false, ◌||◌, cond, if◌then◌else◌, List, [], ◌∷◌, ◌++◌, length, take, get_or, Option, Some, unwrap_or, refl, sym, ap, ◌∙◌}
use Rattle.std.specs.List.{list_any}
use Rattle.std.specs.Ordering.{is_eq}
use Rattle.std.specs.BTreeMap.{BTreeMap, get}
use Rattle.std.proofs.lemmas.List.{take_more}
use Rattle.std.proofs.lemmas.List.Folds.{list_any-append}
use Rattle.cam_names.specs.declared.name.Name.{Name}
use Rattle.cam_names.specs.Names.{name_cmp, name_eq}
use Rattle.cam_names.proofs.Names.{name_eq_sym, name_ties}
use Rattle.cam_event.specs.declared.Deed.{Deed}
use Rattle.cam_timed.specs.Moments.{names_first}
use Rattle.cam_timed.specs.Untils.{until_in}

-- one entry more
until_put : (old new : BTreeMap Name ℕ) (b : Name) (until : ℕ) → ((q : Name) → get name_cmp new q ≡ cond (is_eq (name_cmp b q)) (Some until) (get name_cmp old q))
    → (a : Name) → until_in new a ≡ (if name_eq a b then until else until_in old a)
until_put old new b until put a =
    ap (λ (o : Option ℕ). unwrap_or o 0) (put a ∙ ap (λ (t : Bool). cond t (Some until) (get name_cmp old a)) (sym (name_ties b a) ∙ name_eq_sym b a))
    ∙ by (name_eq a b)
  where
    by : (t : Bool) → unwrap_or (cond t (Some until) (get name_cmp old a)) 0 ≡ (if t then until else until_in old a)
    by true = refl
    by false = refl

-- of two tests the later counts
later_counts : (before now : Bool) (until old : ℕ) → (if now then until else if before then until else old) ≡ (if before || now then until else old)
later_counts true true until old = refl
later_counts true false until old = refl
later_counts false true until old = refl
later_counts false false until old = refl

-- whether one deed more names the action
named_more : (a : Name) (ds : List Deed) (i : ℕ) (d : Deed) → i < length ds → d ≡ get_or ds i d
    → list_any (names_first a) (take (i + 1) ds) ≡ (list_any (names_first a) (take i ds) || names_first a d)
named_more a ds i d below at =
    ap (list_any (names_first a)) (take_more ds i d below ∙ ap (λ (x : Deed). take i ds ++ x ∷ []) (sym at))
    ∙ list_any-append (names_first a) (take i ds) (d ∷ [])
    ∙ ap (λ (b : Bool). list_any (names_first a) (take i ds) || b) (one (names_first a d))
  where
    one : (b : Bool) → (b || false) ≡ b
    one true = refl
    one false = refl

-- the table after one deed more
pub until_more : (a : Name) (ds : List Deed) (i : ℕ) (d : Deed) (until old was now : ℕ) → i < length ds → d ≡ get_or ds i d
    → was ≡ (if list_any (names_first a) (take i ds) then until else old) → now ≡ (if names_first a d then until else was)
    → now ≡ (if list_any (names_first a) (take (i + 1) ds) then until else old)
until_more a ds i d until old was now below at before after =
    after
    ∙ ap (λ (w : ℕ). if names_first a d then until else w) before
    ∙ later_counts (list_any (names_first a) (take i ds)) (names_first a d) until old
    ∙ ap (λ (b : Bool). if b then until else old) (sym (named_more a ds i d below at))

-- the deed names an action, which the table has then
pub until_named : (a b : Name) (d : Deed) (until : ℕ) (old new : BTreeMap Name ℕ) → name_eq a b ≡ names_first a d
    → ((q : Name) → get name_cmp new q ≡ cond (is_eq (name_cmp b q)) (Some until) (get name_cmp old q))
    → until_in new a ≡ (if names_first a d then until else until_in old a)
until_named a b d until old new same put = until_put old new b until put a ∙ ap (λ (t : Bool). if t then until else until_in old a) same

-- or none
pub until_unnamed : (a : Name) (d : Deed) (until old : ℕ) → false ≡ names_first a d → old ≡ (if names_first a d then until else old)
until_unnamed a d until old none = ap (λ (t : Bool). if t then until else old) none
