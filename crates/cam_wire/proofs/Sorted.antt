-- What a tree of names has after an insertion is what putting in at the place gives.
use Rattle.std.proofs.Common.{◌≡◌, inl, inr, ℕ, true, false, cond, List, [], ◌∷◌, Some, refl, sym, ap, ◌∙◌, subst}
use Rattle.std.specs.Ordering.{is_lt, is_eq, match_ordering}
use Rattle.std.specs.declared.cmp.Ordering.{Ordering}
use Rattle.std.specs.declared.cmp.Ordering.TheVariants.{Less, Equal, Greater}
use Rattle.std.specs.Option.{is_some}
use Rattle.std.specs.Map.{lookup}
use Rattle.std.specs.BTreeMap.{insert_entry, is_at}
use Rattle.std.specs.BTreeSet.{insert_key}
use Rattle.std.proofs.lemmas.Bool.{cases_Bool, true≢false}
use Rattle.cam_names.specs.declared.name.Name.{Name}
use Rattle.cam_names.specs.Names.{name_cmp, name_eq, name_lt}
use Rattle.cam_names.proofs.Names.{name_eq_same, name_eq_refl}
use Rattle.cam_names.proofs.Order.{name_lt_trans, name_tied, name_cmp_itself}
use Rattle.cam_event.specs.Rules.{put_name, sorted_names}
use Rattle.cam_event.proofs.SortedNames.{Rises, sorted_rises}
use Rattle.cam_wire.specs.Spelling.{Rising, put_commit, sorted_commits}
use Rattle.cam_wire.proofs.Again.{names_of}
use Rattle.cam_wire.proofs.Unique.{rising_tail}

same_name : (a b : Name) → name_cmp a b ≡ Equal → name_eq a b ≡ true
same_name a b h = subst (λ (c : Name). name_eq a c ≡ true) (name_tied a b h) (name_eq_refl a)

other_name : (a b : Name) → name_cmp a b ≡ Greater → name_eq a b ≡ false
other_name a b h =
    elim (cases_Bool (name_eq a b)) [
      | inl same ↦
          let e : name_cmp a a ≡ Greater = subst (λ (c : Name). name_cmp a c ≡ Greater) (sym (name_eq_same a b same)) h in
          absurd (let f : Equal ≡ Greater = sym (name_cmp_itself a) ∙ e in cc)
      | inr other ↦ other
    ]

pub insert_is_put : (a : Name) (bs : List Name) → insert_key name_cmp bs a ≡ put_name a bs
insert_is_put a [] = refl
insert_is_put a (b ∷ bs) = by (insert_is_put a bs) (name_cmp a b) refl
  where
    by : insert_key name_cmp bs a ≡ put_name a bs → (o : Ordering) → name_cmp a b ≡ o → match_ordering o (a ∷ b ∷ bs) (b ∷ bs) (b ∷ insert_key name_cmp bs a) ≡ put_name a (b ∷ bs)
    by ih Less h = let less : name_lt a b ≡ true = ap is_lt h in rw less refl
    by ih Equal h = let no_less : name_lt a b ≡ false = ap is_lt h in rw (no_less, same_name a b h) refl
    by ih Greater h = let no_less : name_lt a b ≡ false = ap is_lt h in rw (no_less, other_name a b h) (ap (λ (xs : List Name). b ∷ xs) ih)

-- a commit whose name is not there
pub insert_is_put_commit : (a : Name) (d : List ℕ) (es : List (Name × List ℕ)) → is_some (lookup (is_at (name_cmp a)) es) ≡ false → insert_entry name_cmp es a d ≡ put_commit (a, d) es
insert_is_put_commit a d [] none = refl
insert_is_put_commit a d (e ∷ es) none = by (insert_is_put_commit a d es) (name_cmp a e.0) refl none
  where
    by : (is_some (lookup (is_at (name_cmp a)) es) ≡ false → insert_entry name_cmp es a d ≡ put_commit (a, d) es) → (o : Ordering) → name_cmp a e.0 ≡ o
        → is_some (cond (is_eq o) (Some e.1) (lookup (is_at (name_cmp a)) es)) ≡ false
        → match_ordering o ((a, d) ∷ e ∷ es) ((e.0, d) ∷ es) (e ∷ insert_entry name_cmp es a d) ≡ put_commit (a, d) (e ∷ es)
    by ih Less h none = let less : name_lt a e.0 ≡ true = ap is_lt h in rw less refl
    by ih Equal h none = absurd (true≢false none)
    by ih Greater h none = let no_less : name_lt a e.0 ≡ false = ap is_lt h in rw (no_less, other_name a e.0 h) (ap (λ (xs : List (Name × List ℕ)). e ∷ xs) (ih none))

-- the name stands before those of the commits
abbrev IsBelow : Name → List (Name × List ℕ) → Type 0
IsBelow a [] = Unit {0}
IsBelow a (e ∷ es) = (name_lt a e.0 ≡ true) × IsBelow a es

below_rising : (a : Name) (e : Name × List ℕ) (es : List (Name × List ℕ)) → name_lt a e.0 ≡ true → Rising (names_of (e ∷ es)) → IsBelow a (e ∷ es)
below_rising a e [] h r = (h, tt)
below_rising a e (f ∷ es) h r = (h, below_rising a f es (name_lt_trans a e.0 f.0 h r.0) r.1)

not_equal : (o : Ordering) → is_lt o ≡ true → is_eq o ≡ false
not_equal Less h = refl
not_equal Equal h = cc
not_equal Greater h = refl

none_below : (a : Name) (es : List (Name × List ℕ)) → IsBelow a es → is_some (lookup (is_at (name_cmp a)) es) ≡ false
none_below a [] all = refl
none_below a (e ∷ es) all = rw (not_equal (name_cmp a e.0) all.0) (none_below a es all.1)

-- a commit whose name is there changes nothing
pub put_again : (a : Name) (d : List ℕ) (es : List (Name × List ℕ)) → Rising (names_of es) → is_some (lookup (is_at (name_cmp a)) es) ≡ true → put_commit (a, d) es ≡ es
put_again a d [] r some = cc
put_again a d (e ∷ es) r some = by (put_again a d es (rising_tail e.0 (names_of es) r)) (name_cmp a e.0) refl some
  where
    by : (is_some (lookup (is_at (name_cmp a)) es) ≡ true → put_commit (a, d) es ≡ es) → (o : Ordering) → name_cmp a e.0 ≡ o
        → is_some (cond (is_eq o) (Some e.1) (lookup (is_at (name_cmp a)) es)) ≡ true → put_commit (a, d) (e ∷ es) ≡ e ∷ es
    by ih Less h some =
        let all = below_rising a e es (ap is_lt h) r in
        absurd (true≢false (sym some ∙ none_below a es all.1))
    by ih Equal h some = let no_less : name_lt a e.0 ≡ false = ap is_lt h in rw (no_less, same_name a e.0 h) refl
    by ih Greater h some = let no_less : name_lt a e.0 ≡ false = ap is_lt h in rw (no_less, other_name a e.0 h) (ap (λ (xs : List (Name × List ℕ)). e ∷ xs) (ih some))

-- sorted names rise, also those of sorted commits
rising_from : (xs : List Name) → Rises xs → Rising xs
rising_from [] r = tt
rising_from (a ∷ []) r = tt
rising_from (a ∷ b ∷ xs) r = (r.0.0, rising_from (b ∷ xs) r.1)

pub names_rise : (names : List Name) → Rising (sorted_names names)
names_rise names = rising_from (sorted_names names) (sorted_rises names)

names_put : (c : Name × List ℕ) (cs : List (Name × List ℕ)) → names_of (put_commit c cs) ≡ put_name c.0 (names_of cs)
names_put c [] = refl
names_put c (d ∷ cs) =
    elim (cases_Bool (name_lt c.0 d.0)) [
      | inl less ↦ rw less refl
      | inr no_less ↦ elim (cases_Bool (name_eq c.0 d.0)) [
        | inl same ↦ rw (no_less, same) refl
        | inr other ↦ rw (no_less, other) (ap (λ (xs : List Name). d.0 ∷ xs) (names_put c cs))
      ]
    ]

pub names_sorted : (cs : List (Name × List ℕ)) → names_of (sorted_commits cs) ≡ sorted_names (names_of cs)
names_sorted [] = refl
names_sorted (c ∷ cs) = names_put c (sorted_commits cs) ∙ ap (put_name c.0) (names_sorted cs)

pub commits_rise : (cs : List (Name × List ℕ)) → Rising (names_of (sorted_commits cs))
commits_rise cs = subst Rising (sym (names_sorted cs)) (names_rise (names_of cs))
