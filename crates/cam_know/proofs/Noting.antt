-- What the index says of an action once one more outcome was noted.
use Rattle.std.proofs.Common.{◌≡◌, inl, inr, ℕ, ◌+◌, ◌≤◌, ◌<◌, Bool, true, false, ◌||◌, cond, if◌then◌else◌, List, [], ◌∷◌, ◌++◌, length, take, get_or, Option, Some, None, Result, sym, ap, subst, ◌∙◌, refl}
use Rattle.std.proofs.lemmas.List.{append_assoc, append-nil, take_all, take_more, flat_map_more}
use Rattle.std.proofs.lemmas.List.Folds.{list_any-append}
use Rattle.std.specs.Prelude.{flat_map, IsOk, OnOk}
use Rattle.std.specs.List.{list_any}
use Rattle.std.specs.Option.{unwrap_or}
use Rattle.std.specs.HashMap.{get, Updates}
use Rattle.std.proofs.lemmas.Bool.{cases_Bool, or_right}
use Rattle.cam_names.specs.declared.name.Name.{Name}
use Rattle.cam_names.specs.Names.{name_eq, parent}
use Rattle.cam_names.specs.Dependencies.{pairs_of}
use Rattle.cam_names.proofs.Names.{name_eq_sym, name_eq_same}
use Rattle.cam_know.specs.declared.Outcome.{Outcome}
use Rattle.cam_know.specs.declared.Outcome.TheVariants.{Aborted, Committed}
use Rattle.cam_know.specs.declared.index.Entry.{Entry}
use Rattle.cam_know.specs.declared.index.Index.{Index}
use Rattle.cam_know.specs.Known.{is_abort_of, is_commit_of}
use Rattle.cam_know.specs.Orphans.{commit_pairs}
use Rattle.cam_know.specs.LeastCounts.{least_counts, lesser_counts}
use Rattle.cam_know.specs.Index.{blank, with_abort, with_commit, with_child, entry_at, SaysSame, IsIndexOf}
use Rattle.cam_know.proofs.Children.{is_parent, child_is_parent}
use Rattle.cam_know.proofs.Or.{or_nothing}
use Rattle.cam_know.proofs.LeastCounts.{least_counts_append}
use Rattle.cam_know.proofs.Results.{on_ok}

-- the entry of a, where the entry of b is changed
abbrev changed_at : (Entry → Entry) → Name → Name → Entry → Entry
changed_at f b a e = if name_eq b a then f e else e

abbrev changed_at_parent : (Entry → Entry) → Option Name → Name → Entry → Entry
changed_at_parent f None a e = e
changed_at_parent f (Some p) a e = changed_at f p a e

-- what one more outcome says of the action a
abbrev noted : Name → Outcome → Entry → Entry
noted a (Aborted b) e = changed_at with_abort b a e
noted a (Committed b d) e = changed_at_parent (with_child d) (parent b) a (changed_at with_commit b a e)

-- of a commit the entry of the action itself is changed, and the counts of the parent's
child_aborted : (d : List ℕ) (p : Option Name) (a : Name) (e : Entry) → (changed_at_parent (with_child d) p a e).aborted ≡ e.aborted
child_aborted d None a e = refl
child_aborted d (Some p) a e = elim (cases_Bool (name_eq p a)) [ inl h ↦ rw h refl | inr h ↦ rw h refl ]

child_committed : (d : List ℕ) (p : Option Name) (a : Name) (e : Entry) → (changed_at_parent (with_child d) p a e).committed ≡ e.committed
child_committed d None a e = refl
child_committed d (Some p) a e = elim (cases_Bool (name_eq p a)) [ inl h ↦ rw h refl | inr h ↦ rw h refl ]

noted_aborted : (a : Name) (o : Outcome) (e : Entry) → (noted a o e).aborted ≡ (e.aborted || is_abort_of a o)
noted_aborted a (Aborted b) e = ap (λ t. (if t then with_abort e else e).aborted) (name_eq_sym b a) ∙ by (name_eq a b)
  where
    by : (t : Bool) → (if t then with_abort e else e).aborted ≡ (e.aborted || t)
    by true = sym (or_right e.aborted true refl)
    by false = or_nothing e.aborted
noted_aborted a (Committed b d) e = child_aborted d (parent b) a (changed_at with_commit b a e) ∙
    elim (cases_Bool (name_eq b a)) [
      | inl h ↦ rw h (or_nothing e.aborted)
      | inr h ↦ rw h (or_nothing e.aborted)
    ]

noted_committed : (a : Name) (o : Outcome) (e : Entry) → (noted a o e).committed ≡ (e.committed || is_commit_of a o)
noted_committed a (Aborted b) e = elim (cases_Bool (name_eq b a)) [ inl h ↦ rw h (or_nothing e.committed) | inr h ↦ rw h (or_nothing e.committed) ]
noted_committed a (Committed b d) e = child_committed d (parent b) a (changed_at with_commit b a e) ∙
    elim (cases_Bool (name_eq b a)) [
      | inl h ↦ rw h (sym (or_right e.committed (name_eq a b) (name_eq_sym a b ∙ h)))
      | inr h ↦ rw h (or_nothing e.committed ∙ ap (λ t. e.committed || t) (sym (name_eq_sym a b ∙ h)))
    ]

child_oldest : (d : List ℕ) (p : Option Name) (a : Name) (e : Entry) (ps : List (ℕ × ℕ)) → e.oldest ≡ least_counts ps →
    (changed_at_parent (with_child d) p a e).oldest ≡ least_counts (ps ++ (if is_parent p a then pairs_of d else []))
child_oldest d None a e ps h = h ∙ ap least_counts (sym (append-nil ps))
child_oldest d (Some p) a e ps h = elim (cases_Bool (name_eq p a)) [
  | inl t ↦ rw t (ap (λ cs. lesser_counts cs (least_counts (pairs_of d))) h ∙ sym (least_counts_append ps (pairs_of d)))
  | inr t ↦ rw t (h ∙ ap least_counts (sym (append-nil ps)))
]

noted_oldest : (a : Name) (o : Outcome) (e : Entry) (ps : List (ℕ × ℕ)) → 1 ≤ length a → e.oldest ≡ least_counts ps → (noted a o e).oldest ≡ least_counts (ps ++ commit_pairs a o)
noted_oldest a (Aborted b) e ps some h = elim (cases_Bool (name_eq b a)) [
  | inl t ↦ rw t (h ∙ ap least_counts (sym (append-nil ps)))
  | inr t ↦ rw t (h ∙ ap least_counts (sym (append-nil ps)))
]
noted_oldest a (Committed b d) e ps some h =
    child_oldest d (parent b) a (changed_at with_commit b a e) ps (same ∙ h)
    ∙ ap (λ t. least_counts (ps ++ (if t then pairs_of d else []))) (sym (child_is_parent a b some))
  where
    same : (changed_at with_commit b a e).oldest ≡ e.oldest
    same = elim (cases_Bool (name_eq b a)) [ inl t ↦ rw t refl | inr t ↦ rw t refl ]

any_push : (p : Outcome → Bool) (os : List Outcome) (o : Outcome) → (list_any p os || p o) ≡ list_any p (os ++ o ∷ [])
any_push p os o = ap (λ t. list_any p os || t) (or_nothing (p o)) ∙ sym (list_any-append p os (o ∷ []))

-- one more outcome, last
index_more : (m n : Index) (o : Outcome) → ((a : Name) → entry_at n a ≡ noted a o (entry_at m a)) → (os : List Outcome) → IsIndexOf os m → IsIndexOf (os ++ o ∷ []) n
index_more m n o step os h = record {
  aborted = λ a. ap (λ e. e.aborted) (step a) ∙ noted_aborted a o (entry_at m a) ∙ ap (λ t. t || is_abort_of a o) (h.aborted a) ∙ any_push (is_abort_of a) os o;
  committed = λ a. ap (λ e. e.committed) (step a) ∙ noted_committed a o (entry_at m a) ∙ ap (λ t. t || is_commit_of a o) (h.committed a) ∙ any_push (is_commit_of a) os o;
  oldest = λ a some. ap (λ e. e.oldest) (step a) ∙ noted_oldest a o (entry_at m a) (flat_map (commit_pairs a) os) some (h.oldest a some)
      ∙ ap least_counts (flat_map_more (commit_pairs a) [] os o);
}

-- to put an entry where there is room does not fail
pub entry_set : {X Y : Type 0} (r : Result X Y) (m n : Index) (b : Name) (e : Entry) → IsOk r → OnOk r (Updates name_eq m.entries n.entries b (Some e)) → (a : Name) → entry_at n a ≡ (if name_eq b a then e else entry_at m a)
entry_set r m n b e is updates a = ap (λ (o : Option Entry). unwrap_or o blank) ((on_ok r (Updates name_eq m.entries n.entries b (Some e)) is updates).0 a) ∙ by (name_eq b a)
  where
    by : (t : Bool) → unwrap_or (cond t (Some e) (get name_eq m.entries a)) blank ≡ (if t then e else entry_at m a)
    by true = refl
    by false = refl

-- the entry was changed where it stood
entry_changed : (m n : Index) (f : Entry → Entry) (b : Name) (e : Entry) → e ≡ f (entry_at m b) → ((a : Name) → entry_at n a ≡ (if name_eq b a then e else entry_at m a)) → (a : Name) → entry_at n a ≡ changed_at f b a (entry_at m a)
entry_changed m n f b e is put a = put a ∙
    elim (cases_Bool (name_eq b a)) [
      | inl same ↦ rw same (is ∙ ap (λ x. f (entry_at m x)) (name_eq_same b a same))
      | inr other ↦ rw other refl
    ]

pub abort_noted : (m n : Index) (b : Name) (e : Entry) → e ≡ with_abort (entry_at m b) → ((a : Name) → entry_at n a ≡ (if name_eq b a then e else entry_at m a)) → (os : List Outcome) → IsIndexOf os m → IsIndexOf (os ++ Aborted b ∷ []) n
abort_noted m n b e is put = index_more m n (Aborted b) (entry_changed m n with_abort b e is put)

-- the commit of a top action
pub top_noted : (m n : Index) (b : Name) (d : List ℕ) (e : Entry) → None ≡ parent b → e ≡ with_commit (entry_at m b) → ((a : Name) → entry_at n a ≡ (if name_eq b a then e else entry_at m a)) → (os : List Outcome) → IsIndexOf os m → IsIndexOf (os ++ Committed b d ∷ []) n
top_noted m n b d e top is put = index_more m n (Committed b d)
    (λ a. entry_changed m n with_commit b e is put a ∙ ap (λ q. changed_at_parent (with_child d) q a (changed_at with_commit b a (entry_at m a))) top)

-- the commit of a child changes the parent's entry too
pub child_noted : (l m n : Index) (b : Name) (d : List ℕ) (p : Name) (e f : Entry) → Some p ≡ parent b
    → e ≡ with_commit (entry_at l b) → ((a : Name) → entry_at m a ≡ (if name_eq b a then e else entry_at l a))
    → f ≡ with_child d (entry_at m p) → ((a : Name) → entry_at n a ≡ (if name_eq p a then f else entry_at m a))
    → (os : List Outcome) → IsIndexOf os l → IsIndexOf (os ++ Committed b d ∷ []) n
child_noted l m n b d p e f child one put two set = index_more l n (Committed b d)
    (λ a. entry_changed m n (with_child d) p f two set a ∙ ap (changed_at (with_child d) p a) (entry_changed l m with_commit b e one put a)
    ∙ ap (λ q. changed_at_parent (with_child d) q a (changed_at with_commit b a (entry_at l a))) child)

-- what says the same is an index of the same
pub index_same : (os : List Outcome) (m n : Index) → SaysSame m n → IsIndexOf os m → IsIndexOf os n
index_same os m n same h = record {
  aborted = λ a. ap (λ e. e.aborted) (same a) ∙ h.aborted a;
  committed = λ a. ap (λ e. e.committed) (same a) ∙ h.committed a;
  oldest = λ a some. ap (λ e. e.oldest) (same a) ∙ h.oldest a some;
}

-- the steps of the loop
pub index_begun : (m : Index) (os : List Outcome) → IsIndexOf os m → IsIndexOf (os ++ []) m
index_begun m os = subst (λ (ps : List Outcome). IsIndexOf ps m) (sym (append-nil os))

pub index_step : (n : Index) (xs : List Outcome) (i : ℕ) (o : Outcome) → i < length xs → o ≡ get_or xs i o
    → (os : List Outcome) → IsIndexOf ((os ++ take i xs) ++ o ∷ []) n → IsIndexOf (os ++ take (i + 1) xs) n
index_step n xs i o below is os =
    subst (λ (ps : List Outcome). IsIndexOf ps n)
    (append_assoc os (take i xs) (o ∷ []) ∙ ap (λ x. os ++ (take i xs ++ x ∷ [])) is ∙ ap (λ ys. os ++ ys) (sym (take_more xs i o below)))

pub index_done : (m : Index) (xs : List Outcome) (i : ℕ) (os : List Outcome) → length xs ≤ i → IsIndexOf (os ++ take i xs) m → IsIndexOf (os ++ xs) m
index_done m xs i os past = subst (λ (ps : List Outcome). IsIndexOf (os ++ ps) m) (take_all i xs past)
