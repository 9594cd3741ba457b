-- The names of which a site was informed, in its order; and how that list grows.
use Rattle.std.proofs.Common.{◌≡◌, ◌⊎◌, inl, inr, if◌then◌else◌, ℕ, eqb, Bool, true, false, ◌&&◌, ◌||◌, List, [], ◌∷◌, ◌++◌, refl, sym, ap, ◌∙◌}
use Rattle.std.specs.List.{list_any}
use Rattle.std.proofs.lemmas.Bool.{eq-eqb}
use Rattle.std.proofs.lemmas.Bool.Decides.{eqb_tells}
use Rattle.std.proofs.lemmas.List.{append-nil, append_assoc}
use Rattle.std.proofs.lemmas.List.Folds.{list_any-append}
use Rattle.cam_names.specs.declared.name.Name.{Name}
use Rattle.cam_names.specs.Names.{name_eq}
use Rattle.cam_event.specs.declared.Deed.{Deed}
use Rattle.cam_event.specs.declared.Deed.TheVariants.{Create, Ask, Call, Perform, Bounce, Got, AskCommit, AskAbort, Commit, Abort, Secure, Inform, Crash}
use Rattle.cam_event.specs.History.{after, informed}
use Rattle.cam_own.specs.Informed.{commits_of, aborts_of}

-- the names of which a site was informed
told_last : (a b : Name) (site : ℕ) (s : ℕ) (names : List Name) (rest : Bool) → rest ≡ list_any (name_eq a) names
    → ((eqb s site && name_eq a b) || rest) ≡ list_any (name_eq a) (if eqb site s then names ++ b ∷ [] else names)
told_last a b site s names rest is = by (eqb_tells site s)
  where
    turned : (x y : Bool) → (x || y) ≡ (y || (x || false))
    turned true true = refl
    turned true false = refl
    turned false true = refl
    turned false false = refl

    by : ((eqb site s ≡ true) × (site ≡ s)) ⊎ ((eqb site s ≡ false) × (site ≡ s → ⊥)) → ((eqb s site && name_eq a b) || rest) ≡ list_any (name_eq a) (if eqb site s then names ++ b ∷ [] else names)
    by (inl y) =
        (λ i. ((ap (λ x. eqb s x) y.1 ∙ eq-eqb s s refl) i && name_eq a b) || is i) ∙ turned (name_eq a b) (list_any (name_eq a) names)
        ∙ sym (list_any-append (name_eq a) names (b ∷ []))
        ∙ sym (ap (λ (c : Bool). list_any (name_eq a) (if c then names ++ b ∷ [] else names)) y.0)
    by (inr n) =
        (λ i. (other (eqb_tells s site) i && name_eq a b) || is i)
        ∙ sym (ap (λ (c : Bool). list_any (name_eq a) (if c then names ++ b ∷ [] else names)) n.0)
      where
        other : ((eqb s site ≡ true) × (s ≡ site)) ⊎ ((eqb s site ≡ false) × (s ≡ site → ⊥)) → eqb s site ≡ false
        other (inl y) = absurd (n.1 (sym y.1))
        other (inr m) = m.0

pub told_commits : (L : List Deed) (s : ℕ) (a : Name) → informed L s a true ≡ list_any (name_eq a) (commits_of L s)
told_commits [] s a = refl
told_commits (Inform site b true ∷ L) s a = told_last a b site s (commits_of L s) (informed L s a true) (told_commits L s a)
told_commits (Inform site b false ∷ L) s a = told_commits L s a
told_commits (Create b ∷ L) s a = told_commits L s a
told_commits (Ask b c ∷ L) s a = told_commits L s a
told_commits (Call b n x op c ∷ L) s a = told_commits L s a
told_commits (Perform b n answer ∷ L) s a = told_commits L s a
told_commits (Bounce b n u ∷ L) s a = told_commits L s a
told_commits (Got b n seen ∷ L) s a = told_commits L s a
told_commits (AskCommit b v ∷ L) s a = told_commits L s a
told_commits (AskAbort b ∷ L) s a = told_commits L s a
told_commits (Commit b ∷ L) s a = told_commits L s a
told_commits (Abort b ∷ L) s a = told_commits L s a
told_commits (Secure f x c ∷ L) s a = told_commits L s a
told_commits (Crash r ∷ L) s a = told_commits L s a

pub told_aborts : (L : List Deed) (s : ℕ) (a : Name) → informed L s a false ≡ list_any (name_eq a) (aborts_of L s)
told_aborts [] s a = refl
told_aborts (Inform site b false ∷ L) s a = told_last a b site s (aborts_of L s) (informed L s a false) (told_aborts L s a)
told_aborts (Inform site b true ∷ L) s a = told_aborts L s a
told_aborts (Create b ∷ L) s a = told_aborts L s a
told_aborts (Ask b c ∷ L) s a = told_aborts L s a
told_aborts (Call b n x op c ∷ L) s a = told_aborts L s a
told_aborts (Perform b n answer ∷ L) s a = told_aborts L s a
told_aborts (Bounce b n u ∷ L) s a = told_aborts L s a
told_aborts (Got b n seen ∷ L) s a = told_aborts L s a
told_aborts (AskCommit b v ∷ L) s a = told_aborts L s a
told_aborts (AskAbort b ∷ L) s a = told_aborts L s a
told_aborts (Commit b ∷ L) s a = told_aborts L s a
told_aborts (Abort b ∷ L) s a = told_aborts L s a
told_aborts (Secure f x c ∷ L) s a = told_aborts L s a
told_aborts (Crash r ∷ L) s a = told_aborts L s a

-- they grow at their end
abbrev pub Grown : List Name → List Name → Type 0
Grown old new = (more : List Name) × (new ≡ old ++ more)

same_grown : (names : List Name) → Grown names names
same_grown names = ([], sym (append-nil names))

one_grown : (c : Bool) (b : Name) (names : List Name) → Grown names (if c then names ++ b ∷ [] else names)
one_grown true b names = (b ∷ [], refl)
one_grown false b names = same_grown names

then_grown : (one two three : List Name) → Grown one two → Grown two three → Grown one three
then_grown one two three g h = (g.0 ++ h.0, h.1 ∙ ap (λ (x : List Name). x ++ h.0) g.1 ∙ append_assoc one g.0 h.0)

commits_more : (d : Deed) (L : List Deed) (s : ℕ) → Grown (commits_of L s) (commits_of (d ∷ L) s)
commits_more (Inform site b true) L s = one_grown (eqb site s) b (commits_of L s)
commits_more (Inform site b false) L s = same_grown (commits_of L s)
commits_more (Create b) L s = same_grown (commits_of L s)
commits_more (Ask b c) L s = same_grown (commits_of L s)
commits_more (Call b n x op c) L s = same_grown (commits_of L s)
commits_more (Perform b n answer) L s = same_grown (commits_of L s)
commits_more (Bounce b n u) L s = same_grown (commits_of L s)
commits_more (Got b n seen) L s = same_grown (commits_of L s)
commits_more (AskCommit b v) L s = same_grown (commits_of L s)
commits_more (AskAbort b) L s = same_grown (commits_of L s)
commits_more (Commit b) L s = same_grown (commits_of L s)
commits_more (Abort b) L s = same_grown (commits_of L s)
commits_more (Secure f x c) L s = same_grown (commits_of L s)
commits_more (Crash r) L s = same_grown (commits_of L s)

aborts_more : (d : Deed) (L : List Deed) (s : ℕ) → Grown (aborts_of L s) (aborts_of (d ∷ L) s)
aborts_more (Inform site b false) L s = one_grown (eqb site s) b (aborts_of L s)
aborts_more (Inform site b true) L s = same_grown (aborts_of L s)
aborts_more (Create b) L s = same_grown (aborts_of L s)
aborts_more (Ask b c) L s = same_grown (aborts_of L s)
aborts_more (Call b n x op c) L s = same_grown (aborts_of L s)
aborts_more (Perform b n answer) L s = same_grown (aborts_of L s)
aborts_more (Bounce b n u) L s = same_grown (aborts_of L s)
aborts_more (Got b n seen) L s = same_grown (aborts_of L s)
aborts_more (AskCommit b v) L s = same_grown (aborts_of L s)
aborts_more (AskAbort b) L s = same_grown (aborts_of L s)
aborts_more (Commit b) L s = same_grown (aborts_of L s)
aborts_more (Abort b) L s = same_grown (aborts_of L s)
aborts_more (Secure f x c) L s = same_grown (aborts_of L s)
aborts_more (Crash r) L s = same_grown (aborts_of L s)

pub commits_after : (ds L : List Deed) (s : ℕ) → Grown (commits_of L s) (commits_of (after L ds) s)
commits_after [] L s = same_grown (commits_of L s)
commits_after (d ∷ ds) L s = then_grown (commits_of L s) (commits_of (d ∷ L) s) (commits_of (after (d ∷ L) ds) s) (commits_more d L s) (commits_after ds (d ∷ L) s)

pub aborts_after : (ds L : List Deed) (s : ℕ) → Grown (aborts_of L s) (aborts_of (after L ds) s)
aborts_after [] L s = same_grown (aborts_of L s)
aborts_after (d ∷ ds) L s = then_grown (aborts_of L s) (aborts_of (d ∷ L) s) (aborts_of (after (d ∷ L) ds) s) (aborts_more d L s) (aborts_after ds (d ∷ L) s)
