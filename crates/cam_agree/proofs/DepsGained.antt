-- What one deed adds to what a node keeps of an action's dependencies is what it adds by the definition.
use Rattle.std.proofs.Common.{◌≡◌, inl, inr, if◌then◌else◌, ℕ, Bool, true, false, ◌&&◌, ◌||◌, List, [], ◌∷◌, ◌++◌, Option, Some, refl, sym, ap, ◌∙◌, subst}
use Rattle.std.proofs.lemmas.Bool.{or_parts, true≢false, false_from_ne_true}
use Rattle.cam_names.specs.declared.name.Name.{Name}
use Rattle.cam_names.specs.Names.{name_eq, is_ancestor, is_child, is_top}
use Rattle.cam_names.specs.Dependencies.{pairs_of}
use Rattle.cam_names.proofs.Names.{name_eq_same}
use Rattle.cam_type.specs.declared.ObjectDecl.{ObjectDecl}
use Rattle.cam_event.specs.declared.Seen.TheVariants.{Done, Busy, Gone}
use Rattle.cam_event.specs.declared.Deed.{Deed}
use Rattle.cam_event.specs.declared.Deed.TheVariants.{Create, Ask, Got, Commit}
use Rattle.cam_event.specs.History.{created, call_of}
use Rattle.cam_event.specs.Gained.{deps, visited, home}
use Rattle.cam_event.specs.Inputs.{Mail}
use Rattle.cam_event.specs.Rules.{with_home}
use Rattle.cam_event.specs.ByKnowledge.{start_counts, finish_counts, gained_by}
use Rattle.cam_event.proofs.Members.{In}
use Rattle.cam_plain.specs.Lines.{asked_for, MayCommit}
use Rattle.cam_plain.specs.Legal.{Legal}
use Rattle.cam_plain.proofs.Performed.{runs_created}
use Rattle.cam_plain.proofs.Decided.{not_top}
use Rattle.cam_cut.proofs.HomeFacts.{child_parent}
use Rattle.cam_cut.proofs.LegalFacts.{asked_commit_created}
use Rattle.cam_cut.proofs.DepsFacts.{InRange, deps_none}
use Rattle.cam_cut.proofs.BeginGood.{asked_for_child}
use Rattle.cam_cut.proofs.Pairs.{OneCount}
use Rattle.cam_agree.proofs.DepsPairs.{SamePairs, same_refl, same_append, counts_pairs}
use Rattle.cam_agree.proofs.DepsSays.{created_asked}
use Rattle.cam_agree.proofs.DepsGains.{GainSays}

-- what a node keeps of an action is what the action depends on once it was created, and nothing before
pub record OwnOk (objects : List ObjectDecl) (L : List Deed) (a : Name) (own : List (ℕ × ℕ)) : Type 0 where
  pub born : created L a ≡ true → SamePairs own (deps objects L a)
  pub unborn : created L a ≡ false → own ≡ []

-- what is needed of the history before a deed and of the letter of its event
pub record Before (objects : List ObjectDecl) (before L : List Deed) (mail : Option Mail) (a : Name) : Type 0 where
  pub named : is_ancestor a a ≡ true
  pub calls : (n : ℕ) → call_of before a n ≡ call_of L a n
  pub single : (b : Name) → created L b ≡ true → OneCount (deps objects L b)
  pub ranged : (b : Name) (p : ℕ × ℕ) → In p (deps objects L b) → InRange p.0 p.1

pub own_deed : (objects : List ObjectDecl) (before L : List Deed) (mail : Option Mail) (a : Name) (own : List (ℕ × ℕ)) (d : Deed) → Before objects before L mail a → Legal objects (d ∷ L) → GainSays objects L mail d → OwnOk objects L a own → OwnOk objects (d ∷ L) a (gained_by objects before mail a d ++ own)
own_deed objects before L mail a own (Create b) is legal gains old = record {
  born = λ c. by (name_eq a b) refl c;
  unborn = λ c. let parts = or_parts (name_eq a b) (created L a) c in ap (λ (t : Bool). (if t then home b ∷ pairs_of (start_counts mail) else []) ++ own) parts.0 ∙ old.unborn parts.1;
}
  where
    nothing : (xs : List (ℕ × ℕ)) → xs ++ [] ≡ xs
    nothing [] = refl
    nothing (x ∷ xs) = ap (λ ys. x ∷ ys) (nothing xs)

    here : name_eq a b ≡ true → SamePairs ((home b ∷ pairs_of (start_counts mail)) ++ own) (if is_top b then home b ∷ deps objects L a else deps objects L a)
    here e =
        let same : a ≡ b = name_eq_same a b e in
        let fresh : created L a ≡ false = subst (λ x. created L x ≡ false) (sym same) legal.0.fresh in
        let whole : (home b ∷ pairs_of (start_counts mail)) ++ own ≡ with_home (start_counts mail) b = ap (λ xs. (home b ∷ pairs_of (start_counts mail)) ++ xs) (old.unborn fresh) ∙ nothing (home b ∷ pairs_of (start_counts mail)) in
        elim gains [
          | inl top ↦
              let none : deps objects L a ≡ [] = deps_none objects L a legal.1 is.named fresh
              (false_from_ne_true (asked_for L a) (λ k. true≢false (sym (subst (λ x. is_top x ≡ true) (sym same) top.0) ∙ asked_for_child objects L a legal.1 k))) in
              let one : (home b ∷ pairs_of (start_counts mail)) ++ own ≡ home b ∷ [] = whole ∙ ap (λ cs. with_home cs b) top.1 in
              let other : (if is_top b then home b ∷ deps objects L a else deps objects L a) ≡ home b ∷ [] = ap (λ (t : Bool). if t then home b ∷ deps objects L a else deps objects L a) top.0 ∙ ap (λ xs. home b ∷ xs) none in
              subst (λ xs. SamePairs ((home b ∷ pairs_of (start_counts mail)) ++ own) xs) (sym other) (subst (λ xs. SamePairs xs (home b ∷ [])) (sym one) (same_refl (home b ∷ [])))
          | inr child ↦
              let other : (if is_top b then home b ∷ deps objects L a else deps objects L a) ≡ deps objects L b = ap (λ (t : Bool). if t then home b ∷ deps objects L a else deps objects L a) child.0 ∙ ap (deps objects L) same in
              subst (λ xs. SamePairs ((home b ∷ pairs_of (start_counts mail)) ++ own) xs) (sym other) (subst (λ xs. SamePairs xs (deps objects L b)) (sym whole) child.1)
        ]

    by : (t : Bool) → name_eq a b ≡ t → (t || created L a) ≡ true → SamePairs ((if t then home b ∷ pairs_of (start_counts mail) else []) ++ own) (if t && is_top b then home b ∷ deps objects L a else deps objects L a)
    by true e c = here e
    by false e c = old.born c
own_deed objects before L mail a own (Ask q b) is legal gains old = record {
  born = λ c. subst (λ xs. SamePairs own xs) (sym (ap (λ (t : Bool). if t then home b ∷ deps objects L q ++ deps objects L a else deps objects L a)
      (false_from_ne_true (name_eq a b) (λ e. created_asked objects L q b legal (subst (λ x. created L x ≡ true) (name_eq_same a b e) c))))) (old.born c);
  unborn = λ c. old.unborn c;
}
own_deed objects before L mail a own (Got b n (Done answer)) is legal gains old = record {
  born = λ c. by (name_eq a b) refl (old.born c);
  unborn = λ c.
      ap (λ (t : Bool). (if t then visited objects (call_of before b n) else []) ++ own)
      (false_from_ne_true (name_eq a b) (λ e. true≢false (sym (subst (λ x. created L x ≡ true) (sym (name_eq_same a b e)) (runs_created L b legal.0.running)) ∙ c)))
      ∙ old.unborn c;
}
  where
    by : (t : Bool) → name_eq a b ≡ t → SamePairs own (deps objects L a) → SamePairs ((if t then visited objects (call_of before b n) else []) ++ own) (if t then visited objects (call_of L b n) ++ deps objects L a else deps objects L a)
    by true e same =
        let call : call_of before b n ≡ call_of L b n = subst (λ x. call_of before x n ≡ call_of L x n) (name_eq_same a b e) (is.calls n) in
        subst (λ o. SamePairs (visited objects o ++ own) (visited objects (call_of L b n) ++ deps objects L a)) (sym call)
        (same_append (visited objects (call_of L b n)) own (visited objects (call_of L b n)) (deps objects L a) (same_refl (visited objects (call_of L b n))) same)
    by false e same = same
own_deed objects before L mail a own (Got b n (Busy u)) is legal gains old = record { born = λ c. old.born c; unborn = λ c. old.unborn c }
own_deed objects before L mail a own (Got b n Gone) is legal gains old = record { born = λ c. old.born c; unborn = λ c. old.unborn c }
own_deed objects before L mail a own (Commit b) is legal gains old = record {
  born = λ c. by (is_child a b) refl (old.born c);
  unborn = λ c.
      ap (λ (t : Bool). (if t then pairs_of (finish_counts mail) else []) ++ own) (false_from_ne_true (is_child a b) (λ e. true≢false (sym (runs_created L a (running e)) ∙ c)))
      ∙ old.unborn c;
}
  where
    running : is_child a b ≡ true → MayCommit objects L b (Some a)
    running e = subst (λ q. MayCommit objects L b q) (child_parent a b is.named e) legal.0.may

    pairs : is_child a b ≡ true → SamePairs (pairs_of (finish_counts mail)) (deps objects L b)
    pairs e = elim gains [
      | inl top ↦ absurd (true≢false (sym top ∙ not_top b a (child_parent a b is.named e)))
      | inr child ↦ subst (λ cs. SamePairs (pairs_of cs) (deps objects L b)) (sym child.1)
          (counts_pairs (deps objects L b) (is.single b (asked_commit_created objects L b legal.1 legal.0.asked)) (is.ranged b))
    ]

    by : (t : Bool) → is_child a b ≡ t → SamePairs own (deps objects L a) → SamePairs ((if t then pairs_of (finish_counts mail) else []) ++ own) (if t then deps objects L b ++ deps objects L a else deps objects L a)
    by true e same = same_append (pairs_of (finish_counts mail)) own (deps objects L b) (deps objects L a) (pairs e) same
    by false e same = same
own_deed objects before L mail a own _ is legal gains old = record { born = λ c. old.born c; unborn = λ c. old.unborn c }
