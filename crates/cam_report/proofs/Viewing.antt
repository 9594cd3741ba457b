-- What one more deed adds to the tables of views and of values.
use Rattle.std.proofs.Common.{◌≡◌, inl, inr, ℤ, ◌≤◌, Bool, true, false, if◌then◌else◌, cond, List, [], ◌∷◌, ◌++◌, length, Option, Some, None, unwrap_or, refl, sym, ap, ◌∙◌, append-nil}
use Rattle.std.specs.Option.{option_map}
use Rattle.std.specs.Ordering.{is_eq}
use Rattle.std.specs.BTreeMap.{BTreeMap, get}
use Rattle.std.proofs.lemmas.Bool.{cases_Bool}
use Rattle.cam_names.specs.declared.name.Name.{Name}
use Rattle.cam_names.specs.Names.{name_cmp, name_eq, is_child, parent}
use Rattle.cam_names.proofs.Names.{name_eq_same, name_eq_sym}
use Rattle.cam_event.specs.declared.Deed.{Deed}
use Rattle.cam_event.specs.declared.Deed.TheVariants.{Create, Ask, Call, Perform, Bounce, Got, AskCommit, AskAbort, Commit, Abort, Secure, Inform, Crash}
use Rattle.cam_event.specs.declared.ViewStep.{ViewStep}
use Rattle.cam_event.specs.declared.ViewStep.TheVariants as steps
use Rattle.cam_event.specs.History.{commit_value}
use Rattle.cam_event.specs.Views.{step_of, committed_child}
use Rattle.cam_report.specs.Gathered.{child_step, committed_step, step_gained, steps_for, view_in, TellsValues, TellsViews}
use Rattle.cam_names.proofs.Names.{name_ties}
use Rattle.cam_names.proofs.Children.{is_some_name, child_of}

-- a view taken out, and put back with a step after it
pub view_put : (old gone new : BTreeMap Name (List ViewStep)) (b : Name) (step : ViewStep)
    → ((q : Name) → get name_cmp gone q ≡ cond (is_eq (name_cmp b q)) None (get name_cmp old q))
    → ((q : Name) → get name_cmp new q ≡ cond (is_eq (name_cmp b q)) (Some (view_in old b ++ step ∷ [])) (get name_cmp gone q))
    → (a : Name) → view_in new a ≡ view_in old a ++ steps_for a (Some (b, step))
view_put old gone new b step out put a =
    elim (cases_Bool (name_eq a b)) [
      | inl same ↦
          let tied : is_eq (name_cmp b a) ≡ true = sym (name_ties b a) ∙ name_eq_sym b a ∙ same in
          ap (λ o. unwrap_or o []) (put a ∙ ap (λ t. cond t (Some (view_in old b ++ step ∷ [])) (get name_cmp gone a)) tied)
          ∙ ap (λ n. view_in old n ++ step ∷ []) (sym (name_eq_same a b same))
          ∙ ap (λ t. view_in old a ++ (if t then step ∷ [] else [])) (sym same)
      | inr other ↦
          let apart : is_eq (name_cmp b a) ≡ false = sym (name_ties b a) ∙ name_eq_sym b a ∙ other in
          ap (λ o. unwrap_or o [])
          (put a ∙ ap (λ t. cond t (Some (view_in old b ++ step ∷ [])) (get name_cmp gone a)) apart
          ∙ out a ∙ ap (λ t. cond t None (get name_cmp old a)) apart)
          ∙ sym (append-nil (view_in old a)) ∙ ap (λ t. view_in old a ++ (if t then step ∷ [] else [])) (sym other)
    ]

-- a child's end is a step of just its parent's view
child_steps : (a b : Name) (v : Option ℤ) → 1 ≤ length a → (if is_child a b then steps.Child b v ∷ [] else []) ≡ steps_for a (child_step b v)
child_steps a b v named = ap (λ t. if t then steps.Child b v ∷ [] else []) (child_of a b named) ∙ by_parent (parent b)
  where
    by_parent : (p : Option Name) → (if is_some_name a p then steps.Child b v ∷ [] else []) ≡ steps_for a (option_map (λ u. (u, steps.Child b v)) p)
    by_parent None = refl
    by_parent (Some u) = refl

committed_steps : (a b : Name) (v : Option ℤ) → 1 ≤ length a → (if is_child a b then committed_child b v else []) ≡ steps_for a (committed_step b v)
committed_steps a b None named = none (is_child a b)
  where
    none : (t : Bool) → if◌then◌else◌ {A = List ViewStep} t [] [] ≡ []
    none true = refl
    none false = refl
committed_steps a b (Some v) named = child_steps a b (Some v) named

-- the step that the code takes from a deed is the one of the definition
pub gained_is : (L : List Deed) (values : Name → Option ℤ) → ((b : Name) → values b ≡ commit_value L b) → (d : Deed) (a : Name) → 1 ≤ length a → steps_for a (step_gained values d) ≡ step_of L d a
gained_is L values tell (Create b) a named = refl
gained_is L values tell (Ask p b) a named = refl
gained_is L values tell (Call b n object op count) a named = refl
gained_is L values tell (Perform b n answer) a named = refl
gained_is L values tell (Bounce b n holder) a named = refl
gained_is L values tell (Got b n seen) a named = refl
gained_is L values tell (AskCommit b v) a named = refl
gained_is L values tell (AskAbort b) a named = refl
gained_is L values tell (Commit b) a named = ap (λ v. steps_for a (committed_step b v)) (tell b) ∙ sym (committed_steps a b (commit_value L b) named)
gained_is L values tell (Abort b) a named = sym (child_steps a b None named)
gained_is L values tell (Secure f s c) a named = refl
gained_is L values tell (Inform s b committed) a named = refl
gained_is L values tell (Crash s) a named = refl

pub views_step : (L : List Deed) (d : Deed) (values : BTreeMap Name ℤ) (old new : BTreeMap Name (List ViewStep))
    → TellsValues L values → TellsViews L old → ((a : Name) → view_in new a ≡ view_in old a ++ steps_for a (step_gained (get name_cmp values) d))
    → TellsViews (d ∷ L) new
views_step L d values old new tell before step a named =
    step a ∙ (λ i. before a named i ++ gained_is L (get name_cmp values) tell d a named i)

-- the value of one more request to commit
pub values_put : (L : List Deed) (b : Name) (v : ℤ) (old new : BTreeMap Name ℤ) → TellsValues L old
    → ((q : Name) → get name_cmp new q ≡ cond (is_eq (name_cmp b q)) (Some v) (get name_cmp old q))
    → TellsValues (AskCommit b v ∷ L) new
values_put L b v old new before put a =
    put a ∙ (λ i. cond (tied i) (Some v) (before a i))
  where
    tied : is_eq (name_cmp b a) ≡ name_eq a b
    tied = sym (name_ties b a) ∙ name_eq_sym b a
