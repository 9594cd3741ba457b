-- What one more deed, and one more event, adds to what is kept of views.
use Rattle.std.proofs.Common.{◌≡◌, inl, inr, ℕ, ℤ, ◌≤◌, Bool, true, false, ◌&&◌, ◌||◌}
use Rattle.std.proofs.Common.{if◌then◌else◌, cond, List, [], ◌∷◌, ◌++◌, length, eqb, eq-eqb}
use Rattle.std.proofs.Common.{Option, Some, None, unwrap_or, refl, sym, ap, ◌∙◌, append-nil}
use Rattle.std.proofs.Common.{append_assoc}
use Rattle.std.specs.Ordering.{is_eq}
use Rattle.std.specs.BTreeMap.{BTreeMap, get}
use Rattle.std.specs.List.{list_any}
use Rattle.std.proofs.lemmas.Bool.{and_left, and_right, cases_Bool, ne_eqb, or_parts}
use Rattle.cam_names.specs.declared.name.Name.{Name}
use Rattle.cam_names.specs.Names.{name_cmp, name_eq, home_node, is_child, parent}
use Rattle.cam_names.proofs.Children.{is_some_name, child_of}
use Rattle.cam_names.proofs.Names.{name_eq_same, name_ties_back}
use Rattle.cam_event.specs.declared.Deed.{Deed}
use Rattle.cam_event.specs.declared.Deed.TheVariants.{Create, Ask, Call, Perform, Bounce, Got}
use Rattle.cam_event.specs.declared.Deed.TheVariants.{AskCommit, AskAbort, Commit, Abort, Secure}
use Rattle.cam_event.specs.declared.Deed.TheVariants.{Inform, Crash}
use Rattle.cam_event.specs.declared.ViewStep.{ViewStep}
use Rattle.cam_event.specs.declared.ViewStep.TheVariants as steps
use Rattle.cam_event.specs.History.{after, commit_value}
use Rattle.cam_event.specs.Pasts.{plain_all}
use Rattle.cam_event.specs.Views.{step_of, committed_child, view}
use Rattle.cam_cluster.specs.ActionViews.{child_end, concerns, steps_for, steps_of_deeds, view_in}
use Rattle.cam_cluster.specs.ActionViews.{OthersChangeNoView, ViewsGoOn}

-- a view taken out, and put back with a step after it
pub view_put : (old gone new : BTreeMap Name (List ViewStep)) (b : Name) (step : ViewStep)
    → ((q : Name) → get name_cmp gone q ≡ cond (is_eq (name_cmp b q)) None (get name_cmp old q))
    → ((q : Name) → get name_cmp new q
    ≡ cond (is_eq (name_cmp b q)) (Some (view_in old b ++ step ∷ [])) (get name_cmp gone q))
    → (a : Name) → view_in new a ≡ view_in old a ++ steps_for a (Some (b, step))
view_put old gone new b step out put a =
    elim (cases_Bool (name_eq a b)) [
      | inl same ↦
          let tied : is_eq (name_cmp b a) ≡ true = name_ties_back a b ∙ same in
          ap (λ o. unwrap_or o []) (put a ∙ ap (λ t. cond t (Some (view_in old b ++ step ∷ [])) (get
          name_cmp gone a)) tied) ∙ ap (λ n. view_in old n ++ step ∷ []) (sym (name_eq_same _ _
          same)) ∙ ap (λ t. view_in old a ++ (if t then step ∷ [] else [])) (sym same)
      | inr other ↦
          let apart : is_eq (name_cmp b a) ≡ false = name_ties_back a b ∙ other in
          ap (λ o. unwrap_or o []) (put a ∙ ap (λ t. cond t (Some (view_in old b ++ step ∷ [])) (get
          name_cmp gone a)) apart ∙ out a ∙ ap (λ t. cond t None (get name_cmp old a)) apart) ∙ sym
          (append-nil (view_in old a)) ∙ ap (λ t. view_in old a ++ (if t then step ∷ [] else []))
          (sym other)
    ]

-- the end of a child is a step of just its parent's view
pub child_has_parent : (a b u : Name) (v : Option ℤ) → 1 ≤ length a → parent b ≡ Some u
    → steps_for a (Some (u, steps.Child b v)) ≡ child_end a b v
child_has_parent a b u v named is =
    sym (ap (λ t. if t then steps.Child b v ∷ [] else []) (child_of _ b named ∙ ap (is_some_name a)
    is))

pub top_has_none : (a b : Name) (v : Option ℤ) → 1 ≤ length a → parent b ≡ None
    → [] ≡ child_end a b v
top_has_none a b v named is =
    sym (ap (λ t. if t then steps.Child b v ∷ [] else []) (child_of _ b named ∙ ap (is_some_name a)
    is))

-- a commit is seen with the value that the child asked for, or not at all
pub committed_with : (L : List Deed) (a b : Name) (v : ℤ) → commit_value L b ≡ Some v
    → child_end a b (Some v) ≡ step_of L (Commit b) a
committed_with L a b v is = ap (λ o. if is_child a b then committed_child b o else []) (sym is)

none : {X : Type 0} (t : Bool) → [] ≡ if◌then◌else◌ {A = List X} t [] []
none true = refl
none false = refl

pub committed_without : (L : List Deed) (a b : Name) → commit_value L b ≡ None
    → [] ≡ step_of L (Commit b) a
committed_without L a b is =
    none (is_child a b) ∙ ap (λ o. if is_child a b then committed_child b o else []) (sym is)

-- an action was stopped at this node, which is its home
pub stop_put : (s : ℕ) (a b : Name) (before : Bool) → s ≡ home_node b
    → cond (is_eq (name_cmp b a)) true before
    ≡ ((eqb s (home_node a) && name_eq a b) || before)
stop_put s a b before home =
    elim (cases_Bool (name_eq a b)) [
      | inl same ↦
          let here : eqb s (home_node a) ≡ true =
          ap (λ n. eqb s (home_node n)) (name_eq_same a b same) ∙ eq-eqb s (home_node b) home in
          ap (λ t. cond t true before) (name_ties_back a b ∙ same)
          ∙ sym (λ i. (here i && same i) || before)
      | inr other ↦
          ap (λ t. cond t true before) (name_ties_back a b ∙ other)
          ∙ sym (ap (λ t. t || before) (and_right (eqb s (home_node a)) (name_eq a b) other))
    ]

-- it is not its home
pub stop_elsewhere : (s : ℕ) (a b : Name) (before : Bool) → (s ≡ home_node b → ⊥)
    → before ≡ ((eqb s (home_node a) && name_eq a b) || before)
stop_elsewhere s a b before away =
    elim (cases_Bool (name_eq a b)) [
      | inl same ↦
          let other : eqb s (home_node a) ≡ false =
          ne_eqb s (home_node a) (λ e. away (e ∙ ap home_node (name_eq_same a b same))) in
          sym (ap (λ t. t || before) (and_left (eqb s (home_node a)) (name_eq a b) other))
      | inr other ↦
          sym (ap (λ t. t || before) (and_right (eqb s (home_node a)) (name_eq a b) other))
    ]

-- no action was stopped
pub no_stop : (here before : Bool) → before ≡ ((here && false) || before)
no_stop true before = refl
no_stop false before = refl

-- the views after some deeds more
view_after : (L ds : List Deed) (a : Name) → view (after L ds) a ≡ view L a ++ steps_of_deeds L ds a
view_after L [] a = sym (append-nil (view L a))
view_after L (d ∷ ds) a =
    view_after (d ∷ L) ds a
    ∙ append_assoc (view L a) (step_of L d a) (steps_of_deeds (d ∷ L) ds a)

pub views_go_on : ViewsGoOn
views_go_on t e a = view_after _ e.deeds a

-- a deed that does not concern an action gives its view no step
none_given : (L : List Deed) (d : Deed) (a : Name) → concerns a d ≡ false → step_of L d a ≡ []
none_given L (Create b) a h = ap (λ t. if t then steps.Created ∷ [] else []) h
none_given L (Ask p b) a h = ap (λ t. if t then steps.Asked b ∷ [] else []) h
none_given L (Call b n object op count) a h =
    ap (λ t. if t then steps.Called n object op ∷ [] else []) h
none_given L (Got b n seen) a h = ap (λ t. if t then steps.Got n seen ∷ [] else []) h
none_given L (AskCommit b v) a h = ap (λ t. if t then steps.CommitAsked v ∷ [] else []) h
none_given L (AskAbort b) a h = ap (λ t. if t then steps.AbortAsked ∷ [] else []) h
none_given L (Commit b) a h = ap (λ t. if t then committed_child b (commit_value L b) else []) h
none_given L (Abort b) a h = ap (λ t. if t then steps.Child b None ∷ [] else []) h
none_given L (Perform b n answer) a h = refl
none_given L (Bounce b n holder) a h = refl
none_given L (Secure f s c) a h = refl
none_given L (Inform s b committed) a h = refl
none_given L (Crash s) a h = refl

all_none_given : (L ds : List Deed) (a : Name) → list_any (concerns a) ds ≡ false
    → steps_of_deeds L ds a ≡ []
all_none_given L [] a h = refl
all_none_given L (d ∷ ds) a h =
    let parts = or_parts (concerns a d) (list_any (concerns a) ds) h in
    λ i. none_given L d a parts.0 i ++ all_none_given (d ∷ L) ds a parts.1 i

pub others_change_no_view : OthersChangeNoView
others_change_no_view t e a others =
    views_go_on t e a
    ∙ ap (λ more. view (plain_all t) a ++ more) (all_none_given (plain_all t) e.deeds a others)
    ∙ append-nil (view (plain_all t) a)
