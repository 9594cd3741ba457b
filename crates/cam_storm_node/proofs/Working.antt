-- What one more step of a view does to the table of works.
use Rattle.std.proofs.Common.{◌≡◌, inl, inr, ℕ, ℤ, ◌≤◌, Bool, true, false, ◌&&◌, ◌||◌}
use Rattle.std.proofs.Common.{if◌then◌else◌, cond, [], ◌∷◌, ◌++◌, length, eqb, eq-eqb}
use Rattle.std.proofs.Common.{Option, Some, None, refl, sym, ap, ◌∙◌, subst, append-nil}
use Rattle.std.specs.Ordering.{is_eq}
use Rattle.std.specs.BTreeMap.{BTreeMap, get}
use Rattle.std.proofs.lemmas.Bool.{and_left, and_right, cases_Bool, ne_eqb}
use Rattle.cam_names.specs.declared.name.Name.{Name}
use Rattle.cam_names.specs.Names.{name_cmp, name_eq, home_node, parent}
use Rattle.cam_names.proofs.Children.{is_some_name, child_of}
use Rattle.cam_names.proofs.Names.{name_eq_same, name_ties_back}
use Rattle.cam_event.specs.declared.ViewStep.{ViewStep}
use Rattle.cam_event.specs.declared.ViewStep.TheVariants as steps
use Rattle.cam_gen.specs.Storms.{Words, action_number, body_of}
use Rattle.cam_storm_node.specs.declared.works.Work.{Work}
use Rattle.cam_storm_node.specs.Works.{HaveBodies, child_end, steps_for, view_in, view_of}

module _ (old gone new : BTreeMap Name Work) (b : Name) (work : Work)
    (out : (q : Name) → get name_cmp gone q ≡ cond (is_eq (name_cmp b q)) None (get name_cmp old q))
    (put : (q : Name)
    → get name_cmp new q ≡ cond (is_eq (name_cmp b q)) (Some work) (get name_cmp gone q)) where
  there : (a : Name) → name_eq a b ≡ true → get name_cmp new a ≡ Some work
  there a same =
      put a ∙ ap (λ t. cond t (Some work) (get name_cmp gone a)) (name_ties_back a b ∙ same)

  elsewhere : (a : Name) → name_eq a b ≡ false → get name_cmp new a ≡ get name_cmp old a
  elsewhere a other =
      let apart : is_eq (name_cmp b a) ≡ false = name_ties_back a b ∙ other in
      put a ∙ ap (λ t. cond t (Some work) (get name_cmp gone a)) apart
      ∙ out a ∙ ap (λ t. cond t None (get name_cmp old a)) apart

  -- a work taken out, and put back with a step more
  pub view_put : (step : ViewStep) → work.view ≡ view_in old b ++ step ∷ []
      → (a : Name) → view_in new a ≡ view_in old a ++ steps_for a (Some (b, step))
  view_put step longer a =
      elim (cases_Bool (name_eq a b)) [
        | inl same ↦
            ap view_of (there a same) ∙ longer
            ∙ ap (λ n. view_in old n ++ step ∷ []) (sym (name_eq_same a b same))
            ∙ ap (λ t. view_in old a ++ (if t then step ∷ [] else [])) (sym same)
        | inr other ↦
            ap view_of (elsewhere a other) ∙ sym (append-nil (view_in old a))
            ∙ ap (λ t. view_in old a ++ (if t then step ∷ [] else [])) (sym other)
      ]

  same_work : {w v : Work} → Some w ≡ Some v → w ≡ v
  same_work e = cc

  pub bodies_put : (words : Words) → (action_number b ≤ 64 → work.body ≡ body_of words b)
      → HaveBodies words old → HaveBodies words new
  bodies_put words body have a w at few =
      elim (cases_Bool (name_eq a b)) [
        | inl same ↦
            let is : w ≡ work = same_work (sym at ∙ there a same) in
            let named = name_eq_same a b same in
            ap (λ (x : Work). x.body) is
            ∙ body (subst (λ (n : Name). action_number n ≤ 64) named few)
            ∙ ap (body_of words) (sym named)
        | inr other ↦ have a w (sym (elsewhere a other) ∙ at) few
      ]

-- the end of a child is a step of just its parent's view
pub child_has_parent : (a b u : Name) (v : Option ℤ) → 1 ≤ length a → parent b ≡ Some u
    → steps_for a (Some (u, steps.Child b v)) ≡ child_end a b v
child_has_parent a b u v named is =
    sym
    (ap (λ t. if t then steps.Child b v ∷ [] else [])
    (child_of a b named ∙ ap (is_some_name a) is))

pub top_has_none : (a b : Name) (v : Option ℤ) → 1 ≤ length a → parent b ≡ None
    → [] ≡ child_end a b v
top_has_none a b v named is =
    sym
    (ap (λ t. if t then steps.Child b v ∷ [] else [])
    (child_of a b named ∙ ap (is_some_name a) is))

-- an action was stopped at this node, which is its home
pub stop_put : (s : ℕ) (a b : Name) (before : Bool) → s ≡ home_node b
    → cond (is_eq (name_cmp b a)) true before
    ≡ ((eqb s (home_node a) && name_eq a b) || before)
stop_put s a b before home =
    elim (cases_Bool (name_eq a b)) [
      | inl same ↦
          let here : eqb s (home_node a) ≡ true =
          ap (λ n. eqb s (home_node n)) (name_eq_same a b same) ∙ eq-eqb s (home_node b) home in
          ap (λ t. cond t true before) (name_ties_back a b ∙ same)
          ∙ sym (λ i. (here i && same i) || before)
      | inr other ↦
          ap (λ t. cond t true before) (name_ties_back a b ∙ other)
          ∙ sym (ap (λ t. t || before) (and_right (eqb s (home_node a)) (name_eq a b) other))
    ]

-- it is not its home
pub stop_elsewhere : (s : ℕ) (a b : Name) (before : Bool) → (s ≡ home_node b → ⊥)
    → before ≡ ((eqb s (home_node a) && name_eq a b) || before)
stop_elsewhere s a b before away =
    elim (cases_Bool (name_eq a b)) [
      | inl same ↦
          let other : eqb s (home_node a) ≡ false =
          ne_eqb s (home_node a) (λ e. away (e ∙ ap home_node (name_eq_same a b same))) in
          sym (ap (λ t. t || before) (and_left (eqb s (home_node a)) (name_eq a b) other))
      | inr other ↦
          sym (ap (λ t. t || before) (and_right (eqb s (home_node a)) (name_eq a b) other))
    ]

-- no action was stopped
pub no_stop : (here before : Bool) → before ≡ ((here && false) || before)
no_stop true before = refl
no_stop false before = refl
