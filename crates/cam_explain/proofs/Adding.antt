-- What one more moment adds to the table of moments.
use Rattle.std.proofs.Common.{◌≡◌, inl, inr, true, false, if◌then◌else◌, cond, List, [], ◌∷◌, ◌++◌, Some, None, unwrap_or, sym, ap, ◌∙◌, append-nil}
use Rattle.std.specs.Ordering.{is_eq}
use Rattle.std.specs.BTreeMap.{BTreeMap, get}
use Rattle.std.proofs.lemmas.Bool.{cases_Bool}
use Rattle.cam_names.specs.declared.name.Name.{Name}
use Rattle.cam_names.specs.Names.{name_cmp, name_eq}
use Rattle.cam_names.proofs.Names.{name_eq_same, name_eq_sym, name_ties}
use Rattle.cam_explain.specs.declared.moments.Moment.{Moment}
use Rattle.cam_explain.specs.Moments.{kept, moments_in}

-- the moments of an action taken out, and put back with one after them
pub moments_put : (old gone new : BTreeMap Name (List Moment)) (b : Name) (m : Moment)
    → ((q : Name) → get name_cmp gone q ≡ cond (is_eq (name_cmp b q)) None (get name_cmp old q))
    → ((q : Name) → get name_cmp new q ≡ cond (is_eq (name_cmp b q)) (Some (moments_in old b ++ m ∷ [])) (get name_cmp gone q))
    → (a : Name) → moments_in new a ≡ moments_in old a ++ kept a m.event m.line (Some (b, m.what))
moments_put old gone new b m out put a =
    elim (cases_Bool (name_eq a b)) [
      | inl same ↦
          let tied : is_eq (name_cmp b a) ≡ true = sym (name_ties b a) ∙ name_eq_sym b a ∙ same in
          ap (λ o. unwrap_or o []) (put a ∙ ap (λ t. cond t (Some (moments_in old b ++ m ∷ [])) (get name_cmp gone a)) tied)
          ∙ ap (λ n. moments_in old n ++ m ∷ []) (sym (name_eq_same a b same))
          ∙ ap (λ t. moments_in old a ++ (if t then m ∷ [] else [])) (sym same)
      | inr other ↦
          let apart : is_eq (name_cmp b a) ≡ false = sym (name_ties b a) ∙ name_eq_sym b a ∙ other in
          ap (λ o. unwrap_or o [])
          (put a ∙ ap (λ t. cond t (Some (moments_in old b ++ m ∷ [])) (get name_cmp gone a)) apart
          ∙ out a ∙ ap (λ t. cond t None (get name_cmp old a)) apart)
          ∙ sym (append-nil (moments_in old a)) ∙ ap (λ t. moments_in old a ++ (if t then m ∷ [] else [])) (sym other)
    ]
