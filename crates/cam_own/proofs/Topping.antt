-- What one more top action adds.
use Rattle.std.proofs.Common.{◌≡◌, ℕ, ◌+◌, eqb, Bool, true, false, ◌&&◌, if◌then◌else◌, cond, List, ◌∷◌, Some, unwrap_or, refl, sym, ap, ◌∙◌}
use Rattle.std.specs.HashMap.{HashMap, get}
use Rattle.std.proofs.lemmas.Bool.{and_parts, eqb-true}
use Rattle.cam_names.specs.declared.name.Name.{Name}
use Rattle.cam_names.specs.Names.{is_top, home_node, home_count}
use Rattle.cam_event.specs.declared.Deed.{Deed}
use Rattle.cam_event.specs.declared.Deed.TheVariants.{Create}
use Rattle.cam_event.specs.History.{tops}
use Rattle.cam_own.specs.declared.tops.Home.{Home}
use Rattle.cam_own.specs.Tops.{home_eq, home_at, tops_in, KeepsTops}

-- one more top action at a home
pub top_put : {S : Type 0} (L : List Deed) (b : Name) (s c k : ℕ) (old new : HashMap Home ℕ S) → is_top b ≡ true → home_node b ≡ s → home_count b ≡ c → KeepsTops L old → k ≡ tops_in old s c + 1
    → ((q : Home) → get home_eq new q ≡ cond (home_eq (home_at s c) q) (Some k) (get home_eq old q)) → KeepsTops (Create b ∷ L) new
top_put L b s c k old new top at count before is put t d =
    ap (λ o. unwrap_or o 0) (put (home_at t d)) ∙ by (eqb s t && eqb c d) refl
    ∙ ap (λ x. if x then tops L t d + 1 else tops L t d) (sym ((λ i. top i && eqb (at i) t && eqb (count i) d)))
  where
    by : (x : Bool) → (eqb s t && eqb c d) ≡ x → unwrap_or (cond x (Some k) (get home_eq old (home_at t d))) 0 ≡ (if x then tops L t d + 1 else tops L t d)
    by true same =
        let parts = and_parts (eqb s t) (eqb c d) same in
        is ∙ ap (λ n. n + 1) (before s c ∙ (λ i. tops L (eqb-true s t parts.0 i) (eqb-true c d parts.1 i)))
    by false other = before t d

-- a child adds none
pub child_put : {S : Type 0} (L : List Deed) (b : Name) (old : HashMap Home ℕ S) → is_top b ≡ false → KeepsTops L old → KeepsTops (Create b ∷ L) old
child_put L b old child before t d =
    before t d ∙ sym (ap (λ x. if x && eqb (home_node b) t && eqb (home_count b) d then tops L t d + 1 else tops L t d) child)
