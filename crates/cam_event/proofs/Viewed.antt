-- What one more deed, and one more event, adds to what is kept for a view.
use Rattle.std.proofs.Common.{◌≡◌, ℕ, ℤ, ◌+◌, Bool, true, false, if◌then◌else◌, cond, List, [], ◌∷◌, ◌++◌, take, reverse, Some, refl, ap, ◌∙◌}
use Rattle.std.specs.Ordering.{is_eq}
use Rattle.std.specs.BTreeMap.{BTreeMap, get}
use Rattle.std.proofs.lemmas.List.{reverse-append}
use Rattle.cam_names.specs.declared.name.Name.{Name}
use Rattle.cam_names.specs.Names.{name_cmp, name_eq}
use Rattle.cam_names.proofs.Names.{name_ties_back}
use Rattle.cam_event.specs.declared.Deed.{Deed}
use Rattle.cam_event.specs.declared.Deed.TheVariants.{AskCommit}
use Rattle.cam_event.specs.declared.Event.{Event}
use Rattle.cam_event.specs.History.{after, commit_value}
use Rattle.cam_event.specs.Pasts.{plain_all}
use Rattle.cam_event.specs.Values.{HasValues}

-- one more action asked to commit
pub values_put : (L : List Deed) (b : Name) (v : ℤ) (old new : BTreeMap Name ℤ) → HasValues L old
    → ((q : Name) → get name_cmp new q ≡ cond (is_eq (name_cmp b q)) (Some v) (get name_cmp old q)) → HasValues (AskCommit b v ∷ L) new
values_put L b v old new before put a =
    put a ∙ (λ i. cond (name_ties_back a b i) (Some v) (before a i)) ∙ chosen (name_eq a b)
  where
    chosen : (t : Bool) → cond t (Some v) (commit_value L a) ≡ (if t then Some v else commit_value L a)
    chosen true = refl
    chosen false = refl

-- the deeds of one more event follow
pub plain_more : (es : List Event) (i : ℕ) (e : Event) → take (i + 1) es ≡ take i es ++ e ∷ [] → plain_all (reverse (take (i + 1) es)) ≡ after (plain_all (reverse (take i es))) e.deeds
plain_more es i e split = ap (λ (t : List Event). plain_all (reverse t)) split ∙ ap plain_all (reverse-append (take i es) (e ∷ []))
