-- What one more deed, and the deeds of one more event, change of what a walk has noted of an action.
use Rattle.std.proofs.Common.{◌≡◌, ℤ, Bool, true, false, ◌&&◌, ◌||◌, if◌then◌else◌, cond, List, [], ◌∷◌, ◌++◌, Some, refl, sym, ap, ◌∙◌}
use Rattle.std.specs.BTreeSet.{BTreeSet, contains}
use Rattle.std.specs.Ordering.{is_eq}
use Rattle.cam_names.specs.declared.name.Name.{Name}
use Rattle.cam_names.specs.Names.{name_cmp, name_eq, is_child}
use Rattle.cam_names.proofs.Names.{name_eq_same, name_ties_back}
use Rattle.cam_event.specs.declared.Deed.{Deed}
use Rattle.cam_event.specs.declared.Deed.TheVariants.{AskCommit, Commit}
use Rattle.cam_event.specs.History.{after, asked_commit, commit_value}
use Rattle.cam_event.specs.Views.{committed_child, step_of}
use Rattle.cam_cut.specs.declared.watch.Watch.{Watch}
use Rattle.cam_cut.specs.Watched.{Watches}
use Rattle.cam_cut.specs.Witness.{is_some_step, gives_step}

-- A child's commit is seen where it asked to commit before.
committed_seen : (L : List Deed) (b : Name) → is_some_step (committed_child b (commit_value L b)) ≡ asked_commit L b
committed_seen [] b = refl
committed_seen (AskCommit c v ∷ L) b = by (name_eq b c) (committed_seen L b)
  where
    by : (t : Bool) → is_some_step (committed_child b (commit_value L b)) ≡ asked_commit L b → is_some_step (committed_child b (if t then Some v else commit_value L b)) ≡ (t || asked_commit L b)
    by true rest = refl
    by false rest = rest
committed_seen (_ ∷ L) b = committed_seen L b

-- a Commit gives a step where the watch has the action as a child that has asked to commit
pub commit_step : (L : List Deed) (a b : Name) (watch : Watch) → Watches L a watch → contains name_cmp watch.finished b ≡ is_some_step (step_of L (Commit b) a)
commit_step L a b watch has = has.finished b ∙ by (is_child a b)
  where
    by : (t : Bool) → (t && asked_commit L b) ≡ is_some_step (if t then committed_child b (commit_value L b) else [])
    by true = sym (committed_seen L b)
    by false = refl

-- one more child has asked to commit
pub finished_put : (L : List Deed) (a b : Name) (v : ℤ) (old : Watch) (new : BTreeSet Name) → Watches L a old → is_child a b ≡ true
    → ((q : Name) → contains name_cmp new q ≡ cond (is_eq (name_cmp b q)) true (contains name_cmp old.finished q))
    → (q : Name) → contains name_cmp new q ≡ (is_child a q && asked_commit (AskCommit b v ∷ L) q)
finished_put L a b v old new has child put q = put q ∙ (λ i. cond (name_ties_back q b i) true (has.finished q i)) ∙ by (name_eq q b) refl
  where
    by : (t : Bool) → name_eq q b ≡ t → cond t true (is_child a q && asked_commit L q) ≡ (is_child a q && (t || asked_commit L q))
    by false e = refl
    by true e = sym (ap (λ c. c && true) (ap (is_child a) (name_eq_same q b e) ∙ child))

-- and where the action that has is no child, nothing changes
pub finished_same : (L : List Deed) (a b : Name) (v : ℤ) (old : Watch) → Watches L a old → is_child a b ≡ false
    → (q : Name) → contains name_cmp old.finished q ≡ (is_child a q && asked_commit (AskCommit b v ∷ L) q)
finished_same L a b v old has other q = has.finished q ∙ by (name_eq q b) refl
  where
    by : (t : Bool) → name_eq q b ≡ t → (is_child a q && asked_commit L q) ≡ (is_child a q && (t || asked_commit L q))
    by false e = refl
    by true e =
        let none : is_child a q ≡ false = ap (is_child a) (name_eq_same q b e) ∙ other in
        ap (λ c. c && asked_commit L q) none ∙ sym (ap (λ c. c && true) none)

-- one deed further along those of an event
pub gives_more : (L ds : List Deed) (d : Deed) (a : Name) → gives_step L (ds ++ d ∷ []) a ≡ (gives_step L ds a || is_some_step (step_of (after L ds) d a))
gives_more L [] d a = by (is_some_step (step_of L d a))
  where
    by : (t : Bool) → (if t then true else false) ≡ t
    by true = refl
    by false = refl
gives_more L (e ∷ ds) d a = by (is_some_step (step_of L e a)) (gives_more (e ∷ L) ds d a)
  where
    by : (t : Bool) → gives_step (e ∷ L) (ds ++ d ∷ []) a ≡ (gives_step (e ∷ L) ds a || is_some_step (step_of (after (e ∷ L) ds) d a))
        → (if t then true else gives_step (e ∷ L) (ds ++ d ∷ []) a) ≡ ((if t then true else gives_step (e ∷ L) ds a) || is_some_step (step_of (after (e ∷ L) ds) d a))
    by true rest = refl
    by false rest = rest
