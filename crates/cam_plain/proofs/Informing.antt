-- What the news of an outcome does to what is kept of its site.
use Rattle.std.proofs.Common.{◌≡◌, ℕ, eqb, Bool, true, false, not, ◌&&◌, ◌||◌, if◌then◌else◌, List, [], ◌∷◌, ◌++◌, filter, refl, sym, ap, ◌∙◌, subst}
use Rattle.std.specs.List.{list_all}
use Rattle.std.proofs.lemmas.Bool.{eq-eqb}
use Rattle.cam_names.specs.declared.name.Name.{Name}
use Rattle.cam_names.specs.Names.{name_eq, is_ancestor, is_top}
use Rattle.cam_names.proofs.Names.{name_eq_same}
use Rattle.cam_names.proofs.Any.{any_last}
use Rattle.cam_type.specs.declared.ObjectDecl.{ObjectDecl}
use Rattle.cam_locks.specs.Names.{has_name, with_name}
use Rattle.cam_locks.specs.Calls.{with_commit, with_abort}
use Rattle.cam_event.specs.declared.Operation.{Operation}
use Rattle.cam_event.specs.declared.Deed.{Deed}
use Rattle.cam_event.specs.declared.Deed.TheVariants.{Inform}
use Rattle.cam_event.specs.History.{informed}
use Rattle.cam_event.specs.Live.{site_of, live, live_at}
use Rattle.cam_event.proofs.Snoc.{filter_filter, filter_same}
use Rattle.cam_event.proofs.LiveLaws.{live_abort, is_below}
use Rattle.cam_plain.specs.declared.site.Site.{Site}
use Rattle.cam_plain.specs.Sites.{AreLiveOps, is_noted, KeepsSite}
use Rattle.cam_plain.proofs.Alike.{alike_filter}
use Rattle.cam_plain.proofs.Searches.{all_parts, all_true}

-- of the operations at a site the news of an abort drops those of the action and below it
aborted_at : (objects : List ObjectDecl) (L : List Deed) (s : ℕ) (a : Name) → live_at objects (Inform s a false ∷ L) s ≡ filter (λ o. not (is_ancestor a o.action)) (live_at objects L s)
aborted_at objects L s a =
    ap (filter at) (live_abort objects L s a)
    ∙ filter_filter at (λ o. not (is_below objects s a o)) (live objects L)
    ∙ filter_same (λ o. not (is_below objects s a o) && at o) (λ o. at o && not (is_ancestor a o.action)) (live objects L) (λ o. by (at o) (is_ancestor a o.action))
    ∙ sym (filter_filter (λ o. not (is_ancestor a o.action)) at (live objects L))
  where
    at : Operation → Bool
    at o = eqb (site_of objects o.object) s

    by : (b c : Bool) → (not (b && c) && b) ≡ (b && not c)
    by true true = refl
    by true false = refl
    by false c = refl

pub abort_kept : (objects : List ObjectDecl) (L : List Deed) (s : ℕ) (a : Name) (old new : Site) → new.locks.site ≡ with_abort old.locks.site a → new.families ≡ old.families
    → KeepsSite objects L s old → KeepsSite objects (Inform s a false ∷ L) s new
abort_kept objects L s a old new table fams keeps =
    record {
      objects_are = ap (λ t. t.objects) table ∙ keeps.objects_are;
      node = ap (λ t. t.node) table ∙ keeps.node;
      operations = subst (λ os. AreLiveOps new.locks.site.live os) (sym (aborted_at objects L s a))
          (subst (λ ks. AreLiveOps ks (filter (λ o. not (is_ancestor a o.action)) (live_at objects L s))) (sym (ap (λ t. t.live) table))
          (alike_filter (λ k. not (is_ancestor a k.action)) (λ o. not (is_ancestor a o.action)) (λ o. true) old.locks.site.live (live_at objects L s)
          (λ k o same t. ap (λ b. not (is_ancestor a b)) same.action) (all_true (live_at objects L s)) keeps.operations));
      commits = λ u. ap (λ t. has_name t.committed u) table ∙ keeps.commits u;
      tops = ap (list_all is_top) fams ∙ keeps.tops;
      families = ap (λ os. list_all (is_noted L s new.families) os) (aborted_at objects L s a)
          ∙ ap (λ fs. list_all (is_noted L s fs) (filter (λ o. not (is_ancestor a o.action)) (live_at objects L s))) fams
          ∙ all_parts (is_noted L s old.families) (λ o. not (is_ancestor a o.action)) (is_noted L s old.families) (live_at objects L s) (λ o h p. h) keeps.families;
    }

-- one more name
has_with : (names : List Name) (a u : Name) → has_name (with_name names a) u ≡ (has_name names u || name_eq u a)
has_with names a u = by (has_name names a) refl
  where
    there : (h e : Bool) → (e ≡ true → h ≡ true) → h ≡ (h || e)
    there true e t = refl
    there false true t = t refl
    there false false t = refl

    by : (h : Bool) → has_name names a ≡ h → has_name (if h then names else names ++ a ∷ []) u ≡ (has_name names u || name_eq u a)
    by true is = there (has_name names u) (name_eq u a) (λ e. ap (has_name names) (name_eq_same u a e) ∙ is)
    by false is = any_last (name_eq u) names a

or_turned : (x y : Bool) → (x || y) ≡ (y || x)
or_turned true true = refl
or_turned true false = refl
or_turned false true = refl
or_turned false false = refl

pub commit_kept : (objects : List ObjectDecl) (L : List Deed) (s : ℕ) (a : Name) (old new : Site) → new.locks.site ≡ with_commit old.locks.site a → new.families ≡ old.families
    → KeepsSite objects L s old → KeepsSite objects (Inform s a true ∷ L) s new
commit_kept objects L s a old new table fams keeps =
    record {
      objects_are = ap (λ t. t.objects) table ∙ keeps.objects_are;
      node = ap (λ t. t.node) table ∙ keeps.node;
      operations = subst (λ ks. AreLiveOps ks (live_at objects L s)) (sym (ap (λ t. t.live) table)) keeps.operations;
      commits = λ u. ap (λ t. has_name t.committed u) table ∙ has_with old.locks.site.committed a u ∙ ap (λ b. b || name_eq u a) (keeps.commits u)
          ∙ or_turned (informed L s u true) (name_eq u a) ∙ ap (λ b. (b && name_eq u a) || informed L s u true) (sym (eq-eqb s s refl));
      tops = ap (list_all is_top) fams ∙ keeps.tops;
      families = ap (λ fs. list_all (is_noted L s fs) (live_at objects L s)) fams ∙ keeps.families;
    }
