-- What a crash does to what is kept of its site.
use Rattle.std.proofs.Common.{◌≡◌, inl, inr, ℕ, eqb, Bool, true, false, not, ◌&&◌, ◌||◌, if◌then◌else◌, List, [], ◌∷◌, ◌++◌, length, filter, None, refl, sym, ap, ◌∙◌, subst, arith}
use Rattle.std.specs.List.{list_any, list_all}
use Rattle.std.proofs.lemmas.Bool.{and_parts, and_from, true≢false, eqb-true, or_cases}
use Rattle.cam_names.specs.declared.name.Name.{Name}
use Rattle.cam_names.specs.Names.{name_eq, is_ancestor, family, is_top, parent}
use Rattle.cam_names.proofs.Names.{name_eq_same}
use Rattle.cam_names.proofs.Ancestry.{top_family}
use Rattle.cam_names.proofs.Any.{any_weaker}
use Rattle.cam_type.specs.declared.ObjectDecl.{ObjectDecl}
use Rattle.cam_locks.specs.declared.LiveOp.{LiveOp}
use Rattle.cam_locks.specs.Names.{has_name}
use Rattle.cam_locks.specs.Site as locks
use Rattle.cam_locks.specs.Calls.{with_abort}
use Rattle.cam_event.specs.declared.Operation.{Operation}
use Rattle.cam_event.specs.declared.Deed.{Deed}
use Rattle.cam_event.specs.declared.Deed.TheVariants.{Crash}
use Rattle.cam_event.specs.History.{secured_at}
use Rattle.cam_event.specs.Live.{site_of, is_kept, live, live_at}
use Rattle.cam_event.proofs.Snoc.{filter_filter, filter_same}
use Rattle.cam_event.proofs.LiveLaws.{live_crash}
use Rattle.cam_plain.specs.declared.site.Site.{Site}
use Rattle.cam_plain.specs.Sites.{AreLiveOps, is_noted, KeepsSite, crashed_family, crashed_families}
use Rattle.cam_plain.proofs.Alike.{alike_filter}
use Rattle.cam_plain.proofs.Searches.{all_parts}

-- of the operations at a site a crash keeps those of families that are secured there
crashed_at : (objects : List ObjectDecl) (L : List Deed) (s : ℕ) → live_at objects (Crash s ∷ L) s ≡ filter (λ o. secured_at L (family o.action) s) (live_at objects L s)
crashed_at objects L s =
    ap (filter at) (live_crash objects L s)
    ∙ filter_filter at (is_kept objects L s) (live objects L)
    ∙ filter_same (λ o. is_kept objects L s o && at o) (λ o. at o && secured_at L (family o.action) s) (live objects L) (λ o. by (at o) (secured_at L (family o.action) s))
    ∙ sym (filter_filter (λ o. secured_at L (family o.action) s) at (live objects L))
  where
    at : Operation → Bool
    at o = eqb (site_of objects o.object) s

    by : (b c : Bool) → ((not b || c) && b) ≡ (b && c)
    by true true = refl
    by true false = refl
    by false c = refl

-- whether an action is below one of these families that is not secured at the site
abbrev lost : List Deed → ℕ → List Name → Name → Bool
lost L s fs a = list_any (λ f. not (secured_at L f s) && is_ancestor f a) fs

-- the table after the families of a list were gone through
crashed_live : (L : List Deed) (s : ℕ) (fs : List Name) (site : locks.Site) → (crashed_families L s fs site).live ≡ filter (λ k. not (lost L s fs k.action)) site.live
crashed_live L s [] site = sym (whole site.live)
  where
    whole : (ks : List LiveOp) → filter (λ k. true) ks ≡ ks
    whole [] = refl
    whole (k ∷ ks) = ap (λ js. k ∷ js) (whole ks)
crashed_live L s (f ∷ fs) site = crashed_live L s fs (crashed_family L s f site) ∙ by (secured_at L f s)
  where
    drops : LiveOp → Bool
    drops k = lost L s fs k.action

    by : (b : Bool) → filter (λ k. not (drops k)) (if b then site else with_abort site f).live ≡ filter (λ k. not ((not b && is_ancestor f k.action) || drops k)) site.live
    by true = refl
    by false =
        filter_filter (λ k. not (drops k)) (λ k. not (is_ancestor f k.action)) site.live
        ∙ filter_same (λ k. not (is_ancestor f k.action) && not (drops k)) (λ k. not (is_ancestor f k.action || drops k)) site.live (λ k. not_either (is_ancestor f k.action) (drops k))
      where
        not_either : (x y : Bool) → (not x && not y) ≡ not (x || y)
        not_either true y = refl
        not_either false y = refl

crashed_objects : (L : List Deed) (s : ℕ) (fs : List Name) (site : locks.Site) → (crashed_families L s fs site).objects ≡ site.objects
crashed_objects L s [] site = refl
crashed_objects L s (f ∷ fs) site = crashed_objects L s fs (crashed_family L s f site) ∙ by (secured_at L f s)
  where
    by : (b : Bool) → (if b then site else with_abort site f).objects ≡ site.objects
    by true = refl
    by false = refl

crashed_node : (L : List Deed) (s : ℕ) (fs : List Name) (site : locks.Site) → (crashed_families L s fs site).node ≡ site.node
crashed_node L s [] site = refl
crashed_node L s (f ∷ fs) site = crashed_node L s fs (crashed_family L s f site) ∙ by (secured_at L f s)
  where
    by : (b : Bool) → (if b then site else with_abort site f).node ≡ site.node
    by true = refl
    by false = refl

crashed_commits : (L : List Deed) (s : ℕ) (fs : List Name) (site : locks.Site) → (crashed_families L s fs site).committed ≡ site.committed
crashed_commits L s [] site = refl
crashed_commits L s (f ∷ fs) site = crashed_commits L s fs (crashed_family L s f site) ∙ by (secured_at L f s)
  where
    by : (b : Bool) → (if b then site else with_abort site f).committed ≡ site.committed
    by true = refl
    by false = refl

-- one more family
pub crashed_last : (L : List Deed) (s : ℕ) (fs : List Name) (f : Name) (site : locks.Site) → crashed_families L s (fs ++ f ∷ []) site ≡ crashed_family L s f (crashed_families L s fs site)
crashed_last L s [] f site = refl
crashed_last L s (g ∷ fs) f site = crashed_last L s fs f (crashed_family L s g site)

-- a top action above a name is its family
no_parent : (g : Name) → is_top g ≡ true → parent g ≡ None
no_parent [] t = refl
no_parent (p ∷ []) t = refl
no_parent (p ∷ q ∷ g) t = let one : length (p ∷ q ∷ g) ≡ 1 = eqb-true (length (p ∷ q ∷ g)) 1 t in absurd (omega (arith, one))

top_is_family : (g a : Name) → is_top g ≡ true → is_ancestor g a ≡ true → g ≡ family a
top_is_family g a t above = top_family g a (no_parent g t) above

-- of top actions that are above a name none is lost where its family is secured
none_lost : (L : List Deed) (s : ℕ) (f a : Name) (gs : List Name) → list_all is_top gs ≡ true → f ≡ family a → secured_at L f s ≡ true → lost L s gs a ≡ false
none_lost L s f a [] t same secured = refl
none_lost L s f a (g ∷ gs) t same secured =
    by (is_ancestor g a) refl (none_lost L s f a gs (and_parts (is_top g) (list_all is_top gs) t).1 same secured)
  where
    no_more : (b : Bool) → (b && false) ≡ false
    no_more true = refl
    no_more false = refl

    by : (b : Bool) → is_ancestor g a ≡ b → lost L s gs a ≡ false → ((not (secured_at L g s) && b) || lost L s gs a) ≡ false
    by true above rest =
        let one : g ≡ f = top_is_family g a (and_parts (is_top g) (list_all is_top gs) t).0 above ∙ sym same in
        ap (λ h. (not (secured_at L h s) && true) || lost L s gs a) one
        ∙ ap (λ b. (not b && true) || lost L s gs a) secured ∙ rest
    by false apart rest = ap (λ b. b || lost L s gs a) (no_more (not (secured_at L g s))) ∙ rest

-- an operation that is noted is lost where its family is not secured
lost_unsecured : (L : List Deed) (s : ℕ) (fs : List Name) (o : Operation) → list_all is_top fs ≡ true → is_noted L s fs o ≡ true → not (lost L s fs o.action) ≡ secured_at L (family o.action) s
lost_unsecured L s fs o tops noted = by (secured_at L f s) refl
  where
    f : Name
    f = family o.action

    parts : (is_ancestor f o.action ≡ true) × ((has_name fs f || secured_at L f s) ≡ true)
    parts = and_parts (is_ancestor f o.action) (has_name fs f || secured_at L f s) noted

    there : secured_at L f s ≡ false → has_name fs f ≡ true
    there unsecured = elim (or_cases (has_name fs f) (secured_at L f s) parts.1) [
      | inl named ↦ named
      | inr secured ↦ absurd (true≢false (sym secured ∙ unsecured))
    ]

    by : (b : Bool) → secured_at L f s ≡ b → not (lost L s fs o.action) ≡ b
    by true secured = ap not (none_lost L s (family o.action) o.action fs tops refl secured)
    by false unsecured =
        ap not
        (any_weaker (name_eq f) (λ g. not (secured_at L g s) && is_ancestor g o.action) fs
        (λ g same. (λ i. not (secured_at L (sym (name_eq_same f g same) i) s) && is_ancestor (sym (name_eq_same f g same) i) o.action)
        ∙ and_from (not (secured_at L f s)) (is_ancestor f o.action) (ap not unsecured) parts.0)
        (there unsecured))

-- A crash of the site: the families that were noted are gone through, and none is noted then.
pub crash_kept : (objects : List ObjectDecl) (L : List Deed) (s : ℕ) (old new : Site) → new.locks.site ≡ crashed_families L s old.families old.locks.site → new.families ≡ []
    → KeepsSite objects L s old → KeepsSite objects (Crash s ∷ L) s new
crash_kept objects L s old new table fams keeps =
    record {
      objects_are = ap (λ t. t.objects) table ∙ crashed_objects L s old.families old.locks.site ∙ keeps.objects_are;
      node = ap (λ t. t.node) table ∙ crashed_node L s old.families old.locks.site ∙ keeps.node;
      operations = subst (λ os. AreLiveOps new.locks.site.live os) (sym (crashed_at objects L s))
          (subst (λ ks. AreLiveOps ks (filter (λ o. secured_at L (family o.action) s) (live_at objects L s))) (sym (ap (λ t. t.live) table ∙ crashed_live L s old.families old.locks.site))
          (alike_filter (λ k. not (lost L s old.families k.action)) (λ o. secured_at L (family o.action) s) (is_noted L s old.families) old.locks.site.live (live_at objects L s)
          (λ k o same noted. ap (λ b. not (lost L s old.families b)) same.action ∙ lost_unsecured L s old.families o keeps.tops noted) keeps.families keeps.operations));
      commits = λ u. ap (λ t. has_name t.committed u) table ∙ ap (λ ns. has_name ns u) (crashed_commits L s old.families old.locks.site) ∙ keeps.commits u;
      tops = ap (list_all is_top) fams;
      families = ap (λ os. list_all (is_noted L s new.families) os) (crashed_at objects L s)
          ∙ ap (λ fs. list_all (is_noted L s fs) (filter (λ o. secured_at L (family o.action) s) (live_at objects L s))) fams
          ∙ all_parts (is_noted L s old.families) (λ o. secured_at L (family o.action) s) (is_noted L s []) (live_at objects L s)
          (λ o noted secured. and_from (is_ancestor (family o.action) o.action) (secured_at L (family o.action) s)
          (and_parts (is_ancestor (family o.action) o.action) (has_name old.families (family o.action) || secured_at L (family o.action) s) noted).0 secured) keeps.families;
    }
