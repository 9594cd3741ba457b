-- What a Perform does to what is kept of its site.
use Rattle.std.proofs.Common.{◌≡◌, inl, inr, ℕ, ◌≤◌, eqb, Bool, true, false, not, ◌&&◌, ◌||◌, cond, List, [], ◌∷◌, ◌++◌, length, filter, Option, Some, None, refl, sym, ap, ◌∙◌, subst, arith}
use Rattle.std.specs.Prelude.{find}
use Rattle.std.specs.List.{list_any, list_all}
use Rattle.std.proofs.lemmas.Bool.{and_parts, and_from, cases_Bool, true≢false, eqb-true, eq-eqb, or_left, or_right, or_cases}
use Rattle.std.proofs.lemmas.List.Elements.{filter-append}
use Rattle.cam_names.specs.declared.name.Name.{Name}
use Rattle.cam_names.specs.Names.{name_eq, ancestors, is_ancestor, family, is_top}
use Rattle.cam_names.proofs.Names.{part_eq_refl, name_eq_same, name_eq_refl, ancestors_any}
use Rattle.cam_names.proofs.Ancestry.{all_ancestors}
use Rattle.cam_names.proofs.Any.{any_weaker, any_last, all_last}
use Rattle.cam_type.specs.declared.ObjectDecl.{ObjectDecl}
use Rattle.cam_type.specs.declared.Answer.{Answer}
use Rattle.cam_locks.specs.declared.LiveOp.{LiveOp}
use Rattle.cam_locks.specs.Names.{has_name}
use Rattle.cam_locks.specs.Site as locks
use Rattle.cam_locks.specs.Calls.{with_operation}
use Rattle.cam_event.specs.declared.Operation.{Operation}
use Rattle.cam_event.specs.declared.Deed.{Deed}
use Rattle.cam_event.specs.declared.Deed.TheVariants.{Perform}
use Rattle.cam_event.specs.History.{informed, secured_at, Addressed, call_of}
use Rattle.cam_event.specs.Live.{site_of, of_call, surviving, is_dropped, live, live_at}
use Rattle.cam_event.proofs.Snoc.{filter_filter}
use Rattle.cam_event.proofs.LiveLaws.{live_perform}
use Rattle.cam_plain.specs.declared.site.Site.{Site}
use Rattle.cam_plain.specs.Sites.{AreLiveOps, is_noted, KeepsSite, with_abort_of}
use Rattle.cam_plain.proofs.Alike.{alike_append, alike_filter}
use Rattle.cam_plain.proofs.Searches.{all_parts, all_weaker, all_true, keeps_all, found_passes, found_in, is_found, find_any}

-- the operation of a call
abbrev operation : Name → ℕ → Answer → Addressed → Operation
operation a n answer call = record { action = a; number = n; object = call.object; op = call.op; answer = answer }

-- what a Perform adds at its site
performed_at : (objects : List ObjectDecl) (L : List Deed) (s : ℕ) (a : Name) (n : ℕ) (answer : Answer) (call : Addressed) → call_of L a n ≡ Some call → site_of objects call.object ≡ s
    → live_at objects (Perform a n answer ∷ L) s
    ≡ live_at objects L s ++ cond (not (list_any (λ u. informed L s u false) (ancestors a))) (operation a n answer call ∷ []) []
performed_at objects L s a n answer call called at =
    ap (filter (λ o. eqb (site_of objects o.object) s)) (live_perform objects L a n answer ∙ ap (λ c. live objects L ++ filter (λ o. not (is_dropped objects L o)) (of_call a n answer c)) called)
    ∙ filter-append (λ o. eqb (site_of objects o.object) s) (live objects L) (filter (λ o. not (is_dropped objects L o)) (operation a n answer call ∷ []))
    ∙ ap (λ os. live_at objects L s ++ os) (by (is_dropped objects L (operation a n answer call))
    ∙ ap (λ t. cond (not (list_any (λ u. informed L t u false) (ancestors a))) (operation a n answer call ∷ []) []) at)
  where
    by : (b : Bool) → filter (λ o. eqb (site_of objects o.object) s) (cond (not b) (operation a n answer call ∷ []) []) ≡ cond (not b) (operation a n answer call ∷ []) []
    by true = refl
    by false = ap (λ t. cond t (operation a n answer call ∷ []) []) (eq-eqb (site_of objects call.object) s at)

-- a live operation is below no action of whose abort its site was informed
none_below : (objects : List ObjectDecl) (L : List Deed) (s : ℕ) (u : Name) → informed L s u false ≡ true → list_all (λ o. not (is_ancestor u o.action)) (live_at objects L s) ≡ true
none_below objects L s u known =
    ap (list_all (λ o. not (is_ancestor u o.action))) (filter_filter at (λ o. not (is_dropped objects L o)) (surviving objects L))
    ∙ all_parts (λ o. true) (λ o. not (is_dropped objects L o) && at o) (λ o. not (is_ancestor u o.action)) (surviving objects L) (λ o t. one o) (all_true (surviving objects L))
  where
    at : Operation → Bool
    at o = eqb (site_of objects o.object) s

    one : (o : Operation) → (not (is_dropped objects L o) && at o) ≡ true → not (is_ancestor u o.action) ≡ true
    one o h = elim (cases_Bool (is_ancestor u o.action)) [
      | inl below ↦
          let parts = and_parts (not (is_dropped objects L o)) (at o) h in
          let here : site_of objects o.object ≡ s = eqb-true (site_of objects o.object) s parts.1 in
          let dropped : is_dropped objects L o ≡ true =
          any_weaker (name_eq u) (λ v. informed L (site_of objects o.object) v false) (ancestors o.action)
          (λ v same. (λ i. informed L (here i) (sym (name_eq_same u v same) i) false) ∙ known) (ancestors_any u o.action ∙ below)
          in
          absurd (true≢false (sym (sym (ap not dropped) ∙ parts.0)))
      | inr apart ↦ ap not apart
    ]

-- more names and more Secures leave noted what was
pub noted_more : (L M : List Deed) (s : ℕ) (fs gs : List Name) (o : Operation) → ((f : Name) → has_name fs f ≡ true → has_name gs f ≡ true) → ((f : Name) → secured_at L f s ≡ true → secured_at M f s ≡ true)
    → is_noted L s fs o ≡ true → is_noted M s gs o ≡ true
noted_more L M s fs gs o names secures h =
    let f = family o.action in
    let parts = and_parts (is_ancestor f o.action) (has_name fs f || secured_at L f s) h in
    and_from (is_ancestor f o.action) (has_name gs f || secured_at M f s) parts.0
    (elim (or_cases (has_name fs f) (secured_at L f s) parts.1) [
      | inl noted ↦ or_left (has_name gs f) (secured_at M f s) (names f noted)
      | inr secured ↦ or_right (has_name gs f) (secured_at M f s) (secures f secured)
    ])

-- the family of a name
family_top : (a : Name) → 1 ≤ length a → (is_top (family a) ≡ true) × (is_ancestor (family a) a ≡ true)
family_top [] named = absurd (omega (arith, named))
family_top (p ∷ a) named = (refl, ap (λ b. b && true) (part_eq_refl p))

-- A Perform that was granted: its operation stands at the end, unless the site was informed of the abort of an ancestor.
pub performed_kept : (objects : List ObjectDecl) (L : List Deed) (s : ℕ) (a : Name) (n : ℕ) (answer : Answer) (call : Addressed) (old new : Site) → 1 ≤ length a → call_of L a n ≡ Some call → site_of objects call.object ≡ s
    → new.locks.site ≡ with_abort_of (find (λ u. informed L s u false) (ancestors a)) (with_operation old.locks.site a call.object call.op)
    → new.families ≡ old.families ++ family a ∷ [] → KeepsSite objects L s old → KeepsSite objects (Perform a n answer ∷ L) s new
performed_kept objects L s a n answer call old new named called at table fams keeps =
    record {
      objects_are = ap (λ t. t.objects) table ∙ objects_by (find (λ u. informed L s u false) (ancestors a)) ∙ keeps.objects_are;
      node = ap (λ t. t.node) table ∙ node_by (find (λ u. informed L s u false) (ancestors a)) ∙ keeps.node;
      operations = subst (λ os. AreLiveOps new.locks.site.live os) (sym (performed_at objects L s a n answer call called at))
          (subst (λ ks. AreLiveOps ks (live_at objects L s ++ cond (not (list_any (λ u. informed L s u false) (ancestors a))) (o ∷ []) [])) (sym (ap (λ t. t.live) table))
          (subst (λ t. AreLiveOps (with_abort_of (find (λ u. informed L s u false) (ancestors a)) more).live (live_at objects L s ++ cond (not t) (o ∷ []) [])) (sym (find_any (λ u. informed L s u false) (ancestors a)))
          (by (find (λ u. informed L s u false) (ancestors a)) refl)));
      commits = λ u. ap (λ t. has_name t.committed u) table ∙ ap (λ ns. has_name ns u) (commits_by (find (λ u. informed L s u false) (ancestors a))) ∙ keeps.commits u;
      tops = ap (list_all is_top) fams ∙ all_last is_top old.families (family a) ∙ and_from (list_all is_top old.families) (is_top (family a)) keeps.tops (family_top a named).0;
      families = ap (λ os. list_all (is_noted (Perform a n answer ∷ L) s new.families) os) (performed_at objects L s a n answer call called at)
          ∙ ap (λ fs. list_all (is_noted L s fs) (live_at objects L s ++ cond (not (list_any (λ u. informed L s u false) (ancestors a))) (o ∷ []) [])) fams
          ∙ noted_by (not (list_any (λ u. informed L s u false) (ancestors a)));
    }
  where
    o : Operation
    o = operation a n answer call

    more : locks.Site
    more = with_operation old.locks.site a call.object call.op

    k : LiveOp
    k = record { index = old.locks.site.next; action = a; object = call.object; op = call.op }

    objects_by : (u : Option Name) → (with_abort_of u more).objects ≡ old.locks.site.objects
    objects_by None = refl
    objects_by (Some u) = refl

    node_by : (u : Option Name) → (with_abort_of u more).node ≡ old.locks.site.node
    node_by None = refl
    node_by (Some u) = refl

    commits_by : (u : Option Name) → (with_abort_of u more).committed ≡ old.locks.site.committed
    commits_by None = refl
    commits_by (Some u) = refl

    both : AreLiveOps (old.locks.site.live ++ k ∷ []) (live_at objects L s ++ o ∷ [])
    both = alike_append old.locks.site.live (live_at objects L s) k o keeps.operations (record { action = refl; object = refl; op = refl })

    by : (u : Option Name) → find (λ u. informed L s u false) (ancestors a) ≡ u → AreLiveOps (with_abort_of u more).live (live_at objects L s ++ cond (not (is_found u)) (o ∷ []) [])
    by None e = both
    by (Some u) e =
        let known : informed L s u false ≡ true = found_passes (λ u. informed L s u false) (ancestors a) u e in
        let above : is_ancestor u a ≡ true = found_in (λ u. informed L s u false) (λ u. is_ancestor u a) (ancestors a) u (all_ancestors (λ u. is_ancestor u a) a (λ u h. h)) e in
        let apart : Operation → Bool = λ p. not (is_ancestor u p.action) in
        subst (λ os. AreLiveOps (filter (λ p. not (is_ancestor u p.action)) (old.locks.site.live ++ k ∷ [])) os)
        (filter-append apart (live_at objects L s) (o ∷ []) ∙ (λ i. keeps_all apart (live_at objects L s) (none_below objects L s u known) i ++ cond (not (above i)) (o ∷ []) []))
        (alike_filter (λ p. not (is_ancestor u p.action)) apart (λ p. true) (old.locks.site.live ++ k ∷ []) (live_at objects L s ++ o ∷ [])
        (λ p q same t. ap (λ b. not (is_ancestor u b)) same.action) (all_true (live_at objects L s ++ o ∷ [])) both)

    gs : List Name
    gs = old.families ++ family a ∷ []

    older : list_all (is_noted L s gs) (live_at objects L s) ≡ true
    older =
        all_weaker (is_noted L s old.families) (is_noted L s gs) (live_at objects L s)
        (λ p. noted_more L L s old.families gs p (λ f h. any_last (name_eq f) old.families (family a) ∙ or_left (has_name old.families f) (name_eq f (family a)) h) (λ f h. h))
        keeps.families

    own : is_noted L s gs o ≡ true
    own =
        and_from (is_ancestor (family a) a) (has_name gs (family a) || secured_at L (family a) s) (family_top a named).1
        (or_left (has_name gs (family a)) (secured_at L (family a) s)
        (any_last (name_eq (family a)) old.families (family a) ∙ or_right (has_name old.families (family a)) (name_eq (family a) (family a)) (name_eq_refl (family a))))

    nothing_more : (os : List Operation) → os ++ [] ≡ os
    nothing_more [] = refl
    nothing_more (p ∷ os) = ap (λ ps. p ∷ ps) (nothing_more os)

    noted_by : (b : Bool) → list_all (is_noted L s gs) (live_at objects L s ++ cond b (o ∷ []) []) ≡ true
    noted_by true = all_last (is_noted L s gs) (live_at objects L s) o ∙ and_from (list_all (is_noted L s gs) (live_at objects L s)) (is_noted L s gs o) older own
    noted_by false = ap (list_all (is_noted L s gs)) (nothing_more (live_at objects L s)) ∙ older
