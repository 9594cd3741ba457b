-- An action comes here new, gets what it sees of its call, or its child is decided: the actions go on answering as the history does.
use Rattle.std.proofs.Common.{◌≡◌, ℕ, ◌+◌, eqb, Bool, true, false, ◌&&◌, ◌||◌, if◌then◌else◌, List, [], ◌∷◌, ◌++◌, length, Option, Some, None, IfSome, refl, sym, ap, ap₂, subst, ◌∙◌}
use Rattle.std.specs.Prelude.{option_map, is_some, replicate}
use Rattle.std.specs.Option.{option_map_or}
use Rattle.std.proofs.lemmas.Bool.{eq-eqb}
use Rattle.cam_names.specs.declared.name.Name.{Name}
use Rattle.cam_names.specs.Names.{name_eq, is_top, home_node, home_count}
use Rattle.cam_names.specs.Dependencies.{as_counts, pairs_of, greater_counts}
use Rattle.cam_names.proofs.Names.{name_eq_same, name_eq_sym}
use Rattle.cam_type.specs.declared.ObjectDecl.{ObjectDecl}
use Rattle.cam_event.specs.declared.Seen.{Seen}
use Rattle.cam_event.specs.declared.Seen.TheVariants as seens
use Rattle.cam_event.specs.declared.Deed.{Deed}
use Rattle.cam_event.specs.declared.Deed.TheVariants.{Create, Got}
use Rattle.cam_event.specs.History as history
use Rattle.cam_event.specs.History.{Addressed, call_of, open_children}
use Rattle.cam_event.specs.Gained.{home, visited}
use Rattle.cam_event.specs.Live.{site_of}
use Rattle.cam_event.specs.Inputs.{Mail}
use Rattle.cam_event.specs.ByKnowledge.{gained_by, start_counts}
use Rattle.cam_tranman.specs.declared.call.OpenCall.{OpenCall}
use Rattle.cam_tranman.specs.declared.action.Action.{Action}
use Rattle.cam_tranman.specs.Actions.{Actions, created, deps, address, open_call, MayRunHere}
use Rattle.cam_tranman.specs.Calls.{changed, seeing, fresh, visiting, asked, got, got_by}
use Rattle.cam_tranman.specs.Events.{begins, IsNew, IsNamed}
use Rattle.cam_tranman.proofs.Gaining.{counts_append, none_gains, counts_of_pairs}
use Rattle.cam_tranman.proofs.Running.{RunsBy, field_kept, created_kept, field_changed, field_put}
use Rattle.cam_event.specs.History.{after}
use Rattle.cam_tranman.specs.Calls.{begun_as, with_action}
use Rattle.cam_tranman.proofs.Deeds.{with_gained}

-- What an action sees leaves all else of it.
sees_field : {X : Type 0} (field : Action → X) (seen : Seen) (call : OpenCall) → ((k : Action) (ds : List ℕ) → field (record k { deps = ds }) ≡ field k)
    → (k : Action) → field (seeing seen call k) ≡ field k
sees_field field (seens.Done answer) call same k = same k (visiting k.deps (call.site, call.count))
sees_field field (seens.Busy u) call same k = refl
sees_field field seens.Gone call same k = refl

-- the dependencies with the site of a call that was done
visits : (objects : List ObjectDecl) (call : OpenCall) (asked : Option Addressed) (pairs : List (ℕ × ℕ)) (before : List ℕ) → Some (address call) ≡ asked
    → call.site ≡ site_of objects call.object → before ≡ as_counts pairs → visiting before (call.site, call.count) ≡ as_counts (visited objects asked ++ pairs)
visits objects call asked pairs before is site was =
    ap₂ (λ (cs : List ℕ) (m : ℕ). greater_counts cs (as_counts ((m, call.count) ∷ []))) was site
    ∙ sym (counts_append ((site_of objects call.object, call.count) ∷ []) pairs)
    ∙ ap (λ (o : Option Addressed). as_counts (visited objects o ++ pairs)) is

pub runs_got : (objects : List ObjectDecl) (s : ℕ) (L : List Deed) (mail : Option Mail) (pairs : Name → List (ℕ × ℕ)) (a : Name) (n : ℕ) (seen : Seen) (old : Actions)
    → created old a ≡ true → open_call old a ≡ Some n → RunsBy objects s L pairs old
    → RunsBy objects s (Got a n seen ∷ L) (with_gained objects L mail (Got a n seen) pairs) (got a seen old)
runs_got objects s L mail pairs a n seen old there awaited runs = by (old.call a) refl
  where
    open_then : (t : Bool) (o : Option OpenCall) (before : Option ℕ) → option_map (λ k. k.number) o ≡ before
        → option_map (λ k. k.number) (if t then None else o) ≡ (if t then None else before)
    open_then true o before was = refl
    open_then false o before was = was

    site_then : (t : Bool) (o : Option OpenCall) → IfSome o (λ call. call.site ≡ site_of objects call.object)
        → IfSome (if t then None else o) (λ call. call.site ≡ site_of objects call.object)
    site_then true o was = tt
    site_then false o was = was

    address_then : (q : Name) (m : ℕ) (t : Bool) → name_eq a q ≡ t → (history.open_call L q ≡ Some m → option_map address (old.call q) ≡ call_of L q m)
        → (if name_eq q a then None else history.open_call L q) ≡ Some m → option_map address (if name_eq a q then None else old.call q) ≡ call_of L q m
    address_then q m true same was opened =
        let e : None ≡ Some m = sym (ap (λ (t : Bool). if t then None else history.open_call L q) (name_eq_sym q a ∙ same)) ∙ opened in cc
    address_then q m false other was opened =
        ap (λ (t : Bool). option_map address (if t then None else old.call q)) other
        ∙ was (sym (ap (λ (t : Bool). if t then None else history.open_call L q) (name_eq_sym q a ∙ other)) ∙ opened)

    gains : (call : OpenCall) → old.call a ≡ Some call → (seen : Seen) (q : Name) → MayRunHere L s q
        → option_map_or (λ k. k.deps) (changed a (seeing seen call) old.action q) (replicate 8 0)
        ≡ as_counts (gained_by objects L mail q (Got a n seen) ++ pairs q)
    gains call is (seens.Busy u) q here = field_kept (λ k. k.deps) (replicate 8 0) a q (seeing (seens.Busy u) call) old.action (λ k. refl) ∙ runs.deps_are q here
    gains call is seens.Gone q here = field_kept (λ k. k.deps) (replicate 8 0) a q (seeing seens.Gone call) old.action (λ k. refl) ∙ runs.deps_are q here
    gains call is (seens.Done answer) q here =
        field_changed (λ k. k.deps) (λ ds. visiting ds (call.site, call.count)) (replicate 8 0) a q (seeing (seens.Done answer) call) old.action (λ k. refl) there
        ∙ done (name_eq a q) refl
      where
        done : (t : Bool) → name_eq a q ≡ t
            → (if t then visiting (deps old q) (call.site, call.count) else deps old q)
            ≡ as_counts ((if name_eq q a then visited objects (call_of L a n) else []) ++ pairs q)
        done true same =
            let there : MayRunHere L s a = subst (MayRunHere L s) (sym (name_eq_same a q same)) here in
            let asked = ap (λ (o : Option OpenCall). option_map address o) (sym is) ∙ runs.address_is a n there (sym (runs.open_is a there) ∙ awaited) in
            let site = subst (λ (o : Option OpenCall). IfSome o (λ call. call.site ≡ site_of objects call.object)) is (runs.site_is a there) in
            visits objects call (call_of L a n) (pairs q) (deps old q) asked site (runs.deps_are q here)
            ∙ ap (λ (t : Bool). as_counts ((if t then visited objects (call_of L a n) else []) ++ pairs q)) (sym (name_eq_sym q a ∙ same))
        done false other =
            runs.deps_are q here ∙ ap (λ (t : Bool). as_counts ((if t then visited objects (call_of L a n) else []) ++ pairs q)) (sym (name_eq_sym q a ∙ other))

    by : (o : Option OpenCall) → old.call a ≡ o
        → RunsBy objects s (Got a n seen ∷ L) (with_gained objects L mail (Got a n seen) pairs) (got_by o a seen old)
    by None none = let e : None ≡ Some n = ap (λ (o : Option OpenCall). option_map (λ k. k.number) o) (sym none) ∙ awaited in cc
    by (Some call) is =
        record {
          node = runs.node;
          count_is = runs.count_is;
          tops_are = runs.tops_are;
          created_is = λ q here. created_kept a q (seeing seen call) old.action ∙ runs.created_is q here;
          ended_is = λ q here. field_kept (λ k. k.ended) false a q (seeing seen call) old.action (sees_field (λ k. k.ended) seen call (λ k ds. refl)) ∙ runs.ended_is q here;
          asks_are = λ q here. field_kept (λ k. k.asks) 0 a q (seeing seen call) old.action (sees_field (λ k. k.asks) seen call (λ k ds. refl)) ∙ runs.asks_are q here;
          calls_are = λ q here. field_kept (λ k. k.calls) 0 a q (seeing seen call) old.action (sees_field (λ k. k.calls) seen call (λ k ds. refl)) ∙ runs.calls_are q here;
          open_is = λ q here. open_then (name_eq a q) (old.call q) (history.open_call L q) (runs.open_is q here) ∙ ap (λ (t : Bool). if t then None else history.open_call L q) (name_eq_sym a q);
          address_is = λ q m here opened. address_then q m (name_eq a q) refl (λ was. runs.address_is q m here was) opened;
          site_is = λ q here. site_then (name_eq a q) (old.call q) (runs.site_is q here);
          child_is = runs.child_is;
          deps_are = gains call is seen;
        }

-- An action comes here new.
created_then : (t : Bool) (k : Action) (o : Option Action) → is_some (if t then Some k else o) ≡ (t || is_some o)
created_then true k o = refl
created_then false k o = refl

no_deps : (o : Option Action) → is_some o ≡ false → option_map_or (λ k. k.deps) o (replicate 8 0) ≡ replicate 8 0
no_deps None h = refl
no_deps (Some k) h = cc

runs_new : (objects : List ObjectDecl) (s : ℕ) (L : List Deed) (mail : Option Mail) (pairs : Name → List (ℕ × ℕ)) (a : Name) (ds : List ℕ) (tops : ℕ) (old : Actions)
    → created old a ≡ false → tops ≡ history.tops (Create a ∷ L) s (history.count L s)
    → (MayRunHere L s a → ds ≡ as_counts ((home a ∷ pairs_of (start_counts mail)) ++ pairs a)) → RunsBy objects s L pairs old
    → RunsBy objects s (Create a ∷ L) (with_gained objects L mail (Create a) pairs) (with_action a (fresh ds) (record old { tops = tops }))
runs_new objects s L mail pairs a ds tops old new_here counted gains runs =
    record {
      node = runs.node;
      count_is = runs.count_is;
      tops_are = counted;
      created_is = λ q here. created_then (name_eq a q) (fresh ds) (old.action q) ∙ ap₂ (λ t u. t || u) (name_eq_sym a q) (runs.created_is q here);
      ended_is = λ q here. field_put (λ k. k.ended) false a q (fresh ds) old.action new_here refl ∙ runs.ended_is q here;
      asks_are = λ q here. field_put (λ k. k.asks) 0 a q (fresh ds) old.action new_here refl ∙ runs.asks_are q here;
      calls_are = λ q here. field_put (λ k. k.calls) 0 a q (fresh ds) old.action new_here refl ∙ runs.calls_are q here;
      open_is = runs.open_is;
      address_is = runs.address_is;
      site_is = runs.site_is;
      child_is = runs.child_is;
      deps_are = λ q here. deps_then q here (name_eq a q) refl;
    }
  where
    deps_then : (q : Name) → MayRunHere L s q → (t : Bool) → name_eq a q ≡ t
        → option_map_or (λ k. k.deps) (if t then Some (fresh ds) else old.action q) (replicate 8 0)
        ≡ as_counts ((if name_eq q a then home a ∷ pairs_of (start_counts mail) else []) ++ pairs q)
    deps_then q here true same =
        let e = name_eq_same a q same in
        gains (subst (MayRunHere L s) (sym e) here) ∙ ap (λ (x : Name). as_counts ((home a ∷ pairs_of (start_counts mail)) ++ pairs x)) e
        ∙ ap (λ (t : Bool). as_counts ((if t then home a ∷ pairs_of (start_counts mail) else []) ++ pairs q)) (sym (name_eq_sym q a ∙ same))
    deps_then q here false other =
        runs.deps_are q here ∙ ap (λ (t : Bool). as_counts ((if t then home a ∷ pairs_of (start_counts mail) else []) ++ pairs q)) (sym (name_eq_sym q a ∙ other))

home_counts : (a : Name) (cs : List ℕ) (pairs : List (ℕ × ℕ)) → length cs ≡ 8 → as_counts pairs ≡ replicate 8 0
    → visiting cs (home a) ≡ as_counts ((home a ∷ pairs_of cs) ++ pairs)
home_counts a cs pairs long none =
    ap (λ (ds : List ℕ). greater_counts ds (as_counts (home a ∷ []))) (sym (counts_of_pairs cs long))
    ∙ sym (counts_append (home a ∷ []) (pairs_of cs))
    ∙ sym (none_gains (as_counts (home a ∷ pairs_of cs)) refl)
    ∙ ap (λ (ds : List ℕ). greater_counts ds (as_counts (home a ∷ pairs_of cs))) (sym none)
    ∙ sym (counts_append (home a ∷ pairs_of cs) pairs)

pub runs_created : (objects : List ObjectDecl) (s : ℕ) (L : List Deed) (mail : Option Mail) (pairs : Name → List (ℕ × ℕ)) (a : Name) (top : Bool) (old : Actions) → is_top a ≡ top
    → IsNew a old → IsNamed top a mail old → RunsBy objects s L pairs old
    → RunsBy objects s (Create a ∷ L) (with_gained objects L mail (Create a) pairs) (begins top a mail old)
runs_created objects s L mail pairs a true old top new_here named runs =
    subst (λ (x : Name). RunsBy objects s (Create a ∷ L) (with_gained objects L mail (Create a) pairs) (begun_as x old)) named.0
    (runs_new objects s L mail pairs a (visiting (replicate 8 0) (home a)) (old.tops + 1) old new_here.fresh counted gains runs)
  where
    counted : old.tops + 1 ≡ history.tops (Create a ∷ L) s (history.count L s)
    counted =
        ap (λ (n : ℕ). n + 1) runs.tops_are
        ∙ ap (λ (t : Bool). if t then history.tops L s (history.count L s) + 1 else history.tops L s (history.count L s))
        (sym (ap₂ (λ t u. t && u) (ap₂ (λ t u. t && u) top (eq-eqb (home_node a) s (new_here.home ∙ runs.node)))
        (eq-eqb (home_count a) (history.count L s) (new_here.present ∙ runs.count_is))))

    gains : MayRunHere L s a → visiting (replicate 8 0) (home a) ≡ as_counts ((home a ∷ pairs_of (start_counts mail)) ++ pairs a)
    gains here =
        let none = sym (runs.deps_are a here) ∙ no_deps (old.action a) new_here.fresh in
        ap (λ (ds : List ℕ). greater_counts ds (as_counts (home a ∷ []))) (sym none) ∙ sym (counts_append (home a ∷ []) (pairs a))
        ∙ ap (λ (cs : List ℕ). as_counts ((home a ∷ pairs_of cs) ++ pairs a)) (sym named.1)
runs_created objects s L mail pairs a false old top new_here named runs =
    runs_new objects s L mail pairs a (visiting (start_counts mail) (home a)) old.tops old new_here.fresh counted gains runs
  where
    counted : old.tops ≡ history.tops (Create a ∷ L) s (history.count L s)
    counted =
        runs.tops_are
        ∙ ap (λ (t : Bool). if t && eqb (home_node a) s && eqb (home_count a) (history.count L s) then history.tops L s (history.count L s) + 1 else history.tops L s (history.count L s)) (sym top)

    gains : MayRunHere L s a → visiting (start_counts mail) (home a) ≡ as_counts ((home a ∷ pairs_of (start_counts mail)) ++ pairs a)
    gains here = home_counts a (start_counts mail) (pairs a) named (sym (runs.deps_are a here) ∙ no_deps (old.action a) new_here.fresh)
