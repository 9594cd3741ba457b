-- A child is decided, and the law of one more event.
use Rattle.std.proofs.Common.{◌≡◌, ℕ, Bool, true, false, not, ◌&&◌, if◌then◌else◌, List, [], ◌∷◌, ◌++◌, filter, length, Option, Some, None, refl, sym, ap, ap₂, subst, ◌∙◌}
use Rattle.std.specs.Prelude.{is_some, replicate}
use Rattle.std.specs.List.{list_any, flat_map}
use Rattle.std.specs.Option.{option_map_or}
use Rattle.cam_names.specs.declared.name.Name.{Name}
use Rattle.cam_names.specs.Names.{name_eq, is_child, is_top, parent}
use Rattle.cam_names.specs.Dependencies.{as_counts, pairs_of, greater_counts}
use Rattle.cam_names.proofs.Names.{name_eq_same, name_eq_sym}
use Rattle.cam_names.proofs.Children.{is_some_name, child_of}
use Rattle.cam_type.specs.declared.ObjectDecl.{ObjectDecl}
use Rattle.cam_event.specs.declared.Deed.{Deed}
use Rattle.cam_event.specs.declared.Deed.TheVariants.{Create, Ask, Call, Perform, Bounce, Got, AskCommit, AskAbort, Commit, Abort, Secure, Inform, Crash}
use Rattle.cam_event.specs.History.{after, open_children}
use Rattle.cam_event.specs.Inputs.{Mail}
use Rattle.cam_event.specs.ByKnowledge.{own_pairs, gained_by, finish_counts}
use Rattle.cam_event.specs.Carried.{Carried, deeds_of}
use Rattle.cam_tranman.specs.declared.action.Action.{Action}
use Rattle.cam_tranman.specs.Actions.{Actions, deps}
use Rattle.cam_tranman.specs.Calls.{parent_changed, gaining}
use Rattle.cam_tranman.specs.Events.{is_at_home, decides, HasParent, CommitMayCome, MayCome, after_deed, QuietKeeps, DeedKeeps}
use Rattle.cam_tranman.proofs.Changing.{without_among}
use Rattle.cam_tranman.proofs.Gaining.{counts_append, counts_of_pairs}
use Rattle.cam_tranman.proofs.Members.{top_no_child}
use Rattle.cam_tranman.proofs.Running.{RunsBy, runs_by, answers_deeds, same_runs, same_answers, named_here, field_kept, created_kept, field_changed}
use Rattle.std.proofs.Common.{append-nil}
use Rattle.cam_tranman.proofs.Home.{SameHome, same_home, by_other, added_at_home}
use Rattle.cam_tranman.proofs.Deeds.{with_gained, runs_asked, runs_called, runs_asked_commit, runs_asked_abort}
use Rattle.cam_tranman.proofs.Coming.{runs_got, runs_created}

-- Where one child is open no longer, of the actions that may run here.
without_child_then : (c n o u : Bool) (rest : Bool) → (c && o) ≡ u → rest ≡ (n && o) → (c && rest) ≡ (n && u)
without_child_then true true o u rest was is = is ∙ was
without_child_then true false o u rest was is = is
without_child_then false true o u rest was is = was
without_child_then false false o u rest was is = refl

closed : (a b q : Name) (xs ys : List Name) → (is_child a q && list_any (name_eq q) xs) ≡ list_any (name_eq q) ys
    → (is_child a q && list_any (name_eq q) (filter (λ c. not (name_eq b c)) xs)) ≡ list_any (name_eq q) (filter (λ c. not (name_eq b c)) ys)
closed a b q xs ys was =
    without_child_then (is_child a q) (not (name_eq b q)) (list_any (name_eq q) xs) (list_any (name_eq q) ys)
    (list_any (name_eq q) (filter (λ c. not (name_eq b c)) xs)) was (without_among b q xs)
    ∙ sym (without_among b q ys)

-- a top action is no one's child
never_open : (a b q : Name) (xs ys : List Name) → is_child a b ≡ false → (is_child a q && list_any (name_eq q) xs) ≡ list_any (name_eq q) ys
    → (is_child a q && list_any (name_eq q) xs) ≡ list_any (name_eq q) (filter (λ c. not (name_eq b c)) ys)
never_open a b q xs ys none was = by (name_eq b q) refl ∙ sym (without_among b q ys)
  where
    by : (t : Bool) → name_eq b q ≡ t → (is_child a q && list_any (name_eq q) xs) ≡ (not (name_eq b q) && list_any (name_eq q) ys)
    by true same =
        ap (λ (t : Bool). t && list_any (name_eq q) xs) (ap (is_child a) (sym (name_eq_same b q same)) ∙ none)
        ∙ ap (λ (t : Bool). not t && list_any (name_eq q) ys) (sym same)
    by false other = was ∙ ap (λ (t : Bool). not t && list_any (name_eq q) ys) (sym other)

-- what a commit adds, to its parent alone
commit_gains : (counts : List ℕ) (b q : Name) (o : Option Name) (pairs : List (ℕ × ℕ)) (old : Actions) → length counts ≡ 8 → is_child q b ≡ is_some_name q o → HasParent o old
    → deps old q ≡ as_counts pairs
    → option_map_or (λ k. k.deps) (parent_changed o (gaining counts) old.action q) (replicate 8 0)
    ≡ as_counts ((if is_child q b then pairs_of counts else []) ++ pairs)
commit_gains counts b q None pairs old long child has was = was ∙ ap (λ (t : Bool). as_counts ((if t then pairs_of counts else []) ++ pairs)) (sym child)
commit_gains counts b q (Some p) pairs old long child has was =
    field_changed (λ k. k.deps) (λ ds. greater_counts ds counts) (replicate 8 0) p q (gaining counts) old.action (λ k. refl) has ∙ by (name_eq p q) refl
  where
    by : (t : Bool) → name_eq p q ≡ t → (if t then greater_counts (deps old q) counts else deps old q) ≡ as_counts ((if is_child q b then pairs_of counts else []) ++ pairs)
    by true same =
        ap₂ greater_counts was (sym (counts_of_pairs counts long)) ∙ sym (counts_append (pairs_of counts) pairs)
        ∙ ap (λ (t : Bool). as_counts ((if t then pairs_of counts else []) ++ pairs)) (sym (child ∙ name_eq_sym q p ∙ same))
    by false other = was ∙ ap (λ (t : Bool). as_counts ((if t then pairs_of counts else []) ++ pairs)) (sym (child ∙ name_eq_sym q p ∙ other))

parent_field : {X : Type 0} (field : Action → X) (none : X) (q : Name) (o : Option Name) (counts : List ℕ) (old : Name → Option Action)
    → ((k : Action) → field (gaining counts k) ≡ field k) → option_map_or field (parent_changed o (gaining counts) old q) none ≡ option_map_or field (old q) none
parent_field field none q None counts old same = refl
parent_field field none q (Some p) counts old same = field_kept field none p q (gaining counts) old same

parent_created : (q : Name) (o : Option Name) (counts : List ℕ) (old : Name → Option Action) → is_some (parent_changed o (gaining counts) old q) ≡ is_some (old q)
parent_created q None counts old = refl
parent_created q (Some p) counts old = created_kept p q (gaining counts) old

runs_committed : (objects : List ObjectDecl) (s : ℕ) (L : List Deed) (mail : Option Mail) (pairs : Name → List (ℕ × ℕ)) (b : Name) (top : Bool) (old : Actions) → is_top b ≡ top
    → CommitMayCome top b mail old → RunsBy objects s L pairs old
    → RunsBy objects s (Commit b ∷ L) (with_gained objects L mail (Commit b) pairs) (decides top b (Some (finish_counts mail)) old)
runs_committed objects s L mail pairs b false old top may runs =
    record {
      node = runs.node;
      count_is = runs.count_is;
      tops_are = runs.tops_are;
      created_is = λ q here. parent_created q (parent b) (finish_counts mail) old.action ∙ runs.created_is q here;
      ended_is = λ q here. parent_field (λ k. k.ended) false q (parent b) (finish_counts mail) old.action (λ k. refl) ∙ runs.ended_is q here;
      asks_are = λ q here. parent_field (λ k. k.asks) 0 q (parent b) (finish_counts mail) old.action (λ k. refl) ∙ runs.asks_are q here;
      calls_are = λ q here. parent_field (λ k. k.calls) 0 q (parent b) (finish_counts mail) old.action (λ k. refl) ∙ runs.calls_are q here;
      open_is = runs.open_is;
      address_is = runs.address_is;
      site_is = runs.site_is;
      child_is = λ q r here. closed q b r old.children (open_children L q) (runs.child_is q r here);
      deps_are = λ q here.
          commit_gains (finish_counts mail) b q (parent b) (pairs q) old may.0 (child_of q b (named_here L s q here)) may.1 (runs.deps_are q here);
    }
runs_committed objects s L mail pairs b true old top may runs =
    record {
      node = runs.node;
      count_is = runs.count_is;
      tops_are = runs.tops_are;
      created_is = runs.created_is;
      ended_is = runs.ended_is;
      asks_are = runs.asks_are;
      calls_are = runs.calls_are;
      open_is = runs.open_is;
      address_is = runs.address_is;
      site_is = runs.site_is;
      child_is = λ q r here. never_open q b r old.children (open_children L q) (top_no_child q b (named_here L s q here) top) (runs.child_is q r here);
      deps_are = λ q here.
          runs.deps_are q here
          ∙ ap (λ (t : Bool). as_counts ((if t then pairs_of (finish_counts mail) else []) ++ pairs q)) (sym (top_no_child q b (named_here L s q here) top));
    }

runs_aborted : (objects : List ObjectDecl) (s : ℕ) (L : List Deed) (mail : Option Mail) (pairs : Name → List (ℕ × ℕ)) (b : Name) (top : Bool) (old : Actions) → is_top b ≡ top
    → RunsBy objects s L pairs old
    → RunsBy objects s (Abort b ∷ L) (with_gained objects L mail (Abort b) pairs) (decides top b None old)
runs_aborted objects s L mail pairs b false old top runs =
    record {
      node = runs.node;
      count_is = runs.count_is;
      tops_are = runs.tops_are;
      created_is = runs.created_is;
      ended_is = runs.ended_is;
      asks_are = runs.asks_are;
      calls_are = runs.calls_are;
      open_is = runs.open_is;
      address_is = runs.address_is;
      site_is = runs.site_is;
      child_is = λ q r here. closed q b r old.children (open_children L q) (runs.child_is q r here);
      deps_are = runs.deps_are;
    }
runs_aborted objects s L mail pairs b true old top runs =
    record {
      node = runs.node;
      count_is = runs.count_is;
      tops_are = runs.tops_are;
      created_is = runs.created_is;
      ended_is = runs.ended_is;
      asks_are = runs.asks_are;
      calls_are = runs.calls_are;
      open_is = runs.open_is;
      address_is = runs.address_is;
      site_is = runs.site_is;
      child_is = λ q r here. never_open q b r old.children (open_children L q) (top_no_child q b (named_here L s q here) top) (runs.child_is q r here);
      deps_are = runs.deps_are;
    }

-- Each deed that may come.
runs_deed : (objects : List ObjectDecl) (s : ℕ) (L : List Deed) (mail : Option Mail) (pairs : Name → List (ℕ × ℕ)) (d : Deed) (old : Actions) → MayCome mail d old
    → RunsBy objects s L pairs old → RunsBy objects s (d ∷ L) (with_gained objects L mail d pairs) (after_deed objects mail d old)
runs_deed objects s L mail pairs (Create a) old may runs = runs_created objects s L mail pairs a (is_top a) old refl may.0 may.1 runs
runs_deed objects s L mail pairs (Ask a b) old may runs = runs_asked objects s L mail pairs a b old may.0 may.1 runs
runs_deed objects s L mail pairs (Call a n x op c) old may runs = runs_called objects s L mail pairs a n x op c old may runs
runs_deed objects s L mail pairs (Got a n seen) old may runs = runs_got objects s L mail pairs a n seen old may.0 may.1 runs
runs_deed objects s L mail pairs (AskCommit a v) old may runs = runs_asked_commit objects s L mail pairs a v old may runs
runs_deed objects s L mail pairs (AskAbort a) old may runs = runs_asked_abort objects s L mail pairs a old may runs
runs_deed objects s L mail pairs (Commit b) old may runs = runs_committed objects s L mail pairs b (is_top b) old refl may runs
runs_deed objects s L mail pairs (Abort b) old may runs = runs_aborted objects s L mail pairs b (is_top b) old refl runs
runs_deed objects s L mail pairs (Perform a n answer) old may runs = absurd may
runs_deed objects s L mail pairs (Bounce a n u) old may runs = absurd may
runs_deed objects s L mail pairs (Secure f site c) old may runs = absurd may
runs_deed objects s L mail pairs (Inform site a committed) old may runs = absurd may
runs_deed objects s L mail pairs (Crash site) old may runs = absurd may

-- what an event adds is what its deeds at home add
pub added : (objects : List ObjectDecl) (before : List Carried) (c : Carried) (hs : List Deed) → filter is_at_home c.event.deeds ≡ hs → (a : Name)
    → own_pairs objects (c ∷ before) a ≡ flat_map (gained_by objects (deeds_of before) c.mail a) hs ++ own_pairs objects before a
added objects before c hs is a =
    ap (λ (ps : List (ℕ × ℕ)). ps ++ own_pairs objects before a)
    (added_at_home (gained_by objects (deeds_of before) c.mail a)
    (by_other (λ d. gained_by objects (deeds_of before) c.mail a d ≡ []) (λ b n answer. refl) (λ b n u. refl) (λ f site k. refl) (λ site b t. refl)) c.event.deeds
    ∙ ap (flat_map (gained_by objects (deeds_of before) c.mail a)) is)

pub quiet_keeps : QuietKeeps
quiet_keeps objects s before c old new none same runs =
    answers_deeds objects s (deeds_of (c ∷ before)) (own_pairs objects (c ∷ before)) new
    (same_answers objects s (deeds_of (c ∷ before)) (own_pairs objects (c ∷ before)) old new same
    (same_runs objects s (deeds_of before) (deeds_of (c ∷ before)) (own_pairs objects before) (own_pairs objects (c ∷ before)) old
    (subst (λ (hs : List Deed). SameHome (after (deeds_of before) hs) (after (deeds_of before) c.event.deeds)) none (same_home c.event.deeds (deeds_of before)))
    (λ a. ap as_counts (added objects before c [] none a)) (runs_by objects s (deeds_of before) (own_pairs objects before) old runs)))

pub deed_keeps : DeedKeeps
deed_keeps objects s before c d old new one may same runs =
    answers_deeds objects s (deeds_of (c ∷ before)) (own_pairs objects (c ∷ before)) new
    (same_answers objects s (deeds_of (c ∷ before)) (own_pairs objects (c ∷ before)) (after_deed objects c.mail d old) new same
    (same_runs objects s (d ∷ deeds_of before) (deeds_of (c ∷ before)) (with_gained objects (deeds_of before) c.mail d (own_pairs objects before))
    (own_pairs objects (c ∷ before)) (after_deed objects c.mail d old)
    (subst (λ (hs : List Deed). SameHome (after (deeds_of before) hs) (after (deeds_of before) c.event.deeds)) one (same_home c.event.deeds (deeds_of before)))
    (λ a.
    ap as_counts
    (added objects before c (d ∷ []) one a
    ∙ ap (λ (ps : List (ℕ × ℕ)). ps ++ own_pairs objects before a) (append-nil (gained_by objects (deeds_of before) c.mail a d))))
    (runs_deed objects s (deeds_of before) c.mail (own_pairs objects before) d old may (runs_by objects s (deeds_of before) (own_pairs objects before) old runs))))
