-- After a restart nothing runs, and that is what the history has.
use Rattle.std.proofs.Common.{◌≡◌, ℕ, ◌+◌, ◌≤◌, eqb, Bool, true, false, ◌&&◌, if◌then◌else◌, List, [], ◌∷◌, ◌++◌, length, Option, Some, None, refl, sym, ap, ap₂, subst, ◌∙◌, arith}
use Rattle.std.specs.Prelude.{nat_lt}
use Rattle.std.specs.List.{list_any, flat_map}
use Rattle.std.specs.Option.{option_map_or}
use Rattle.std.proofs.lemmas.Bool.{true≢false, and_parts, and_from, and_right, or_parts, or_from, lt-ltb, eq-eqb}
use borrow.Author.Tests.{eqb-true}
use Rattle.cam_names.specs.declared.name.Name.{Name}
use Rattle.cam_names.specs.Names.{name_eq, is_child, is_top, parent, home_node, home_count}
use Rattle.cam_names.specs.Dependencies.{as_counts, pairs_of}
use Rattle.cam_names.proofs.Names.{name_eq_same}
use Rattle.cam_names.proofs.Children.{is_some_name, child_of}
use Rattle.cam_type.specs.declared.ObjectDecl.{ObjectDecl}
use Rattle.cam_event.specs.declared.Seen.{Seen}
use Rattle.cam_event.specs.declared.Seen.TheVariants as seens
use Rattle.cam_event.specs.declared.Deed.{Deed}
use Rattle.cam_event.specs.declared.Deed.TheVariants.{Create, Ask, Call, Perform, Bounce, Got, AskCommit, AskAbort, Commit, Abort, Secure, Inform, Crash}
use Rattle.cam_event.specs.History as history
use Rattle.cam_event.specs.History.{after, count, tops, created, asks, calls, open_call, open_children, call_of, number_of, is_create, is_ask_commit, is_ask_abort, is_ask_of, is_call_of, is_top_create}
use Rattle.cam_event.specs.Gained.{home, visited}
use Rattle.cam_event.specs.Inputs.{Mail}
use Rattle.cam_event.specs.ByKnowledge.{own_pairs, gained_by, start_counts, finish_counts}
use Rattle.cam_event.specs.Carried.{Carried, deeds_of}
use Rattle.cam_tranman.specs.Actions.{MayRunHere}
use Rattle.cam_tranman.specs.Calls.{none_run}
use Rattle.cam_tranman.specs.Orderly.{subject, is_later, is_of_later, present_count, IsOrderly}
use Rattle.cam_tranman.specs.Keeping.{RestartKeeps}
use Rattle.cam_tranman.proofs.Home.{SameHome, same_home}
use Rattle.cam_tranman.proofs.Running.{RunsBy, answers_deeds, same_runs, same_answers, named_here}
use Rattle.cam_tranman.proofs.Keeping.{added}
use Rattle.cam_tranman.proofs.Ordering.{any_less}
use Rattle.cam_tranman.proofs.RuleDeeds.{none_asked}

-- Of an action of a later count a history has nothing.
abbrev is_of : Name → Deed → Bool
is_of a d = option_map_or (name_eq a) (subject d) false

none_of_later : (s : ℕ) (L : List Deed) (a : Name) → list_any (is_of_later s (count L s)) L ≡ false → is_later s (count L s) a ≡ true → list_any (is_of a) L ≡ false
none_of_later s L a reached later = any_less (is_of a) (is_of_later s (count L s)) (λ d. by (subject d)) L reached
  where
    by : (o : Option Name) → option_map_or (name_eq a) o false ≡ true → option_map_or (is_later s (count L s)) o false ≡ true
    by None is = is
    by (Some b) is = ap (is_later s (count L s)) (sym (name_eq_same a b is)) ∙ later

of_create : (a : Name) (d : Deed) → is_create a d ≡ true → is_of a d ≡ true
of_create a (Create b) is = is
of_create a _ is = absurd (true≢false (sym is))

of_ask_commit : (a : Name) (d : Deed) → is_ask_commit a d ≡ true → is_of a d ≡ true
of_ask_commit a (AskCommit b v) is = is
of_ask_commit a _ is = absurd (true≢false (sym is))

of_ask_abort : (a : Name) (d : Deed) → is_ask_abort a d ≡ true → is_of a d ≡ true
of_ask_abort a (AskAbort b) is = is
of_ask_abort a _ is = absurd (true≢false (sym is))

of_ask : (a : Name) (d : Deed) → is_ask_of a d ≡ true → is_of a d ≡ true
of_ask a (Ask b c) is = is
of_ask a _ is = absurd (true≢false (sym is))

of_call : (a : Name) (d : Deed) → is_call_of a d ≡ true → is_of a d ≡ true
of_call a (Call b n x op c) is = is
of_call a _ is = absurd (true≢false (sym is))

none_number : (p : Deed → Bool) (L : List Deed) → list_any p L ≡ false → number_of p L ≡ 0
none_number p [] none = refl
none_number p (d ∷ L) none =
    let parts = or_parts (p d) (list_any p L) none in ap (λ (t : Bool). if t then number_of p L + 1 else number_of p L) parts.0 ∙ none_number p L parts.1

none_opened : (a : Name) (L : List Deed) → list_any (is_of a) L ≡ false → open_call L a ≡ None
none_opened a [] none = refl
none_opened a (Call b n x op c ∷ L) none =
    let parts = or_parts (name_eq a b) (list_any (is_of a) L) none in
    ap (λ (t : Bool). if t then Some n else open_call L a) parts.0 ∙ none_opened a L parts.1
none_opened a (Got b n seen ∷ L) none =
    let parts = or_parts (name_eq a b) (list_any (is_of a) L) none in
    ap (λ (t : Bool). if t then None else open_call L a) parts.0 ∙ none_opened a L parts.1
none_opened a (Create b ∷ L) none = none_opened a L (or_parts (is_of a (Create b)) (list_any (is_of a) L) none).1
none_opened a (Ask b c ∷ L) none = none_opened a L (or_parts (is_of a (Ask b c)) (list_any (is_of a) L) none).1
none_opened a (Perform b n answer ∷ L) none = none_opened a L none
none_opened a (Bounce b n u ∷ L) none = none_opened a L none
none_opened a (AskCommit b v ∷ L) none = none_opened a L (or_parts (is_of a (AskCommit b v)) (list_any (is_of a) L) none).1
none_opened a (AskAbort b ∷ L) none = none_opened a L (or_parts (is_of a (AskAbort b)) (list_any (is_of a) L) none).1
none_opened a (Commit b ∷ L) none = none_opened a L (or_parts (is_of a (Commit b)) (list_any (is_of a) L) none).1
none_opened a (Abort b ∷ L) none = none_opened a L none
none_opened a (Secure f site c ∷ L) none = none_opened a L none
none_opened a (Inform site b committed ∷ L) none = none_opened a L none
none_opened a (Crash site ∷ L) none = none_opened a L none

-- nor has it gained any dependency
none_gained : (objects : List ObjectDecl) (L : List Deed) (mail : Option Mail) (a : Name) (d : Deed) → 1 ≤ length a → is_of a d ≡ false → gained_by objects L mail a d ≡ []
none_gained objects L mail a (Create b) named none = ap (λ (t : Bool). if t then home b ∷ pairs_of (start_counts mail) else []) none
none_gained objects L mail a (Got b n seen) named none = by seen
  where
    by : (seen : Seen) → gained_by objects L mail a (Got b n seen) ≡ []
    by (seens.Done answer) = ap (λ (t : Bool). if t then visited objects (call_of L b n) else []) none
    by (seens.Busy u) = refl
    by seens.Gone = refl
none_gained objects L mail a (Commit b) named none =
    ap (λ (t : Bool). if t then pairs_of (finish_counts mail) else []) (child_of a b named ∙ by (parent b) ∙ none)
  where
    by : (o : Option Name) → is_some_name a o ≡ option_map_or (name_eq a) o false
    by None = refl
    by (Some p) = refl
none_gained objects L mail a (Ask b c) named none = refl
none_gained objects L mail a (Call b n x op c) named none = refl
none_gained objects L mail a (Perform b n answer) named none = refl
none_gained objects L mail a (Bounce b n u) named none = refl
none_gained objects L mail a (AskCommit b v) named none = refl
none_gained objects L mail a (AskAbort b) named none = refl
none_gained objects L mail a (Abort b) named none = refl
none_gained objects L mail a (Secure f site c) named none = refl
none_gained objects L mail a (Inform site b committed) named none = refl
none_gained objects L mail a (Crash site) named none = refl

any_after : (p : Deed → Bool) (L ds : List Deed) → list_any p (after L ds) ≡ false → (list_any p L ≡ false) × (list_any p ds ≡ false)
any_after p L [] none = (none, refl)
any_after p L (d ∷ ds) none =
    let rest = any_after p (d ∷ L) ds none in
    let parts = or_parts (p d) (list_any p L) rest.0 in
    (parts.1, or_from (p d) (list_any p ds) parts.0 rest.1)

gained_none : (objects : List ObjectDecl) (L : List Deed) (mail : Option Mail) (a : Name) (ds : List Deed) → 1 ≤ length a → list_any (is_of a) ds ≡ false
    → flat_map (gained_by objects L mail a) ds ≡ []
gained_none objects L mail a [] named none = refl
gained_none objects L mail a (d ∷ ds) named none =
    let parts = or_parts (is_of a d) (list_any (is_of a) ds) none in
    ap₂ (λ (x y : List (ℕ × ℕ)). x ++ y) (none_gained objects L mail a d named parts.0) (gained_none objects L mail a ds named parts.1)

none_depends : (objects : List ObjectDecl) (before : List Carried) (a : Name) → 1 ≤ length a → list_any (is_of a) (deeds_of before) ≡ false → own_pairs objects before a ≡ []
none_depends objects [] a named none = refl
none_depends objects (c ∷ before) a named none =
    let parts = any_after (is_of a) (deeds_of before) c.event.deeds none in
    ap₂ (λ (x y : List (ℕ × ℕ)). x ++ y) (gained_none objects (deeds_of before) c.mail a c.event.deeds named parts.1)
    (none_depends objects before a named parts.0)

-- After the crash nothing runs.
top_later : (s c : ℕ) (d : Deed) → is_top_create s (c + 1) d ≡ true → is_of_later s c d ≡ true
top_later s c (Create a) is =
    let last = and_parts (is_top a && eqb (home_node a) s) (eqb (home_count a) (c + 1)) is in
    let first = and_parts (is_top a) (eqb (home_node a) s) last.0 in
    let e = eqb-true (home_count a) (c + 1) last.1 in
    and_from (eqb (home_node a) s) (nat_lt c (home_count a)) first.1 (lt-ltb c (home_count a) (omega (arith, e)))
top_later s c _ is = absurd (true≢false (sym is))

runs_none : (objects : List ObjectDecl) (s : ℕ) (before : List Carried) → IsOrderly s before
    → RunsBy objects s (Crash s ∷ deeds_of before) (own_pairs objects before) (none_run s (present_count s before + 1))
runs_none objects s before ord =
    record {
      node = refl;
      count_is = sym raised;
      tops_are =
          sym
          (ap (history.tops (deeds_of before) s) raised
          ∙ none_number (is_top_create s (count (deeds_of before) s + 1)) (deeds_of before) (any_less (is_top_create s (count (deeds_of before) s + 1)) (is_of_later s (count (deeds_of before) s)) (top_later s (count (deeds_of before) s)) (deeds_of before) ord.reached));
      created_is = λ a here. sym (any_less (is_create a) (is_of a) (of_create a) (deeds_of before) (none a here));
      ended_is = λ a here.
          sym
          (or_from (history.asked_commit (deeds_of before) a) (history.asked_abort (deeds_of before) a) (any_less (is_ask_commit a) (is_of a) (of_ask_commit a) (deeds_of before) (none a here))
          (any_less (is_ask_abort a) (is_of a) (of_ask_abort a) (deeds_of before) (none a here)));
      asks_are = λ a here. sym (none_number (is_ask_of a) (deeds_of before) (any_less (is_ask_of a) (is_of a) (of_ask a) (deeds_of before) (none a here)));
      calls_are = λ a here. sym (none_number (is_call_of a) (deeds_of before) (any_less (is_call_of a) (is_of a) (of_call a) (deeds_of before) (none a here)));
      open_is = λ a here. sym (none_opened a (deeds_of before) (none a here));
      address_is = λ a n here opened. let e : None ≡ Some n = sym (none_opened a (deeds_of before) (none a here)) ∙ opened in cc;
      site_is = λ a here. tt;
      child_is = λ a b here.
          and_right (is_child a b) false refl
          ∙ sym (ap (list_any (name_eq b)) (none_asked (deeds_of before) a (any_less (is_ask_of a) (is_of a) (of_ask a) (deeds_of before) (none a here))));
      deps_are = λ a here. ap as_counts (sym (none_depends objects before a (named_here (Crash s ∷ (deeds_of before)) s a here) (none a here)));
    }
  where
    raised : count (Crash s ∷ deeds_of before) s ≡ count (deeds_of before) s + 1
    raised = ap (λ (t : Bool). if t then count (deeds_of before) s + 1 else count (deeds_of before) s) (eq-eqb s s refl)

    none : (a : Name) → MayRunHere (Crash s ∷ deeds_of before) s a → list_any (is_of a) (deeds_of before) ≡ false
    none a here =
        let e = raised in
        let f = here.1 in
        none_of_later s (deeds_of before) a ord.reached
        (and_from (eqb (home_node a) s) (nat_lt (count (deeds_of before) s) (home_count a)) (eq-eqb (home_node a) s here.0)
        (lt-ltb (count (deeds_of before) s) (home_count a) (omega (arith, e, f))))

pub restart_keeps : RestartKeeps
restart_keeps objects s before c new ord one same =
    answers_deeds objects s (deeds_of (c ∷ before)) (own_pairs objects (c ∷ before)) new
    (same_answers objects s (deeds_of (c ∷ before)) (own_pairs objects (c ∷ before)) (none_run s (present_count s before + 1)) new same
    (same_runs objects s (Crash s ∷ deeds_of before) (deeds_of (c ∷ before)) (own_pairs objects before) (own_pairs objects (c ∷ before))
    (none_run s (present_count s before + 1))
    (subst (λ (hs : List Deed). SameHome (after (deeds_of before) hs) (after (deeds_of before) c.event.deeds)) one (same_home c.event.deeds (deeds_of before)))
    (λ a. ap as_counts (added objects before c (Crash s ∷ []) one a)) (runs_none objects s before ord)))
