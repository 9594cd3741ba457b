-- What the actions must answer, said of deeds and of the pairs on which each action depends.
use Rattle.std.proofs.Common.{◌≡◌, ℕ, ◌+◌, ◌≤◌, Bool, true, false, ◌&&◌, ◌||◌, if◌then◌else◌, List, [], ◌∷◌, length, Option, Some, None, IfSome, refl, sym, ap, ap₂, subst, ◌∙◌, arith}
use Rattle.std.specs.Prelude.{option_map, is_some, replicate}
use Rattle.std.specs.List.{list_any}
use Rattle.std.specs.Option.{option_map_or}
use Rattle.cam_names.specs.declared.name.Name.{Name}
use Rattle.cam_names.specs.Names.{name_eq, is_child, home_count}
use Rattle.cam_names.specs.Dependencies.{as_counts}
use Rattle.cam_names.proofs.Names.{name_eq_same}
use Rattle.cam_type.specs.declared.ObjectDecl.{ObjectDecl}
use Rattle.cam_event.specs.declared.Deed.{Deed}
use Rattle.cam_event.specs.History as history
use Rattle.cam_event.specs.History.{after, call_of, is_crash, open_children}
use Rattle.cam_event.specs.Live.{site_of}
use Rattle.cam_tranman.specs.declared.call.OpenCall.{OpenCall}
use Rattle.cam_tranman.specs.declared.action.Action.{Action}
use Rattle.cam_tranman.specs.Actions.{Actions, created, ended, asks, calls, deps, open_call, address, open_address, is_open_child, MayRunHere, AnswersDeeds}
use Rattle.cam_tranman.specs.Calls.{AreSame, changed}
use Rattle.cam_tranman.proofs.Home.{SameHome}
use Rattle.cam_tranman.proofs.Members.{any_from}

pub record RunsBy (objects : List ObjectDecl) (s : ℕ) (L : List Deed) (pairs : Name → List (ℕ × ℕ)) (actions : Actions) : Type 0 where
  pub node : actions.node ≡ s
  pub count_is : actions.count ≡ history.count L s
  pub tops_are : actions.tops ≡ history.tops L s (history.count L s)
  pub created_is : (a : Name) → MayRunHere L s a → created actions a ≡ history.created L a
  pub ended_is : (a : Name) → MayRunHere L s a → ended actions a ≡ history.ended L a
  pub asks_are : (a : Name) → MayRunHere L s a → asks actions a ≡ history.asks L a
  pub calls_are : (a : Name) → MayRunHere L s a → calls actions a ≡ history.calls L a
  pub open_is : (a : Name) → MayRunHere L s a → open_call actions a ≡ history.open_call L a
  pub address_is : (a : Name) (n : ℕ) → MayRunHere L s a → history.open_call L a ≡ Some n → open_address actions a ≡ call_of L a n
  pub site_is : (a : Name) → MayRunHere L s a → IfSome (actions.call a) (λ call. call.site ≡ site_of objects call.object)
  pub child_is : (a b : Name) → MayRunHere L s a → is_open_child actions a b ≡ history.is_open_child L a b
  pub deps_are : (a : Name) → MayRunHere L s a → deps actions a ≡ as_counts (pairs a)

pub runs_by : (objects : List ObjectDecl) (s : ℕ) (L : List Deed) (pairs : Name → List (ℕ × ℕ)) (actions : Actions)
    → AnswersDeeds objects s L (λ a. as_counts (pairs a)) actions → RunsBy objects s L pairs actions
runs_by objects s L pairs actions runs =
    record {
      node = runs.node;
      count_is = runs.count;
      tops_are = runs.tops;
      created_is = runs.created;
      ended_is = runs.ended;
      asks_are = runs.asks;
      calls_are = runs.calls;
      open_is = runs.open_call;
      address_is = runs.open_address;
      site_is = runs.open_site;
      child_is = runs.open_child;
      deps_are = runs.deps;
    }

-- Whether any child is open follows from which are.
pub answers_deeds : (objects : List ObjectDecl) (s : ℕ) (L : List Deed) (pairs : Name → List (ℕ × ℕ)) (actions : Actions)
    → RunsBy objects s L pairs actions → AnswersDeeds objects s L (λ a. as_counts (pairs a)) actions
answers_deeds objects s L pairs actions runs =
    record {
      node = runs.node;
      count = runs.count_is;
      tops = runs.tops_are;
      created = runs.created_is;
      ended = runs.ended_is;
      asks = runs.asks_are;
      calls = runs.calls_are;
      open_call = runs.open_is;
      open_address = runs.address_is;
      open_site = runs.site_is;
      open_child = runs.child_is;
      any_open_child = λ a here. any_from a actions.children (open_children L a) (λ b. runs.child_is a b here);
      deps = runs.deps_are;
    }

-- The same histories, and the same answers.
pub same_runs : (objects : List ObjectDecl) (s : ℕ) (L M : List Deed) (pairs more : Name → List (ℕ × ℕ)) (actions : Actions) → SameHome L M
    → ((a : Name) → as_counts (more a) ≡ as_counts (pairs a)) → RunsBy objects s L pairs actions → RunsBy objects s M more actions
same_runs objects s L M pairs more actions same counts runs =
    record {
      node = runs.node;
      count_is = runs.count_is ∙ sym (same.count_is s);
      tops_are = runs.tops_are ∙ sym (same.tops_are s (history.count L s)) ∙ ap (history.tops M s) (sym (same.count_is s));
      created_is = λ a here. runs.created_is a (back a here) ∙ sym (same.created_is a);
      ended_is = λ a here. runs.ended_is a (back a here) ∙ ap₂ (λ p q. p || q) (sym (same.asked_commit_is a)) (sym (same.asked_abort_is a));
      asks_are = λ a here. runs.asks_are a (back a here) ∙ sym (same.asks_are a);
      calls_are = λ a here. runs.calls_are a (back a here) ∙ sym (same.calls_are a);
      open_is = λ a here. runs.open_is a (back a here) ∙ sym (same.open_call_is a);
      address_is = λ a n here opened. runs.address_is a n (back a here) (sym (same.open_call_is a) ∙ opened) ∙ sym (same.call_is a n);
      site_is = λ a here. runs.site_is a (back a here);
      child_is = λ a b here. runs.child_is a b (back a here) ∙ ap (λ (bs : List Name). list_any (name_eq b) bs) (sym (same.children_are a));
      deps_are = λ a here. runs.deps_are a (back a here) ∙ sym (counts a);
    }
  where
    back : (a : Name) → MayRunHere M s a → MayRunHere L s a
    back a here = (here.0, subst (λ (n : ℕ). n ≤ home_count a) (same.count_is s) here.1)

pub same_answers : (objects : List ObjectDecl) (s : ℕ) (L : List Deed) (pairs : Name → List (ℕ × ℕ)) (old new : Actions) → AreSame old new
    → RunsBy objects s L pairs old → RunsBy objects s L pairs new
same_answers objects s L pairs old new same runs =
    record {
      node = same.node ∙ runs.node;
      count_is = same.count ∙ runs.count_is;
      tops_are = same.tops ∙ runs.tops_are;
      created_is = λ a here. ap (λ (o : Option Action). is_some o) (same.action a) ∙ runs.created_is a here;
      ended_is = λ a here. ap (λ (o : Option Action). option_map_or (λ k. k.ended) o false) (same.action a) ∙ runs.ended_is a here;
      asks_are = λ a here. ap (λ (o : Option Action). option_map_or (λ k. k.asks) o 0) (same.action a) ∙ runs.asks_are a here;
      calls_are = λ a here. ap (λ (o : Option Action). option_map_or (λ k. k.calls) o 0) (same.action a) ∙ runs.calls_are a here;
      open_is = λ a here. ap (λ (o : Option OpenCall). option_map (λ k. k.number) o) (same.call a) ∙ runs.open_is a here;
      address_is = λ a n here opened. ap (λ (o : Option OpenCall). option_map address o) (same.call a) ∙ runs.address_is a n here opened;
      site_is = λ a here. subst (λ (o : Option OpenCall). IfSome o (λ call. call.site ≡ site_of objects call.object)) (sym (same.call a)) (runs.site_is a here);
      child_is = λ a b here. ap (λ t. is_child a b && t) (same.children b) ∙ runs.child_is a b here;
      deps_are = λ a here. ap (λ (o : Option Action). option_map_or (λ k. k.deps) o (replicate 8 0)) (same.action a) ∙ runs.deps_are a here;
    }

-- A node's count is 1 at least, so an action that may run at it has a part.
pub counted : (L : List Deed) (s : ℕ) → 1 ≤ history.count L s
counted [] s = omega arith
counted (d ∷ L) s = by (is_crash s d) (counted L s)
  where
    by : (t : Bool) → 1 ≤ history.count L s → 1 ≤ (if t then history.count L s + 1 else history.count L s)
    by true rest = omega (arith, rest)
    by false rest = rest

pub named_here : (L : List Deed) (s : ℕ) (a : Name) → MayRunHere L s a → 1 ≤ length a
named_here L s [] here = let e = counted L s in let f = here.1 in absurd (omega (arith, e, f))
named_here L s (p ∷ a) here = omega arith

-- A field of what is kept, where one entry is changed, or put.
pub field_kept : {X : Type 0} (field : Action → X) (none : X) (a q : Name) (change : Action → Action) (old : Name → Option Action)
    → ((k : Action) → field (change k) ≡ field k) → option_map_or field (changed a change old q) none ≡ option_map_or field (old q) none
field_kept field none a q change old same = by (name_eq a q) (old q)
  where
    by : (t : Bool) (o : Option Action) → option_map_or field (if t then option_map change o else o) none ≡ option_map_or field o none
    by true None = refl
    by true (Some k) = same k
    by false o = refl

pub created_kept : (a q : Name) (change : Action → Action) (old : Name → Option Action) → is_some (changed a change old q) ≡ is_some (old q)
created_kept a q change old = by (name_eq a q) (old q)
  where
    by : (t : Bool) (o : Option Action) → is_some (if t then option_map change o else o) ≡ is_some o
    by true None = refl
    by true (Some k) = refl
    by false o = refl

-- the field of an action that is there, changed
pub field_changed : {X : Type 0} (field : Action → X) (more : X → X) (none : X) (a q : Name) (change : Action → Action) (old : Name → Option Action)
    → ((k : Action) → field (change k) ≡ more (field k)) → is_some (old a) ≡ true
    → option_map_or field (changed a change old q) none ≡ (if name_eq a q then more (option_map_or field (old q) none) else option_map_or field (old q) none)
field_changed field more none a q change old is there = by (name_eq a q) refl
  where
    here : (o : Option Action) → is_some o ≡ true → option_map_or field (option_map change o) none ≡ more (option_map_or field o none)
    here None h = cc
    here (Some k) h = is k

    by : (t : Bool) → name_eq a q ≡ t
        → option_map_or field (if t then option_map change (old q) else old q) none
        ≡ (if t then more (option_map_or field (old q) none) else option_map_or field (old q) none)
    by true same = here (old q) (ap (λ (x : Name). is_some (old x)) (sym (name_eq_same a q same)) ∙ there)
    by false other = refl

-- an entry that is put where none was
pub field_put : {X : Type 0} (field : Action → X) (none : X) (a q : Name) (kept : Action) (old : Name → Option Action) → is_some (old a) ≡ false
    → field kept ≡ none → option_map_or field (if name_eq a q then Some kept else old q) none ≡ option_map_or field (old q) none
field_put field none a q kept old fresh is = by (name_eq a q) refl
  where
    here : (o : Option Action) → is_some o ≡ false → field kept ≡ option_map_or field o none
    here None h = is
    here (Some k) h = cc

    by : (t : Bool) → name_eq a q ≡ t → option_map_or field (if t then Some kept else old q) none ≡ option_map_or field (old q) none
    by true same = here (old q) (ap (λ (x : Name). is_some (old x)) (sym (name_eq_same a q same)) ∙ fresh)
    by false other = refl
