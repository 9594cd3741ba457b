-- One deed at home, and what the call does that stands for it: the actions go on answering as the history does.
use Rattle.std.proofs.Common.{◌≡◌, ℕ, ℤ, ◌+◌, eqb, Bool, true, false, ◌&&◌, ◌||◌, if◌then◌else◌, List, ◌∷◌, ◌++◌, Option, Some, IfSome, refl, sym, ap, ap₂, ◌∙◌, inl, inr}
use Rattle.std.specs.Prelude.{option_map, replicate}
use Rattle.std.specs.List.{list_any}
use Rattle.std.specs.Option.{option_map_or}
use Rattle.std.proofs.lemmas.Bool.{cases_Bool, true≢false, eq-eqb}
use Rattle.cam_names.specs.declared.name.Name.{Name}
use Rattle.cam_names.specs.Names.{name_eq, is_child}
use Rattle.cam_names.proofs.Names.{name_eq_same, name_eq_sym, name_eq_refl}
use Rattle.cam_type.specs.declared.ObjectDecl.{ObjectDecl}
use Rattle.cam_type.specs.declared.Op.{Op}
use Rattle.cam_event.specs.declared.Deed.{Deed}
use Rattle.cam_event.specs.declared.Deed.TheVariants.{Ask, Call, AskCommit, AskAbort}
use Rattle.cam_event.specs.History as history
use Rattle.cam_event.specs.History.{Addressed, call_of, open_children}
use Rattle.cam_event.specs.Live.{site_of}
use Rattle.cam_event.specs.Inputs.{Mail}
use Rattle.cam_event.specs.ByKnowledge.{gained_by}
use Rattle.cam_tranman.specs.declared.call.OpenCall.{OpenCall}
use Rattle.cam_tranman.specs.Actions.{Actions, created, address, is_open}
use Rattle.cam_tranman.specs.Calls.{changed, with_ask, one_call_more, as_ended, asked, called, finished}
use Rattle.cam_tranman.specs.Events.{call_to}
use Rattle.cam_tranman.proofs.Members.{one_parent}
use Rattle.cam_tranman.proofs.Running.{RunsBy, field_kept, created_kept, field_changed}

-- the pairs with what the deed adds
abbrev pub with_gained : List ObjectDecl → List Deed → Option Mail → Deed → (Name → List (ℕ × ℕ)) → Name → List (ℕ × ℕ)
with_gained objects L mail d pairs a = gained_by objects L mail a d ++ pairs a

-- An action asks for a child.
asked_child : (a p b q : Name) (opened : Bool) (bs : List Name) → is_child p b ≡ true → (is_child a q && opened) ≡ list_any (name_eq q) bs
    → (is_child a q && (name_eq q b || opened)) ≡ list_any (name_eq q) (if name_eq a p then b ∷ bs else bs)
asked_child a p b q opened bs child was = by (name_eq a p) refl (name_eq q b) refl
  where
    by : (t : Bool) → name_eq a p ≡ t → (u : Bool) → name_eq q b ≡ u → (is_child a q && (u || opened)) ≡ list_any (name_eq q) (if t then b ∷ bs else bs)
    by true same true here =
        let e : is_child a q ≡ true = ap₂ is_child (name_eq_same a p same) (name_eq_same q b here) ∙ child in
        ap (λ (t : Bool). t && true) e ∙ ap (λ (t : Bool). t || list_any (name_eq q) bs) (sym here)
    by true same false other = was ∙ ap (λ (t : Bool). t || list_any (name_eq q) bs) (sym other)
    by false apart false other = was
    by false apart true here =
        elim (cases_Bool (is_child a q)) [
          | inl child_too ↦
              let e : a ≡ p = one_parent a p b (ap (is_child a) (sym (name_eq_same q b here)) ∙ child_too) child in
              absurd (true≢false (sym (name_eq_refl p) ∙ ap (λ (x : Name). name_eq x p) (sym e) ∙ apart))
          | inr none ↦ ap (λ (t : Bool). t && true) none ∙ ap (λ (t : Bool). t && opened) (sym none) ∙ was
        ]

pub runs_asked : (objects : List ObjectDecl) (s : ℕ) (L : List Deed) (mail : Option Mail) (pairs : Name → List (ℕ × ℕ)) (a b : Name) (old : Actions)
    → created old a ≡ true → is_child a b ≡ true → RunsBy objects s L pairs old
    → RunsBy objects s (Ask a b ∷ L) (with_gained objects L mail (Ask a b) pairs) (asked a b old)
runs_asked objects s L mail pairs a b old there child runs =
    record {
      node = runs.node;
      count_is = runs.count_is;
      tops_are = runs.tops_are;
      created_is = λ q here. created_kept a q with_ask old.action ∙ runs.created_is q here;
      ended_is = λ q here. field_kept (λ k. k.ended) false a q with_ask old.action (λ k. refl) ∙ runs.ended_is q here;
      asks_are = λ q here.
          field_changed (λ k. k.asks) (λ n. n + 1) 0 a q with_ask old.action (λ k. refl) there
          ∙ ap₂ (λ (t : Bool) (n : ℕ). if t then n + 1 else n) (name_eq_sym a q) (runs.asks_are q here);
      calls_are = λ q here. field_kept (λ k. k.calls) 0 a q with_ask old.action (λ k. refl) ∙ runs.calls_are q here;
      open_is = runs.open_is;
      address_is = runs.address_is;
      site_is = runs.site_is;
      child_is = λ q r here. asked_child q a b r (is_open old r) (open_children L q) child (runs.child_is q r here);
      deps_are = λ q here. field_kept (λ k. k.deps) (replicate 8 0) a q with_ask old.action (λ k. refl) ∙ runs.deps_are q here;
    }

-- An action makes a call.
some_number : (n m : ℕ) → Some n ≡ Some m → eqb m n ≡ true
some_number n m same = let e : m ≡ n = cc in eq-eqb m n e

pub runs_called : (objects : List ObjectDecl) (s : ℕ) (L : List Deed) (mail : Option Mail) (pairs : Name → List (ℕ × ℕ)) (a : Name) (n x : ℕ) (op : Op) (c : ℕ) (old : Actions)
    → created old a ≡ true → RunsBy objects s L pairs old
    → RunsBy objects s (Call a n x op c ∷ L) (with_gained objects L mail (Call a n x op c) pairs) (called a (call_to objects n x op c) old)
runs_called objects s L mail pairs a n x op c old there runs =
    record {
      node = runs.node;
      count_is = runs.count_is;
      tops_are = runs.tops_are;
      created_is = λ q here. created_kept a q one_call_more old.action ∙ runs.created_is q here;
      ended_is = λ q here. field_kept (λ k. k.ended) false a q one_call_more old.action (λ k. refl) ∙ runs.ended_is q here;
      asks_are = λ q here. field_kept (λ k. k.asks) 0 a q one_call_more old.action (λ k. refl) ∙ runs.asks_are q here;
      calls_are = λ q here.
          field_changed (λ k. k.calls) (λ n. n + 1) 0 a q one_call_more old.action (λ k. refl) there
          ∙ ap₂ (λ (t : Bool) (n : ℕ). if t then n + 1 else n) (name_eq_sym a q) (runs.calls_are q here);
      open_is = λ q here. open_then (name_eq a q) (old.call q) (history.open_call L q) (runs.open_is q here) ∙ ap (λ (t : Bool). if t then Some n else history.open_call L q) (name_eq_sym a q);
      address_is = λ q m here opened. address_then q m (name_eq a q) refl (λ was. runs.address_is q m here was) opened;
      site_is = λ q here. site_then (name_eq a q) (old.call q) (runs.site_is q here);
      child_is = runs.child_is;
      deps_are = λ q here. field_kept (λ k. k.deps) (replicate 8 0) a q one_call_more old.action (λ k. refl) ∙ runs.deps_are q here;
    }
  where
    open_then : (t : Bool) (o : Option OpenCall) (before : Option ℕ) → option_map (λ k. k.number) o ≡ before
        → option_map (λ k. k.number) (if t then Some (call_to objects n x op c) else o) ≡ (if t then Some n else before)
    open_then true o before was = refl
    open_then false o before was = was

    site_then : (t : Bool) (o : Option OpenCall) → IfSome o (λ call. call.site ≡ site_of objects call.object)
        → IfSome (if t then Some (call_to objects n x op c) else o) (λ call. call.site ≡ site_of objects call.object)
    site_then true o was = refl
    site_then false o was = was

    address_then : (q : Name) (m : ℕ) (t : Bool) → name_eq a q ≡ t
        → (history.open_call L q ≡ Some m → option_map address (old.call q) ≡ call_of L q m)
        → (if name_eq q a then Some n else history.open_call L q) ≡ Some m
        → option_map address (if name_eq a q then Some (call_to objects n x op c) else old.call q)
        ≡ (if name_eq q a && eqb m n then Some (record { object = x; op = op; count = c }) else call_of L q m)
    address_then q m true same was opened =
        let e = name_eq_sym q a ∙ same in
        let f = some_number n m (sym (ap (λ (t : Bool). if t then Some n else history.open_call L q) e) ∙ opened) in
        ap (λ (t : Bool). option_map address (if t then Some (call_to objects n x op c) else old.call q)) same
        ∙ sym (ap₂ (λ (t u : Bool). if t && u then Some (record { object = x; op = op; count = c }) else call_of L q m) e f)
    address_then q m false other was opened =
        let e = name_eq_sym q a ∙ other in
        ap (λ (t : Bool). option_map address (if t then Some (call_to objects n x op c) else old.call q)) other
        ∙ was (sym (ap (λ (t : Bool). if t then Some n else history.open_call L q) e) ∙ opened)
        ∙ sym (ap (λ (t : Bool). if t && eqb m n then Some (record { object = x; op = op; count = c }) else call_of L q m) e)

-- An action asks to commit or to abort.
ended_then : (a q : Name) (old : Actions) (before : Bool) → created old a ≡ true → option_map_or (λ k. k.ended) (old.action q) false ≡ before
    → option_map_or (λ k. k.ended) (changed a as_ended old.action q) false ≡ (name_eq q a || before)
ended_then a q old before there was =
    field_changed (λ k. k.ended) (λ b. true) false a q as_ended old.action (λ k. refl) there
    ∙ ap₂ (λ (t b : Bool). if t then true else b) (name_eq_sym a q) was ∙ by (name_eq q a) before
  where
    by : (t b : Bool) → (if t then true else b) ≡ (t || b)
    by true b = refl
    by false b = refl

or_middle : (p q r : Bool) → (p || (q || r)) ≡ (q || (p || r))
or_middle true true r = refl
or_middle true false r = refl
or_middle false true r = refl
or_middle false false r = refl

or_whole : (p q r : Bool) → (p || (q || r)) ≡ ((p || q) || r)
or_whole true q r = refl
or_whole false q r = refl

pub runs_asked_commit : (objects : List ObjectDecl) (s : ℕ) (L : List Deed) (mail : Option Mail) (pairs : Name → List (ℕ × ℕ)) (a : Name) (v : ℤ) (old : Actions)
    → created old a ≡ true → RunsBy objects s L pairs old
    → RunsBy objects s (AskCommit a v ∷ L) (with_gained objects L mail (AskCommit a v) pairs) (finished a old)
runs_asked_commit objects s L mail pairs a v old there runs =
    record {
      node = runs.node;
      count_is = runs.count_is;
      tops_are = runs.tops_are;
      created_is = λ q here. created_kept a q as_ended old.action ∙ runs.created_is q here;
      ended_is = λ q here. ended_then a q old (history.ended L q) there (runs.ended_is q here) ∙ or_whole (name_eq q a) (history.asked_commit L q) (history.asked_abort L q);
      asks_are = λ q here. field_kept (λ k. k.asks) 0 a q as_ended old.action (λ k. refl) ∙ runs.asks_are q here;
      calls_are = λ q here. field_kept (λ k. k.calls) 0 a q as_ended old.action (λ k. refl) ∙ runs.calls_are q here;
      open_is = runs.open_is;
      address_is = runs.address_is;
      site_is = runs.site_is;
      child_is = runs.child_is;
      deps_are = λ q here. field_kept (λ k. k.deps) (replicate 8 0) a q as_ended old.action (λ k. refl) ∙ runs.deps_are q here;
    }

pub runs_asked_abort : (objects : List ObjectDecl) (s : ℕ) (L : List Deed) (mail : Option Mail) (pairs : Name → List (ℕ × ℕ)) (a : Name) (old : Actions)
    → created old a ≡ true → RunsBy objects s L pairs old
    → RunsBy objects s (AskAbort a ∷ L) (with_gained objects L mail (AskAbort a) pairs) (finished a old)
runs_asked_abort objects s L mail pairs a old there runs =
    record {
      node = runs.node;
      count_is = runs.count_is;
      tops_are = runs.tops_are;
      created_is = λ q here. created_kept a q as_ended old.action ∙ runs.created_is q here;
      ended_is = λ q here. ended_then a q old (history.ended L q) there (runs.ended_is q here) ∙ or_middle (name_eq q a) (history.asked_commit L q) (history.asked_abort L q);
      asks_are = λ q here. field_kept (λ k. k.asks) 0 a q as_ended old.action (λ k. refl) ∙ runs.asks_are q here;
      calls_are = λ q here. field_kept (λ k. k.calls) 0 a q as_ended old.action (λ k. refl) ∙ runs.calls_are q here;
      open_is = runs.open_is;
      address_is = runs.address_is;
      site_is = runs.site_is;
      child_is = runs.child_is;
      deps_are = λ q here. field_kept (λ k. k.deps) (replicate 8 0) a q as_ended old.action (λ k. refl) ∙ runs.deps_are q here;
    }
