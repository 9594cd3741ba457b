-- What a deed has in front of it, and what it is for the deeds of a node to be in order.
use Rattle.std.proofs.Common.{◌≡◌, ℕ, ◌+◌, ◌≤◌, eqb, Bool, true, false, List, [], ◌∷◌, filter, length, Option, Some, None, refl, sym, ap, ap₂, subst, ◌∙◌, arith}
use Rattle.std.specs.Prelude.{nat_lt}
use Rattle.std.specs.List.{list_any}
use Rattle.std.proofs.lemmas.Bool.{true≢false, and_right, or_parts, or_from, false_from_ne_true, true_from_ne_false, le-ltb}
use borrow.Author.Tests.{eqb-true}
use Rattle.cam_names.specs.declared.name.Name.{Name}
use Rattle.cam_names.specs.Names.{is_child, is_top, parent, home_node, home_count}
use Rattle.cam_names.proofs.Names.{name_eq_same}
use Rattle.cam_event.specs.declared.Deed.{Deed}
use Rattle.cam_event.specs.declared.Deed.TheVariants.{Create, Ask, Call, Perform, Bounce, Got, AskCommit, AskAbort, Commit, Abort, Secure, Inform, Crash}
use Rattle.cam_event.specs.History.{after, count, tops, created, open_call, is_create, is_ask_of}
use Rattle.cam_event.specs.Inputs.{Mail}
use Rattle.cam_event.specs.ByKnowledge.{start_counts, finish_counts}
use Rattle.cam_tranman.specs.Events.{is_at_home}
use Rattle.cam_tranman.specs.Orderly.{is_later, is_of_later, is_numbered_above}
use Rattle.cam_tranman.specs.Keeping.{MailHasCounts}
use Rattle.cam_tranman.proofs.Home.{SameHome, same_home, by_other, any_at_home}

-- Where no deed passes the wider test, none passes the narrower.
pub any_less : (p q : Deed → Bool) → ((d : Deed) → p d ≡ true → q d ≡ true) → (L : List Deed) → list_any q L ≡ false → list_any p L ≡ false
any_less p q more [] none = refl
any_less p q more (d ∷ L) none =
    let parts = or_parts (q d) (list_any q L) none in
    or_from (p d) (list_any p L) (false_from_ne_true (p d) (λ is. true≢false (sym (more d is) ∙ parts.0))) (any_less p q more L parts.1)

pub any_more : (p q : Deed → Bool) → ((d : Deed) → p d ≡ true → q d ≡ true) → (L : List Deed) → list_any p L ≡ true → list_any q L ≡ true
any_more p q more L some = true_from_ne_false (list_any q L) (λ none. true≢false (sym some ∙ any_less p q more L none))

-- the deeds of a node in order
pub record InOrder (s : ℕ) (L : List Deed) : Type 0 where
  pub reached : list_any (is_of_later s (count L s)) L ≡ false
  pub numbered : list_any (is_numbered_above s (count L s) (tops L s (count L s))) L ≡ false
  pub asked : (a : Name) → list_any (is_ask_of a) L ≡ true → created L a ≡ true

-- They are, where those that concern the actions at home are.
pub in_order_home : (s : ℕ) (L ds : List Deed) → InOrder s (after L (filter is_at_home ds)) → InOrder s (after L ds)
in_order_home s L ds ord =
    let same = same_home ds L in
    let M = after L ds in
    let N = after L (filter is_at_home ds) in
    record {
      reached =
          ap (λ (c : ℕ). list_any (is_of_later s c) M) (same.count_is s)
          ∙ any_at_home (is_of_later s (count N s)) (by_other (λ e. is_of_later s (count N s) e ≡ false) (λ b n answer. refl) (λ b n u. refl) (λ f site c. refl) (λ site b t. refl)) ds L
          ∙ ord.reached;
      numbered =
          ap₂ (λ (c n : ℕ). list_any (is_numbered_above s c n) M) (same.count_is s) (ap (tops M s) (same.count_is s) ∙ same.tops_are s (count N s))
          ∙ any_at_home (is_numbered_above s (count N s) (tops N s (count N s)))
          (by_other (λ e. is_numbered_above s (count N s) (tops N s (count N s)) e ≡ false) (λ b n answer. refl) (λ b n u. refl) (λ f site c. refl) (λ site b t. refl)) ds L
          ∙ ord.numbered;
      asked = λ a some.
          same.created_is a
          ∙ ord.asked a (sym (any_at_home (is_ask_of a) (by_other (λ e. is_ask_of a e ≡ false) (λ b n answer. refl) (λ b n u. refl) (λ f site c. refl) (λ site b t. refl)) ds L) ∙ some);
    }

-- What a deed has in front of it. The action of most was created here, and is of no older count;
pub record HasRun (s : ℕ) (L : List Deed) (a : Name) : Type 0 where
  pub home : home_node a ≡ s
  pub recent : count L s ≤ home_count a
  pub there : created L a ≡ true

-- a top action has the next name, a child is new at its home;
abbrev pub next_name : ℕ → List Deed → Name
next_name s L = record { node = s; count = count L s; number = tops L s (count L s) + 1 } ∷ []

pub record IsBegun (s : ℕ) (L : List Deed) (mail : Option Mail) (a : Name) : Type 0 where
  pub named : a ≡ next_name s L
  pub none : start_counts mail ≡ []

pub record IsStarted (s : ℕ) (L : List Deed) (mail : Option Mail) (a : Name) : Type 0 where
  pub home : home_node a ≡ s
  pub now : home_count a ≡ count L s
  pub fresh : created L a ≡ false
  pub whole : MailHasCounts mail → length (start_counts mail) ≡ 8

abbrev pub CameNew : Bool → ℕ → List Deed → Option Mail → Name → Type 0
CameNew true s L mail a = IsBegun s L mail a
CameNew false s L mail a = IsStarted s L mail a

-- a child that commits has a parent of the present count, which has asked.
pub record IsDecided (s : ℕ) (L : List Deed) (mail : Option Mail) (b : Name) : Type 0 where
  pub above : Name
  pub of : parent b ≡ Some above
  pub home : home_node above ≡ s
  pub now : home_count above ≡ count L s
  pub asked : list_any (is_ask_of above) L ≡ true
  pub whole : MailHasCounts mail → length (finish_counts mail) ≡ 8

abbrev pub CameCommit : Bool → ℕ → List Deed → Option Mail → Name → Type 0
CameCommit true s L mail b = Unit {0}
CameCommit false s L mail b = IsDecided s L mail b

abbrev pub Came : ℕ → List Deed → Option Mail → Deed → Type 0
Came s L mail (Create a) = CameNew (is_top a) s L mail a
Came s L mail (Ask a b) = HasRun s L a × (is_child a b ≡ true)
Came s L mail (Call a n x op c) = HasRun s L a
Came s L mail (Got a n seen) = HasRun s L a × (open_call L a ≡ Some n)
Came s L mail (AskCommit a v) = HasRun s L a
Came s L mail (AskAbort a) = HasRun s L a
Came s L mail (Commit b) = CameCommit (is_top b) s L mail b
Came s L mail (Abort b) = Unit {0}
Came s L mail (Crash m) = m ≡ s
Came s L mail _ = ⊥

-- the same, where the histories have the same of the actions at home
pub has_run_too : (s : ℕ) (L M : List Deed) (a : Name) → SameHome L M → HasRun s L a → HasRun s M a
has_run_too s L M a same is =
    record {
      home = is.home;
      recent = subst (λ (n : ℕ). n ≤ home_count a) (sym (same.count_is s)) is.recent;
      there = same.created_is a ∙ is.there;
    }

pub had_run : (s : ℕ) (L M : List Deed) (a : Name) → SameHome L M → HasRun s M a → HasRun s L a
had_run s L M a same is =
    record {
      home = is.home;
      recent = subst (λ (n : ℕ). n ≤ home_count a) (same.count_is s) is.recent;
      there = sym (same.created_is a) ∙ is.there;
    }

-- and behind deeds that do not concern them
pub came_before : (s : ℕ) (L ds : List Deed) (mail : Option Mail) (d : Deed) → filter is_at_home ds ≡ [] → Came s (after L ds) mail d → Came s L mail d
came_before s L ds mail d away = by d
  where
    same : SameHome L (after L ds)
    same = subst (λ (hs : List Deed). SameHome (after L hs) (after L ds)) away (same_home ds L)

    run : (a : Name) → HasRun s (after L ds) a → HasRun s L a
    run a = had_run s L (after L ds) a same

    name_same : next_name s (after L ds) ≡ next_name s L
    name_same =
        let t = ap (tops (after L ds) s) (same.count_is s) ∙ same.tops_are s (count L s) in
        λ i. record { node = s; count = same.count_is s i; number = t i + 1 } ∷ []

    new : (t : Bool) (a : Name) → CameNew t s (after L ds) mail a → CameNew t s L mail a
    new true a is = record { named = is.named ∙ name_same; none = is.none }
    new false a is =
        record { home = is.home; now = is.now ∙ same.count_is s; fresh = sym (same.created_is a) ∙ is.fresh; whole = is.whole }

    decided : (t : Bool) (b : Name) → CameCommit t s (after L ds) mail b → CameCommit t s L mail b
    decided true b is = tt
    decided false b is =
        record {
          above = is.above;
          of = is.of;
          home = is.home;
          now = is.now ∙ same.count_is s;
          asked =
              sym
              (any_at_home (is_ask_of is.above) (by_other (λ e. is_ask_of is.above e ≡ false) (λ b n answer. refl) (λ b n u. refl) (λ f site c. refl) (λ site b t. refl)) ds L
              ∙ ap (λ (hs : List Deed). list_any (is_ask_of is.above) (after L hs)) away)
              ∙ is.asked;
          whole = is.whole;
        }

    by : (d : Deed) → Came s (after L ds) mail d → Came s L mail d
    by (Create a) is = new (is_top a) a is
    by (Ask a b) is = (run a is.0, is.1)
    by (Call a n x op c) is = run a is
    by (Got a n seen) is = (run a is.0, sym (same.open_call_is a) ∙ is.1)
    by (AskCommit a v) is = run a is
    by (AskAbort a) is = run a is
    by (Commit b) is = decided (is_top b) b is
    by (Abort b) is = tt
    by (Crash m) is = is
    by (Perform a n answer) is = absurd is
    by (Bounce a n u) is = absurd is
    by (Secure f site c) is = absurd is
    by (Inform site a committed) is = absurd is

-- An action that was created is of no later count.
pub not_later : (s : ℕ) (L : List Deed) (a : Name) → InOrder s L → created L a ≡ true → is_later s (count L s) a ≡ false
not_later s L a ord there =
    false_from_ne_true (is_later s (count L s) a) (λ later. true≢false (sym (any_more (is_create a) (is_of_later s (count L s)) (more later) L there) ∙ ord.reached))
  where
    more : is_later s (count L s) a ≡ true → (d : Deed) → is_create a d ≡ true → is_of_later s (count L s) d ≡ true
    more later (Create b) is = ap (is_later s (count L s)) (sym (name_eq_same a b is)) ∙ later
    more later _ is = absurd (true≢false (sym is))

pub now_not_later : (s c : ℕ) (a : Name) → home_count a ≡ c → is_later s c a ≡ false
now_not_later s c a now = and_right (eqb (home_node a) s) (nat_lt c (home_count a)) (le-ltb c (home_count a) (omega (arith, now)))

pub top_no_parent : (b : Name) → is_top b ≡ true → parent b ≡ None
top_no_parent [] top = refl
top_no_parent (p ∷ []) top = refl
top_no_parent (p ∷ q ∷ b) top = let e = eqb-true (length (p ∷ q ∷ b)) 1 top in absurd (omega (arith, e))
