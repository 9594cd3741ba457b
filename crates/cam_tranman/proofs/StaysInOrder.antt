-- Each deed that came so keeps the deeds of a node in order.
use Rattle.std.proofs.Common.{◌≡◌, ℕ, ◌+◌, eqb, Bool, true, false, ◌&&◌, if◌then◌else◌, List, ◌∷◌, Option, Some, None, refl, sym, ap, ap₂, subst, ◌∙◌, arith, inl, inr}
use Rattle.std.specs.Prelude.{nat_lt}
use Rattle.std.specs.List.{list_any}
use Rattle.std.specs.Option.{option_map_or}
use Rattle.std.proofs.lemmas.Bool.{true≢false, and_parts, and_from, and_left, and_right, or_from, or_right, or_cases, ltb-true, lt-ltb, le-ltb, eq-eqb}
use borrow.Author.Tests.{eqb-true}
use Rattle.cam_names.specs.declared.name.Name.{Name}
use Rattle.cam_names.specs.Names.{is_top, last_part, home_node, home_count}
use Rattle.cam_names.proofs.Names.{name_eq_same}
use Rattle.cam_event.specs.declared.Deed.{Deed}
use Rattle.cam_event.specs.declared.Deed.TheVariants.{Create, Ask, Call, Perform, Bounce, Got, AskCommit, AskAbort, Commit, Abort, Secure, Inform, Crash}
use Rattle.cam_event.specs.History.{count, tops, created, is_crash, is_create, is_ask_of, is_top_create}
use Rattle.cam_event.specs.Inputs.{Mail}
use Rattle.cam_tranman.specs.Orderly.{subject, is_later, is_of_later, is_numbered_above}
use Rattle.cam_tranman.proofs.Ordering.{any_less, InOrder, CameNew, CameCommit, Came, next_name, not_later, now_not_later, top_no_parent}

-- One that is no crash and creates no top action.
kept_in_order : (s : ℕ) (L : List Deed) (d : Deed) → is_crash s d ≡ false → ((c : ℕ) → is_top_create s c d ≡ false) → ((c n : ℕ) → is_numbered_above s c n d ≡ false)
    → ((a : Name) → is_ask_of a d ≡ true → created L a ≡ true) → is_of_later s (count L s) d ≡ false → InOrder s L → InOrder s (d ∷ L)
kept_in_order s L d no_crash no_top no_number asks later ord =
    let e : count (d ∷ L) s ≡ count L s = ap (λ (t : Bool). if t then count L s + 1 else count L s) no_crash in
    let f : tops (d ∷ L) s (count (d ∷ L) s) ≡ tops L s (count L s) =
    ap (tops (d ∷ L) s) e ∙ ap (λ (t : Bool). if t then tops L s (count L s) + 1 else tops L s (count L s)) (no_top (count L s))
    in
    record {
      reached = ap (λ (c : ℕ). list_any (is_of_later s c) (d ∷ L)) e ∙ or_from (is_of_later s (count L s) d) (list_any (is_of_later s (count L s)) L) later ord.reached;
      numbered =
          ap₂ (λ (c n : ℕ). list_any (is_numbered_above s c n) (d ∷ L)) e f
          ∙ or_from (is_numbered_above s (count L s) (tops L s (count L s)) d) (list_any (is_numbered_above s (count L s) (tops L s (count L s))) L)
          (no_number (count L s) (tops L s (count L s))) ord.numbered;
      asked = λ a some.
          elim (or_cases (is_ask_of a d) (list_any (is_ask_of a) L) some) [
            | inl here ↦ or_right (is_create a d) (created L a) (asks a here)
            | inr before ↦ or_right (is_create a d) (created L a) (ord.asked a before)
          ];
    }

-- the next top action
begun_in_order : (s : ℕ) (L : List Deed) → InOrder s L → InOrder s (Create (next_name s L) ∷ L)
begun_in_order s L ord =
    let f : tops (Create (next_name s L) ∷ L) s (count L s) ≡ tops L s (count L s) + 1 =
    ap₂ (λ (t u : Bool). if t && u then tops L s (count L s) + 1 else tops L s (count L s)) (eq-eqb s s refl) (eq-eqb (count L s) (count L s) refl)
    in
    record {
      reached =
          or_from (is_later s (count L s) (next_name s L)) (list_any (is_of_later s (count L s)) L)
          (now_not_later s (count L s) (next_name s L) refl) ord.reached;
      numbered =
          ap (λ (n : ℕ). list_any (is_numbered_above s (count L s) n) (Create (next_name s L) ∷ L)) f
          ∙ or_from (is_numbered_above s (count L s) (tops L s (count L s) + 1) (Create (next_name s L)))
          (list_any (is_numbered_above s (count L s) (tops L s (count L s) + 1)) L)
          (and_right (true && eqb s s && eqb (count L s) (count L s)) (nat_lt (tops L s (count L s) + 1) (tops L s (count L s) + 1))
          (le-ltb (tops L s (count L s) + 1) (tops L s (count L s) + 1) (omega arith)))
          (any_less (is_numbered_above s (count L s) (tops L s (count L s) + 1)) (is_numbered_above s (count L s) (tops L s (count L s)))
          (higher (count L s) (tops L s (count L s))) L ord.numbered);
      asked = λ a some. or_right (is_create a (Create (next_name s L))) (created L a) (ord.asked a some);
    }
  where
    higher : (c n : ℕ) (d : Deed) → is_numbered_above s c (n + 1) d ≡ true → is_numbered_above s c n d ≡ true
    higher c n (Create a) is =
        let parts = and_parts (is_top a && eqb (home_node a) s && eqb (home_count a) c) (nat_lt (n + 1) (last_part a).number) is in
        let e = ltb-true (n + 1) (last_part a).number parts.1 in
        and_from (is_top a && eqb (home_node a) s && eqb (home_count a) c) (nat_lt n (last_part a).number) parts.0
        (lt-ltb n (last_part a).number (omega (arith, e)))
    higher c n _ is = absurd (true≢false (sym is))

-- a crash
crash_in_order : (s : ℕ) (L : List Deed) → InOrder s L → InOrder s (Crash s ∷ L)
crash_in_order s L ord =
    let e : count (Crash s ∷ L) s ≡ count L s + 1 = ap (λ (t : Bool). if t then count L s + 1 else count L s) (eq-eqb s s refl) in
    let n = tops (Crash s ∷ L) s (count (Crash s ∷ L) s) in
    record {
      reached =
          ap (λ (c : ℕ). list_any (is_of_later s c) L) e
          ∙ any_less (is_of_later s (count L s + 1)) (is_of_later s (count L s)) (λ d. later_too (count L s) (subject d)) L ord.reached;
      numbered =
          ap (λ (c : ℕ). list_any (is_numbered_above s c n) L) e
          ∙ any_less (is_numbered_above s (count L s + 1) n) (is_of_later s (count L s)) (later_top (count L s) n) L ord.reached;
      asked = ord.asked;
    }
  where
    later_too : (c : ℕ) (o : Option Name) → option_map_or (is_later s (c + 1)) o false ≡ true → option_map_or (is_later s c) o false ≡ true
    later_too c None is = is
    later_too c (Some a) is =
        let parts = and_parts (eqb (home_node a) s) (nat_lt (c + 1) (home_count a)) is in
        let e = ltb-true (c + 1) (home_count a) parts.1 in
        and_from (eqb (home_node a) s) (nat_lt c (home_count a)) parts.0 (lt-ltb c (home_count a) (omega (arith, e)))

    later_top : (c n : ℕ) (d : Deed) → is_numbered_above s (c + 1) n d ≡ true → is_of_later s c d ≡ true
    later_top c n (Create a) is =
        let parts = and_parts (is_top a && eqb (home_node a) s && eqb (home_count a) (c + 1)) (nat_lt n (last_part a).number) is in
        let two = and_parts (is_top a && eqb (home_node a) s) (eqb (home_count a) (c + 1)) parts.0 in
        let three = and_parts (is_top a) (eqb (home_node a) s) two.0 in
        let e = eqb-true (home_count a) (c + 1) two.1 in
        and_from (eqb (home_node a) s) (nat_lt c (home_count a)) three.1 (lt-ltb c (home_count a) (omega (arith, e)))
    later_top c n _ is = absurd (true≢false (sym is))

-- Each deed that came so keeps them in order.
pub comes_in_order : (s : ℕ) (L : List Deed) (mail : Option Mail) (d : Deed) → Came s L mail d → InOrder s L → InOrder s (d ∷ L)
comes_in_order s L mail d came ord = by d came
  where
    never : (a : Name) → false ≡ true → created L a ≡ true
    never a h = absurd (true≢false (sym h))

    new : (a : Name) (t : Bool) → is_top a ≡ t → CameNew t s L mail a → InOrder s (Create a ∷ L)
    new a true top is = subst (λ (x : Name). InOrder s (Create x ∷ L)) (sym is.named) (begun_in_order s L ord)
    new a false top is =
        kept_in_order s L (Create a) refl (λ c. and_left (is_top a && eqb (home_node a) s) (eqb (home_count a) c) (and_left (is_top a) (eqb (home_node a) s) top))
        (λ c n. and_left (is_top a && eqb (home_node a) s && eqb (home_count a) c) (nat_lt n (last_part a).number)
        (and_left (is_top a && eqb (home_node a) s) (eqb (home_count a) c) (and_left (is_top a) (eqb (home_node a) s) top)))
        never (now_not_later s (count L s) a is.now) ord

    decided : (b : Name) (t : Bool) → is_top b ≡ t → CameCommit t s L mail b → is_of_later s (count L s) (Commit b) ≡ false
    decided b true top is = ap (λ (o : Option Name). option_map_or (is_later s (count L s)) o false) (top_no_parent b top)
    decided b false top is = ap (λ (o : Option Name). option_map_or (is_later s (count L s)) o false) is.of ∙ now_not_later s (count L s) is.above is.now

    by : (d : Deed) → Came s L mail d → InOrder s (d ∷ L)
    by (Create a) is = new a (is_top a) refl is
    by (Ask a b) is =
        kept_in_order s L (Ask a b) refl (λ c. refl) (λ c n. refl) (λ q here. ap (created L) (name_eq_same q a here) ∙ is.0.there) (not_later s L a ord is.0.there) ord
    by (Call a n x op c) is = kept_in_order s L (Call a n x op c) refl (λ k. refl) (λ k m. refl) never (not_later s L a ord is.there) ord
    by (Got a n seen) is = kept_in_order s L (Got a n seen) refl (λ k. refl) (λ k m. refl) never (not_later s L a ord is.0.there) ord
    by (AskCommit a v) is = kept_in_order s L (AskCommit a v) refl (λ k. refl) (λ k m. refl) never (not_later s L a ord is.there) ord
    by (AskAbort a) is = kept_in_order s L (AskAbort a) refl (λ k. refl) (λ k m. refl) never (not_later s L a ord is.there) ord
    by (Commit b) is = kept_in_order s L (Commit b) refl (λ k. refl) (λ k m. refl) never (decided b (is_top b) refl is) ord
    by (Abort b) is = kept_in_order s L (Abort b) refl (λ k. refl) (λ k m. refl) never refl ord
    by (Crash m) is = subst (λ (k : ℕ). InOrder s (Crash k ∷ L)) (sym is) (crash_in_order s L ord)
    by (Perform a n answer) is = absurd is
    by (Bounce a n u) is = absurd is
    by (Secure f site c) is = absurd is
    by (Inform site a committed) is = absurd is
