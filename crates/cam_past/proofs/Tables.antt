-- One more event in the tables, and what whole tables tell.
use Rattle.std.proofs.Common.{◌≡◌, inl, inr, ℕ, zero, suc, ◌<◌, ◌+◌, ◌-◌, ◌*◌, max, eqb, nat_lt, Bool, false, ◌&&◌, if◌then◌else◌, List, [], ◌∷◌, ◌++◌, length, reverse, take, set, get_or, Option, Some, None, refl, sym, ap, ap₂, ◌∙◌, arith, subst, div-add-mod', length-append, length-take-le}
use Rattle.std.specs.Prelude.{slice_get}
use Rattle.std.specs.Option.{unwrap_or}
use Rattle.std.proofs.lemmas.Bool.{eqb-true, eq-eqb, ne_eqb, and_parts, false_from_ne_true, cond-true, cond-false}
use Rattle.std.proofs.lemmas.Bool.Decides.{eqb_tells}
use Rattle.std.proofs.lemmas.List.{take_more, length-reverse, get_or-set_same, get_or-set_other}
use Rattle.cam_base.proofs.Newest.{taken_back}
use Rattle.cam_event.specs.declared.Event.{Event}
use Rattle.cam_event.specs.Pasts.{last_of, sender_of, in_past}
use Rattle.cam_event.proofs.PastLaws.{past_below}
use Rattle.cam_past.specs.declared.clock.Clock.{Clock}
use Rattle.cam_past.specs.Tables.{node_at, at_or_zero, latest, seat, table_of, place_of, latest_by, latest_at, latest_of, next_latest, IsTable, AreNodes, AreWithin, AreTables, table_at, is_told_of, is_told}
use Rattle.cam_past.proofs.Latest.{latest_own, latest_other, latest_older, latest_tells, node_at_beyond}

pushed_at : {X : Type 0} (xs : List X) (x : X) → slice_get (xs ++ x ∷ []) (length xs) ≡ Some x
pushed_at [] x = refl
pushed_at (y ∷ ys) x = pushed_at ys x

pushed_before : {X : Type 0} (xs : List X) (x : X) (i : ℕ) → (i ≡ length xs → ⊥) → slice_get (xs ++ x ∷ []) i ≡ slice_get xs i
pushed_before [] x zero other = absurd (other refl)
pushed_before [] x (suc i) other = refl
pushed_before (y ∷ ys) x zero other = refl
pushed_before (y ∷ ys) x (suc i) other = pushed_before ys x i (λ same. other (ap suc same))

slice_get_push : {X : Type 0} (xs : List X) (x : X) (i : ℕ) → slice_get (xs ++ x ∷ []) i ≡ (if eqb i (length xs) then Some x else slice_get xs i)
slice_get_push xs x i =
    elim (eqb_tells i (length xs)) [
      | inl y ↦ ap (slice_get (xs ++ x ∷ [])) y.1 ∙ pushed_at xs x ∙ sym (cond-true (eqb i (length xs)) (Some x) (slice_get xs i) y.0)
      | inr n ↦ pushed_before xs x i n.1 ∙ sym (cond-false (eqb i (length xs)) (Some x) (slice_get xs i) n.0)
    ]

pub nodes_more : (t : List Event) (e : Event) (nodes : List ℕ) → AreNodes t nodes → AreNodes (e ∷ t) (nodes ++ e.node ∷ [])
nodes_more t e nodes are = record {
  long = length-append nodes (e.node ∷ []) ∙ omega (arith, are.long);
  told = λ i. slice_get_push nodes e.node i ∙ (λ k. if eqb i (are.long k) then Some e.node else are.told i k);
}

-- the nodes of the events, one event further
pub nodes_further : (events : List Event) (i : ℕ) (e : Event) (nodes nodes' : List ℕ) → i < length events → e ≡ get_or events i e → nodes' ≡ nodes ++ e.node ∷ [] → AreNodes (reverse (take i events)) nodes → AreNodes (reverse (take (i + 1) events)) nodes'
nodes_further events i e nodes nodes' h is more are =
    subst (λ (t : List Event). AreNodes t nodes') (sym (taken_back events i e h is))
    (subst (AreNodes (e ∷ reverse (take i events))) (sym more) (nodes_more (reverse (take i events)) e nodes are))

-- the places of the nodes, one node further
pub within_more : (count count' : ℕ) (nodes : List ℕ) (k n : ℕ) → k < length nodes → n ≡ get_or nodes k n → n < 256 → count' ≡ max count (table_of n + 1) → AreWithin count (take k nodes) → AreWithin count' (take (k + 1) nodes)
within_more count count' nodes k n h is small more within i s at =
    let front : List ℕ = take k nodes in
    let split : take (k + 1) nodes ≡ front ++ n ∷ [] = take_more nodes k n h ∙ ap (λ (m : ℕ). front ++ m ∷ []) (sym is) in
    let there : (if eqb i (length front) then Some n else slice_get front i) ≡ Some s =
    sym (ap (λ (xs : List ℕ). slice_get xs i) split ∙ slice_get_push front n i) ∙ at in
    elim (eqb_tells i (length front)) [
      | inl y ↦
          let found : Some n ≡ Some s = sym (cond-true (eqb i (length front)) (Some n) (slice_get front i) y.0) ∙ there in
          let same : n ≡ s = cc in
          (subst (λ m. m < 256) same small, subst (λ m. table_of m < count') same (omega (arith, more)))
      | inr m ↦
          let room = within i s (sym (cond-false (eqb i (length front)) (Some n) (slice_get front i) m.0) ∙ there) in
          (room.0, omega (arith, room.1, more))
    ]

seat_is_of_one : (a b : ℕ) → a < 256 → b < 256 → seat a ≡ seat b → a ≡ b
seat_is_of_one a b small small' same =
    elim (eqb_tells a 0) [
      | inl y ↦ elim (eqb_tells b 0) [
        | inl z ↦ y.1 ∙ sym z.1
        | inr m ↦
            let one : seat a ≡ 255 = rw y.0 refl in
            let other : seat b ≡ b - 1 = rw m.0 refl in omega (arith, one, other, same, m.1, small')
      ]
      | inr n ↦
          let one : seat a ≡ a - 1 = rw n.0 refl in
          elim (eqb_tells b 0) [
            | inl z ↦
                let other : seat b ≡ 255 = rw z.0 refl in omega (arith, one, other, same, n.1, small)
            | inr m ↦
                let other : seat b ≡ b - 1 = rw m.0 refl in omega (arith, one, other, same, n.1, m.1)
          ]
    ]

place_is_of_one : (a b : ℕ) → a < 256 → b < 256 → table_of a ≡ table_of b → place_of a ≡ place_of b → a ≡ b
place_is_of_one a b small small' table place =
    seat_is_of_one a b small small' (sym (div-add-mod' (seat a) 8) ∙ ap₂ (λ q r. q * 8 + r) table place ∙ div-add-mod' (seat b) 8)

told_of : (t : List Event) (table : ℕ) (clocks : List Clock) (s : ℕ) (o : Option ℕ) → IsTable t table clocks → s < 256 → table_of s ≡ table → latest_of clocks o (place_of s) ≡ at_or_zero (latest t s) o
told_of t table clocks s None is small seated = refl
told_of t table clocks s (Some j) is small seated = is.told s j small seated

-- the clock of one more event has of each node what is in its past
next_tells : (t : List Event) (e : Event) (table : ℕ) (clocks : List Clock) (s : ℕ) → IsTable t table clocks → e.node < 256 → s < 256 → table_of s ≡ table → next_latest clocks table (last_of t e.node) e (place_of s) ≡ latest (e ∷ t) s (length t)
next_tells t e table clocks s is node small seated =
    elim (eqb_tells e.node s) [
      | inl own ↦
          rw (eq-eqb (table_of e.node) table (ap table_of own.1 ∙ seated), eq-eqb (place_of e.node) (place_of s) (ap place_of own.1)) (ap (λ n. n + 1) is.long)
          ∙ sym (latest_own e t s own.1)
      | inr other ↦
          let here : Bool = eqb (table_of e.node) table && eqb (place_of e.node) (place_of s) in
          let elsewhere : here ≡ false =
          false_from_ne_true here (λ h.
          let both = and_parts (eqb (table_of e.node) table) (eqb (place_of e.node) (place_of s)) h in
          other.1 (place_is_of_one e.node s node small (eqb-true (table_of e.node) table both.0 ∙ sym seated) (eqb-true (place_of e.node) (place_of s) both.1))) in
          cond-false here (length clocks + 1) (max (latest_of clocks (last_of t e.node) (place_of s)) (latest_of clocks (sender_of e.got) (place_of s))) elsewhere
          ∙ ap₂ max (told_of t table clocks s (last_of t e.node) is small seated) (told_of t table clocks s (sender_of e.got) is small seated)
          ∙ sym (latest_other e t s other.1)
    ]

place_below : (s : ℕ) → place_of s < 8
place_below s = omega arith

pub table_more : (t : List Event) (e : Event) (table : ℕ) (clocks : List Clock) (clock : Clock) (last : Option ℕ) → IsTable t table clocks → e.node < 256 → last ≡ last_of t e.node → ((place : ℕ) → place < 8 → get_or clock.latest place 0 ≡ next_latest clocks table last e place) → IsTable (e ∷ t) table (clocks ++ clock ∷ [])
table_more t e table clocks clock last is node at next = record {
  long = length-append clocks (clock ∷ []) ∙ omega (arith, is.long);
  told = λ s j small seated.
      let pushed : latest_at (clocks ++ clock ∷ []) j (place_of s) ≡ latest_by (if eqb j (length clocks) then Some clock else slice_get clocks j) (place_of s) =
      ap (λ o. latest_by o (place_of s)) (slice_get_push clocks clock j) in
      elim (eqb_tells j (length t)) [
        | inl y ↦
            pushed ∙ ap (λ b. latest_by (if b then Some clock else slice_get clocks j) (place_of s)) (eq-eqb j (length clocks) (y.1 ∙ sym is.long))
            ∙ next (place_of s) (place_below s) ∙ ap (λ o. next_latest clocks table o e (place_of s)) at
            ∙ next_tells t e table clocks s is node small seated ∙ sym (ap (latest (e ∷ t) s) y.1)
        | inr n ↦
            pushed ∙ ap (λ b. latest_by (if b then Some clock else slice_get clocks j) (place_of s)) (ne_eqb j (length clocks) (λ same. n.1 (same ∙ is.long)))
            ∙ is.told s j small seated ∙ sym (latest_older e t s j n.1)
      ];
}

-- the last events of all nodes, after one more
pub last_more : (t : List Event) (e : Event) (last : List (Option ℕ)) (n : ℕ) → length last ≡ 256 → e.node < 256 → n ≡ length t → ((s : ℕ) → s < 256 → get_or last s None ≡ last_of t s) → (s : ℕ) → s < 256 → get_or (set last e.node (Some n)) s None ≡ last_of (e ∷ t) s
last_more t e last n long node count told s small =
    elim (eqb_tells e.node s) [
      | inl y ↦
          let found : last_of (e ∷ t) s ≡ Some (length t) = rw y.0 refl in
          ap (λ k. get_or (set last e.node (Some n)) k None) (sym y.1) ∙ get_or-set_same last e.node (Some n) None (omega (arith, long, node)) ∙ ap Some count ∙ sym found
      | inr other ↦
          let older : last_of (e ∷ t) s ≡ last_of t s = rw other.0 refl in
          get_or-set_other last e.node s (Some n) None (λ same. other.1 (sym same)) ∙ told s small ∙ sym older
    ]

pub no_nodes : (nodes : List ℕ) → nodes ≡ [] → AreNodes [] nodes
no_nodes nodes none = subst (AreNodes []) (sym none) (record {
  long = refl;
  told = λ i. refl;
})

pub no_table : (table : ℕ) (clocks : List Clock) → clocks ≡ [] → IsTable [] table clocks
no_table table clocks none = subst (IsTable [] table) (sym none) (record {
  long = refl;
  told = λ s j small seated. refl;
})

pub table_length : (events : List Event) (k table : ℕ) (clocks : List Clock) → k < length events → IsTable (reverse (take k events)) table clocks → length clocks ≡ k
table_length events k table clocks h is = is.long ∙ length-reverse (take k events) ∙ length-take-le k events (omega (arith, h))

-- a table, one event further
pub table_further : (events : List Event) (k table : ℕ) (e : Event) (clocks clocks' : List Clock) (clock : Clock) (last : List (Option ℕ)) → k < length events → e ≡ get_or events k e → e.node < 256 → clocks' ≡ clocks ++ clock ∷ [] → ((s : ℕ) → s < 256 → get_or last s None ≡ last_of (reverse (take k events)) s) → ((place : ℕ) → place < 8 → get_or clock.latest place 0 ≡ next_latest clocks table (get_or last e.node None) e place) → IsTable (reverse (take k events)) table clocks → IsTable (reverse (take (k + 1) events)) table clocks'
table_further events k table e clocks clocks' clock last h is node more told next tabled =
    let t : List Event = reverse (take k events) in
    subst (λ (u : List Event). IsTable u table clocks') (sym (taken_back events k e h is))
    (subst (IsTable (e ∷ t) table) (sym more) (table_more t e table clocks clock (get_or last e.node None) tabled node (told e.node node) next))

-- the last events of all nodes, one event further
pub last_further : (events : List Event) (k : ℕ) (e : Event) (last : List (Option ℕ)) (n : ℕ) → k < length events → e ≡ get_or events k e → e.node < 256 → length last ≡ 256 → n ≡ k → ((s : ℕ) → s < 256 → get_or last s None ≡ last_of (reverse (take k events)) s) → (s : ℕ) → s < 256 → get_or (set last e.node (Some n)) s None ≡ last_of (reverse (take (k + 1) events)) s
last_further events k e last n h is node long count told s small =
    let t : List Event = reverse (take k events) in
    let sized : length t ≡ k = length-reverse (take k events) ∙ length-take-le k events (omega (arith, h)) in
    last_more t e last n long node (count ∙ sym sized) told s small ∙ sym (ap (λ (u : List Event). last_of u s) (taken_back events k e h is))

pub tables_more : (t : List Event) (number : ℕ) (tables : List (List Clock)) (table : List Clock) → length tables ≡ number → AreTables t number tables → IsTable t number table → AreTables t (number + 1) (tables ++ table ∷ [])
tables_more t number tables table long are is n small =
    let pushed : table_at (tables ++ table ∷ []) n ≡ unwrap_or (if eqb n (length tables) then Some table else slice_get tables n) [] =
    ap (λ (o : Option (List Clock)). unwrap_or o []) (slice_get_push tables table n) in
    elim (eqb_tells n (length tables)) [
      | inl y ↦
          subst (λ (xs : List Clock). IsTable t n xs) (sym (pushed ∙ ap (λ (o : Option (List Clock)). unwrap_or o []) (cond-true (eqb n (length tables)) (Some table) (slice_get tables n) y.0)))
          (subst (λ m. IsTable t m table) (sym (y.1 ∙ long)) is)
      | inr m ↦
          subst (λ (xs : List Clock). IsTable t n xs) (sym (pushed ∙ ap (λ (o : Option (List Clock)). unwrap_or o []) (cond-false (eqb n (length tables)) (Some table) (slice_get tables n) m.0)))
          (are n (omega (arith, small, m.1, long)))
    ]

told_by : (t : List Event) (count : ℕ) (tables : List (List Clock)) (i j : ℕ) (o : Option ℕ) → node_at t i ≡ o → ((s : ℕ) → o ≡ Some s → (s < 256) × (table_of s < count)) → AreTables t count tables → is_told_of o tables i j ≡ in_past t i j
told_by t count tables i j None at within are = sym (false_from_ne_true (in_past t i j) (λ h. omega (arith, node_at_beyond t i at, past_below t i j h)))
told_by t count tables i j (Some s) at within are =
    let room = within s refl in
    ap (nat_lt i) ((are (table_of s) room.1).told s j room.0 refl) ∙ sym (latest_tells t i s at j)

-- Whole tables tell the past.
pub told_is : (t : List Event) (nodes : List ℕ) (count : ℕ) (tables : List (List Clock)) → AreNodes t nodes → AreWithin count nodes → AreTables t count tables → (i j : ℕ) → is_told nodes tables i j ≡ in_past t i j
told_is t nodes count tables are within tabled i j = told_by t count tables i j (slice_get nodes i) (sym (are.told i)) (within i) tabled
