-- What stands in the history of a run is in its range: nodes, counts and numbers.
use Rattle.std.proofs.Common.{◌≡◌, inl, inr, if◌then◌else◌, ℕ, ◌+◌, ◌≤◌, ◌<◌, eqb, Bool, true, false, List, [], ◌∷◌, map, length, Option, Some, None, refl, sym, ap, ◌∙◌, subst, arith}
use Rattle.std.specs.Prelude.{zero, suc}
use Rattle.cam_names.specs.declared.name.Name.{Name}
use Rattle.cam_names.specs.Names.{is_top, parent, home_node, home_count}
use Rattle.cam_names.proofs.Names.{name_eq_same}
use Rattle.cam_type.specs.declared.ObjectDecl.{ObjectDecl}
use Rattle.cam_type.specs.declared.Op.{Op}
use Rattle.cam_event.specs.declared.Event.{Event}
use Rattle.cam_event.specs.declared.Deed.{Deed}
use Rattle.cam_event.specs.declared.Deed.TheVariants.{Create, Ask, Call, Commit, Abort, Inform}
use Rattle.cam_event.specs.History.{after, count, created, is_create, is_crash, is_call_of, is_ask_of, is_top_create, number_of, calls}
use Rattle.cam_event.specs.Live.{is_fit}
use Rattle.cam_event.specs.Inputs.{decider, decider_of, mail_got, node_of, got_of}
use Rattle.cam_event.specs.Pasts.{plain, every}
use Rattle.cam_event.specs.ByPast.{first_informs}
use Rattle.cam_event.specs.HeldSites.{is_any_perform}
use Rattle.cam_event.specs.Carried.{deeds_of}
use Rattle.cam_event.specs.ByDeltas.{Received, as_carried, received_of, received}
use Rattle.cam_event.specs.Runs.{IsNode}
use Rattle.cam_event.specs.Sights.{Sight}
use Rattle.cam_event.proofs.Members.{In, any_in}
use Rattle.cam_plain.specs.Lines.{is_ask_for}
use Rattle.cam_plain.specs.Legal.{Legal}
use Rattle.cam_plain.proofs.Called.{call_number}
use Rattle.cam_plain.proofs.Decided.{created_child}
use Rattle.cam_cut.proofs.DepsAgree.{created_known}
use Rattle.cam_cut.proofs.DepsFacts.{InRange, Ranged}
use Rattle.cam_cut.proofs.Good.{Shape, No, One, Commits, Aborts}
use Rattle.cam_cut.proofs.Holds.{every_part}
use Rattle.cam_cut.proofs.Informs.{after_append}
use Rattle.cam_cut.proofs.LegalFacts.{in_call}
use Rattle.cam_cut.proofs.NextEvent.{sight_of}
use Rattle.cam_cut.proofs.Parts.{with_first, keep_first}
use Rattle.cam_agree.proofs.Ran.{Ran, Stood, stood, before_it, did_as, good_as, ran_holds}
use Rattle.cam_histories.specs.Laws.{history_of}
use Rattle.cam_histories.specs.Ranges.{PerformsAreFew, NumbersAreFew}

abbrev pub AllRanged : List ObjectDecl → List Deed → Type 0
AllRanged objects L = (d : Deed) → In d L → Ranged objects d

-- the home of an action that was created
pub created_range : (objects : List ObjectDecl) (L : List Deed) (a : Name) → Legal objects L → AllRanged objects L → created L a ≡ true → InRange (home_node a) (home_count a)
created_range objects L a legal ranged h = elim (created_known objects L a legal h) [
  | inl asked ↦ let found = any_in (is_ask_for a) L asked in by_ask found.0 (ranged found.0 found.1) found.2
  | inr top ↦ let found = any_in (is_create a) L h in by_create found.0 (ranged found.0 found.1) found.2 top
]
  where
    by_ask : (d : Deed) → Ranged objects d → is_ask_for a d ≡ true → InRange (home_node a) (home_count a)
    by_ask (Ask p b) r e = subst (λ (x : Name). InRange (home_node x) (home_count x)) (sym (name_eq_same a b e)) r
    by_ask _ r e = cc

    by_create : (d : Deed) → Ranged objects d → is_create a d ≡ true → is_top a ≡ true → InRange (home_node a) (home_count a)
    by_create (Create b) r e top =
        let same : a ≡ b = name_eq_same a b e in
        subst (λ (x : Name). InRange (home_node x) (home_count x)) (sym same) (r (subst (λ (x : Name). is_top x ≡ true) same top))
    by_create _ r e top = cc

-- the node that decides it
pub decider_range : (objects : List ObjectDecl) (L : List Deed) (a : Name) → Legal objects L → AllRanged objects L → created L a ≡ true → IsNode (decider a)
decider_range objects L a legal ranged h = by (parent a) refl
  where
    by : (o : Option Name) → parent a ≡ o → IsNode (decider_of a o)
    by None e = (created_range objects L a legal ranged h).0
    by (Some p) e = (created_range objects L p legal ranged (created_child objects L a p legal e h).1).0

-- a test that no decision and no Inform meets
pub record IsQuietTest (q : Deed → Bool) : Type 0 where
  pub commit : (a : Name) → q (Commit a) ≡ false
  pub abort : (a : Name) → q (Abort a) ≡ false
  pub inform : (s : ℕ) (a : Name) (o : Bool) → q (Inform s a o) ≡ false

module _ (q : Deed → Bool) where
  number_after : (ds L : List Deed) → number_of q (after L ds) ≡ number_of q L + number_of q ds
  number_after [] L = omega arith
  number_after (d ∷ ds) L = by (q d) refl (number_after ds (d ∷ L))
    where
      by : (b : Bool) → q d ≡ b → number_of q (after (d ∷ L) ds) ≡ number_of q (d ∷ L) + number_of q ds → number_of q (after (d ∷ L) ds) ≡ number_of q L + (if b then number_of q ds + 1 else number_of q ds)
      by true e h = let one : number_of q (d ∷ L) ≡ number_of q L + 1 = rw e refl in omega (arith, h, one)
      by false e h = let none : number_of q (d ∷ L) ≡ number_of q L = rw e refl in omega (arith, h, none)

  shape_number : (g : Sight) (ds : List Deed) → IsQuietTest q → Shape g ds → number_of q ds ≤ 1
  shape_number g ds quiet No = omega arith
  shape_number g ds quiet (One d mute) = elim (q d) as (λ b. (if b then 1 else 0) ≤ 1) [ true ↦ omega arith | false ↦ omega arith ]
  shape_number g ds quiet (Commits b) = rw (quiet.commit b) (rw (quiet.inform g.node b true) (omega arith))
  shape_number g ds quiet (Aborts b) = rw (quiet.abort b) (rw (quiet.inform g.node b false) (omega arith))

  -- an event has one deed at most that meets the test
  event_once : (objects : List ObjectDecl) (e : Event) (t : List Event) (M : List Deed) → IsQuietTest q → Ran objects (e ∷ t) → number_of q (after M e.deeds) ≤ number_of q M + 1
  event_once objects e t M quiet run = omega (arith, new, few)
    where
      st : Stood objects t e
      st = stood objects e t run

      s : ℕ
      s = node_of t st.input

      ds : List Deed
      ds = (did_as objects t st.input st.took).deeds

      few : number_of q ds ≤ 1
      few = shape_number (sight_of objects t st.input) ds quiet
          (good_as objects t st.input st.took every (ran_holds objects t (before_it objects e t run)) st.may (every_part t s (got_of st.input))).shape

      new : number_of q (after M e.deeds) ≡ number_of q M + number_of q ds
      new =
          ap (λ (x : Event). number_of q (after M x.deeds)) st.is
          ∙ ap (number_of q) (after_append M (first_informs t s (got_of st.input)) ds)
          ∙ number_after ds (with_first t s (got_of st.input) M)
          ∙ ap (λ (n : ℕ). n + number_of q ds) (keep_first (number_of q) (λ r a o L. rw (quiet.inform r a o) refl) t s (got_of st.input) M)

  -- so a set of events has no more of them than there are events,
  pub once_each : (objects : List ObjectDecl) (t : List Event) (S : ℕ → Bool) → IsQuietTest q → Ran objects t → number_of q (plain t S) ≤ length t
  once_each objects [] S quiet run = omega arith
  once_each objects (e ∷ t) S quiet run = by (S (length t)) (once_each objects t S quiet (before_it objects e t run)) (event_once objects e t (plain t S) quiet run)
    where
      by : (b : Bool) → number_of q (plain t S) ≤ length t → number_of q (after (plain t S) e.deeds) ≤ number_of q (plain t S) + 1 → number_of q (if b then after (plain t S) e.deeds else plain t S) ≤ length (e ∷ t)
      by true h one = omega (arith, h, one)
      by false h one = omega (arith, h)

  -- and a node no more than it has events
  pub own_once : (objects : List ObjectDecl) (t : List Event) (s : ℕ) → IsQuietTest q → Ran objects t → number_of q (deeds_of (map as_carried (history_of objects t s))) ≤ length (history_of objects t s)
  own_once objects [] s quiet run = omega arith
  own_once objects (e ∷ t) s quiet run =
      by (eqb e.node s) (own_once objects t s quiet (before_it objects e t run)) (event_once objects e t (deeds_of (map as_carried (history_of objects t s))) quiet run)
    where
      old : List Received
      old = history_of objects t s

      own : Bool → List Received
      own b = if b then received objects (received_of objects t) e (mail_got t e.got) ∷ old else old

      by : (b : Bool) → number_of q (deeds_of (map as_carried old)) ≤ length old → number_of q (after (deeds_of (map as_carried old)) e.deeds) ≤ number_of q (deeds_of (map as_carried old)) + 1 → number_of q (deeds_of (map as_carried (own b))) ≤ length (own b)
      by true h one = omega (arith, h, one)
      by false h one = h

-- a node's count, and how many calls an action has made
pub count_number : (L : List Deed) (s : ℕ) → count L s ≡ number_of (is_crash s) L + 1
count_number [] s = refl
count_number (d ∷ L) s = let rest = count_number L s in
    elim (is_crash s d) as (λ b. (if b then count L s + 1 else count L s) ≡ (if b then number_of (is_crash s) L + 1 else number_of (is_crash s) L) + 1) [ true ↦ omega (arith, rest) | false ↦ rest ]

pub count_low : (L : List Deed) (s : ℕ) → 1 ≤ count L s
count_low L s = let is = count_number L s in omega (arith, is)

pub count_high : (objects : List ObjectDecl) (t : List Event) (S : ℕ → Bool) (s : ℕ) → Ran objects t → count (plain t S) s ≤ length t + 1
count_high objects t S s run =
    let is = count_number (plain t S) s in
    let few = once_each (is_crash s) objects t S (record { commit = λ a. refl; abort = λ a. refl; inform = λ r a o. refl }) run in
    omega (arith, is, few)

calls_high : (objects : List ObjectDecl) (t : List Event) (S : ℕ → Bool) (a : Name) → Ran objects t → calls (plain t S) a ≤ length t
calls_high objects t S a run = once_each (is_call_of a) objects t S (record { commit = λ b. refl; abort = λ b. refl; inform = λ r b o. refl }) run

call_low : (objects : List ObjectDecl) (L : List Deed) (a : Name) (n x : ℕ) (op : Op) (c : ℕ) → Legal objects L → In (Call a n x op c) L → 1 ≤ n
call_low objects [] a n x op c legal i = absurd i
call_low objects (d ∷ L) a n x op c legal (inl e) =
    let number = (subst (λ (y : Deed). Legal objects (y ∷ L)) (sym e) legal).0.number in
    omega (arith, number)
call_low objects (d ∷ L) a n x op c legal (inr i) = call_low objects L a n x op c legal.1 i

-- the number of a call
pub call_range : (objects : List ObjectDecl) (t : List Event) (S : ℕ → Bool) (a : Name) (n x : ℕ) (op : Op) (c : ℕ) → Ran objects t → Legal objects (plain t S) → In (Call a n x op c) (plain t S) → (1 ≤ n) × (n ≤ length t)
call_range objects t S a n x op c run legal i =
    let number = call_number objects (plain t S) a n (record { object = x; op = op; count = c }) legal (in_call objects (plain t S) a n x op c legal i) in
    let few = calls_high objects t S a run in
    (call_low objects (plain t S) a n x op c legal i, omega (arith, number, few))

-- an object that an op fits is declared
pub fit_declared : (objects : List ObjectDecl) (x : ℕ) (op : Op) → is_fit objects x op ≡ true → x < length objects
fit_declared [] x op h = cc
fit_declared (o ∷ os) zero op h = omega arith
fit_declared (o ∷ os) (suc x) op h = let rest = fit_declared os x op h in omega (arith, rest)

-- operations that a node performed
pub performs_are_few : PerformsAreFew
performs_are_few objects taken t s run = own_once is_any_perform objects t s (record { commit = λ a. refl; abort = λ a. refl; inform = λ r a o. refl }) (taken, run)

-- the count of a node, its top actions, and the children and calls of an action
pub numbers_are_few : NumbersAreFew
numbers_are_few objects taken t run = record {
  counts = λ s. count_high objects t every s (taken, run);
  tops = λ s c. once_each (is_top_create s c) objects t every (record { commit = λ b. refl; abort = λ b. refl; inform = λ r b o. refl }) (taken, run);
  asks = λ a. once_each (is_ask_of a) objects t every (record { commit = λ b. refl; abort = λ b. refl; inform = λ r b o. refl }) (taken, run);
  calls = λ a. calls_high objects t every a (taken, run);
}
