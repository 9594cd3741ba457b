-- Actions that are over stay so, and go on in no round.
use Rattle.std.proofs.Common.{◌≡◌, inl, inr, ℕ, ◌+◌, ◌≤◌, eqb, Bool, true, false, not, ◌&&◌, ◌||◌}
use Rattle.std.proofs.Common.{if◌then◌else◌, List, [], ◌∷◌, ◌++◌}
use Rattle.std.proofs.Common.{refl, ap, ◌∙◌, arith}
use Rattle.std.specs.Prelude.{nat_lt}
use Rattle.std.specs.List.{list_any}
use Rattle.std.proofs.lemmas.Bool.{and_left, and_right, cases_Bool, lt-ltb, ltb-true, ne_eqb}
use Rattle.std.proofs.lemmas.Bool.{or_cases, or_left, or_right}
use Rattle.cam_names.specs.declared.name.Name.{Name}
use Rattle.cam_names.specs.Names.{home_count, home_node}
use Rattle.cam_type.specs.declared.ObjectDecl.{ObjectDecl}
use Rattle.cam_event.specs.declared.Deed.{Deed}
use Rattle.cam_event.specs.declared.Event.{Event}
use Rattle.cam_event.specs.ByDeltas.{sight_by_deltas}
use Rattle.cam_event.specs.History.{after, count, created, ended, is_ask_abort, is_ask_commit}
use Rattle.cam_event.specs.History.{is_crash}
use Rattle.cam_event.specs.Sights.{entries, own_deeds}
use Rattle.cam_delta.proofs.SameHistories.{received_entries}
use Rattle.cam_runs.specs.Playing.{is_stop_of}
use Rattle.cam_runs.specs.Running.{has_number}
use Rattle.cam_runs.specs.Standing.{made}
use Rattle.cam_cluster.specs.Over.{OverGoesNotOn, OverStays, home_deeds, is_over}

-- what further deeds leave of a history
any_after : (test : Deed → Bool) (L ds : List Deed) → list_any test L ≡ true
    → list_any test (after L ds) ≡ true
any_after test L [] is = is
any_after test L (d ∷ ds) is =
    any_after test (d ∷ L) ds (or_right (test d) (list_any test L) is)

count_after : (L ds : List Deed) (s : ℕ) → count L s ≤ count (after L ds) s
count_after L [] s = omega arith
count_after L (d ∷ ds) s =
    let one : count L s ≤ count (d ∷ L) s = by (is_crash s d) in
    let more = count_after (d ∷ L) ds s in
    omega (arith, one, more)
  where
    by : (t : Bool) → count L s ≤ (if t then count L s + 1 else count L s)
    by true = omega arith
    by false = omega arith

ended_after : (L ds : List Deed) (a : Name) → ended L a ≡ true → ended (after L ds) a ≡ true
ended_after L ds a is =
    elim (or_cases (list_any (is_ask_commit a) L) (list_any (is_ask_abort a) L) is) [
      | inl commits ↦
          or_left (list_any (is_ask_commit a) (after L ds)) (list_any (is_ask_abort a) (after L ds))
          (any_after _ _ ds commits)
      | inr aborts ↦
          or_right (list_any (is_ask_commit a) (after L ds)) (list_any (is_ask_abort a) (after L
          ds)) (any_after _ _ ds aborts)
    ]

-- what is said of a name by the deeds of its home
abbrev pub said_over : List Deed → Name → Bool
said_over L a = ended L a || nat_lt (home_count a) (count L (home_node a))

said_after : (L ds : List Deed) (a : Name) → said_over L a ≡ true
    → said_over (after L ds) a ≡ true
said_after L ds a is =
    elim (or_cases (ended L a) (nat_lt (home_count a) (count L (home_node a))) is) [
      | inl ends ↦
          or_left (ended (after L ds) a) (nat_lt (home_count a) (count (after L ds) (home_node a)))
          (ended_after L ds a ends)
      | inr crashed ↦
          let below = ltb-true (home_count a) (count L (home_node a)) crashed in
          let least = count_after L ds (home_node a) in
          or_right (ended (after L ds) a) (nat_lt (home_count a) (count (after L ds) (home_node a)))
          (lt-ltb (home_count a) (count (after L ds) (home_node a)) (omega (arith, below, least)))
    ]

pub over_stays : OverStays
over_stays e t a is =
    elim (or_cases (said_over (home_deeds t a) a) (list_any (is_stop_of a) t) is) [
      | inl said ↦
          or_left (said_over (home_deeds (e ∷ t) a) a) (list_any (is_stop_of a) (e ∷ t)) (elim
          (cases_Bool (eqb e.node (home_node a))) [
            | inl own ↦ rw own (said_after _ e.deeds _ said)
            | inr other ↦ rw other said
          ])
      | inr stopped ↦
          or_right (said_over (home_deeds (e ∷ t) a) a) (list_any (is_stop_of a) (e ∷ t)) (or_right
          (is_stop_of a e) (list_any (is_stop_of a) t) stopped)
    ]

pub over_later : (more t : List Event) (a : Name) → is_over t a ≡ true
    → is_over (more ++ t) a ≡ true
over_later [] t a is = is
over_later (e ∷ more) t a is = over_stays e (more ++ t) a (over_later more t a is)

-- a node goes by its own deeds
pub own_sight : (objects : List ObjectDecl) (t : List Event) (s : ℕ)
    → (sight_by_deltas objects t s).deeds ≡ own_deeds (entries t s)
own_sight objects t s = ap own_deeds (received_entries objects t s)

-- each of the three ends the test
rests : (made ends crashed present stops : Bool) → (crashed ≡ true → present ≡ false)
    → ((ends || crashed) || stops) ≡ true
    → (((made && not ends) && present) && not stops) ≡ false
rests made ends crashed present true away is =
    and_right ((made && not ends) && present) false refl
rests made true crashed present false away is =
    and_left ((made && false) && present) true
    (and_left (made && false) present (and_right made false refl))
rests made false true present false away is =
    and_left ((made && true) && present) true (and_right (made && true) present (away refl))
rests made false false present false away is = cc

apart : (a b : ℕ) → nat_lt a b ≡ true → eqb a b ≡ false
apart a b is = let below = ltb-true a b is in ne_eqb a b (λ same. omega (arith, below, same))

pub over_goes_not_on : OverGoesNotOn
over_goes_not_on objects halts line restarted st a is =
    let t = st.running.trace in
    let s : ℕ = home_node a in
    let stays : (L : List Deed) → L ≡ home_deeds t a
    → (((created L a && not (ended L a)) && eqb (home_count a) (count L s))
    && not (list_any (is_stop_of a) t)) ≡ false =
    λ L same. rests (created L a) _ _ _ _ (apart _ _) (ap (λ M. said_over M a || list_any
    (is_stop_of a) t) same ∙ is) in
    and_left (((created (sight_by_deltas objects t s).deeds a && not (ended (sight_by_deltas objects
    t s).deeds a)) && eqb (home_count a) (count (sight_by_deltas objects t s).deeds s)) && not
    (list_any (is_stop_of a) t)) (not (has_number st.halted s)) (stays (sight_by_deltas objects t
    s).deeds (own_sight objects t s))
