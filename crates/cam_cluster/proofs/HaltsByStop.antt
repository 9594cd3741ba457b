-- A halt by a stop: a restart finds its event just where three calls passed; and it stands for
-- histories and turns that are alike.
use Rattle.std.proofs.Common.{◌≡◌, ◌⊎◌, inl, inr, ℕ, ◌<◌, ◌≤◌, eqb, nat_lt, Bool, true, false, ◌&&◌}
use Rattle.std.proofs.Common.{if◌then◌else◌, List, [], ◌∷◌, Option, Some, None, is_some}
use Rattle.std.proofs.Common.{refl, sym, ap, ◌∙◌, subst, arith}
use Rattle.std.proofs.lemmas.Bool.{eq-eqb, true≢false}
use Rattle.std.proofs.lemmas.Bool.Decides.{eqb_tells}
use Rattle.std.proofs.lemmas.Option.{same_Some, none-some}
use Rattle.cam_type.specs.declared.ObjectDecl.{ObjectDecl}
use Rattle.cam_event.specs.declared.Event.{Event}
use Rattle.cam_event.specs.ByDeltas.{Received}
use Rattle.cam_log.specs.Moments.{Opened}
use Rattle.cam_node.specs.declared.found.Found.{Found}
use Rattle.cam_node.specs.Appending.{OpensAs, history_after}
use Rattle.cam_node.specs.Found.{FindsBy}
use Rattle.cam_node.specs.Halting.{taken}
use Rattle.cam_node.specs.Opened.{logged_of}
use Rattle.cam_node.specs.Represents.{Node}
use Rattle.cam_runs.specs.Halts.{Turn, Input, Stop, Restart, by_stops, calls_left, stopped_append}
use Rattle.cam_runs.specs.Stops.{last_stop}
use Rattle.cam_histories.specs.Alike.{AreAlike}
use Rattle.cam_histories.specs.PutIn.{nameless}
use Rattle.cam_histories.proofs.Alike.{logs_keep_alike}
use Rattle.cam_histories.proofs.HaltsAlike.{halts_stand_alike}
use Rattle.cam_histories.proofs.AddsAlike.{adds_alike}
use Rattle.cam_histories.proofs.Numbers.{lt_cases}
use Rattle.cam_cluster.specs.Stopped.{IsHaltByStop}
use Rattle.cam_cluster.specs.Stopping.{too_few, ends_by, runs_on, stopped_at, told_last}

-- a stop that ends lets fewer than four calls pass
too_few_is : (o : Option ℕ) (calls : ℕ) → too_few o ≡ Some calls → calls < 4
too_few_is None calls is = cc
too_few_is (Some n) calls is = by (lt_cases n 4) is
  where
    by : ((nat_lt n 4 ≡ true) × (n < 4)) ⊎ ((nat_lt n 4 ≡ false) × (4 ≤ n))
        → too_few (Some n) ≡ Some calls → calls < 4
    by (inl y) is =
        let less = y.1 in
        let here : too_few (Some n) ≡ Some n = rw y.0 refl in
        let same : n ≡ calls = same_Some n calls (sym here ∙ is) in
        omega (arith, less, same)
    by (inr high) is =
        let none : too_few (Some n) ≡ None = rw high.0 refl in
        absurd (none-some calls (sym none ∙ is))

ends_few : (before : List Turn) (s calls : ℕ) (w : Bool) → ends_by before s w ≡ Some calls
    → calls < 4
ends_few before s calls true is = too_few_is (calls_left before s) _ is
ends_few before s calls false is = cc

-- what the run by stops says of the halt
of_append : (o : Option ℕ) (again : Bool) (calls : ℕ) → too_few o ≡ Some calls
    → stopped_append o again ≡ Some (eqb calls 3 && again)
of_append None again calls is = cc
of_append (Some n) again calls is = by (lt_cases n 4) is
  where
    by : ((nat_lt n 4 ≡ true) × (n < 4)) ⊎ ((nat_lt n 4 ≡ false) × (4 ≤ n))
        → too_few (Some n) ≡ Some calls
        → stopped_append (Some n) again ≡ Some (eqb calls 3 && again)
    by (inl y) is =
        let here : too_few (Some n) ≡ Some n = rw y.0 refl in
        let same : n ≡ calls = same_Some n calls (sym here ∙ is) in
        rw y.0 (ap (λ (k : ℕ). Some (eqb k 3 && again)) same)
    by (inr high) is =
        let none : too_few (Some n) ≡ None = rw high.0 refl in
        absurd (none-some calls (sym none ∙ is))

said_at : (before : List Turn) (s calls : ℕ) (w again : Bool) → ends_by before s w ≡ Some calls
    → by_stops before s w again ≡ Some (eqb calls 3 && again)
said_at before s calls true again is = of_append (calls_left before s) again _ is
said_at before s calls false again is = cc

pub record IsSaidOf (turns : List Turn) (s calls : ℕ) : Type 0 where
  pub few : calls < 4
  pub said : last_stop turns s ≡ Some (eqb calls 3 && told_last turns s)

pub stopped_said : (turns : List Turn) (s calls : ℕ) → stopped_at turns s ≡ Some calls
    → IsSaidOf turns s calls
stopped_said [] s calls is = cc
stopped_said (Input m line w again ∷ before) s calls is = elim (eqb_tells m s) [
  | inl y ↦
      let here : stopped_at (Input m line w again ∷ before) s
      ≡ (if runs_on before s then ends_by before s w else None) = rw y.0 refl in
      let ends = run_of (runs_on before s) (sym here ∙ is) in
      let says : by_stops before m w again ≡ Some (eqb calls 3 && again) =
      rw y.1 (said_at before s _ w again ends) in
      record { few = ends_few before s _ w ends; said = rw y.0 says }
  | inr other ↦
      let older : stopped_at (Input m line w again ∷ before) s ≡ stopped_at before s =
      rw other.0 refl in
      let rest = stopped_said before s calls (sym older ∙ is) in
      record { few = rest.few; said = rw other.0 rest.said }
]
  where
    run_of : (b : Bool) → (if b then ends_by before s w else None) ≡ Some calls
        → ends_by before s w ≡ Some calls
    run_of true is = is
    run_of false is = cc
stopped_said (Stop m k ∷ before) s calls is =
    let rest = stopped_said before s calls is in record { few = rest.few; said = rest.said }
stopped_said (Restart m ∷ before) s calls is =
    by (eqb m s) (λ was. stopped_said before s calls was) is
  where
    by : (b : Bool) → (stopped_at before s ≡ Some calls → IsSaidOf before s calls)
        → (if b then None else stopped_at before s) ≡ Some calls
        → IsSaidOf (Restart m ∷ before) s calls
    by true rest is = cc
    by false rest is =
        let all = rest is in record { few = all.few; said = all.said }

module _ (objects : List ObjectDecl) (history : List Received) (turns : List Turn) (s : ℕ)
    (node : Node) (halted_at : Option Event) (reads : Opened)
    (halt : IsHaltByStop objects history turns s node halted_at reads) where
  -- A RESTART finds the event just where three calls passed.
  pub finds_by_stop : (found : Found) → FindsBy objects s node halted_at reads found
      → is_some found.event ≡ eqb halt.calls 3
  finds_by_stop found finds =
      by (nat_lt halt.calls 3) refl (lt_cases halt.calls 3) halt.opens
    where
      told : FindsBy objects s node (Some halt.event) reads found
      told = subst (λ (o : Option Event). FindsBy objects s node o reads found) halt.kept finds

      by : (b : Bool) → nat_lt halt.calls 3 ≡ b
          → ((nat_lt halt.calls 3 ≡ true) × (halt.calls < 3))
          ⊎ ((nat_lt halt.calls 3 ≡ false) × (3 ≤ halt.calls))
          → OpensAs objects s (if b then history else taken halt.whole ∷ history) reads
          → is_some found.event ≡ eqb halt.calls 3
      by true is (inl y) opens =
          let less = y.1 in
          ap (λ (o : Option Event). is_some o) ((told history halt.whole halt.halted).1 opens
          halt.adds) ∙ sym (off halt.calls less)
        where
          off : (k : ℕ) → k < 3 → eqb k 3 ≡ false
          off k less = elim (eqb_tells k 3) [
            | inl y ↦ let same = y.1 in absurd (omega (arith, same, less))
            | inr n ↦ n.0
          ]
      by true is (inr n) opens = absurd (true≢false (sym is ∙ n.0))
      by false is (inl y) opens = absurd (true≢false (sym y.0 ∙ is))
      by false is (inr n) opens =
          let high = n.1 in
          let few = (stopped_said turns _ _ halt.stopped).few in
          ap (λ (o : Option Event). is_some o) ((told history halt.whole halt.halted).0 0 opens) ∙
          sym (eq-eqb halt.calls 3 (omega (arith, high, few)))

  -- as it is said of the halt by the stops
  pub said_by_stop : last_stop turns s ≡ Some (eqb halt.calls 3 && told_last turns s)
  said_by_stop = (stopped_said turns s _ halt.stopped).said

  -- Another history that is alike, and turns that say the same of the node.
  pub halt_alike : (other : List Received) (later : List Turn) → AreAlike history other
      → stopped_at later s ≡ stopped_at turns s
      → IsHaltByStop objects other later s node halted_at reads
  halt_alike other later alike same = record {
    whole = halt.whole;
    event = halt.event;
    kept = halt.kept;
    halted =
        halts_stand_alike objects history other halt.whole node halt.event alike halt.halted;
    adds = adds_alike objects history other halt.whole alike halt.adds;
    calls = halt.calls;
    stopped = same ∙ halt.stopped;
    opens = record {
      entries = halt.opens.entries;
      opens = halt.opens.opens;
      keeps = record {
        recovered = halt.opens.keeps.recovered;
        says = halt.opens.keeps.says;
        is_log =
            logs_keep_alike objects s (history_after halt.calls history (taken halt.whole))
            (history_after halt.calls other (taken halt.whole))
            (logged_of halt.opens.keeps.recovered) (either (nat_lt halt.calls 3))
            halt.opens.keeps.is_log;
      };
    };
  }
    where
      either : (b : Bool) → AreAlike (if b then history else taken halt.whole ∷ history)
          (if b then other else taken halt.whole ∷ other)
      either true = alike
      either false = λ i. nameless (taken halt.whole) ∷ alike i
