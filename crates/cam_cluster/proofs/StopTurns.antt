-- What one more turn makes of the nodes at which stops end.
use Rattle.std.proofs.Common.{◌≡◌, ◌⊎◌, inl, inr, ℕ, ◌-◌, ◌<◌, ◌≤◌, eqb, nat_lt, Bool, true, false}
use Rattle.std.proofs.Common.{not, ◌&&◌}
use Rattle.std.proofs.Common.{if◌then◌else◌, List, [], ◌∷◌, Option, Some, None, is_some}
use Rattle.std.proofs.Common.{refl, sym, ap, ◌∙◌, subst, arith}
use Rattle.std.proofs.lemmas.Bool.{eq-eqb, ne_eqb}
use Rattle.std.proofs.lemmas.Bool.Decides.{eqb_tells}
use Rattle.cam_event.specs.History.{is_empty}
use Rattle.cam_log.specs.Spent.{Spent}
use Rattle.cam_recman.specs.declared.Record.{Record}
use Rattle.cam_runs.specs.Running.{has_number}
use Rattle.cam_runs.specs.Halts.{Turn, Input, Restart, calls_left, after_append, by_stops}
use Rattle.cam_runs.specs.Halts.{stopped_append}
use Rattle.cam_node.specs.Appending.{SpentFor}
use Rattle.cam_histories.proofs.Numbers.{lt_cases}
use Rattle.cam_cluster.specs.Stopping.{too_few, ends_by, runs_on, stopped_at, IsAsStopped}

-- an input of one node says nothing of another
module _ (turns : List Turn) (s line : ℕ) (w again : Bool) where
  abbrev now : List Turn
  now = Input s line w again ∷ turns

  pub other_runs : (m : ℕ) → (s ≡ m → ⊥) → runs_on now m ≡ runs_on turns m
  other_runs m away = rw (ne_eqb s m away) refl

  pub other_stopped : (m : ℕ) → (s ≡ m → ⊥) → stopped_at now m ≡ stopped_at turns m
  other_stopped m away = rw (ne_eqb s m away) refl

  pub other_calls : (m : ℕ) → (s ≡ m → ⊥) → calls_left now m ≡ calls_left turns m
  other_calls m away = rw (ne_eqb s m away) refl

  pub other_as : (halted : Bool) (m : ℕ) → (s ≡ m → ⊥) → IsAsStopped halted turns m
      → IsAsStopped halted now m
  other_as true m away is = ap (λ (o : Option ℕ). is_some o) (other_stopped m away) ∙ is
  other_as false m away is = other_runs m away ∙ is

  pub other_was : (halted : Bool) (m : ℕ) → (s ≡ m → ⊥) → IsAsStopped halted now m
      → IsAsStopped halted turns m
  other_was true m away is = ap (λ (o : Option ℕ). is_some o) (sym (other_stopped m away)) ∙ is
  other_was false m away is = sym (other_runs m away) ∙ is

  -- and of its own node whether a stop ends there
  pub own_runs : runs_on turns s ≡ true → ends_by turns s w ≡ None → runs_on now s ≡ true
  own_runs was none =
      rw (eq-eqb s s refl)
      (λ i. not (is_some (none i)) && was i)

  pub own_stopped : (calls : ℕ) → runs_on turns s ≡ true → ends_by turns s w ≡ Some calls
      → stopped_at now s ≡ Some calls
  own_stopped calls was some =
      rw (eq-eqb s s refl) ((λ i. if was i then ends_by turns s w else None) ∙ some)

  pub own_calls : calls_left now s
      ≡ (if w then after_append (calls_left turns s) else calls_left turns s)
  own_calls = rw (eq-eqb s s refl) refl

  -- so with a node that is halted, or not
  pub stood_as : (halted : ℕ → Bool) (m : ℕ) → halted s ≡ false → IsAsStopped (halted m) turns m
      → (s ≡ m → ends_by turns s w ≡ None) → IsAsStopped (halted m) now m
  stood_as halted m awake so none = elim (eqb_tells s m) [
    | inl same ↦
        subst (λ (n : ℕ). IsAsStopped (halted n) now n) same.1
        (subst (λ (b : Bool). IsAsStopped b now s) (sym awake)
        (own_runs (subst (λ (b : Bool). IsAsStopped b turns s) awake
        (subst (λ (n : ℕ). IsAsStopped (halted n) turns n) (sym same.1) so)) (none same.1)))
    | inr away ↦ other_as (halted m) m away.1 so
  ]

  pub halted_as : (halted : List ℕ) (m : ℕ) → has_number halted s ≡ false
      → IsAsStopped (has_number halted m) turns m
      → (s ≡ m → (calls : ℕ) × (ends_by turns s w ≡ Some calls))
      → IsAsStopped (has_number (s ∷ halted) m) now m
  halted_as halted m awake so some = elim (eqb_tells s m) [
    | inl same ↦
        let ends = some same.1 in
        rw same.0
        (subst (λ (n : ℕ). is_some (stopped_at now n) ≡ true) same.1
        (ap (λ (o : Option ℕ). is_some o)
        (own_stopped ends.0 (subst (λ (b : Bool). IsAsStopped b turns s) awake
        (subst (λ (n : ℕ). IsAsStopped (has_number halted n) turns n) (sym same.1) so)) ends.1)))
    | inr away ↦ rw away.0 (other_as (has_number halted m) m away.1 so)
  ]

-- A restart, and the end of its node's halt.
pub ended_as : (turns : List Turn) (halted : ℕ → Bool) (s m : ℕ)
    → ((s ≡ m → ⊥) → IsAsStopped (halted m) turns m) → halted s ≡ false
    → IsAsStopped (halted m) (Restart s ∷ turns) m
ended_as turns halted s m so awake = elim (eqb_tells s m) [
  | inl same ↦
      rw (← same.1) (rw awake (rw (eq-eqb s s refl) refl))
  | inr away ↦ by (halted m) away.0 (so away.1)
]
  where
    by : (b : Bool) → eqb s m ≡ false → IsAsStopped b turns m → IsAsStopped b (Restart s ∷ turns) m
    by true off is = rw off is
    by false off is = rw off is

-- An append that came to its end took four calls, where a stop had left so many.
pub spent_as : (records : List Record) (turns : List Turn) (s line : ℕ) (w again : Bool)
    (passes left : Option ℕ) → is_empty records ≡ not w → passes ≡ calls_left turns s
    → SpentFor records passes left
    → (ends_by turns s w ≡ None) × (left ≡ calls_left (Input s line w again ∷ turns) s)
spent_as [] turns s line true again passes left none is spent = cc
spent_as [] turns s line false again passes left none is spent =
    (refl, spent ∙ is ∙ sym (own_calls turns s line false again))
spent_as (one ∷ rest) turns s line false again passes left none is spent = cc
spent_as (one ∷ rest) turns s line true again passes left none is spent =
    let done = by (calls_left turns s) (rw (← is) spent) in
    (done.0, done.1 ∙ sym (own_calls turns s line true again))
  where
    by : (o : Option ℕ) → Spent 4 o left → (too_few o ≡ None) × (left ≡ after_append o)
    by None done = (refl, done)
    by (Some n) done =
        let count = done.1 in
        elim (lt_cases n 4) [
          | inl y ↦ let less = y.1 in absurd (omega (arith, less, count))
          | inr high ↦
              let rest_is : done.0 ≡ n - 4 = omega (arith, count) in
              (rw high.0 refl, rw high.0 (done.2 ∙ ap (λ (k : ℕ). Some k) rest_is))
        ]

-- One that was cut off is at the end of a stop.
pub cut_as_stopped : (turns : List Turn) (s calls : ℕ) (passes : Option ℕ)
    → passes ≡ calls_left turns s → passes ≡ Some calls → calls < 4
    → ends_by turns s true ≡ Some calls
cut_as_stopped turns s calls passes is had fewer =
    ap too_few (sym is ∙ had) ∙ by (lt_cases calls 4)
  where
    by : ((nat_lt calls 4 ≡ true) × (calls < 4)) ⊎ ((nat_lt calls 4 ≡ false) × (4 ≤ calls))
        → too_few (Some calls) ≡ Some calls
    by (inl y) = rw y.0 refl
    by (inr high) = let more = high.1 in absurd (omega (arith, fewer, more))

-- What the run by stops says of an input is this, with whether it is restarted later.
pub said_by : (turns : List Turn) (s : ℕ) (w again : Bool)
    → is_some (by_stops turns s w again) ≡ is_some (ends_by turns s w)
said_by turns s false again = refl
said_by turns s true again = by (calls_left turns s)
  where
    by : (o : Option ℕ) → is_some (stopped_append o again) ≡ is_some (too_few o)
    by None = refl
    by (Some n) = of (nat_lt n 4)
      where
        of : (b : Bool) → is_some (if b then Some (eqb n 3 && again) else None)
            ≡ is_some (if b then Some n else None)
        of true = refl
        of false = refl
