-- What each step makes of the agreement of a node's halts with the lines that stop its disk.
use Rattle.std.proofs.Common.{◌≡◌, ◌⊎◌, inl, inr, ℕ, zero, suc, ◌<◌, ◌≤◌, eqb, nat_lt, Bool, true}
use Rattle.std.proofs.Common.{false, not, ◌&&◌, if◌then◌else◌, List, [], ◌∷◌, ◌++◌, Option, Some, None}
use Rattle.std.proofs.Common.{refl, sym, ap, ◌∙◌, subst, arith, true≢false}
use Rattle.std.specs.List.{AllByRecursion}
use Rattle.std.proofs.lemmas.Bool.{and_parts, eq-eqb, ne_eqb}
use Rattle.std.proofs.lemmas.Bool.Decides.{eqb_tells}
use Rattle.std.proofs.lemmas.Option.{none-some, same_Some}
use Rattle.cam_event.specs.declared.Event.{Event}
use Rattle.cam_event.specs.Readings.{by_pasts}
use Rattle.cam_runs.specs.Halts.{Halt, Halting, Turn, Input, Stop, Restart, accepted, by_stops}
use Rattle.cam_runs.specs.Halts.{calls_left, given, stopped_append}
use Rattle.cam_runs.specs.HaltedLines.{run_halting, run_with}
use Rattle.cam_runs.specs.Running.{has_number}
use Rattle.cam_runs.specs.Standing.{Standing, after_input, ended_halt, start}
use Rattle.cam_runs.specs.Stops.{AgreesWithStops, AreTold, but_for, known_of, last_input, last_stop}
use Rattle.cam_runs.specs.Stops.{told_last}
use Rattle.cam_runs.proofs.LinesTell.{end_tells}
use Rattle.cam_runs.proofs.StopsAgree.{and_false}
use Rattle.cam_runs.proofs.StopsEnd.{agreeing_runs_are_by_stops}
use Rattle.cam_script.specs.declared.Script.{Script}
use Rattle.cam_histories.proofs.HaltedLists.{without}
use Rattle.cam_cluster.specs.KnownHalts.{AgreesAt, AgreesWithStopsAt, AreKnown, HaltsByStops}
use Rattle.cam_cluster.proofs.LastInputs.{last_below}
use Rattle.cam_cluster.proofs.LaterHalts.{later_says}

-- Halts that differ at no input so far agree alike.
pub alike_at : (s : ℕ) (halts other : Halting) (turns : List Turn) (halted : Bool)
    → ((before : List Turn) (m : ℕ) (w again : Bool) → accepted before < accepted turns
    → halts before m w again ≡ other before m w again)
    → AgreesWithStopsAt s halts turns halted → AgreesWithStopsAt s other turns halted
alike_at s halts other [] halted alike h = tt
alike_at s halts other (Input m line w again ∷ before) halted alike h = (
  λ same. sym (alike before m w again (omega arith)) ∙ h.0 same,
  alike_at s halts other before (halted && not (eqb s m))
      (λ past n v a low. alike past n v a (omega (arith, low))) h.1,
)
alike_at s halts other (Stop m calls ∷ before) halted alike h =
    alike_at s halts other before halted alike h
alike_at s halts other (Restart m ∷ before) halted alike h =
    alike_at s halts other before halted alike h

-- an input of a node that was not halted
newly : (xs : List ℕ) (s : ℕ) → has_number (s ∷ xs) s ≡ true
newly xs s = rw (eq-eqb s s refl) refl

none_known : (said : Option Bool) → None ≡ known_of true said → None ≡ said
none_known None h = refl
none_known (Some took) h = cc

module _ (halts : Halting) (line s : ℕ) (again : Bool) (st : Standing) (e : Event) (w : Bool)
    (awake : has_number st.halted s ≡ false) (m : ℕ) (agrees : AgreesAt m halts st) where
  abbrev stop : Option Bool
  stop = by_stops st.turns s w again

  -- of another node nothing has changed
  apart : (s ≡ m → ⊥) → (not (eqb m s)) ≡ true
  apart away = ap not (ne_eqb m s (λ e. away (sym e)))

  same_if : (b : Bool) → not (eqb m s) ≡ true → b ≡ (b && not (eqb m s))
  same_if true is = sym is
  same_if false is = refl

  none_if : (b : Bool) → (s ≡ m → b ≡ false) → has_number st.halted m ≡ b
      → b ≡ (b && not (eqb m s))
  none_if false own is = refl
  none_if true own is = same_if true (apart (λ same. true≢false (own same)))

  was_awake : s ≡ m → has_number st.halted m ≡ false
  was_awake same = ap (has_number st.halted) (sym same) ∙ awake

  -- the nodes that are halted after it, if it halted
  added : has_number st.halted m ≡ (has_number (s ∷ st.halted) m && not (eqb m s))
  added = elim (eqb_tells s m) [
    | inl same ↦
        was_awake same.1
        ∙ sym (ap (λ (b : Bool). has_number (s ∷ st.halted) m && not b) (eq-eqb m s (sym same.1))
        ∙ and_false (has_number (s ∷ st.halted) m))
    | inr away ↦
        let stays : has_number (s ∷ st.halted) m ≡ has_number st.halted m = rw away.0 refl in
        same_if (has_number st.halted m) (apart away.1)
        ∙ ap (λ (b : Bool). b && not (eqb m s)) (sym stays)
  ]

  of_halt : (took : Bool) → halts st.turns s w again ≡ Some took
      → (s ≡ m → Some took ≡ known_of true stop)
      → AgreesWithStopsAt m halts (Input s line w again ∷ st.turns) (has_number (s ∷ st.halted) m)
  of_halt took is known = (
    λ same. is ∙ known same
        ∙ sym (ap (λ (b : Bool). known_of b stop)
        (ap (has_number (s ∷ st.halted)) (sym same) ∙ newly st.halted s)),
    subst (AgreesWithStopsAt m halts st.turns) added agrees,
  )

  pub input_agrees : (said : Option Bool) → halts st.turns s w again ≡ said
      → (s ≡ m → said ≡ known_of true stop)
      → AgreesAt m halts (after_input line again st s e w said)
  input_agrees None is known = (
    λ same. is ∙ none_known stop (known same)
        ∙ sym (ap (λ (b : Bool). known_of b stop) (was_awake same)),
    subst (AgreesWithStopsAt m halts st.turns)
        (none_if (has_number st.halted m) was_awake refl) agrees,
  )
  input_agrees (Some true) is known = of_halt true is known
  input_agrees (Some false) is known = of_halt false is known

-- halts at inputs that are still to come
pub later_agrees : (more halts : List Halt) (st : Standing) (s : ℕ)
    → AllByRecursion (λ (h : Halt). accepted st.turns ≤ h.input) more
    → AgreesAt s (given halts) st → AgreesAt s (given (more ++ halts)) st
later_agrees more halts st s later h =
    alike_at s (given halts) (given (more ++ halts)) st.turns (has_number st.halted s)
    (λ before m w again low.
    later_says more halts (accepted st.turns) (accepted before) later low)
    h

-- a node that is no longer halted, whose last halt was lost
known_lost : (halted : Bool) (said : Option Bool) → (halted ≡ true → said ≡ Some true → ⊥)
    → known_of halted said ≡ said
known_lost false said lost = refl
known_lost true None lost = refl
known_lost true (Some false) lost = refl
known_lost true (Some true) lost = absurd (lost refl refl)

none_left : (s m : ℕ) (b : Bool) → m ≡ s → (b && not (eqb s m)) ≡ false
none_left s m b same = ap (λ (x : Bool). b && not x) (eq-eqb s m (sym same)) ∙ and_false b

lost_at : (halts : Halting) (s : ℕ) (turns : List Turn) (halted : Bool)
    → AgreesWithStopsAt s halts turns halted
    → (halted ≡ true → last_stop turns s ≡ Some true → ⊥)
    → AgreesWithStopsAt s halts turns false
lost_at halts s [] halted h lost = tt
lost_at halts s (Input m line w again ∷ before) halted h lost = elim (eqb_tells m s) [
  | inl y ↦
      let here : last_stop (Input m line w again ∷ before) s ≡ by_stops before m w again =
      rw y.0 refl in (
        λ same. h.0 same
            ∙ known_lost halted (by_stops before m w again) (λ on is. lost on (here ∙ is)),
        subst (AgreesWithStopsAt s halts before) (none_left s m halted y.1) h.1,
      )
  | inr other ↦
      let older : last_stop (Input m line w again ∷ before) s ≡ last_stop before s =
      rw other.0 refl in (
        λ same. absurd (other.1 same),
        lost_at halts s before (halted && not (eqb s m)) h.1
            (λ on is. lost (and_parts halted (not (eqb s m)) on).0 (older ∙ is)),
      )
]
lost_at halts s (Stop m calls ∷ before) halted h lost = lost_at halts s before halted h lost
lost_at halts s (Restart m ∷ before) halted h lost = lost_at halts s before halted h lost

-- the end of a halt of a node
ended_to : (halts : Halting) (st : Standing) (s m : ℕ)
    → (s ≡ m → AgreesWithStopsAt m halts st.turns false)
    → ((s ≡ m → ⊥) → AgreesWithStopsAt m halts st.turns (has_number st.halted m))
    → AgreesAt m halts (ended_halt st s)
ended_to halts st s m own rest =
    subst (AgreesWithStopsAt m halts st.turns) (sym (without st.halted s m)) (by (eqb_tells s m))
  where
    by : ((eqb s m ≡ true) × (s ≡ m)) ⊎ ((eqb s m ≡ false) × (s ≡ m → ⊥))
        → AgreesWithStopsAt m halts st.turns (if eqb s m then false else has_number st.halted m)
    by (inl same) = rw same.0 (own same.1)
    by (inr away) = rw away.0 (rest away.1)

pub lost_agrees : (halts : Halting) (st : Standing) (s m : ℕ) → AgreesAt m halts st
    → (s ≡ m → has_number st.halted s ≡ true → last_stop st.turns s ≡ Some true → ⊥)
    → AgreesAt m halts (ended_halt st s)
lost_agrees halts st s m h lost =
    ended_to halts st s m
    (λ same. lost_at halts m st.turns (has_number st.halted m) h
    (λ on is. lost same (ap (has_number st.halted) same ∙ on)
    (ap (last_stop st.turns) same ∙ is)))
    (λ away. h)

-- a node whose last halt was found to be taken
module _ (halts found : Halting) (s k : ℕ)
    (alike : (turns : List Turn) (m : ℕ) (w again : Bool) → (accepted turns ≡ k → ⊥)
    → halts turns m w again ≡ found turns m w again)
    (took : (turns : List Turn) (m : ℕ) (w again : Bool) → accepted turns ≡ k
    → found turns m w again ≡ Some true) where
  -- its own agreement
  own_at : (turns : List Turn) (halted : Bool) → AgreesWithStopsAt s halts turns halted
      → last_input turns s ≡ Some k → last_stop turns s ≡ Some true
      → AgreesWithStopsAt s found turns false
  own_at [] halted h last taken = cc
  own_at (Input m line w again ∷ before) halted h last taken = elim (eqb_tells m s) [
    | inl y ↦
        let here : last_stop (Input m line w again ∷ before) s ≡ by_stops before m w again =
        rw y.0 refl in
        let now : last_input (Input m line w again ∷ before) s ≡ Some (accepted before) =
        rw y.0 refl in
        let at : accepted before ≡ k = same_Some (accepted before) k (sym now ∙ last) in (
          λ same. took before m w again at ∙ sym taken ∙ here,
          alike_at s halts found before false
              (λ past n v a low. alike past n v a (λ e. omega (arith, e, at, low)))
              (subst (AgreesWithStopsAt s halts before) (none_left s m halted y.1) h.1),
        )
    | inr other ↦
        let older : last_stop (Input m line w again ∷ before) s ≡ last_stop before s =
        rw other.0 refl in
        let was : last_input (Input m line w again ∷ before) s ≡ last_input before s =
        rw other.0 refl in (
          λ same. absurd (other.1 same),
          own_at before (halted && not (eqb s m)) h.1 (sym was ∙ last) (sym older ∙ taken),
        )
  ]
  own_at (Stop m calls ∷ before) halted h last taken = own_at before halted h last taken
  own_at (Restart m ∷ before) halted h last taken = own_at before halted h last taken

  -- and that of another node
  other_at : (n : ℕ) → (s ≡ n → ⊥) → (turns : List Turn) (halted : Bool)
      → AgreesWithStopsAt n halts turns halted → last_input turns s ≡ Some k
      → AgreesWithStopsAt n found turns halted
  other_at n away [] halted h last = cc
  other_at n away (Input m line w again ∷ before) halted h last = elim (eqb_tells m s) [
    | inl y ↦
        let now : last_input (Input m line w again ∷ before) s ≡ Some (accepted before) =
        rw y.0 refl in
        let at : accepted before ≡ k = same_Some (accepted before) k (sym now ∙ last) in (
          λ same. absurd (away (sym y.1 ∙ same)),
          alike_at n halts found before (halted && not (eqb n m))
              (λ past q v a low. alike past q v a (λ e. omega (arith, e, at, low))) h.1,
        )
    | inr other ↦
        let was : last_input (Input m line w again ∷ before) s ≡ last_input before s =
        rw other.0 refl in
        let low = last_below before s k (sym was ∙ last) in (
          λ same. sym (alike before m w again (λ e. omega (arith, e, low))) ∙ h.0 same,
          other_at n away before (halted && not (eqb n m)) h.1 (sym was ∙ last),
        )
  ]
  other_at n away (Stop m calls ∷ before) halted h last = other_at n away before halted h last
  other_at n away (Restart m ∷ before) halted h last = other_at n away before halted h last

  pub found_agrees_at : (st : Standing) (m : ℕ) → AgreesAt m halts st
      → last_input st.turns s ≡ Some k → (s ≡ m → last_stop st.turns s ≡ Some true)
      → AgreesAt m found (ended_halt st s)
  found_agrees_at st m h last taken =
      ended_to found st s m
      (λ same. subst (λ (n : ℕ). AgreesWithStopsAt n found st.turns false) same
      (own_at st.turns (has_number st.halted s)
      (subst (λ (n : ℕ). AgreesAt n halts st) (sym same) h) last (taken same)))
      (λ away. other_at m away st.turns (has_number st.halted m) h last)

-- all nodes together
pub all_agree : (halts : Halting) (turns : List Turn) (halted : ℕ → Bool)
    → ((s : ℕ) → AgreesWithStopsAt s halts turns (halted s))
    → AgreesWithStops halts turns halted
all_agree halts [] halted each = tt
all_agree halts (Input m line w again ∷ before) halted each =
    ((each m).0 refl, all_agree halts before (but_for m halted) (λ s. (each s).1))
all_agree halts (Stop m calls ∷ before) halted each = all_agree halts before halted each
all_agree halts (Restart m ∷ before) halted each = all_agree halts before halted each

-- At the end of a script a halt of a stop is lost for good.
lost_for_good : (w : Bool) (left : Option ℕ)
    → known_of true (if w then stopped_append left false else None)
    ≡ (if w then stopped_append left false else None)
lost_for_good false left = refl
lost_for_good true None = refl
lost_for_good true (Some n) = by (nat_lt n 4)
  where
    never : (b : Bool) → Some false ≡ Some (b && false)
    never true = refl
    never false = refl

    by : (b : Bool) → known_of true (if b then Some (eqb n 3 && false) else None)
        ≡ (if b then Some (eqb n 3 && false) else None)
    by true = never (eqb n 3)
    by false = refl

known_at_end : (halted : Bool) (past : List Turn) (s : ℕ) (w again : Bool)
    → (halted ≡ true → again ≡ false)
    → known_of halted (by_stops past s w again) ≡ by_stops past s w again
known_at_end false past s w again lost = refl
known_at_end true past s w again lost =
    subst
    (λ (b : Bool). known_of true (by_stops past s w b) ≡ by_stops past s w b)
    (sym (lost refl)) (lost_for_good w (calls_left past s))

said_at : (halts : Halting) (more past : List Turn) (s line : ℕ) (w again halted : Bool)
    → AgreesWithStopsAt s halts (more ++ (Input s line w again ∷ past)) halted
    → ((told : Bool) → halted ≡ true
    → told_last (more ++ (Input s line w again ∷ past)) s ≡ Some told → told ≡ false)
    → halts past s w again ≡ by_stops past s w again
said_at halts [] past s line w again halted h none =
    h.0 refl
    ∙ known_at_end halted past s w again
    (λ on.
    none again on
    (ap (λ b. if b then Some again else told_last past s) (eq-eqb s s refl)))
said_at halts (Input m l v a ∷ more) past s line w again halted h none =
    said_at halts more past s line w again (halted && not (eqb s m)) h.1
    (λ told on is.
    let parts = and_parts halted (not (eqb s m)) on in
    let apart : eqb m s ≡ false = ne_eqb m s (λ e.
    true≢false (sym parts.1 ∙ ap not (eq-eqb s m (sym e)))) in
    none told parts.0
    (ap (λ b. if b then Some a else told_last (more ++ (Input s line w again ∷ past)) s) apart
    ∙ is))
said_at halts (Stop m calls ∷ more) past s line w again halted h none =
    said_at halts more past s line w again halted h none
said_at halts (Restart m ∷ more) past s line w again halted h none =
    said_at halts more past s line w again halted h none

-- So the halts of a run that agree node by node are known by which disks failed.
module _ (script : Script) (halts : List Halt) where
  abbrev all : Standing
  all = run_with by_pasts script halts

  pub by_stops_at : (s : ℕ) → AgreesAt s (given halts) all
      → HaltsByStops s (given halts) all.turns
  by_stops_at s agrees more before line w again is =
      said_at (given halts) more before s line w again (has_number all.halted s)
      (subst (λ (t : List Turn). AgreesWithStopsAt s (given halts) t (has_number all.halted s)) is
      agrees)
      (λ told on last.
      end_tells (by_pasts script.objects) (given halts) script.bodies script.steps start none s told
      (ap (λ t. told_last t s) is ∙ last))
    where
      none : AreTold start.turns script.steps
      none m told last = absurd (none-some told last)

  pub known_at_end_of : (failed : ℕ → Type 0)
      → ((s : ℕ) → 1 ≤ s → (failed s → ⊥) → AgreesAt s (given halts) all)
      → (((s : ℕ) → failed s → ⊥) → AgreesAt 0 (given halts) all)
      → AreKnown script (given halts) failed
  known_at_end_of failed agrees at_none = record {
    stops = λ s low sound. by_stops_at s (agrees s low sound);
    one = λ none. agreeing_runs_are_by_stops by_pasts script (given halts)
        (all_agree (given halts) all.turns (has_number all.halted) (each none));
  }
    where
      each : ((s : ℕ) → failed s → ⊥) → (s : ℕ) → AgreesAt s (given halts) all
      each none zero = at_none none
      each none (suc s) = agrees (suc s) (omega arith) (none (suc s))
