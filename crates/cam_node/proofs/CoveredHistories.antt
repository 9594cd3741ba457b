-- After each history of a node what it holds covers what it goes by.
use Rattle.std.proofs.Common.{◌≡◌, ◌⊎◌, inl, inr, ℕ, ◌-◌, ◌≤◌, Bool, true, false, cond, List, [], ◌∷◌, ◌++◌, map, filter, refl, sym, ap, ◌∙◌, subst, arith}
use Rattle.std.specs.List.{list_any}
use Rattle.std.proofs.lemmas.List.{get_or-replicate}
use Rattle.std.proofs.lemmas.Bool.{or_parts, or_from}
use Rattle.cam_names.specs.declared.name.Name.{Name}
use Rattle.cam_type.specs.declared.ObjectDecl.{ObjectDecl}
use Rattle.cam_know.specs.Knowledge.{Knowledge}
use Rattle.cam_know.specs.Known.{known_count, both}
use Rattle.cam_know.specs.Order.{told_in_order}
use Rattle.cam_know.proofs.JoinLaws.{join_knows_at_least}
use Rattle.cam_event.specs.declared.Deed.{Deed}
use Rattle.cam_event.specs.declared.Deed.TheVariants.{Crash}
use Rattle.cam_event.specs.History.{after, count, is_crash}
use Rattle.cam_event.specs.Inputs.{Input, Begins, Requests, Receives, Tells, Queries, Restarts}
use Rattle.cam_event.specs.Sights.{Sight, present}
use Rattle.cam_event.specs.Rules.{informs}
use Rattle.cam_event.specs.Taken.{is_entered}
use Rattle.cam_event.specs.ByKnowledge.{held, learned_by}
use Rattle.cam_event.specs.Carried.{Carried, deeds_of}
use Rattle.cam_event.specs.Loads.{Load}
use Rattle.cam_event.specs.ByDeltas.{Received, as_carried}
use Rattle.cam_event.proofs.Members.{In}
use Rattle.cam_cut.proofs.Informs.{IsInformAt, in_informs}
use Rattle.cam_cut.proofs.Lists.{in_filter}
use Rattle.cam_commit.specs.Steps.{is_restarting}
use Rattle.cam_node.specs.Lawful.{IsStepOf}
use Rattle.cam_node.specs.Halting.{IsThrough, IsTakenOf, IsEnded, taken}
use Rattle.cam_node.proofs.KnownDeeds.{IsKnownDeed}
use Rattle.cam_node.proofs.Covered.{IsCovered, Brings, greater_long}
use Rattle.cam_node.proofs.CoveredMore.{covers_more}
use Rattle.cam_node.proofs.CoveredSteps.{none_counted, crash_counted, g, xs, ys, step_deed, present_is, step_brings, no_crash, crash_is}

-- What is taken of a step.
pub none_taken : (s : ℕ) (ds : List Deed) → list_any (is_crash s) ds ≡ false
    → list_any (is_crash s) (filter is_entered ds) ≡ false
none_taken s [] none = refl
none_taken s (d ∷ ds) none =
    let parts = or_parts (is_crash s d) (list_any (is_crash s) ds) none in
    by (is_entered d) parts.0 (none_taken s ds parts.1)
  where
    by : (b : Bool) → is_crash s d ≡ false → list_any (is_crash s) (filter is_entered ds) ≡ false
        → list_any (is_crash s) (cond b (d ∷ filter is_entered ds) (filter is_entered ds)) ≡ false
    by true one rest = or_from (is_crash s d) (list_any (is_crash s) (filter is_entered ds)) one rest
    by false one rest = rest

all_entered : (s : ℕ) (xs : List Deed) → ((d : Deed) → In d xs → IsInformAt s d)
    → filter is_entered (xs ++ Crash s ∷ []) ≡ xs ++ Crash s ∷ []
all_entered s [] is = refl
all_entered s (x ∷ xs) is =
    ap (λ (d : Deed). filter is_entered (d ∷ (xs ++ Crash s ∷ []))) (is x (inl refl)).is
    ∙ (λ i. sym (is x (inl refl)).is i ∷ all_entered s xs (λ d j. is d (inr j)) i)

-- One more event.
module _ (objects : List ObjectDecl) (s : ℕ) (low : 1 ≤ s) (high : s ≤ 8) where
  abbrev pub IsCoveredAfter : List Received → Type 0
  IsCoveredAfter history = IsCovered objects s (map as_carried history)

  more : (history : List Received) (c : Received) (load : Load) (g : Sight) → g.node ≡ s
      → present g ≡ count (deeds_of (map as_carried history)) s
      → ((n : ℕ) → g.known_count n
      ≡ known_count (both (held objects (map as_carried history)) (told_in_order load.know)) n)
      → c.load ≡ load → Brings objects s c.mail load
      → ((d : Deed) → In d c.event.deeds → IsKnownDeed objects g d)
      → (list_any (is_crash s) c.event.deeds ≡ false)
      ⊎ ((xs : List Name) × (ys : List Name)
      × (c.event.deeds ≡ informs s xs ys ++ Crash s ∷ []))
      → IsCoveredAfter history → IsCoveredAfter (c ∷ history)
  more history c load sight here now known_is load_is comes deed_is crashes was =
      covers_more objects s past (as_carried c) load sight here now known_is
      (ap (λ (l : Load). told_in_order l.know) load_is) comes deed_is (by crashes) was
    where
      past : List Carried
      past = map as_carried history

      k : Knowledge
      k = both (held objects past) (told_in_order c.load.know)

      grown : count (deeds_of past) s ≤ known_count k s
      grown =
          let one = (join_knows_at_least (held objects past) (told_in_order c.load.know)).0.counts s in
          let old = was.present in omega (arith, one, old)

      by : (list_any (is_crash s) c.event.deeds ≡ false)
          ⊎ ((xs : List Name) × (ys : List Name)
          × (c.event.deeds ≡ informs s xs ys ++ Crash s ∷ []))
          → count (after (deeds_of past) c.event.deeds) s
          ≤ known_count (learned_by objects past c.mail k c.event.deeds) s
      by (inl none) = none_counted objects s past c.mail k c.event.deeds none grown
      by (inr one) =
          crash_counted objects s past c.mail k one.0 one.1 c.event.deeds low high
          (greater_long (held objects past).counts (told_in_order c.load.know).counts was.long) one.2

  step_covered : (history : List Received) (c : Received) → IsStepOf objects s history c
      → IsCoveredAfter history → IsCoveredAfter (c ∷ history)
  step_covered history c step was =
      more history c c.load (g objects s history c step) refl
      (present_is objects s history c step) (λ n. refl) refl
      (step_brings objects s history c step) (step_deed objects s history c step)
      (by step.input refl) was
    where
      Way : Type 0
      Way = (list_any (is_crash s) c.event.deeds ≡ false)
          ⊎ ((xs : List Name) × (ys : List Name)
          × (c.event.deeds ≡ informs s xs ys ++ Crash s ∷ []))

      calm : is_restarting step.input ≡ false → Way
      calm other = inl (no_crash objects s history c step other)

      by : (input : Input) → step.input ≡ input → Way
      by (Restarts m) is =
          inr (
            xs objects s history c step,
            ys objects s history c step,
            crash_is objects s history c step m is,
          )
      by (Begins m) is = calm (ap is_restarting is)
      by (Requests r) is = calm (ap is_restarting is)
      by (Receives letter) is = calm (ap is_restarting is)
      by (Tells m to) is = calm (ap is_restarting is)
      by (Queries m f) is = calm (ap is_restarting is)

  taken_covered : (history : List Received) (c : Received) → IsTakenOf objects s history c
      → IsCoveredAfter history → IsCoveredAfter (c ∷ history)
  taken_covered history c of was =
      subst (λ (k : Received). IsCoveredAfter (k ∷ history)) (sym of.is)
      (more history (taken w) w.load (g objects s history w step)
      refl (present_is objects s history w step) (λ n. refl) refl
      (step_brings objects s history w step)
      (λ d i. step_deed objects s history w step d (in_filter is_entered w.event.deeds d i).0)
      (by step.input refl) was)
    where
      w : Received
      w = of.whole

      step : IsStepOf objects s history w
      step = of.step

      aborted : List Name
      aborted = xs objects s history w step

      committed : List Name
      committed = ys objects s history w step

      Way : Type 0
      Way = (list_any (is_crash s) (filter is_entered w.event.deeds) ≡ false)
          ⊎ ((xs : List Name) × (ys : List Name)
          × (filter is_entered w.event.deeds ≡ informs s xs ys ++ Crash s ∷ []))

      calm : is_restarting step.input ≡ false → Way
      calm other =
          inl (none_taken s w.event.deeds (no_crash objects s history w step other))

      by : (input : Input) → step.input ≡ input → Way
      by (Restarts m) is =
          inr (
            aborted,
            committed,
            ap (filter is_entered) (crash_is objects s history w step m is)
                ∙ all_entered s (informs s aborted committed)
                (λ d i. in_informs s aborted committed d i),
          )
      by (Begins m) is = calm (ap is_restarting is)
      by (Requests r) is = calm (ap is_restarting is)
      by (Receives letter) is = calm (ap is_restarting is)
      by (Tells m to) is = calm (ap is_restarting is)
      by (Queries m f) is = calm (ap is_restarting is)

  none_covered : IsCoveredAfter []
  none_covered =
      let one = get_or-replicate {A = ℕ} 8 (s - 1) 1 0 (omega (arith, low, high)) in
      record {
        long = omega arith;
        present = omega (arith, one);
        calls = λ a n x op c i. absurd i;
        pairs = λ a p i. absurd i;
        outcomes = λ a counts p there i. absurd there;
      }

  through_covered : (history : List Received) → IsThrough objects s history
      → IsCoveredAfter history
  through_covered [] through = none_covered
  through_covered (c ∷ []) through = step_covered [] c through none_covered
  through_covered (c ∷ k ∷ before) through =
      step_covered (k ∷ before) c through.0
      (elim (through.1) [
        | inl on ↦ through_covered (k ∷ before) on
        | inr halted ↦ taken_covered before k halted.1 (through_covered before halted.2)
      ])

  pub ended_covered : (history : List Received) → IsEnded objects s history
      → IsCoveredAfter history
  ended_covered [] ended = none_covered
  ended_covered (k ∷ before) (inl through) = through_covered (k ∷ before) through
  ended_covered (k ∷ before) (inr halted) =
      taken_covered before k halted.0 (through_covered before halted.1)
