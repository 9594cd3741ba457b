-- The letters of a course by time: what a delivery or a loss leaves.
use Rattle.std.proofs.Common.{◌≡◌, ◌<◌, ℕ, ◌+◌, eqb, Bool, true, false, ◌||◌, cond, List, ◌∷◌, length, Some, None, slice_get, refl, sym, ap, ◌∙◌, subst, below_more}
use Rattle.std.specs.Ordering.{nat_cmp}
use Rattle.std.proofs.lemmas.Option.{slice_get_within}
use Rattle.std.specs.Cmp.{unsigned_ties}
use Rattle.std.specs.BTreeMap.{is_at}
use Rattle.std.specs.BTreeSet.{BTreeSet, contains}
use Rattle.cam_type.specs.declared.ObjectDecl.{ObjectDecl}
use Rattle.cam_event.specs.declared.LetterId.{LetterId}
use Rattle.cam_event.specs.declared.LineRefusal.TheVariants as refusals
use Rattle.cam_event.specs.Inputs.{Receives}
use Rattle.cam_timed.specs.declared.TimedAct.TheVariants as acts
use Rattle.cam_timed.specs.declared.course.LineOutcome.{LineOutcome}
use Rattle.cam_timed.specs.declared.course.LineOutcome.TheVariants as line_outcomes
use Rattle.cam_timed.specs.declared.refusing.TimedRefusal.TheVariants.{Untimed}
use Rattle.cam_runs.specs.Running.{has_number}
use Rattle.cam_timed.specs.declared.course.Course.{Course}
use Rattle.cam_timed.specs.declared.machine.Machine.{Machine}
use Rattle.cam_timed.specs.Machine.{KeepsTimedRun, run_of}
use Rattle.cam_timed.specs.TimedRules.{WithoutTime, timed_next}
use Rattle.cam_timed.specs.TimedRunning.{TimedRunning, by_time, deliver, letters, letter_of, is_out}
use Rattle.cam_timed.specs.TimedScripts.{TimedLineOutcome, Refused, GoesOn, of_letter, timed_act}
use Rattle.cam_timed.specs.Courses.{KeepsRunning, IsLineOutcome}

-- the numbers with one more
pub one_more : (old new : BTreeSet ℕ) (k : ℕ) (numbers : List ℕ)
    → ((q : ℕ) → contains nat_cmp new q ≡ cond (is_at (nat_cmp k) q) true (contains nat_cmp old q))
    → ((q : ℕ) → contains nat_cmp old q ≡ has_number numbers q)
    → (q : ℕ) → contains nat_cmp new q ≡ has_number (k ∷ numbers) q
one_more old new k numbers put same q =
    put q ∙ ap (λ b. cond b true (contains nat_cmp old q)) (sym (unsigned_ties k q)) ∙ by (eqb k q)
  where
    by : (b : Bool) → cond b true (contains nat_cmp old q) ≡ (b || has_number numbers q)
    by true = refl
    by false = same q

-- a letter that was out stays out
out_stays : (r : TimedRunning) (k n : ℕ) → is_out r n ≡ true
    → (eqb k n || has_number r.delivered n || has_number r.lost n) ≡ true
out_stays r k n out = by (eqb k n) (has_number r.delivered n) (has_number r.lost n) out
  where
    by : (a b c : Bool) → (b || c) ≡ true → (a || b || c) ≡ true
    by true b c h = refl
    by false b c h = h

out_lost : (r : TimedRunning) (k n : ℕ) → is_out r n ≡ true
    → (has_number r.delivered n || (eqb k n || has_number r.lost n)) ≡ true
out_lost r k n out = by (eqb k n) (has_number r.delivered n) (has_number r.lost n) out
  where
    by : (a b c : Bool) → (b || c) ≡ true → (b || (a || c)) ≡ true
    by a true c h = refl
    by true false c h = refl
    by false false c h = h

module _ (objects : List ObjectDecl) (r : TimedRunning) (c : Course)
    (keeps : KeepsRunning objects r c) where
  -- what a delivery leaves
  pub delivered_so : (machine : Machine) (delivered : BTreeSet ℕ) (k : ℕ) (letter : LetterId)
      → KeepsTimedRun objects
      (timed_next objects (run_of c.machine) (WithoutTime (Receives letter) 0) ∷ run_of c.machine) machine
      → ((q : ℕ) → contains nat_cmp delivered q
      ≡ cond (is_at (nat_cmp k) q) true (contains nat_cmp c.delivered q))
      → KeepsRunning objects (deliver (by_time objects) r k letter)
      (record c { machine = machine; delivered = delivered })
  delivered_so machine delivered k letter put more =
      record {
        machine =
            subst (λ t. KeepsTimedRun objects
            (timed_next objects t (WithoutTime (Receives letter) 0) ∷ t) machine)
            keeps.machine.trace put;
        delivered = one_more c.delivered delivered k r.delivered more keeps.delivered;
        lost = keeps.lost;
        first = λ place before. out_stays r k (place + 1) (keeps.first place before);
        marks = keeps.marks;
        bound = keeps.bound;
      }

  -- and a loss
  pub lost_so : (lost : BTreeSet ℕ) (k : ℕ)
      → ((q : ℕ) → contains nat_cmp lost q
      ≡ cond (is_at (nat_cmp k) q) true (contains nat_cmp c.lost q))
      → KeepsRunning objects (record r { lost = k ∷ r.lost }) (record c { lost = lost })
  lost_so lost k more =
      record {
        machine = keeps.machine;
        delivered = keeps.delivered;
        lost = one_more c.lost lost k r.lost more keeps.lost;
        first = λ place before. out_lost r k (place + 1) (keeps.first place before);
        marks = keeps.marks;
        bound = keeps.bound;
      }

  -- whether a letter is out
  pub out_so : (k : ℕ) → (contains nat_cmp c.delivered k || contains nat_cmp c.lost k) ≡ is_out r k
  out_so k = λ i. keeps.delivered k i || keeps.lost k i

module _ (objects : List ObjectDecl) (r : TimedRunning) (c : Course)
    (keeps : KeepsRunning objects r c) where
  -- the machine has the letters of the run
  pub there_is : (place : ℕ) (letter : LetterId) → slice_get (letters r.trace) place ≡ Some letter
      → place < length (letters (run_of c.machine))
  there_is place letter at =
      subst (λ t. place < length (letters t)) (sym keeps.machine.trace)
      (slice_get_within (letters r.trace) place letter at)

  -- one more letter that is known to wait no more
  pub first_on : is_out r (c.first + 1) ≡ true
      → KeepsRunning objects r (record c { first = c.first + 1 })
  first_on out =
      record {
        machine = keeps.machine;
        delivered = keeps.delivered;
        lost = keeps.lost;
        first = below_more (λ place. is_out r (place + 1) ≡ true) c.first keeps.first out;
        marks = keeps.marks;
        bound = keeps.bound;
      }

  -- a line whose letter was not sent or is lost
  pub no_letter_so : (k : ℕ) (line : LetterId → TimedLineOutcome) (given : LineOutcome)
      → letter_of r k ≡ None → given ≡ line_outcomes.Refused (Untimed refusals.NoLetter)
      → IsLineOutcome objects r (of_letter (letter_of r k) line) c given
  no_letter_so k line given none is =
      subst (λ o. IsLineOutcome objects r (of_letter o line) c given) (sym none)
      (subst (λ t. IsLineOutcome objects r (Refused (Untimed refusals.NoLetter)) c t) (sym is)
      (refl, keeps))

  -- a delivery
  pub delivery_so : (k place : ℕ) (letter : LetterId) (new : Course) → letter_of r k ≡ Some letter
      → place + 1 ≡ k
      → KeepsRunning objects (deliver (by_time objects) r (place + 1) letter) new
      → IsLineOutcome objects r (timed_act (by_time objects) r (acts.Deliver k)) new (line_outcomes.GoesOn None)
  delivery_so k place letter new found same stands =
      subst (λ o. IsLineOutcome objects r
      (of_letter o (λ l. GoesOn (deliver (by_time objects) r k l) None)) new (line_outcomes.GoesOn None))
      (sym found) (
        refl,
        subst (λ n. KeepsRunning objects (deliver (by_time objects) r n letter) new) same stands,
      )

  -- a loss
  pub loss_so : (k place : ℕ) (letter : LetterId) (lost : BTreeSet ℕ) → letter_of r k ≡ Some letter
      → place + 1 ≡ k
      → ((q : ℕ) → contains nat_cmp lost q
      ≡ cond (is_at (nat_cmp (place + 1)) q) true (contains nat_cmp c.lost q))
      → IsLineOutcome objects r (timed_act (by_time objects) r (acts.Lose k)) (record c { lost = lost })
      (line_outcomes.GoesOn None)
  loss_so k place letter lost found same more =
      subst (λ o. IsLineOutcome objects r
      (of_letter o (λ l. GoesOn (record r { lost = k ∷ r.lost }) None)) (record c { lost = lost })
      (line_outcomes.GoesOn None))
      (sym found) (
        refl,
        subst
            (λ n. KeepsRunning objects (record r { lost = n ∷ r.lost }) (record c { lost = lost }))
            same (lost_so objects r c keeps lost (place + 1) more),
      )
