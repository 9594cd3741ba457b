-- A drain of a course by time: each delivery leads on to the same end, and lowers the weight of the
-- letters that wait.
use Rattle.std.proofs.Common.{◌≡◌, ◌<◌, ◌≤◌, ℕ, zero, suc, ◌+◌, Bool, ◌||◌, if◌then◌else◌, List, [], ◌∷◌, Option, Some, None, slice_get, refl, sym, ap, ◌∙◌, subst, arith}
use Rattle.std.specs.Ordering.{nat_cmp}
use Rattle.std.specs.BTreeSet.{contains}
use Rattle.cam_type.specs.declared.ObjectDecl.{ObjectDecl}
use Rattle.cam_event.specs.declared.LetterId.{LetterId}
use Rattle.cam_timed.specs.declared.TimedEvent.{TimedEvent}
use Rattle.cam_timed.specs.declared.course.Course.{Course}
use Rattle.cam_timed.specs.Machine.{run_of}
use Rattle.cam_timed.specs.TimedRunning.{TimedRunning, by_time, deliver, letters, is_out, waiting, weight_of, weight_from, waiting_weight, deliver_waiting, deliveries, drain}
use Rattle.cam_timed.specs.Courses.{IsCourse, KeepsRunning, WaitsAt}
use Rattle.cam_timed.proofs.CourseLetters.{out_so}
use Rattle.cam_timed.proofs.TimedDrained.{deliveries_lower}

-- if none waits, deliveries change nothing
pub idle : (objects : List ObjectDecl) (n : ℕ) (r : TimedRunning) → waiting r ≡ None
    → deliveries (by_time objects) n r ≡ r
idle objects zero r none = refl
idle objects (suc n) r none =
    ap (λ o. deliveries (by_time objects) n (deliver_waiting (by_time objects) r o)) none
    ∙ idle objects n r none

-- as many deliveries as the letters weigh, or more, lead to one end
same_end : (objects : List ObjectDecl) (n m : ℕ) (r : TimedRunning) → waiting_weight r ≤ n
    → waiting_weight r ≤ m
    → deliveries (by_time objects) n r ≡ deliveries (by_time objects) m r
same_end objects zero m r few more = sym (by (waiting r) refl)
  where
    by : (o : Option (ℕ × LetterId)) → waiting r ≡ o
        → deliveries (by_time objects) m r ≡ r
    by None at = idle objects m r at
    by (Some w) at = let less = deliveries_lower objects r w at in absurd (omega (arith, less, few))
same_end objects (suc n) zero r few more = by (waiting r) refl
  where
    by : (o : Option (ℕ × LetterId)) → waiting r ≡ o
        → deliveries (by_time objects) (suc n) r ≡ r
    by None at = idle objects (suc n) r at
    by (Some w) at =
        let less = deliveries_lower objects r w at in absurd (omega (arith, less, more))
same_end objects (suc n) (suc m) r few more =
    by (waiting r) refl (λ q a b. same_end objects n m q a b)
  where
    by : (o : Option (ℕ × LetterId)) → waiting r ≡ o
        → ((q : TimedRunning) → waiting_weight q ≤ n → waiting_weight q ≤ m
        → deliveries (by_time objects) n q ≡ deliveries (by_time objects) m q)
        → deliveries (by_time objects) (suc n) r ≡ deliveries (by_time objects) (suc m) r
    by None at rest = idle objects (suc n) r at ∙ sym (idle objects (suc m) r at)
    by (Some w) at rest =
        let less = deliveries_lower objects r w at in
        ap (λ o. deliveries (by_time objects) n (deliver_waiting (by_time objects) r o)) at
        ∙ rest (deliver (by_time objects) r w.0 w.1) (omega (arith, less, few))
        (omega (arith, less, more))
        ∙ sym (ap (λ o. deliveries (by_time objects) m (deliver_waiting (by_time objects) r o)) at)

-- A drain goes on after the delivery of the letter that waits,
pub drain_on : (objects : List ObjectDecl) (r : TimedRunning) (k : ℕ) (letter : LetterId)
    → waiting r ≡ Some (k, letter)
    → drain (by_time objects) r ≡ drain (by_time objects) (deliver (by_time objects) r k letter)
drain_on objects r k letter at =
    let less = deliveries_lower objects r (k, letter) at in
    same_end objects (waiting_weight r) (suc (waiting_weight r)) r (omega arith) (omega arith)
    ∙ ap
    (λ o. deliveries (by_time objects) (waiting_weight r) (deliver_waiting (by_time objects) r o))
    at
    ∙ same_end objects (waiting_weight r) (waiting_weight (deliver (by_time objects) r k letter))
    (deliver (by_time objects) r k letter) (omega (arith, less)) (omega arith)

-- and has ended if none waits.
pub drain_over : (objects : List ObjectDecl) (r : TimedRunning) → waiting r ≡ None
    → drain (by_time objects) r ≡ r
drain_over objects r none = idle objects (waiting_weight r) r none

-- the weight of the letters of which this says that they are not out
weight_but : (ℕ → Bool) → List TimedEvent → ℕ → List LetterId → ℕ
weight_but out t k [] = 0
weight_but out t k (letter ∷ more) =
    (if out k then 0 else weight_of t letter) + weight_but out t (k + 1) more

-- the weight of the letters of a course that wait
pub course_weight : Course → ℕ
course_weight c =
    weight_but (λ k. contains nat_cmp c.delivered k || contains nat_cmp c.lost k)
    (run_of c.machine) 1 (letters (run_of c.machine))

weighs_but : (r : TimedRunning) (k : ℕ) (ls : List LetterId)
    → weight_from r k ls ≡ weight_but (is_out r) r.trace k ls
unfolding weight_but
weighs_but r k [] = refl
weighs_but r k (l ∷ ls) =
    ap (λ n. (if is_out r k then 0 else weight_of r.trace l) + n) (weighs_but r (k + 1) ls)

-- it is that of the run
pub course_weighs : (objects : List ObjectDecl) (r : TimedRunning) (c : Course)
    → KeepsRunning objects r c → course_weight c ≡ waiting_weight r
unfolding course_weight
course_weighs objects r c keeps =
    (λ i. weight_but (λ k. out_so objects r c keeps k i) (keeps.machine.trace i) 1
    (letters (keeps.machine.trace i)))
    ∙ sym (weighs_but r 1 (letters r.trace))

-- A delivery lowers it.
pub weight_falls : (objects : List ObjectDecl) (r : TimedRunning) (c new : Course) (k : ℕ)
    (letter : LetterId) → KeepsRunning objects r c → waiting r ≡ Some (k, letter)
    → KeepsRunning objects (deliver (by_time objects) r k letter) new
    → course_weight new < course_weight c
weight_falls objects r c new k letter keeps at delivered =
    let less = deliveries_lower objects r (k, letter) at in
    omega (
      arith,
      less,
      course_weighs objects r c keeps,
      course_weighs objects (deliver (by_time objects) r k letter) new delivered,
    )

-- The run that a course keeps after some deliveries of a drain leads to the same end.
abbrev pub HasDrainedSome : List ObjectDecl → Course → Course → Type 0
HasDrainedSome objects old now =
    (r : TimedRunning) → KeepsRunning objects r old
    → (q : TimedRunning) × KeepsRunning objects q now
    × (drain (by_time objects) r ≡ drain (by_time objects) q)

module _ (objects : List ObjectDecl) (old now : Course)
    (so_far : HasDrainedSome objects old now) where
  -- the course is still that of some run
  pub still_some : IsCourse objects old → IsCourse objects now
  still_some some = let go = so_far some.0 some.1 in (go.0, go.1)

  module _ (found next : Course) (place : ℕ)
      (same : (r : TimedRunning) → KeepsRunning objects r now → KeepsRunning objects r found)
      (waits : (r : TimedRunning) → KeepsRunning objects r now → WaitsAt r (Some place))
      (handed : (r : TimedRunning) (letter : LetterId) → KeepsRunning objects r found
      → slice_get (letters r.trace) place ≡ Some letter
      → KeepsRunning objects (deliver (by_time objects) r (place + 1) letter) next) where
    -- one delivery more
    pub drained_more : HasDrainedSome objects old next
    drained_more r keeps =
        let go = so_far r keeps in
        let at = waits go.0 go.1 in (
          deliver (by_time objects) go.0 (place + 1) at.0,
          handed go.0 at.0 (same go.0 go.1) at.1,
          go.2 ∙ drain_on objects go.0 (place + 1) at.0 at.2,
        )

    -- lowers the weight
    pub drained_lower : IsCourse objects old → course_weight next < course_weight now
    drained_lower some =
        let go = so_far some.0 some.1 in
        let at = waits go.0 go.1 in
        weight_falls objects go.0 now next (place + 1) at.0 go.1 at.2
        (handed go.0 at.0 (same go.0 go.1) at.1)

  -- at the end the run is the drained one
  pub all_drained : (last : Course)
      → ((r : TimedRunning) → KeepsRunning objects r now → KeepsRunning objects r last)
      → ((r : TimedRunning) → KeepsRunning objects r now → WaitsAt r None)
      → (r : TimedRunning) → KeepsRunning objects r old
      → KeepsRunning objects (drain (by_time objects) r) last
  all_drained last same none r keeps =
      let go = so_far r keeps in
      subst (λ q. KeepsRunning objects q last)
      (sym (go.2 ∙ drain_over objects go.0 (none go.0 go.1))) (same go.0 go.1)
