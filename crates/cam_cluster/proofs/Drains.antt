-- Deliveries one after another, until none waits.
use Rattle.std.proofs.Common.{◌≡◌, ℕ, true, false, List, [], ◌∷◌, ◌++◌, length, Option, Some, None}
use Rattle.std.proofs.Common.{is_some, refl, sym, ap, ◌∙◌, subst, true≢false}
use Rattle.cam_event.specs.declared.LetterId.{LetterId}
use Rattle.cam_node.specs.Log.{Logged}
use Rattle.cam_runs.specs.Standing.{Standing, Setting, deliver, deliver_waiting, deliveries, drain}
use Rattle.cam_runs.specs.Standing.{waiting}
use Rattle.cam_runs.proofs.DrainsGoOn.{drains_are_over, halted_drains_go_on}
use Rattle.cam_histories.specs.InputLaws.{held_setting}
use Rattle.cam_cluster.specs.declared.works.Put.{Put}
use Rattle.cam_cluster.specs.Drains.{AreDue, AreSaid, HasDeliveredSome, HasDrained}
use Rattle.cam_cluster.specs.Drains.{HasNextDelivered, IsSaid}
use Rattle.cam_cluster.specs.Puts.{KeepsAsBefore}
use Rattle.cam_cluster.specs.Works.{WorksFields, KeepsRun}

-- One delivery more.
module _ (c : Setting) (end : Put) where
  abbrev behind : List Put → Standing → Standing
  behind ends st = deliveries c (length ends) st

  one_more : (ends : List Put) (st : Standing)
      → deliveries c (length (ends ++ end ∷ [])) st
      ≡ deliver_waiting c (behind ends st) (waiting (behind ends st))
  one_more [] st = refl
  one_more (e ∷ ends) st = one_more ends (deliver_waiting c st (waiting st))

  said_front : (ends : List Put) (st : Standing) → AreSaid c (ends ++ end ∷ []) st
      → AreSaid c ends st
  said_front [] st said = tt
  said_front (e ∷ ends) st said =
      (said.0, said_front ends (deliver_waiting c st (waiting st)) said.1)

  said_last : (ends : List Put) (st : Standing) → AreSaid c (ends ++ end ∷ []) st
      → IsSaid c (behind ends st) (waiting (behind ends st)) end
  said_last [] st said = said.0
  said_last (e ∷ ends) st said = said_last ends (deliver_waiting c st (waiting st)) said.1

  due_more : (ends : List Put) (st : Standing) → AreDue c ends st
      → is_some (waiting (behind ends st)) ≡ true → AreDue c (ends ++ end ∷ []) st
  due_more [] st due waits = (waits, tt)
  due_more (e ∷ ends) st due waits =
      (due.0, due_more ends (deliver_waiting c st (waiting st)) due.1 waits)

-- the drain is the deliveries, where none waits after them
module _ (c : Setting)
    (goes_on : (st : Standing) (w : ℕ × LetterId) → waiting st ≡ Some w
    → drain c st ≡ drain c (deliver c st w.0 w.1)) where
  pub drain_is : (ends : List Put) (st : Standing) → AreDue c ends st
      → waiting (deliveries c (length ends) st) ≡ None
      → drain c st ≡ deliveries c (length ends) st
  drain_is [] st due none = drains_are_over c st none
  drain_is (e ∷ ends) st due none = by (waiting st) refl due.0
      (drain_is ends (deliver_waiting c st (waiting st)) due.1 none)
    where
      by : (o : Option (ℕ × LetterId)) → waiting st ≡ o → is_some o ≡ true
          → drain c (deliver_waiting c st (waiting st))
          ≡ deliveries c (length ends) (deliver_waiting c st (waiting st))
          → drain c st ≡ deliveries c (length ends) (deliver_waiting c st (waiting st))
      by None at some rest = absurd (true≢false (sym some))
      by (Some w) at some rest =
          goes_on st w at
          ∙ ap (λ (o : Option (ℕ × LetterId)). drain c (deliver_waiting c st o)) (sym at)
          ∙ rest

-- No letter was handed over so far;
pub none_so_far : (line : ℕ) (works : WorksFields) (may : ℕ → Logged → Type 0)
    → HasDeliveredSome line works may works may
none_so_far line works may = record {
  ends = [];
  delivered = λ script st halts restarted is keeps said. record { due = tt; stands = keeps };
}

-- and one more was;
pub and_next : (line : ℕ) (old mid new : WorksFields) (might mays may : ℕ → Logged → Type 0)
    (done : Put)
    → HasDeliveredSome line old might mid mays
    → HasNextDelivered line mid mays new may (Some done)
    → HasDeliveredSome line old might new may
and_next line old mid new might mays may done some has = record {
  ends = some.ends ++ done ∷ [];
  delivered = λ script st halts restarted is keeps said.
      let c = held_setting script.objects halts line restarted in
      let so = some.delivered script st halts restarted is keeps
      (said_front c done some.ends st said) in
      let at = deliveries c (length some.ends) st in
      let next = has script at halts restarted is so.stands in
      record {
        due = due_more c done some.ends st so.due (ap is_some next.waits);
        stands =
            subst (λ (z : Standing). KeepsRun script z new may)
            (sym (one_more c done some.ends st
            ∙ ap (deliver_waiting c at) next.waits))
            (next.stands
            (subst (λ (o : Option (ℕ × LetterId)). IsSaid c at o done) next.waits
            (said_last c done some.ends st said)));
      };
}

-- then memory ran out,
pub and_wanting : (line : ℕ) (old mid new : WorksFields) (might mays may : ℕ → Logged → Type 0)
    → HasDeliveredSome line old might mid mays → KeepsAsBefore mid mays new may
    → HasDeliveredSome line old might new may
and_wanting line old mid new might mays may some before = record {
  ends = some.ends;
  delivered = λ script st halts restarted is keeps said.
      let so = some.delivered script st halts restarted is keeps said in
      record {
        due = so.due;
        stands =
            before script
            (deliveries (held_setting script.objects halts line restarted) (length some.ends) st) is
            so.stands;
      };
}

-- or none waits.
pub and_over : (line : ℕ) (old mid new : WorksFields) (might mays may : ℕ → Logged → Type 0)
    → HasDeliveredSome line old might mid mays → HasNextDelivered line mid mays new may None
    → HasDrained line old might new may
and_over line old mid new might mays may some none = record {
  ends = some.ends;
  drained = λ script st halts restarted is keeps said.
      let c = held_setting script.objects halts line restarted in
      let so = some.delivered script st halts restarted is keeps said in
      let over = none script (deliveries c (length some.ends) st) is so.stands in
      record {
        due = so.due;
        over = over.0;
        stands =
            rw (drain_is c (λ z w waits. (halted_drains_go_on script.objects).1 halts line restarted
            z w waits) some.ends st so.due over.0) over.1;
      };
}

-- whether one waited
module _ (line : ℕ) (old new : WorksFields) (might may : ℕ → Logged → Type 0) where
  pub next_some : (o : Option Put) → is_some o ≡ true → HasNextDelivered line old might new may o
      → (done : Put) × HasNextDelivered line old might new may (Some done)
  next_some None some has = absurd (true≢false (sym some))
  next_some (Some done) some has = (done, has)

  pub next_none : (o : Option Put) → is_some o ≡ false → HasNextDelivered line old might new may o
      → HasNextDelivered line old might new may None
  next_none None none has = has
  next_none (Some done) none has = absurd (true≢false none)
