-- What a crash at any moment leaves, where a plan is carried out: the history before the event, or
-- that with what was taken of the event.
use Rattle.std.proofs.Common.{◌≡◌, ◌⊎◌, inl, inr, ℕ, nat_lt, Bool, true, false, if◌then◌else◌, List, [], ◌∷◌, map, Option, Result, Ok, Err, IsOk, IsErrOf, refl, sym, ap, ◌∙◌, subst, arith, true≢false}
use Rattle.cam_type.specs.declared.ObjectDecl.{ObjectDecl}
use Rattle.cam_know.specs.Knowledge.{Knowledge}
use Rattle.cam_know.specs.Order.{told_in_order}
use Rattle.cam_event.specs.declared.Event.{Event}
use Rattle.cam_event.specs.History.{is_empty}
use Rattle.cam_event.specs.Inputs.{Input, Mail}
use Rattle.cam_event.specs.ByKnowledge.{node_step}
use Rattle.cam_event.specs.Loads.{Load}
use Rattle.cam_log.specs.Moments.{Opened, Grows}
use Rattle.cam_ckpt.specs.Moments.{IsOldOrNew}
use Rattle.cam_recman.specs.declared.Record.{Record}
use Rattle.cam_recman.specs.declared.Recovered.{Recovered}
use Rattle.cam_recman.specs.Ranges.{AreRecords}
use Rattle.cam_recman.specs.Recovery.{with_records}
use Rattle.cam_recman.specs.Says.{Says}
use Rattle.cam_node.specs.declared.fault.NodeFault.{NodeFault}
use Rattle.cam_node.specs.declared.fault.NodeFault.TheVariants.{DiskFault}
use Rattle.cam_node.specs.declared.plan.Plan.{Plan}
use Rattle.cam_node.specs.Appending.{listed_after, OpensAfter, OpensAs, OpensAsEither}
use Rattle.cam_node.specs.Entries.{entry_records}
use Rattle.cam_node.specs.Halting.{taken, taken_step, IsStepThrough}
use Rattle.cam_node.specs.Learning.{stepped}
use Rattle.cam_event.specs.ByDeltas.{Received, as_carried}
use Rattle.cam_node.specs.Keeping.{IsLogOf, KeepsHistory, KeepsNode, MayBePutThen}
use Rattle.cam_node.specs.Opened.{IsKnowledge, logged_of, with_entry_of}
use Rattle.cam_node.specs.Planned.{HasEntry, MayBeTaken, planned_records}
use Rattle.cam_node.specs.Standing.{Stands}
use Rattle.cam_node.specs.Represents.{Node}
use Rattle.cam_node.proofs.CarriedOut.{taken_entry}
use Rattle.cam_node.proofs.KeptSteps.{logged, known_then}

-- What else may come is one of these too.
pub grows_as : {A : Type 0} (b n : ℕ) (past since : ℕ → A → Type 0) (added more : A → Type 0)
    → Grows b n past since added → ((c : A) → added c → more c) → Grows b n past since more
grows_as {A = A} b n past since added more grows each = record {
  later = grows.later;
  keeps = grows.keeps;
  nothing_else = λ t c le is. by c (grows.nothing_else t c le is);
}
  where
    by : {P : Type 0} (c : A) → P ⊎ added c → P ⊎ more c
    by c (inl was) = inl was
    by c (inr is) = inr (each c is)

-- where nothing happened
pub same_grows : {A : Type 0} (n : ℕ) (since : ℕ → A → Type 0) (more : A → Type 0)
    → Grows n n since since more
same_grows n since more = record {
  later = omega arith;
  keeps = λ t c le was. was;
  nothing_else = λ t c le is. inl is;
}

-- a node is halted, or it is not
pub by_halt : {P : Type 0} (halted : Bool) → (halted ≡ true → P) → (halted ≡ false → P) → P
by_halt true there runs = there refl
by_halt false there runs = runs refl

-- The entries with the event's entry keep the history with what was taken of the event.
pub entry_keeps : (objects : List ObjectDecl) (input : Input) (mail : Option Mail) (load : Load)
    (plan : Plan) (known : Knowledge) (old mid new : Node) (before : List (List ℕ))
    → IsKnowledge new.know → AreRecords (planned_records mid.know.counts plan)
    → ((r : Recovered) → Says before r
    → Says (with_entry_of before (planned_records mid.know.counts plan))
    (with_records r (planned_records mid.know.counts plan)))
    → Stands plan.change plan.heard known mid new
    → MayBeTaken objects input mail load plan known old mid
    → (history : List Received) → KeepsNode objects history old before
    → MayBePutThen objects old.number history input mail load
    → KeepsHistory objects old.number
    (taken_step objects old.number history input mail load ∷ history)
    (with_entry_of before (planned_records mid.know.counts plan))
entry_keeps objects input mail load plan known old mid new before knows are says stands may history
    keeps put =
    let rs : List Record = planned_records mid.know.counts plan in
    let r : Recovered = keeps.keeps.recovered in
    let longer : Recovered = with_records r rs in
    let step : IsStepThrough objects old new input mail load plan.stepped.event =
    may.planned.given.step new stands in
    let has = logged objects old new input mail load plan.stepped.event rs history before keeps
    may.node may.goes_on
    (known_then objects old new input mail load plan.stepped.event knows step) are
    (taken_entry objects input mail load plan known old mid may) step put in
    record {
      recovered = longer;
      says = says r keeps.keeps.says;
      is_log = subst (λ (e : Event). IsLogOf objects old.number (taken (record {
        event = e;
        mail = mail;
        load = load;
      }) ∷ history) (logged_of longer))
          (step.next history keeps.through keeps.represents put) has.taken_so;
    }

pub taken_moments : (objects : List ObjectDecl) (input : Input) (mail : Option Mail) (load : Load)
    (plan : Plan) (known : Knowledge) (old mid new : Node) (before : List (List ℕ)) (b n : ℕ)
    (past since : ℕ → Opened → Type 0)
    → IsKnowledge new.know → AreRecords (planned_records mid.know.counts plan)
    → ((r : Recovered) → Says before r
    → Says (with_entry_of before (planned_records mid.know.counts plan))
    (with_records r (planned_records mid.know.counts plan)))
    → Stands plan.change plan.heard known mid new
    → Grows b n past since (IsOldOrNew before
    (with_entry_of before (planned_records mid.know.counts plan)))
    → MayBeTaken objects input mail load plan known old mid
    → Grows b n past since (OpensAsEither objects old before input mail load)
taken_moments objects input mail load plan known old mid new before b n past since knows are says
    stands grows may =
    grows_as b n past since (IsOldOrNew before after)
    (OpensAsEither objects old before input mail load) grows either
  where
    after : List (List ℕ)
    after = with_entry_of before (planned_records mid.know.counts plan)

    either : (o : Opened) → IsOldOrNew before after o
        → OpensAsEither objects old before input mail load o
    either o (inl was) history keeps put =
        inl (record { entries = before; opens = was; keeps = keeps.keeps })
    either o (inr is) history keeps put =
        inr (record {
          entries = after;
          opens = is;
          keeps = entry_keeps objects input mail load plan known old mid new before knows are says
              stands may history keeps put;
        })

-- What the log reads where the append was cut off after so many calls.
pub opens_after : (objects : List ObjectDecl) (input : Input) (mail : Option Mail) (load : Load)
    (plan : Plan) (known : Knowledge) (old mid new : Node) (before : List (List ℕ)) (calls : ℕ)
    (reads : Opened)
    → IsKnowledge new.know → AreRecords (planned_records mid.know.counts plan)
    → is_empty (planned_records mid.know.counts plan) ≡ false
    → ((r : Recovered) → Says before r
    → Says (with_entry_of before (planned_records mid.know.counts plan))
    (with_records r (planned_records mid.know.counts plan)))
    → Stands plan.change plan.heard known mid new
    → reads ≡ Ok (listed_after calls before (planned_records mid.know.counts plan))
    → MayBeTaken objects input mail load plan known old mid
    → OpensAfter calls objects old before input mail load reads
opens_after objects input mail load plan known old mid new before calls reads knows are some says
    stands is may history keeps put =
    record { holds = entry.holds; some = there; opens = by (nat_lt calls 3) is }
  where
    rs : List Record
    rs = planned_records mid.know.counts plan

    after : List (List ℕ)
    after = with_entry_of before rs

    entry : HasEntry objects old input mail load plan.stepped.event rs
    entry = taken_entry objects input mail load plan known old mid may

    next : plan.stepped.event
        ≡ node_step objects old.number (map as_carried history) input mail
        (told_in_order load.know)
    next = (may.planned.given.step new stands).next history keeps.through keeps.represents put

    there : is_empty (entry_records entry.holds objects history
        (stepped objects old.number history input mail load)) ≡ false
    there =
        subst (λ (e : Event). is_empty (entry_records entry.holds objects history
        (record { event = e; mail = mail; load = load })) ≡ false) next
        (ap (λ (ones : List Record). is_empty ones) (entry.are history before keeps put) ∙ some)

    by : (b : Bool) → reads ≡ Ok (if b then before else after)
        → OpensAs objects old.number
        (if b then history
        else taken_step objects old.number history input mail load ∷ history) reads
    by true was = record { entries = before; opens = was; keeps = keeps.keeps }
    by false now =
        record {
          entries = after;
          opens = now;
          keeps = entry_keeps objects input mail load plan known old mid new before knows are says
              stands may history keeps put;
        }

-- Where an append of records fails there are some.
pub some_records : (rs : List Record) (r : Result (Unit {0}) NodeFault)
    → (rs ≡ [] → IsOk r) → IsErrOf r DiskFault → is_empty rs ≡ false
some_records [] (Ok done) always failed = cc
some_records [] (Err fault) always failed = absurd (true≢false (sym (always refl)))
some_records (one ∷ rest) r always failed = refl
