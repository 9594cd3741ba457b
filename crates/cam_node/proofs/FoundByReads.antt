-- What a restart finds, by what the log reads.
use Rattle.std.proofs.Common.{◌≡◌, inl, inr, ℕ, ◌≤◌, ◌<◌, Bool, true, false, ◌&&◌, if◌then◌else◌, IsTrue, List, ◌∷◌, Option, Some, None, Ok, refl, sym, ap, ◌∙◌, subst, true≢false}
use Rattle.std.proofs.lemmas.Bool.{and_parts, cases_eq}
use Rattle.cam_type.specs.declared.ObjectDecl.{ObjectDecl}
use Rattle.cam_know.specs.Knowledge.{Knowledge}
use Rattle.cam_know.specs.Known.{counts_raised, known_count}
use Rattle.cam_event.specs.declared.Event.{Event}
use Rattle.cam_event.specs.ByDeltas.{Received, known}
use Rattle.cam_log.specs.Moments.{Opened}
use Rattle.cam_recman.specs.declared.Recovered.{Recovered}
use Rattle.cam_recman.specs.Says.{Says}
use Rattle.cam_recman.proofs.Said.{said_is_recovered}
use Rattle.cam_node.specs.declared.found.Found.{Found}
use Rattle.cam_node.specs.declared.restart.Reread.{Reread}
use Rattle.cam_node.specs.Appending.{OpensAs}
use Rattle.cam_node.specs.Found.{after_restarts, found_by, has_event, Adds, Decides, Counts, Secures, FindsBy, IsHaltedAt}
use Rattle.cam_node.specs.Halting.{taken}
use Rattle.cam_node.specs.Keeping.{IsLogOf}
use Rattle.cam_node.specs.Opened.{Rereads, logged_of, raised}
use Rattle.cam_node.specs.Represents.{Node}
use Rattle.cam_node.proofs.FoundEvents.{by_test, test}
use Rattle.cam_node.proofs.FoundLogs.{had_tells, holds_all, lost_has, none_new, tells_counts, tells_outcomes}
use Rattle.cam_node.proofs.HaltedKnows.{knows}
use Rattle.cam_node.proofs.HaltedSteps.{reads_said}

-- What opens as the log that was read keeps what that recovered.
log_of : (objects : List ObjectDecl) (s : ℕ) (history : List Received) (reads : Opened)
    (read : List (List ℕ)) (r : Recovered) → Says read r → Ok read ≡ reads
    → OpensAs objects s history reads → IsLogOf objects s history (logged_of r)
log_of objects s history reads read r says is opens =
    subst (IsLogOf objects s history)
    (sym (reads_said (λ t o. Unit {0}) 0 (logged_of r) (record {
      entries = read;
      opens = tt;
      recovered = r;
      recovers = (said_is_recovered read r says).0;
      is = refl;
    }) opens.entries opens.keeps.recovered (is ∙ opens.opens) opens.keeps.says))
    opens.keeps.is_log

module _ (objects : List ObjectDecl) (history : List Received) (whole : Received)
    (node : Node) (event : Event) (low : 1 ≤ node.number) (high : node.number ≤ 8)
    (halt : IsHaltedAt objects history whole node event) (r : Recovered)
    (less : r.count < 1000000000) where
  abbrev s : ℕ
  s = node.number

  abbrev had : List Received
  had = taken whole ∷ history

  known_had : known objects (whole ∷ history) ≡ known objects had
  known_had =
      sym (knows objects history whole node event low high halt r 0 less ∙ halt.know)

  -- A log keeps both histories only where the event adds nothing.
  adds_none : IsLogOf objects s history (logged_of r) → IsLogOf objects s had (logged_of r)
      → holds_all objects history whole node event low high halt r 0 less ≡ true
      → Adds objects history whole → ⊥
  adds_none lost log holds (Decides off) =
      off
      (ap (λ (k : Knowledge). k.outcomes) known_had
      ∙ sym log.keeps.outcomes ∙ lost.keeps.outcomes)
  adds_none lost log holds (Counts m first last off) =
      off
      (ap (λ (k : Knowledge). known_count k m) known_had ∙ same m first last)
    where
      same : (m : ℕ) → 1 ≤ m → m ≤ 8
          → known_count (known objects had) m ≡ known_count (known objects history) m
      same m first last =
          elim (cases_eq m s) [
            | inl own ↦ subst (λ (n : ℕ). known_count (known objects had) n ≡ known_count (known objects history) n) (sym own) (sym (log.keeps.own_known low high) ∙ lost.keeps.own_known low high)
            | inr other ↦ sym (log.keeps.other_counts m first last other) ∙ lost.keeps.other_counts m first last other
          ]
  adds_none lost log holds (Secures some) =
      true≢false
      (sym some
      ∙ none_new objects history whole node event low high halt r 0 less lost holds)

  pub finds_none : IsLogOf objects s history (logged_of r) → Adds objects history whole
      → test objects history whole node event low high halt r 0 less ≡ false
  finds_none lost adds =
      by_test (test objects history whole node event low high halt r 0 less)
      (λ met.
      let counts = tells_counts objects history whole node event low high halt r 0 less in
      let outcomes = tells_outcomes objects history whole node event low high halt r 0 less in
      let holds = holds_all objects history whole node event low high halt r 0 less in
      let all = and_parts (outcomes && counts) holds met in
      let parts = and_parts outcomes counts all.0 in
      absurd (adds_none lost
      (lost_has objects history whole node event low high halt r 0 less lost parts.0 parts.1 all.1)
      all.1 adds))
      (λ failed. failed)

-- So it is, whatever the node keeps of a halt.
finds_read : (objects : List ObjectDecl) (node : Node) (halted_at : Option Event)
    (reads : Opened) (read : List (List ℕ)) (r : Recovered)
    → (1 ≤ node.number) × (node.number ≤ 8) → Says read r → r.count < 1000000000
    → Ok read ≡ reads
    → FindsBy objects node.number node halted_at reads
    (found_by node halted_at (record {
      kept = raised node.number r;
      counts = counts_raised r.know.counts node.number r.count;
    }))
finds_read objects node None reads read r number says less is = refl
finds_read objects node (Some event) reads read r number says less is = λ history whole halt. (
  λ n opens.
      subst (λ (e : Event). answer e (found e) ≡ Some e) (sym halt.is_taken)
      (ap (answer (taken whole).event)
      (had_tells objects history whole node event number.0 number.1 halt r n less
      (log_of objects node.number (after_restarts objects node.number n (taken whole ∷ history))
      reads read r says is opens))),
  λ opens adds.
      subst (λ (e : Event). answer e (found e) ≡ None) (sym halt.is_taken)
      (ap (answer (taken whole).event)
      (finds_none objects history whole node event number.0 number.1 halt r less
      (log_of objects node.number history reads read r says is opens) adds)),
)
  where
    answer : Event → Bool → Option Event
    answer event b = if b then Some event else None

    found : Event → Bool
    found event =
        has_event node event (record {
          kept = raised node.number r;
          counts = counts_raised r.know.counts node.number r.count;
        })

pub finds_by : (objects : List ObjectDecl) (node : Node) (halted_at : Option Event)
    (reads : Opened) (tells : Bool) (now : List (List ℕ)) (reread : Reread) (found : Found)
    → (1 ≤ node.number) × (node.number ≤ 8)
    → Rereads objects node.number tells (λ opened. opened ≡ reads) now reread → IsTrue tells
    → found ≡ found_by node halted_at reread
    → FindsBy objects node.number node halted_at reads found
finds_by objects node halted_at reads tells now reread found number from told is =
    let done = from.restarts.restarted in
    subst (FindsBy objects node.number node halted_at reads) (sym is)
    (subst
    (λ (q : Reread). FindsBy objects node.number node halted_at reads (found_by node halted_at q))
    (λ i. record { kept = sym done.is i; counts = sym from.counts i })
    (finds_read objects node halted_at reads from.restarts.read done.recovered number done.says
    done.can.0 (from.restarts.was told)))
