-- A restart takes what a log keeps of a history, where numbers are left.
use Rattle.std.proofs.Common.{◌≡◌, inl, inr, ℕ, ◌+◌, ◌-◌, ◌≤◌, ◌<◌, true, List, map, refl, sym, ap, subst, arith, max}
use Rattle.std.specs.Prelude.{nat_le, slice_index}
use Rattle.std.proofs.lemmas.Bool.{cases_lt, cases_eq, le-leb}
use Rattle.std.proofs.lemmas.List.{get_or_past, get_or-set_same, get_or-set_other}
use Rattle.cam_names.specs.Dependencies.{pairs_of}
use Rattle.cam_type.specs.declared.ObjectDecl.{ObjectDecl}
use Rattle.cam_know.specs.Knowledge.{Knowledge}
use Rattle.cam_know.specs.declared.Outcome.{Outcome}
use Rattle.cam_know.specs.declared.Outcome.TheVariants.{Aborted, Committed}
use Rattle.cam_know.specs.Known.{known_count, with_count, counts_raised}
use Rattle.cam_event.specs.HeldSites.{site}
use Rattle.cam_event.specs.ByDeltas.{Received, as_carried, known}
use Rattle.cam_event.proofs.Members.{In}
use Rattle.cam_cut.proofs.Lists.{all_in}
use Rattle.cam_log.specs.Moments.{Opened}
use Rattle.cam_recman.specs.declared.Recovered.{Recovered}
use Rattle.cam_node.specs.Halting.{IsEnded}
use Rattle.cam_node.specs.Keeping.{IsLogOf}
use Rattle.cam_node.specs.Lawful.{is_known_outcome}
use Rattle.cam_node.specs.Log.{Logged}
use Rattle.cam_node.specs.Opened.{MayRead, MayRestart, logged_of}
use Rattle.cam_node.specs.Restartable.{depend_on_known}
use Rattle.cam_node.specs.RestartLaws.{IsOfHistory, LogsOfHistoriesRestart}
use Rattle.cam_node.proofs.Covered.{IsCovered}
use Rattle.cam_node.proofs.CoveredHistories.{ended_covered}
use Rattle.cam_node.proofs.Restorable.{held_is_restorable}
use Rattle.cam_node.proofs.SoundHistories.{IsSoundAfter, ended_sound}

-- With its own count the log has each count that the node knows.
at_least : (objects : List ObjectDecl) (s : ℕ) (history : List Received) (r : Recovered) → 1 ≤ s
    → s ≤ 8 → IsLogOf objects s history (logged_of r) → (j : ℕ)
    → slice_index (known objects history).counts j
    ≤ slice_index (counts_raised r.know.counts s r.count) j
at_least objects s history r low high log j =
    elim (cases_lt j 8) [
      | inl below ↦
          elim (cases_eq j (s - 1)) [
            | inl same ↦ own same
            | inr other ↦ another below other
          ]
      | inr past ↦
          let none = get_or_past (known objects history).counts j 0
          (let eight = log.known.counts.eight in omega (arith, eight, past)) in
          omega (arith, none)
    ]
  where
    own : j ≡ s - 1
        → slice_index (known objects history).counts j
        ≤ slice_index (counts_raised r.know.counts s r.count) j
    own same =
        let eight = log.recovered.counts.eight in
        let raised : slice_index (counts_raised r.know.counts s r.count) (s - 1)
        ≡ max (slice_index r.know.counts (s - 1)) r.count =
        get_or-set_same r.know.counts (s - 1) (max (slice_index r.know.counts (s - 1)) r.count) 0
        (omega (arith, low, high, eight)) in
        let is = log.keeps.own_known low high in
        subst
        (λ (i : ℕ). slice_index (known objects history).counts i
        ≤ slice_index (counts_raised r.know.counts s r.count) i)
        (sym same) (omega (arith, raised, is))

    another : j < 8 → (j ≡ s - 1 → ⊥)
        → slice_index (known objects history).counts j
        ≤ slice_index (counts_raised r.know.counts s r.count) j
    another below other =
        let back : j ≡ (j + 1) - 1 = omega arith in
        let stays : slice_index (counts_raised r.know.counts s r.count) j
        ≡ slice_index r.know.counts j =
        get_or-set_other r.know.counts (s - 1) j
        (max (slice_index r.know.counts (s - 1)) r.count) 0 other in
        let is = log.keeps.other_counts (j + 1) (omega arith) (omega (arith, below))
        (λ e. other (omega (arith, e))) in
        let one : slice_index r.know.counts j ≡ known_count r.know (j + 1) =
        ap (slice_index r.know.counts) back in
        let two : slice_index (known objects history).counts j
        ≡ known_count (known objects history) (j + 1) =
        ap (slice_index (known objects history).counts) back in
        omega (arith, stays, is, one, two)

depends : (objects : List ObjectDecl) (s : ℕ) (history : List Received) (r : Recovered) → 1 ≤ s
    → s ≤ 8 → IsEnded objects s history → IsLogOf objects s history (logged_of r)
    → depend_on_known s r ≡ true
depends objects s history r low high ended log =
    all_in (is_known_outcome k) r.know.outcomes by
  where
    k : Knowledge
    k = with_count s r.count r.know

    covered : IsCovered objects s (map as_carried history)
    covered = ended_covered objects s low high history ended

    by : (o : Outcome) → In o r.know.outcomes → is_known_outcome k o ≡ true
    by (Aborted a) i = refl
    by (Committed a counts) i =
        all_in (λ q. nat_le q.1 (known_count k q.0)) (pairs_of counts)
        (λ p j.
        let there : In (Committed a counts) (known objects history).outcomes =
        subst (λ (os : List Outcome). In (Committed a counts) os) log.keeps.outcomes i in
        let one = covered.outcomes a counts p there j in
        let more = at_least objects s history r low high log (p.0 - 1) in
        le-leb p.1 (known_count k p.0) (omega (arith, one, more)))

pub logs_of_histories_restart : LogsOfHistoriesRestart
logs_of_histories_restart objects s r low high of =
    let sound : IsSoundAfter objects s of.history = ended_sound objects s of.history of.ended in
    let both =
    held_is_restorable objects s _ sound.owner (site (map as_carried of.history)).secured r.held
    sound.groups sound.once of.is_log.keeps.secured of.is_log.keeps.order of.numbers.indices in (
      of.numbers.count,
      both.0,
      of.numbers.indices,
      both.1,
      depends objects s of.history r low high of.ended of.is_log,
    )

-- So a restart takes what may be read, where all of it is of histories.
pub may_restart : (objects : List ObjectDecl) (s : ℕ) (since : ℕ → Opened → Type 0) (t : ℕ)
    (opened : Opened) → (1 ≤ s) × (s ≤ 8)
    → ((logged : Logged) → MayRead since t logged → IsOfHistory objects s logged)
    → since t opened → MayRestart objects s opened
may_restart objects s since t opened node of opens entries r is recovers =
    logs_of_histories_restart objects s r node.0 node.1
    (of (logged_of r) (record {
      entries = entries;
      opens = subst (since t) is opens;
      recovered = r;
      recovers = recovers;
      is = refl;
    }))
