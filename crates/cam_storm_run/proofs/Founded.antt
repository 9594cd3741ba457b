-- Nodes that are founded over disks, and disks that are taken out of them: one more, the last; and
-- what stands at a place.
use Rattle.std.proofs.Common.{◌≡◌, ℕ, zero, suc, ◌+◌, ◌-◌, ◌<◌, ◌≤◌, Bool, true, false, ◌||◌, List, [], ◌∷◌, ◌++◌, length, get_or, map, inl, inr, Option, refl, sym, ap, ◌∙◌, subst, arith}
use Rattle.std.specs.Prelude.{Some, slice_get}
use Rattle.std.specs.Option.{option_map_or}
use Rattle.std.proofs.lemmas.List.{length-map}
use Rattle.std.proofs.lemmas.Bool.{cases_lt}
use Rattle.std.proofs.lemmas.Option.{none-some, same_Some, slice_get_read}
use Rattle.atomic_table.specs.Seated.{TableId}
use Rattle.cam_cluster.specs.HandedBack.{AreHandedBack}
use Rattle.cam_journal.specs.declared.entry.NumberedEvent.{NumberedEvent}
use Rattle.cam_journal.specs.Seats.{AreNew as AreNewSeats, Sitting}
use Rattle.cam_workers.specs.Standing.{AreStanding}
use Rattle.cam_storm_node.specs.Playing.{StormNodeFields}
use Rattle.cam_storm_run.specs.Disks.{AreNew, AreOut, count_at, HaveFailed, HaveFailedSince, IsOut}
use Rattle.cam_storm_run.proofs.Rested.{mapped_at}

module _ {N : Type 0} (is_new : N → ℕ → Type 0) where
  new_behind : (s : ℕ) (cores : List N) (core : N) → AreNew is_new s cores
      → is_new core (s + length cores) → AreNew is_new s (cores ++ core ∷ [])
  new_behind s [] core new last = (subst (is_new core) (omega arith) last, tt)
  new_behind s (c ∷ cores) core new last = (
    new.0,
    new_behind (s + 1) cores core new.1
        (subst (is_new core) (omega arith) last),
  )

  -- one more, the last
  pub new_last : (s number : ℕ) (cores all : List N) (core : N) → all ≡ cores ++ core ∷ []
      → number ≡ s + length cores → AreNew is_new s cores → is_new core number
      → AreNew is_new s all
  new_last s number cores all core all_is place new last =
      subst (AreNew is_new s) (sym all_is)
      (new_behind s cores core new (subst (is_new core) place last))

  new_at : (s : ℕ) (cores : List N) (at : ℕ) (core : N) → AreNew is_new s cores
      → slice_get cores at ≡ Some core → is_new core (s + at)
  new_at s [] at core new there = absurd (none-some core there)
  new_at s (c ∷ cores) zero core new there =
      subst (is_new core) (omega arith)
      (subst (λ (one : N). is_new one s) (same_Some c core there) new.0)
  new_at s (c ∷ cores) (suc at) core new there =
      subst (is_new core) (omega arith) (new_at (s + 1) cores at core new.1 there)

-- new cores and new seats stand for the nodes of a journal
pub standing : {N S E L : Type 0} (value : N → S)
    (is_replay : S → ℕ → List (NumberedEvent E L) → Type 0) (journal : TableId) (cores : List N)
    (seats : List (Sitting E L)) → length cores ≡ 4
    → AreNew (λ core s. is_replay (value core) s []) 1 cores → AreNewSeats journal 4 seats
    → AreStanding is_replay journal 4 (map value cores) seats
standing value is_replay journal cores seats four new new_seats = record {
  cores = length-map cores value ∙ four;
  seats = new_seats.count;
  each = λ at slot there.
      let core = mapped_at value cores at slot.core there.core in
      let seat = new_seats.each at slot.seat there.seat in
      record {
        own = seat.0;
        number = seat.1;
        replay =
            subst (is_replay slot.core (at + 1)) (sym seat.2)
            (subst (λ (c : _). is_replay c (at + 1) []) core.2
            (subst (λ (s : ℕ). is_replay (value core.0) s []) (omega arith)
            (new_at (λ c s. is_replay (value c) s []) 1 cores at core.0 new core.1)));
      };
}

module _ {D : Type 0} (faults_of : D → ℕ) (failures : ℕ → ℕ) where
  each_failed : (s : ℕ) (disks : List D)
      → ((at : ℕ) (disk : D) → slice_get disks at ≡ Some disk → failures (s + at) ≡ faults_of disk)
      → HaveFailed faults_of failures s disks
  each_failed s [] each = tt
  each_failed s (d ∷ disks) each = (
    ap failures (omega arith) ∙ each 0 d refl,
    each_failed (s + 1) disks
        (λ at disk there. ap failures (omega arith) ∙ each (suc at) disk there),
  )

  -- as often, so not less often
  pub since_then : (s : ℕ) (disks : List D) → HaveFailed faults_of failures s disks
      → HaveFailedSince faults_of failures s disks
  since_then s [] exact = tt
  since_then s (d ∷ disks) exact =
      (let first = exact.0 in omega (arith, first), since_then (s + 1) disks exact.1)

  since_front : (s : ℕ) (front : List D) (disk : D)
      → HaveFailedSince faults_of failures s (front ++ disk ∷ [])
      → HaveFailedSince faults_of failures s front
      × (failures (s + length front) ≤ faults_of disk)
  since_front s [] disk since =
      (tt, subst (λ (n : ℕ). failures n ≤ faults_of disk) (omega arith) since.0)
  since_front s (d ∷ front) disk since =
      let rest = since_front (s + 1) front disk since.1 in (
        (since.0, rest.0),
        subst (λ (n : ℕ). failures n ≤ faults_of disk) (omega arith) rest.1,
      )

  -- without the last
  pub since_less : (s number : ℕ) (all front : List D) (disk : D) → all ≡ front ++ disk ∷ []
      → number ≡ s + length front → HaveFailedSince faults_of failures s all
      → HaveFailedSince faults_of failures s front × (failures number ≤ faults_of disk)
  since_less s number all front disk all_is place since =
      let parts =
      since_front s front disk (subst (HaveFailedSince faults_of failures s) all_is since) in
      (parts.0, subst (λ (n : ℕ). failures n ≤ faults_of disk) (sym place) parts.1)

  since_behind : (s : ℕ) (front : List D) (disk : D)
      → HaveFailedSince faults_of failures s front
      → failures (s + length front) ≤ faults_of disk
      → HaveFailedSince faults_of failures s (front ++ disk ∷ [])
  since_behind s [] disk since last =
      (subst (λ (n : ℕ). failures n ≤ faults_of disk) (omega arith) last, tt)
  since_behind s (d ∷ front) disk since last = (
    since.0,
    since_behind (s + 1) front disk since.1
        (subst (λ (n : ℕ). failures n ≤ faults_of disk) (omega arith) last),
  )

  -- with one more, the last
  pub since_last : (s number : ℕ) (all front : List D) (disk : D) → all ≡ front ++ disk ∷ []
      → number ≡ s + length front → HaveFailedSince faults_of failures s front
      → failures number ≤ faults_of disk → HaveFailedSince faults_of failures s all
  since_last s number all front disk all_is place since last =
      subst (HaveFailedSince faults_of failures s) (sym all_is)
      (since_behind s front disk since
      (subst (λ (n : ℕ). failures n ≤ faults_of disk) place last))

  -- disks that have failed just so often come back as disks that have not failed less often
  pub handed_back : (tells : D → Bool) → ((disk : D) → tells disk ≡ true) → (s : ℕ)
      (olds news : List D) → length news ≡ length olds → HaveFailed faults_of failures s olds
      → HaveFailedSince faults_of failures s news → AreHandedBack tells faults_of olds news
  handed_back tells always s [] [] long exact since = tt
  handed_back tells always s [] (new ∷ news) long exact since = absurd (omega arith)
  handed_back tells always s (old ∷ olds) [] long exact since = absurd (omega arith)
  handed_back tells always s (old ∷ olds) (new ∷ news) long exact since = (
    record {
      told = always new ∙ sym (always old);
      later = let was = exact.0 in let is = since.0 in omega (arith, was, is);
    },
    handed_back tells always (s + 1) olds news (omega arith) exact.1 since.1,
  )

module _ {N D : Type 0} (fields : N → StormNodeFields) (faults_of : D → ℕ) (moment : D → ℕ)
    (left_since : D → ℕ → List ℕ → Type 0) where
  out_behind : (nodes : List N) (disks : List D) (node : N) (disk : D)
      → AreOut fields faults_of moment left_since nodes disks
      → IsOut faults_of moment left_since (fields node) disk
      → AreOut fields faults_of moment left_since (nodes ++ node ∷ []) (disks ++ disk ∷ [])
  out_behind [] [] node disk out last = (last, tt)
  out_behind [] (d ∷ disks) node disk out last = absurd out
  out_behind (n ∷ nodes) [] node disk out last = absurd out
  out_behind (n ∷ nodes) (d ∷ disks) node disk out last =
      (out.0, out_behind nodes disks node disk out.1 last)

  -- one more is taken out, the last
  pub out_last : (nodes all : List N) (disks now : List D) (node : N) (disk : D)
      → all ≡ nodes ++ node ∷ [] → now ≡ disks ++ disk ∷ []
      → AreOut fields faults_of moment left_since nodes disks
      → IsOut faults_of moment left_since (fields node) disk
      → AreOut fields faults_of moment left_since all now
  out_last nodes all disks now node disk all_is now_is out last =
      subst (λ (z : List N × List D). AreOut fields faults_of moment left_since z.0 z.1)
      (sym (λ i. (all_is i, now_is i))) (out_behind nodes disks node disk out last)

  -- they have failed no less often than the nodes knew
  pub out_since : (failures : ℕ → ℕ) (s : ℕ) (nodes : List N) (disks : List D)
      → AreOut fields faults_of moment left_since nodes disks
      → ((at : ℕ) (node : N) → slice_get nodes at ≡ Some node
      → failures (s + at) ≤ (fields node).faults)
      → HaveFailedSince faults_of failures s disks
  out_since failures s [] [] out knew = tt
  out_since failures s [] (d ∷ disks) out knew = absurd out
  out_since failures s (n ∷ nodes) [] out knew = absurd out
  out_since failures s (n ∷ nodes) (d ∷ disks) out knew = (
    (let first : failures s ≤ (fields n).faults =
        subst (λ (k : ℕ). failures k ≤ (fields n).faults) (omega arith) (knew 0 n refl) in
        let same = out.0.faults in
        omega (arith, first, same)),
    out_since failures (s + 1) nodes disks out.1
        (λ at node there.
        subst (λ (k : ℕ). failures k ≤ (fields node).faults) (omega arith)
        (knew (suc at) node there)),
  )

-- disks have failed as often as is counted of them
pub as_counted : {D : Type 0} (faults_of : D → ℕ) (disks : List D)
    → HaveFailed faults_of (count_at faults_of disks) 1 disks
as_counted faults_of disks =
    each_failed faults_of (count_at faults_of disks) 1 disks
    (λ at disk there.
    let place : 1 + at - 1 ≡ at = omega arith in
    ap (λ (k : ℕ). option_map_or faults_of (slice_get disks k) 0) place
    ∙ ap (λ (o : Option _). option_map_or faults_of o 0) there)

-- a node that is not over is not halted
pub awake : (lost halted : Bool) → (lost || halted) ≡ false → halted ≡ false
awake true halted on = absurd (cc)
awake false halted on = on

-- none of so many nodes is over, nor the next
pub one_more_runs : {N : Type 0} (over : N → Bool) (nodes : List N) (many : ℕ) (item : N)
    (result : Bool) → many < length nodes → item ≡ get_or nodes many item → result ≡ over item
    → result ≡ false
    → ((at : ℕ) (node : N) → at < many → slice_get nodes at ≡ Some node → over node ≡ false)
    → (at : ℕ) (node : N) → at < many + 1 → slice_get nodes at ≡ Some node → over node ≡ false
one_more_runs over nodes many item result within is tested runs below at node less there =
    elim (cases_lt at many) [
      | inl under ↦ below at node under there
      | inr past ↦
          let place : at ≡ many = omega (arith, less, past) in
          let same : node ≡ item =
          same_Some node item
          (sym there ∙ ap (slice_get nodes) place
          ∙ slice_get_read nodes (length nodes) many item refl within is) in
          ap over same ∙ sym tested ∙ runs
    ]
