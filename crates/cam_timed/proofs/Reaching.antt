-- Up to where nodes have heard of one another, after an event and after the arrival of a letter.
use Rattle.std.proofs.Common.{◌≡◌, ◌≤◌, ◌<◌, ◌⊎◌, inl, inr, ℕ, leb, max, Bool, true, false, List, ◌∷◌, ◌++◌, length, take, Some, sym, ap, ◌∙◌, subst, arith}
use Rattle.std.specs.List.{list_any}
use Rattle.std.proofs.lemmas.Bool.{or_right}
use Rattle.std.proofs.lemmas.Bool.Decides.{leb_tells}
use Rattle.std.proofs.lemmas.List.{length-append, take-append-le}
use Rattle.cam_names.specs.declared.name.Name.{Name}
use Rattle.cam_names.specs.Names.{name_eq}
use Rattle.cam_type.specs.declared.ObjectDecl.{ObjectDecl}
use Rattle.cam_event.specs.declared.Event.{Event}
use Rattle.cam_event.specs.declared.Deed.{Deed}
use Rattle.cam_event.specs.History.{after, committed, aborted, is_commit, is_abort, informed, is_inform}
use Rattle.cam_event.specs.ByPast.{own_past}
use Rattle.cam_event.specs.Pasts.{last_of, sender_of, holds, in_past}
use Rattle.cam_event.proofs.Agree.{any_after}
use Rattle.cam_event.proofs.NewestPasts.{plain_or}
use Rattle.cam_own.specs.Informed.{commits_of, aborts_of}
use Rattle.cam_timed.specs.declared.TimedEvent.{TimedEvent}
use Rattle.cam_timed.specs.declared.machine.Letter.{Letter}
use Rattle.cam_timed.specs.declared.machine.hearing.Reach.{Reach}
use Rattle.cam_timed.specs.Machine.{deeds_of, KeepsLetter}
use Rattle.cam_timed.specs.Moments.{events}
use Rattle.cam_timed.specs.Reaches.{HasHeard, IsReach}
use Rattle.cam_timed.specs.TimedRuns.{IsTimedRun}
use Rattle.cam_timed.specs.Travelling.{carrier, abort_paths, timed_informs}
use Rattle.cam_timed.proofs.Brought.{brought_aborts, brought_commits, letter_brings}
use Rattle.cam_timed.proofs.Holding.{TimedHolds}
use Rattle.cam_timed.proofs.RuleHolds.{timed_holds}
use Rattle.cam_timed.proofs.TakenOver.{deeds_mine}
use Rattle.cam_timed.proofs.Told.{first_by_told}
use Rattle.cam_timed.proofs.ToldNames.{Grown, aborts_after, commits_after}
use Rattle.cam_timed.proofs.WereTold.{WereTold, deeds_grown, were_told}

-- what a node was informed of it was informed of after more deeds
informed_after :
    (ds L : List Deed) (s : ℕ) (a : Name) (o : Bool) → informed L s a o ≡ true
    → informed (after L ds) s a o ≡ true
informed_after ds L s a o is =
    any_after (is_inform s a o) ds L
    ∙ or_right (list_any (is_inform s a o) ds) (informed L s a o) is

-- A list that has grown begins as before.
heard_grown :
    (t : List Event) (s : ℕ) (o : Bool) (old new : List Name) (n : ℕ) → Grown old new
    → n ≤ length old
    → ((a : Name) → list_any (name_eq a) (take n old) ≡ true → informed (deeds_of t s) s a o ≡ true)
    → HasHeard t s o new n
heard_grown t s o old new n grown few all =
    let long : length new ≡ length (old ++ grown.0) = ap length grown.1 in
    record {
      few = omega (arith, few, long, length-append old grown.0);
      informed_of = λ a there.
          all a (sym (ap (list_any (name_eq a))
          (ap (take n) grown.1 ∙ take-append-le n old grown.0 few)) ∙ there);
    }

-- what a node has heard of it has heard of after one more event
heard_still :
    (e : Event) (t : List Event) (s : ℕ) (o : Bool) (old new : List Name) (n : ℕ)
    → Grown old new → HasHeard t s o old n → HasHeard (e ∷ t) s o new n
heard_still e t s o old new n grown heard =
    heard_grown (e ∷ t) s o old new n grown heard.few (λ a there.
    let more = deeds_grown e t s in
    ap (λ (L : List Deed). informed L s a o) more.1
    ∙ informed_after more.0 (deeds_of t s) s a o (heard.informed_of a there))

-- and so are the lists of those of which another node was informed
commits_still : (e : Event) (t : List Event) (m : ℕ)
    → Grown (commits_of (deeds_of t m) m) (commits_of (deeds_of (e ∷ t) m) m)
commits_still e t m =
    let more = deeds_grown e t m in
    subst (λ (L : List Deed). Grown (commits_of (deeds_of t m) m) (commits_of L m)) (sym more.1)
    (commits_after more.0 (deeds_of t m) m)

aborts_still : (e : Event) (t : List Event) (m : ℕ)
    → Grown (aborts_of (deeds_of t m) m) (aborts_of (deeds_of (e ∷ t) m) m)
aborts_still e t m =
    let more = deeds_grown e t m in
    subst (λ (L : List Deed). Grown (aborts_of (deeds_of t m) m) (aborts_of L m)) (sym more.1)
    (aborts_after more.0 (deeds_of t m) m)

pub reach_still : (e : Event) (t : List Event) (m s : ℕ) (r : Reach) → IsReach t m s r
    → IsReach (e ∷ t) m s r
reach_still e t m s r reach = record {
  commits =
      heard_still e t s true (commits_of (deeds_of t m) m) (commits_of (deeds_of (e ∷ t) m) m)
      r.commits (commits_still e t m) reach.commits;
  aborts =
      heard_still e t s false (aborts_of (deeds_of t m) m) (aborts_of (deeds_of (e ∷ t) m) m)
      r.aborts (aborts_still e t m) reach.aborts;
}

-- the farther of two
pub heard_max : (t : List Event) (s : ℕ) (o : Bool) (names : List Name) (m n : ℕ)
    → HasHeard t s o names m → HasHeard t s o names n → HasHeard t s o names (max m n)
heard_max t s o names m n one other = by (leb_tells m n)
  where
    by : ((leb m n ≡ true) × (m ≤ n)) ⊎ ((leb m n ≡ false) × (n < m))
        → HasHeard t s o names (max m n)
    by (inl less) =
        let is : n ≡ max m n = omega (arith, less.1) in subst (HasHeard t s o names) is other
    by (inr more) =
        let is : m ≡ max m n = omega (arith, more.1) in subst (HasHeard t s o names) is one

-- After the first Informs of its arrival a node was informed of each commit that a letter brings,
commit_told :
    (objects : List ObjectDecl) (T : List TimedEvent) (s : ℕ) (letter : Letter) (a : Name)
    → IsTimedRun objects T → KeepsLetter T letter
    → list_any (name_eq a) (brought_commits (events T) letter) ≡ true
    → informed (after (deeds_of (events T) s) (timed_informs (events T) s (Some letter.id))) s a
    true ≡ true
commit_told objects T s letter a run keeps there =
    let t : List Event = events T in
    let told : TimedHolds objects t = timed_holds objects T run in
    let own : ℕ → Bool = λ i. holds (in_past t i) (last_of t s) in
    let sent : ℕ → Bool = λ i. holds (in_past t i) (sender_of (Some letter.id)) in
    let has = sym (letter_brings objects T letter a run keeps).commits ∙ there in
    first_by_told t (abort_paths t) s (Some letter.id) (carrier t (Some letter.id)) (deeds_of t s)
    (told.told s) a true
    ∙ plain_or (is_commit a) t own sent
    ∙ or_right (committed (own_past t s) a) _ has

-- and of each abort.
abort_told :
    (objects : List ObjectDecl) (T : List TimedEvent) (s : ℕ) (letter : Letter) (a : Name)
    → IsTimedRun objects T → KeepsLetter T letter
    → list_any (name_eq a) (brought_aborts (events T) letter) ≡ true
    → informed (after (deeds_of (events T) s) (timed_informs (events T) s (Some letter.id))) s a
    false ≡ true
abort_told objects T s letter a run keeps there =
    let t : List Event = events T in
    let u : List Event = abort_paths t in
    let by = carrier t (Some letter.id) in
    let told : TimedHolds objects t = timed_holds objects T run in
    let own : ℕ → Bool = λ i. holds (in_past u i) (last_of u s) in
    let sent : ℕ → Bool = λ i. holds (in_past u i) (sender_of by) in
    let has = sym (letter_brings objects T letter a run keeps).aborts ∙ there in
    first_by_told t u s (Some letter.id) by (deeds_of t s) (told.told s) a false
    ∙ plain_or (is_abort a) u own sent
    ∙ or_right (aborted (own_past u s) a) _ has

-- So after its arrival the node has heard of all that the letter brought.
pub letter_heard :
    (objects : List ObjectDecl) (T : List TimedEvent) (s : ℕ) (letter : Letter) (e : Event)
    (more : List Deed) → IsTimedRun objects T → KeepsLetter T letter → e.node ≡ s
    → e.deeds ≡ timed_informs (events T) s (Some letter.id) ++ more
    → IsReach (e ∷ events T) letter.mail.from s
    (record { commits = letter.commits; aborts = letter.aborts })
letter_heard objects T s letter e more run keeps mine are = record {
  commits =
      heard_grown (e ∷ t) s true (commits_of (deeds_of t m) m) (commits_of (deeds_of (e ∷ t) m) m)
      letter.commits (commits_still e t m) told.few_commits
      (λ a there. now a true (commit_told objects T s letter a run keeps there));
  aborts =
      heard_grown (e ∷ t) s false (aborts_of (deeds_of t m) m) (aborts_of (deeds_of (e ∷ t) m) m)
      letter.aborts (aborts_still e t m) told.few_aborts
      (λ a there. now a false (abort_told objects T s letter a run keeps there));
}
  where
    t : List Event
    t = events T

    m : ℕ
    m = letter.mail.from

    told : WereTold t letter
    told = were_told T letter keeps

    first : List Deed
    first = timed_informs t s (Some letter.id)

    deeds : deeds_of (e ∷ t) s ≡ after (after (deeds_of t s) first) more
    deeds =
        subst (λ (n : ℕ). deeds_of (e ∷ t) n ≡ after (after (deeds_of t n) first) more) mine
        (deeds_mine e t first more are)

    now : (a : Name) (o : Bool) → informed (after (deeds_of t s) first) s a o ≡ true
        → informed (deeds_of (e ∷ t) s) s a o ≡ true
    now a o is =
        ap (λ (L : List Deed). informed L s a o) deeds
        ∙ informed_after more (after (deeds_of t s) first) s a o is
