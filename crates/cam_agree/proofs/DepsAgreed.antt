-- On runs a letter carries the same by either reading: the same outcomes, each commit with the same dependencies, and the same counts.
use Rattle.std.proofs.Common.{◌≡◌, inl, inr, ℕ, Bool, true, false, ◌||◌, List, [], ◌∷◌, Some, refl, sym, ap, ◌∙◌, subst, is_some}
use Rattle.std.specs.List.{list_any}
use Rattle.std.proofs.lemmas.Bool.{true≢false}
use Rattle.cam_names.specs.declared.name.Name.{Name}
use Rattle.cam_names.specs.Names.{name_eq}
use Rattle.cam_names.specs.Dependencies.{as_counts}
use Rattle.cam_names.proofs.Names.{name_eq_same, name_eq_refl}
use Rattle.cam_type.specs.declared.ObjectDecl.{ObjectDecl}
use Rattle.cam_know.specs.declared.Outcome.{Outcome}
use Rattle.cam_know.specs.declared.Outcome.TheVariants.{Aborted, Committed}
use Rattle.cam_know.specs.Knowledge.{Knowledge}
use Rattle.cam_know.specs.Known.{outcome_eq, knows, knows_commit, is_abort_of, is_commit_of, IsSame}
use Rattle.cam_know.proofs.Outcomes.{outcome_eq_same, outcome_eq_refl}
use Rattle.cam_event.specs.declared.Deed.{Deed}
use Rattle.cam_event.specs.declared.Deed.TheVariants.{Create, Ask, Call, Perform, Bounce, Got, AskCommit, AskAbort, Commit, Abort, Secure, Inform, Crash}
use Rattle.cam_event.specs.History.{committed, is_commit}
use Rattle.cam_event.specs.Gained.{deps}
use Rattle.cam_event.specs.Pasts.{in_past, plain, plain_all, IsClosed}
use Rattle.cam_event.specs.Inputs.{letter_at}
use Rattle.cam_event.specs.ByPast.{outcome_in, told}
use Rattle.cam_event.specs.ByKnowledge.{carried_by, carried_of}
use Rattle.cam_event.specs.Agreement.{AreSent, LettersAgree}
use Rattle.cam_event.proofs.Members.{In, in_any, any_in}
use Rattle.cam_event.proofs.ClosedPasts.{past_is_closed}
use Rattle.cam_event.proofs.SameOutcomes.{aborts_agree, commits_agree}
use Rattle.cam_event.proofs.SameCounts.{counts_agree}
use Rattle.cam_plain.proofs.Deciding.{committed_asked}
use Rattle.cam_cut.proofs.Lists.{in_flat, flat_in}
use Rattle.cam_cut.proofs.Holds.{RunHolds}
use Rattle.cam_know.proofs.OrphanBySet.{both_ways}
use Rattle.cam_agree.proofs.DepsPairs.{counts_same}
use Rattle.cam_agree.proofs.DepsWhole.{asked_same}
use Rattle.cam_agree.proofs.DepsKnown.{IsTold, held_tell}
use Rattle.cam_agree.proofs.Ran.{ran_holds, ran_sent, ran_alone, plain_ran, Ran}
use Rattle.cam_event.specs.declared.Event.{Event}
use Rattle.cam_event.specs.Readings.{by_whole_letters, told_at}
use Rattle.cam_event.specs.declared.LetterId.{LetterId}

-- a known commit is one of the outcomes
pub commit_known : (k : Knowledge) (b : Name) → knows_commit k b ≡ true → (counts : List ℕ) × In (Committed b counts) k.outcomes
commit_known k b h = let found = any_in (is_commit_of b) k.outcomes h in by found.0 found.1 found.2
  where
    by : (o : Outcome) → In o k.outcomes → is_commit_of b o ≡ true → (counts : List ℕ) × In (Committed b counts) k.outcomes
    by (Aborted a) i e = cc
    by (Committed a counts) i e = (counts, subst (λ x. In (Committed x counts) k.outcomes) (sym (name_eq_same b a e)) i)

pub known_commit : (k : Knowledge) (b : Name) (counts : List ℕ) → In (Committed b counts) k.outcomes → knows_commit k b ≡ true
known_commit k b counts i = in_any (is_commit_of b) k.outcomes (Committed b counts) i (name_eq_refl b)

-- an outcome is known where it is among the outcomes
pub known_in : (k : Knowledge) (o : Outcome) → knows k o ≡ true → In o k.outcomes
known_in k o h = let found = any_in (outcome_eq o) k.outcomes h in subst (λ x. In x k.outcomes) (sym (outcome_eq_same o found.0 found.2)) found.1

pub in_known : (k : Knowledge) (o : Outcome) → In o k.outcomes → knows k o ≡ true
in_known k o i = in_any (outcome_eq o) k.outcomes o i (outcome_eq_refl o)

abbrev name_in : Outcome → Name
name_in (Aborted a) = a
name_in (Committed a cs) = a

abbrev counts_in : Outcome → List ℕ
counts_in (Aborted a) = []
counts_in (Committed a cs) = cs

abbrev is_aborted : Outcome → Bool
is_aborted (Aborted a) = true
is_aborted (Committed a cs) = false

-- the commits that a history tells
pub told_in : (objects : List ObjectDecl) (L : List Deed) (b : Name) (counts : List ℕ) → In (Committed b counts) (told objects L).outcomes → (committed L b ≡ true) × (counts ≡ as_counts (deps objects L b))
told_in objects L b counts h = let found = flat_in (outcome_in objects L) L (Committed b counts) h in by found.0 found.1 found.2
  where
    by : (d : Deed) → In d L → In (Committed b counts) (outcome_in objects L d) → (committed L b ≡ true) × (counts ≡ as_counts (deps objects L b))
    by (Commit a) i (inl e) =
        let same : b ≡ a = ap name_in e in
        (in_any (is_commit b) L (Commit a) i (subst (λ x. name_eq b x ≡ true) same (name_eq_refl b)), ap counts_in e ∙ ap (λ x. as_counts (deps objects L x)) (sym same))
    by (Commit a) i (inr r) = absurd r
    by (Abort a) i (inl e) = absurd (true≢false (sym (ap is_aborted e)))
    by (Abort a) i (inr r) = absurd r
    by (Create a) i j = absurd j
    by (Ask a c) i j = absurd j
    by (Call a n x op c) i j = absurd j
    by (Perform a n answer) i j = absurd j
    by (Bounce a n u) i j = absurd j
    by (Got a n seen) i j = absurd j
    by (AskCommit a v) i j = absurd j
    by (AskAbort a) i j = absurd j
    by (Secure f s c) i j = absurd j
    by (Inform s a outcome) i j = absurd j
    by (Crash s) i j = absurd j

pub in_told : (objects : List ObjectDecl) (L : List Deed) (b : Name) → committed L b ≡ true → In (Committed b (as_counts (deps objects L b))) (told objects L).outcomes
in_told objects L b h = let found = any_in (is_commit b) L h in by found.0 found.1 found.2
  where
    by : (d : Deed) → In d L → is_commit b d ≡ true → In (Committed b (as_counts (deps objects L b))) (told objects L).outcomes
    by (Commit a) i e =
        in_flat (outcome_in objects L) L (Commit a) (Committed b (as_counts (deps objects L b))) i
        (inl (ap (λ x. Committed x (as_counts (deps objects L x))) (name_eq_same b a e)))
    by _ i e = cc

pub aborts_any : (a : Name) (os : List Outcome) → list_any (outcome_eq (Aborted a)) os ≡ list_any (is_abort_of a) os
aborts_any a [] = refl
aborts_any a (Aborted b ∷ os) = ap (λ r. name_eq a b || r) (aborts_any a os)
aborts_any a (Committed b counts ∷ os) = aborts_any a os

-- A letter carries the same by either reading.
pub ran_letters : (objects : List ObjectDecl) (t : List Event) (letter : LetterId) → Ran objects t → is_some (letter_at t letter) ≡ true → IsSame ((by_whole_letters objects).carried t letter).know (told_at objects t letter)
ran_letters objects t letter run there = record { outcomes = same; counts = counts_agree objects t letter sent (ran_alone objects t run) there }
  where
    holds : RunHolds objects t
    holds = ran_holds objects t run

    sent : AreSent t
    sent = ran_sent objects t run

    S : ℕ → Bool
    S i = in_past t i letter.event

    L : List Deed
    L = plain t S

    K : Knowledge
    K = carried_by objects (carried_of objects t) (Some letter) (letter_at t letter)

    closed : IsClosed t S
    closed = past_is_closed t holds.ordered letter.event

    final : (b : Name) → committed L b ≡ true → as_counts (deps objects L b) ≡ as_counts (deps objects (plain_all t) b)
    final b h = counts_same (deps objects L b) (deps objects (plain_all t) b) (asked_same objects t S b holds closed (committed_asked objects L b (holds.legal S closed) h))

    is_told : (b : Name) (counts : List ℕ) → In (Committed b counts) K.outcomes → IsTold objects t b counts
    is_told = (held_tell objects t run).1 (Some letter) there

    same : (o : Outcome) → knows K o ≡ knows (told objects L) o
    same (Aborted a) = aborts_any a K.outcomes ∙ aborts_agree objects t letter a sent there ∙ sym (aborts_any a (told objects L).outcomes)
    same (Committed b counts) = both_ways (knows K (Committed b counts)) (knows (told objects L) (Committed b counts)) to back
      where
        to : knows K (Committed b counts) ≡ true → knows (told objects L) (Committed b counts) ≡ true
        to h =
            let i : In (Committed b counts) K.outcomes = known_in K (Committed b counts) h in
            let other = commit_known (told objects L) b (sym (commits_agree objects t letter b sent there) ∙ known_commit K b counts i) in
            let commits : committed L b ≡ true = (told_in objects L b other.0 other.1).0 in
            in_known (told objects L) (Committed b counts) (subst (λ cs. In (Committed b cs) (told objects L).outcomes) (final b commits ∙ sym (is_told b counts i).final) (in_told objects L b commits))

        back : knows (told objects L) (Committed b counts) ≡ true → knows K (Committed b counts) ≡ true
        back h =
            let i : In (Committed b counts) (told objects L).outcomes = known_in (told objects L) (Committed b counts) h in
            let is = told_in objects L b counts i in
            let other = commit_known K b (commits_agree objects t letter b sent there ∙ known_commit (told objects L) b counts i) in
            in_known K (Committed b counts) (subst (λ cs. In (Committed b cs) K.outcomes) ((is_told b other.0 other.1).final ∙ sym (final b is.0) ∙ sym is.1) other.1)

-- of runs without a halt
pub letters_agree : LettersAgree
letters_agree objects t letter run = ran_letters objects t letter (plain_ran objects t run)
