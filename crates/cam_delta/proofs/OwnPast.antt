-- On runs what a node knows is what stands in the past of its last event.
use Rattle.std.proofs.Common.{◌≡◌, ℕ, Bool, true, ◌||◌, List, [], ◌∷◌, refl, sym, ap, ◌∙◌, subst}
use Rattle.std.specs.Prelude.{flat_map}
use Rattle.std.specs.List.{list_any}
use Rattle.cam_names.specs.declared.name.Name.{Name}
use Rattle.cam_names.specs.Names.{name_eq}
use Rattle.cam_names.specs.Dependencies.{as_counts}
use Rattle.cam_type.specs.declared.ObjectDecl.{ObjectDecl}
use Rattle.cam_know.specs.declared.Outcome.{Outcome}
use Rattle.cam_know.specs.declared.Outcome.TheVariants.{Aborted, Committed}
use Rattle.cam_know.specs.Knowledge.{Knowledge}
use Rattle.cam_know.specs.Known.{knows, is_abort_of, is_commit_of, IsSame}
use Rattle.cam_know.proofs.OrphanBySet.{both_ways}
use Rattle.cam_event.specs.declared.Event.{Event}
use Rattle.cam_event.specs.declared.Deed.{Deed}
use Rattle.cam_event.specs.declared.Deed.TheVariants.{Create, Ask, Call, Perform, Bounce, Got, AskCommit, AskAbort, Commit, Abort, Secure, Inform, Crash}
use Rattle.cam_event.specs.History.{committed, aborted, is_abort, is_commit}
use Rattle.cam_event.specs.Gained.{deps}
use Rattle.cam_event.specs.Pasts.{last_of, holds, in_past, plain, plain_all, IsClosed}
use Rattle.cam_event.specs.ByPast.{own_past, outcome_in, told}
use Rattle.cam_event.specs.Agreement.{AreSent}
use Rattle.cam_event.proofs.Members.{In}
use Rattle.cam_event.proofs.ClosedPasts.{past_is_closed, closed_held}
use Rattle.cam_event.proofs.SameOutcomes.{held_and_brought}
use Rattle.cam_event.proofs.Decisions.{tells_aborts, tells_commits}
use Rattle.cam_event.proofs.SameCounts.{held_and_brought_counts}
use Rattle.cam_plain.proofs.Deciding.{committed_asked}
use Rattle.cam_cut.proofs.Holds.{RunHolds}
use Rattle.cam_agree.proofs.Ran.{Ran, ran_holds, ran_sent, ran_alone, plain_ran}
use Rattle.cam_agree.proofs.DepsPairs.{counts_same}
use Rattle.cam_agree.proofs.DepsWhole.{asked_same}
use Rattle.cam_agree.proofs.DepsKnown.{IsTold, held_tell}
use Rattle.cam_agree.proofs.DepsAgreed.{commit_known, known_commit, known_in, in_known, told_in, in_told, aborts_any}
use Rattle.cam_event.specs.ByDeltas.{known}
use Rattle.cam_delta.specs.Laws.{KnownIsThePast}
use Rattle.cam_delta.proofs.Addressed.{ran_addressed}
use Rattle.cam_delta.proofs.Growing.{history, listed}
use Rattle.cam_delta.proofs.SameHistories.{Alike, same_alike}
use Rattle.cam_delta.proofs.SameKnown.{whole, nodes_know_the_same}

-- what a history tells is aborted in it
pub told_aborts : (objects : List ObjectDecl) (W L : List Deed) (a : Name) → list_any (is_abort_of a) (flat_map (outcome_in objects W) L) ≡ aborted L a
told_aborts objects W [] a = refl
told_aborts objects W (Abort b ∷ L) a = ap (λ r. name_eq a b || r) (told_aborts objects W L a)
told_aborts objects W (Commit b ∷ L) a = told_aborts objects W L a
told_aborts objects W (Create b ∷ L) a = told_aborts objects W L a
told_aborts objects W (Ask b c ∷ L) a = told_aborts objects W L a
told_aborts objects W (Call b n x op c ∷ L) a = told_aborts objects W L a
told_aborts objects W (Perform b n answer ∷ L) a = told_aborts objects W L a
told_aborts objects W (Bounce b n u ∷ L) a = told_aborts objects W L a
told_aborts objects W (Got b n seen ∷ L) a = told_aborts objects W L a
told_aborts objects W (AskCommit b v ∷ L) a = told_aborts objects W L a
told_aborts objects W (AskAbort b ∷ L) a = told_aborts objects W L a
told_aborts objects W (Secure f s c ∷ L) a = told_aborts objects W L a
told_aborts objects W (Inform s b outcome ∷ L) a = told_aborts objects W L a
told_aborts objects W (Crash s ∷ L) a = told_aborts objects W L a

-- where letters carry all
whole_is_past : (objects : List ObjectDecl) (t : List Event) (s : ℕ) → Ran objects t → IsSame (whole objects t s) (told objects (own_past t s))
whole_is_past objects t s run = record { outcomes = same; counts = (held_and_brought_counts objects t sent (ran_alone objects t run)).0 s }
  where
    run_is : RunHolds objects t
    run_is = ran_holds objects t run

    sent : AreSent t
    sent = ran_sent objects t run

    S : ℕ → Bool
    S i = holds (in_past t i) (last_of t s)

    L : List Deed
    L = plain t S

    K : Knowledge
    K = whole objects t s

    closed : IsClosed t S
    closed = closed_held t (last_of t s) (past_is_closed t run_is.ordered)

    final : (b : Name) → committed L b ≡ true → as_counts (deps objects L b) ≡ as_counts (deps objects (plain_all t) b)
    final b h = counts_same (deps objects L b) (deps objects (plain_all t) b) (asked_same objects t S b run_is closed (committed_asked objects L b (run_is.legal S closed) h))

    is_told : (b : Name) (counts : List ℕ) → In (Committed b counts) K.outcomes → IsTold objects t b counts
    is_told = (held_tell objects t run).0 s

    abort_same : (a : Name) → list_any (is_abort_of a) K.outcomes ≡ aborted L a
    abort_same a = (held_and_brought (is_abort a) (is_abort_of a) (tells_aborts a) objects t sent).0 s

    commit_same : (a : Name) → list_any (is_commit_of a) K.outcomes ≡ committed L a
    commit_same a = (held_and_brought (is_commit a) (is_commit_of a) (tells_commits a) objects t sent).0 s

    same : (o : Outcome) → knows K o ≡ knows (told objects L) o
    same (Aborted a) = aborts_any a K.outcomes ∙ abort_same a ∙ sym (told_aborts objects L L a) ∙ sym (aborts_any a (told objects L).outcomes)
    same (Committed b counts) = both_ways (knows K (Committed b counts)) (knows (told objects L) (Committed b counts)) to back
      where
        to : knows K (Committed b counts) ≡ true → knows (told objects L) (Committed b counts) ≡ true
        to h =
            let i : In (Committed b counts) K.outcomes = known_in K (Committed b counts) h in
            let commits : committed L b ≡ true = sym (commit_same b) ∙ known_commit K b counts i in
            in_known (told objects L) (Committed b counts) (subst (λ cs. In (Committed b cs) (told objects L).outcomes) (final b commits ∙ sym (is_told b counts i).final) (in_told objects L b commits))

        back : knows (told objects L) (Committed b counts) ≡ true → knows K (Committed b counts) ≡ true
        back h =
            let i : In (Committed b counts) (told objects L).outcomes = known_in (told objects L) (Committed b counts) h in
            let is = told_in objects L b counts i in
            let other = commit_known K b (commit_same b ∙ is.0) in
            in_known K (Committed b counts) (subst (λ cs. In (Committed b cs) K.outcomes) ((is_told b other.0 other.1).final ∙ sym (final b is.0) ∙ sym is.1) other.1)

-- where letters carry what is not acknowledged
pub ran_known : (objects : List ObjectDecl) (t : List Event) (s : ℕ) → Ran objects t → IsSame (known objects (history objects t s)) (told objects (own_past t s))
ran_known objects t s run =
    let one = nodes_know_the_same objects t s (ran_addressed objects t run) in
    let other = whole_is_past objects t s run in
    record { outcomes = λ o. one.outcomes o ∙ other.outcomes o; counts = one.counts ∙ other.counts }

-- of runs without a halt
pub known_is_the_past : KnownIsThePast
known_is_the_past objects t s run = ran_known objects t s (plain_ran objects t run)

pub listed_told : (objects : List ObjectDecl) (t : List Event) (s : ℕ) → Ran objects t → Alike (known objects (history objects t s)) (told objects (own_past t s))
listed_told objects t s run = same_alike (known objects (history objects t s)) (told objects (own_past t s)) (ran_known objects t s run)

-- each commit in a node's list has what its action depends on in the end
pub listed_final : (objects : List ObjectDecl) (t : List Event) (s : ℕ) → Ran objects t → (b : Name) (counts : List ℕ) → In (Committed b counts) (listed objects t s) → counts ≡ as_counts (deps objects (plain_all t) b)
listed_final objects t s run b counts i =
    let one : Alike (known objects (history objects t s)) (whole objects t s) = same_alike (known objects (history objects t s)) (whole objects t s) (nodes_know_the_same objects t s (ran_addressed objects t run)) in
    ((held_tell objects t run).0 s b counts (one.to (Committed b counts) i)).final
