-- How many outcomes stand in a past, and that each stands in it once: so the length of a node's list
-- is their number.
use Rattle.std.proofs.Common.{◌≡◌, inl, inr, ℕ, true, List, [], ◌∷◌, length, refl, sym, ◌∙◌, arith, subst}
use Rattle.std.specs.Prelude.{flat_map}
use Rattle.std.proofs.lemmas.Bool.{or_parts, true≢false}
use Rattle.cam_names.specs.Dependencies.{as_counts}
use Rattle.cam_names.proofs.Names.{name_eq_refl}
use Rattle.cam_type.specs.declared.ObjectDecl.{ObjectDecl}
use Rattle.cam_know.specs.declared.Outcome.{Outcome}
use Rattle.cam_know.specs.declared.Outcome.TheVariants.{Aborted, Committed}
use Rattle.cam_event.specs.declared.Event.{Event}
use Rattle.cam_event.specs.declared.Deed.{Deed}
use Rattle.cam_event.specs.declared.Deed.TheVariants.{Create, Ask, Call, Perform, Bounce, Got, AskCommit, AskAbort, Commit, Abort, Secure, Inform, Crash}
use Rattle.cam_event.specs.History.{committed, aborted, is_abort, is_commit, number_of}
use Rattle.cam_event.specs.Gained.{deps}
use Rattle.cam_event.specs.Pasts.{last_of, holds, in_past}
use Rattle.cam_event.specs.ByPast.{own_past, outcome_in, told}
use Rattle.cam_event.proofs.Members.{In, in_any}
use Rattle.cam_event.proofs.ClosedPasts.{past_is_closed, closed_held}
use Rattle.cam_plain.specs.Legal.{Legal}
use Rattle.cam_cut.proofs.Lists.{flat_in}
use Rattle.cam_cut.proofs.Holds.{RunHolds}
use Rattle.cam_agree.proofs.Ran.{Ran, ran_holds}
use Rattle.cam_event.specs.DeltasByPast.{is_outcome, stands_in}
use Rattle.cam_delta.proofs.Addressed.{ran_addressed}
use Rattle.cam_delta.proofs.Growing.{listed}
use Rattle.cam_delta.proofs.Distinctness.{Distinct, distinct_so_far, same_length}
use Rattle.cam_delta.proofs.OwnPast.{listed_told}

-- the outcomes of a history are as many as its decisions, and none of them is told twice
pub told_length : (objects : List ObjectDecl) (W L : List Deed) → length (flat_map (outcome_in objects W) L) ≡ number_of is_outcome L
told_length objects W [] = refl
told_length objects W (Abort b ∷ L) = let rest = told_length objects W L in omega (arith, rest)
told_length objects W (Commit b ∷ L) = let rest = told_length objects W L in omega (arith, rest)
told_length objects W (Create b ∷ L) = told_length objects W L
told_length objects W (Ask b c ∷ L) = told_length objects W L
told_length objects W (Call b n x op c ∷ L) = told_length objects W L
told_length objects W (Perform b n answer ∷ L) = told_length objects W L
told_length objects W (Bounce b n u ∷ L) = told_length objects W L
told_length objects W (Got b n seen ∷ L) = told_length objects W L
told_length objects W (AskCommit b v ∷ L) = told_length objects W L
told_length objects W (AskAbort b ∷ L) = told_length objects W L
told_length objects W (Secure f s c ∷ L) = told_length objects W L
told_length objects W (Inform s b outcome ∷ L) = told_length objects W L
told_length objects W (Crash s ∷ L) = told_length objects W L

-- an outcome that a history tells stands in it
pub told_decided : (objects : List ObjectDecl) (W L : List Deed) (o : Outcome) → In o (flat_map (outcome_in objects W) L) → stands_in L o ≡ true
told_decided objects W L o i = let found = flat_in (outcome_in objects W) L o i in by found.0 found.1 found.2
  where
    by : (d : Deed) → In d L → In o (outcome_in objects W d) → stands_in L o ≡ true
    by (Commit a) j (inl e) = subst (λ x. stands_in L x ≡ true) (sym e) (in_any (is_commit a) L (Commit a) j (name_eq_refl a))
    by (Commit a) j (inr r) = absurd r
    by (Abort a) j (inl e) = subst (λ x. stands_in L x ≡ true) (sym e) (in_any (is_abort a) L (Abort a) j (name_eq_refl a))
    by (Abort a) j (inr r) = absurd r
    by (Create a) j k = absurd k
    by (Ask a c) j k = absurd k
    by (Call a n x op c) j k = absurd k
    by (Perform a n answer) j k = absurd k
    by (Bounce a n u) j k = absurd k
    by (Got a n seen) j k = absurd k
    by (AskCommit a v) j k = absurd k
    by (AskAbort a) j k = absurd k
    by (Secure f s c) j k = absurd k
    by (Inform s a outcome) j k = absurd k
    by (Crash s) j k = absurd k

told_distinct : (objects : List ObjectDecl) (W L : List Deed) → Legal objects L → Distinct (flat_map (outcome_in objects W) L)
told_distinct objects W [] legal = tt
told_distinct objects W (Abort b ∷ L) legal = (
  (λ i. true≢false (sym (told_decided objects W L (Aborted b) i) ∙ (or_parts (committed L b) (aborted L b) legal.0.undecided).1)),
  told_distinct objects W L legal.1,
)
told_distinct objects W (Commit b ∷ L) legal = (
  (λ i. true≢false (sym (told_decided objects W L (Committed b (as_counts (deps objects W b))) i) ∙ (or_parts (committed L b) (aborted L b) legal.0.undecided).0)),
  told_distinct objects W L legal.1,
)
told_distinct objects W (Create b ∷ L) legal = told_distinct objects W L legal.1
told_distinct objects W (Ask b c ∷ L) legal = told_distinct objects W L legal.1
told_distinct objects W (Call b n x op c ∷ L) legal = told_distinct objects W L legal.1
told_distinct objects W (Perform b n answer ∷ L) legal = told_distinct objects W L legal.1
told_distinct objects W (Bounce b n u ∷ L) legal = told_distinct objects W L legal.1
told_distinct objects W (Got b n seen ∷ L) legal = told_distinct objects W L legal.1
told_distinct objects W (AskCommit b v ∷ L) legal = told_distinct objects W L legal.1
told_distinct objects W (AskAbort b ∷ L) legal = told_distinct objects W L legal.1
told_distinct objects W (Secure f s c ∷ L) legal = told_distinct objects W L legal.1
told_distinct objects W (Inform s b outcome ∷ L) legal = told_distinct objects W L legal.1
told_distinct objects W (Crash s ∷ L) legal = told_distinct objects W L legal.1

-- So a node's list is as long as there are Commits and Aborts in its past.
pub listed_length : (objects : List ObjectDecl) (t : List Event) (s : ℕ) → Ran objects t → length (listed objects t s) ≡ number_of is_outcome (own_past t s)
listed_length objects t s run =
    let L : List Deed = own_past t s in
    let alike = listed_told objects t s run in
    let r : RunHolds objects t = ran_holds objects t run in
    let legal : Legal objects L = r.legal (λ i. holds (in_past t i) (last_of t s)) (closed_held t (last_of t s) (past_is_closed t r.ordered)) in
    same_length (listed objects t s) (told objects L).outcomes ((distinct_so_far objects t (ran_addressed objects t run)).nodes s) (told_distinct objects L L legal) alike.to alike.back
    ∙ told_length objects L L
