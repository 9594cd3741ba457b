-- On runs each letter carries what the definition by pasts says.
use Rattle.std.proofs.Common.{◌≡◌, ◌⊎◌, inl, inr, if◌then◌else◌, ℕ, ◌<◌, ◌≤◌, eqb, true, false, not, List, [], ◌∷◌, length, take, drop, Option, Some, None, refl, sym, ap, ◌∙◌, arith, subst}
use Rattle.std.specs.Prelude.{is_some}
use Rattle.std.proofs.lemmas.List.{take_all}
use Rattle.std.proofs.lemmas.Bool.{cases_Bool, true≢false}
use Rattle.std.proofs.lemmas.Bool.Decides.{eqb_tells}
use Rattle.cam_names.specs.Dependencies.{as_counts}
use Rattle.cam_type.specs.declared.ObjectDecl.{ObjectDecl}
use Rattle.cam_know.specs.declared.Outcome.{Outcome}
use Rattle.cam_know.specs.declared.Outcome.TheVariants.{Aborted, Committed}
use Rattle.cam_event.specs.declared.LetterId.{LetterId}
use Rattle.cam_event.specs.declared.Event.{Event}
use Rattle.cam_event.specs.declared.Deed.{Deed}
use Rattle.cam_event.specs.History.{number_of}
use Rattle.cam_event.specs.Gained.{deps}
use Rattle.cam_event.specs.Pasts.{in_past, holds, plain}
use Rattle.cam_event.specs.Inputs.{Mail, letter_at}
use Rattle.cam_event.specs.ByPast.{own_past, told}
use Rattle.cam_event.proofs.Members.{In}
use Rattle.cam_event.proofs.NewestPasts.{older}
use Rattle.cam_cut.proofs.Lists.{in_filter}
use Rattle.cam_agree.proofs.OrphanSame.{filter_in}
use Rattle.cam_agree.proofs.DepsAgreed.{known_in, in_told, aborts_any}
use Rattle.cam_event.specs.ByDeltas.{known, acked_of, load_for, load_by, received_of, load_at}
use Rattle.cam_event.specs.DeltasByPast.{past_of, is_outcome, trace_to, base_in, first_with, stands_in, without, told_from, past_load, past_load_by, past_load_at}
use Rattle.cam_agree.proofs.Ran.{Ran, plain_ran}
use Rattle.cam_delta.specs.Laws.{IsSameLoad, LoadsAreThoseOfPasts}
use Rattle.cam_delta.proofs.Addressed.{ran_addressed}
use Rattle.cam_delta.proofs.DeltaLists.{in_split, in_drop, Begins, begins_in, begins_take}
use Rattle.cam_delta.proofs.Growing.{history, listed}
use Rattle.cam_delta.proofs.SameHistories.{Alike, alike_same}
use Rattle.cam_delta.proofs.Distinctness.{distinct_so_far, behind_only}
use Rattle.cam_delta.proofs.OwnPast.{told_aborts, listed_told, listed_final}
use Rattle.cam_delta.proofs.PastLengths.{told_decided, listed_length}
use Rattle.cam_delta.proofs.Prefixes.{run_to, load_to, listed_to, EndsWith, letter_ends, own_to}
use Rattle.cam_delta.proofs.PastPlaces.{have_same, acked_same}
use Rattle.cam_delta.proofs.Reached.{base_reached, Found, first_found, first_to}

-- a part of a trace is no longer
to_length : (t : List Event) (j : ℕ) → length (trace_to t j) ≤ length t
to_length [] j = omega arith
to_length (e ∷ t) j = elim (eqb j (length t)) as (λ b. length (if b then e ∷ t else trace_to t j) ≤ length (e ∷ t)) [
  | true ↦ omega arith
  | false ↦ let rest = to_length t j in omega (arith, rest)
]

-- and has the same pasts
past_within : (t : List Event) (j i : ℕ) → i < length (trace_to t j) → past_of (trace_to t j) i ≡ past_of t i
past_within [] j i small = refl
past_within (e ∷ t) j i small =
    elim (eqb j (length t)) as (λ b. i < length (if b then e ∷ t else trace_to t j) → past_of (if b then e ∷ t else trace_to t j) i ≡ past_of (e ∷ t) i) [
      | true ↦ λ g. refl
      | false ↦ λ g. past_within t j i g ∙ sym (older e t i (omega (arith, g, to_length t j)))
    ] small

-- an outcome of a node's list that stands in the past of an earlier event of the node stood in the list then
stood : (objects : List ObjectDecl) (u v : List Event) (s : ℕ) (M : List Deed) → Ran objects u → Begins (listed objects v s) (listed objects u s) → Alike (known objects (history objects v s)) (told objects M)
    → (o : Outcome) → In o (listed objects u s) → stands_in M o ≡ true → In o (listed objects v s)
stood objects u v s M run b alike (Aborted a) i h = alike.back (Aborted a) (known_in (told objects M) (Aborted a) (aborts_any a (told objects M).outcomes ∙ told_aborts objects M M a ∙ h))
stood objects u v s M run b alike (Committed a counts) i h =
    let mine : List ℕ = as_counts (deps objects M a) in
    let there : In (Committed a mine) (listed objects v s) = alike.back (Committed a mine) (in_told objects M a h) in
    let same : mine ≡ counts = listed_final objects u s run a mine (begins_in (listed objects v s) (listed objects u s) (Committed a mine) b there) ∙ sym (listed_final objects u s run a counts i) in
    subst (λ cs. In (Committed a cs) (listed objects v s)) same there

-- what stands from the base on
record SameFrom (objects : List ObjectDecl) (t : List Event) (j s base : ℕ) : Type 0 where
  pub to : (o : Outcome) → In o (drop base (listed objects (trace_to t j) s)) → In o (told_from t s base (told objects (past_of t j)).outcomes)
  pub back : (o : Outcome) → In o (told_from t s base (told objects (past_of t j)).outcomes) → In o (drop base (listed objects (trace_to t j) s))

from_found : (objects : List ObjectDecl) (t : List Event) (j s base i : ℕ) → Ran objects t → EndsWith t j s → eqb base 0 ≡ false → first_with (trace_to t j) s base ≡ Some i → SameFrom objects t j s base
from_found objects t j s base i run ends some first = record {
  to = λ o h. subst (λ l. In o l) (sym is) (to o h);
  back = λ o h. back o (subst (λ l. In o l) is h);
}
  where
    u : List Event
    u = trace_to t j

    v : List Event
    v = trace_to u i

    run_u : Ran objects u
    run_u = run_to objects t j run

    found : Found u i s base
    found = first_found u s base i first

    M : List Deed
    M = past_of t i

    os : List Outcome
    os = (told objects (past_of t j)).outcomes

    is : told_from t s base os ≡ without M os
    is = rw some (ap (λ o. without (plain t (λ k. holds (in_past t k) o)) os) (first_to t j s base i first))

    past_v : own_past v s ≡ M
    past_v = own_to u i s found.ends ∙ past_within t j i found.ends.below

    mine : Alike (known objects (history objects u s)) (told objects (past_of t j))
    mine = subst (λ L. Alike (known objects (history objects u s)) (told objects L)) (own_to t j s ends) (listed_told objects u s run_u)

    then_ : Alike (known objects (history objects v s)) (told objects M)
    then_ = subst (λ L. Alike (known objects (history objects v s)) (told objects L)) past_v (listed_told objects v s (run_to objects u i run_u))

    begins : Begins (listed objects v s) (listed objects u s)
    begins = listed_to objects u i s

    long : length (listed objects v s) ≡ base
    long = listed_length objects v s (run_to objects u i run_u) ∙ ap (number_of is_outcome) (own_to u i s found.ends) ∙ found.place

    front : take base (listed objects u s) ≡ listed objects v s
    front = begins_take base (listed objects v s) (listed objects u s) begins (omega (arith, long)) ∙ take_all base (listed objects v s) (omega (arith, long))

    to : (o : Outcome) → In o (drop base (listed objects u s)) → In o (without M os)
    to o h = filter_in (λ x. not (stands_in M x)) os o (mine.to o (in_drop base (listed objects u s) o h)) (by (cases_Bool (stands_in M o)))
      where
        by : (stands_in M o ≡ true) ⊎ (stands_in M o ≡ false) → not (stands_in M o) ≡ true
        by (inl y) =
            absurd (behind_only base (listed objects u s) o ((distinct_so_far objects u (ran_addressed objects u run_u)).nodes s) h
            (subst (λ l. In o l) (sym front) (stood objects u v s M run_u begins then_ o (in_drop base (listed objects u s) o h) y)))
        by (inr n) = ap not n

    back : (o : Outcome) → In o (without M os) → In o (drop base (listed objects u s))
    back o h =
        let kept = in_filter (λ x. not (stands_in M x)) os o h in
        elim (in_split base (listed objects u s) o (mine.back o kept.0)) [
          | inl early ↦ absurd (true≢false (sym kept.1 ∙ ap not (told_decided objects M M o (then_.to o (subst (λ l. In o l) front early)))))
          | inr late ↦ late
        ]

from_same : (objects : List ObjectDecl) (t : List Event) (j s r : ℕ) → Ran objects t → EndsWith t j s → SameFrom objects t j s (base_in (trace_to t j) s r)
from_same objects t j s r run ends = by (eqb_tells base 0)
  where
    base : ℕ
    base = base_in (trace_to t j) s r

    mine : Alike (known objects (history objects (trace_to t j) s)) (told objects (past_of t j))
    mine = subst (λ L. Alike (known objects (history objects (trace_to t j) s)) (told objects L)) (own_to t j s ends) (listed_told objects (trace_to t j) s (run_to objects t j run))

    none : SameFrom objects t j s 0
    none = record { to = mine.to; back = mine.back }

    by : ((eqb base 0 ≡ true) × (base ≡ 0)) ⊎ ((eqb base 0 ≡ false) × (base ≡ 0 → ⊥)) → SameFrom objects t j s base
    by (inl y) = subst (SameFrom objects t j s) (sym y.1) none
    by (inr n) = elim (base_reached (trace_to t j) s r) [
      | inl zero_ ↦ absurd (n.1 zero_)
      | inr some ↦ from_found objects t j s base some.0 run ends n.0 some.1
    ]

-- each letter of a run
load_same : (objects : List ObjectDecl) (t : List Event) (j s r : ℕ) → Ran objects t → EndsWith t j s → IsSameLoad (load_for objects s (history objects (trace_to t j) s) r) (past_load objects t j s r)
load_same objects t j s r run ends = elim (eqb_tells s r) [
  | inl y ↦ rw y.0 (record { have = refl; place = refl; know = record { outcomes = λ o. refl; counts = mine.counts } })
  | inr n ↦ rw n.0 (record {
    have = have_same objects u s r run_u;
    place = listed_length objects u s run_u ∙ ap (number_of is_outcome) (own_to t j s ends);
    know = alike_same (record { outcomes = drop (acked_of objects (history objects u s) r) (listed objects u s); counts = (known objects (history objects u s)).counts })
        (record { outcomes = told_from t s (base_in u s r) (told objects (past_of t j)).outcomes; counts = (told objects (past_of t j)).counts })
        (record { to = λ o i. from.to o (subst (λ b. In o (drop b (listed objects u s))) acked i); back = λ o i. subst (λ b. In o (drop b (listed objects u s))) (sym acked) (from.back o i); counts = mine.counts });
  })
]
  where
    u : List Event
    u = trace_to t j

    run_u : Ran objects u
    run_u = run_to objects t j run

    mine : Alike (known objects (history objects u s)) (told objects (past_of t j))
    mine = subst (λ L. Alike (known objects (history objects u s)) (told objects L)) (own_to t j s ends) (listed_told objects u s run_u)

    from : SameFrom objects t j s (base_in u s r)
    from = from_same objects t j s r run ends

    acked : acked_of objects (history objects u s) r ≡ base_in u s r
    acked = acked_same objects u s r run_u

pub ran_loads : (objects : List ObjectDecl) (t : List Event) (letter : LetterId) → Ran objects t → is_some (letter_at t letter) ≡ true → IsSameLoad (load_at objects t letter) (past_load_at objects t letter)
ran_loads objects t letter run there = by (letter_at t letter) refl there
  where
    by : (o : Option Mail) → letter_at t letter ≡ o → is_some o ≡ true → IsSameLoad (load_by objects (received_of objects t) (Some letter) o) (past_load_by objects t letter o)
    by None e h = cc
    by (Some mail) e h =
        subst (λ d. IsSameLoad d (past_load objects t letter.event mail.from mail.to)) (sym (load_to objects t letter mail))
        (load_same objects t letter.event mail.from mail.to run (letter_ends t letter mail e))

-- of runs without a halt
pub loads_are_those_of_pasts : LoadsAreThoseOfPasts
loads_are_those_of_pasts objects t letter run = ran_loads objects t letter (plain_ran objects t run)
