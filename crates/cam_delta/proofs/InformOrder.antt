-- On runs a node's list names the outcomes in the order of its Informs.
use Rattle.std.proofs.Common.{◌≡◌, ◌⊎◌, inl, inr, ℕ, eqb, true, false, List, [], ◌∷◌, ◌++◌, map, Option, Some, None, refl, sym, ap, ◌∙◌, subst}
use Rattle.std.specs.Prelude.{flat_map}
use Rattle.std.proofs.lemmas.Bool.{cases_Bool, true≢false, or_parts}
use Rattle.std.proofs.lemmas.Bool.Decides.{eqb_tells}
use Rattle.std.proofs.lemmas.List.{append_assoc}
use Rattle.std.proofs.lemmas.List.Concat.{flat_map-append}
use Rattle.cam_names.specs.declared.name.Name.{Name}
use Rattle.cam_names.specs.Dependencies.{as_counts}
use Rattle.cam_type.specs.declared.ObjectDecl.{ObjectDecl}
use Rattle.cam_know.specs.declared.Outcome.{Outcome}
use Rattle.cam_know.specs.declared.Outcome.TheVariants.{Aborted, Committed}
use Rattle.cam_know.specs.Knowledge.{Knowledge}
use Rattle.cam_know.specs.Known.{knows, unknown, both, new_aborts, new_commits}
use Rattle.cam_event.specs.declared.LetterId.{LetterId}
use Rattle.cam_event.specs.declared.Event.{Event}
use Rattle.cam_event.specs.declared.Deed.{Deed}
use Rattle.cam_event.specs.declared.Deed.TheVariants.{Commit, Abort}
use Rattle.cam_event.specs.History.{committed, aborted, decided, is_commit, is_abort}
use Rattle.cam_event.specs.Gained.{deps}
use Rattle.cam_event.specs.Pasts.{last_of, holds, in_past, plain_all, every}
use Rattle.cam_event.specs.Inputs.{Input, Mail, mail_got, node_of, got_of}
use Rattle.cam_event.specs.Sights.{entries}
use Rattle.cam_event.specs.ByPast.{own_past, first_informs}
use Rattle.cam_event.specs.ByKnowledge.{learned_by, new_informs, carried_by, carried_of}
use Rattle.cam_event.specs.Carried.{Carried}
use Rattle.cam_event.specs.Runs.{MayCome, IsRun}
use Rattle.cam_event.proofs.Members.{In, any_more, plain_more}
use Rattle.cam_event.proofs.SameInforms.{informs_agree}
use Rattle.cam_cut.proofs.Good.{Good}
use Rattle.cam_cut.proofs.Holds.{RunHolds, every_part}
use Rattle.cam_cut.proofs.Parts.{base_of, with_first, keep_first}
use Rattle.cam_cut.proofs.Readings.{event_with}
use Rattle.cam_cut.proofs.NextEvent.{sight_of, did_of, next_good}
use Rattle.cam_cut.proofs.Step.{run_holds}
use Rattle.cam_agree.proofs.DepsSaid.{beside}
use Rattle.cam_agree.proofs.DepsAgreed.{known_in}
use Rattle.cam_agree.proofs.DepsLearned.{in_both_known}
use Rattle.cam_agree.proofs.OrphanFacts.{sent_of}
use Rattle.cam_know.specs.Order.{in_order, told_in_order}
use Rattle.cam_event.specs.Loads.{Load}
use Rattle.cam_event.specs.ByDeltas.{as_carried, known, load_by, received_of}
use Rattle.cam_event.specs.DeltasByPast.{trace_to, stands_in}
use Rattle.cam_agree.proofs.Ran.{plain_ran}
use Rattle.cam_delta.specs.Laws.{IsAddressed, named, informed_by, informs_of, ListsAreTheInforms}
use Rattle.cam_delta.proofs.Addressed.{runs_are_addressed}
use Rattle.cam_delta.proofs.DeltaLists.{begins_in, ordered_in}
use Rattle.cam_delta.proofs.Growing.{history, listed, history_here, history_there}
use Rattle.cam_delta.proofs.Sound.{load_of}
use Rattle.cam_delta.proofs.SameKnown.{SameSoFar, same_so_far, whole}
use Rattle.cam_delta.proofs.SameSteps.{informs_same, input_brings}
use Rattle.cam_delta.proofs.Distinctness.{distinct_so_far, came_distinct}
use Rattle.cam_delta.proofs.OwnPast.{listed_told, listed_final}
use Rattle.cam_delta.proofs.PastLengths.{told_decided}
use Rattle.cam_delta.proofs.Prefixes.{load_to, listed_to}
use Rattle.cam_delta.proofs.Telling.{told_known}
use Rattle.cam_delta.proofs.NewsNamed.{SaidBy, news_named}
use Rattle.cam_delta.proofs.OwnNamed.{skip_first, own_named, commit_undecided, abort_undecided}

-- what a node knows, and what comes to it, was decided, each commit with what its action depends on in the end
listed_decided : (objects : List ObjectDecl) (t : List Event) (s : ℕ) → IsRun objects t → (o : Outcome) → In o (listed objects t s) → stands_in (plain_all t) o ≡ true
listed_decided objects t s run o i = by o (told_decided objects (own_past t s) (own_past t s) o ((listed_told objects t s (plain_ran objects t run)).to o i))
  where
    more : (d : Deed) → In d (own_past t s) → In d (plain_all t)
    more d j = plain_more t (λ n. holds (in_past t n) (last_of t s)) every (λ n h. refl) d j

    by : (o : Outcome) → stands_in (own_past t s) o ≡ true → stands_in (plain_all t) o ≡ true
    by (Aborted a) h = any_more (is_abort a) (own_past t s) (plain_all t) more h
    by (Committed a counts) h = any_more (is_commit a) (own_past t s) (plain_all t) more h

came_listed : (objects : List ObjectDecl) (t : List Event) (s : ℕ) (got : Option LetterId) (o : Outcome) → IsAddressed t s got → In o (load_by objects (received_of objects t) got (mail_got t got)).know.outcomes → (m : ℕ) × In o (listed objects t m)
came_listed objects t s None o to i = absurd i
came_listed objects t s (Some letter) o to i =
    let mail : Mail = to.0 in
    let j : In o (load_of objects t letter mail).know.outcomes = subst (λ x. In o (load_by objects (received_of objects t) (Some letter) x).know.outcomes) to.1 i in
    let u : List Event = trace_to t letter.event in (
      mail.from,
      begins_in (listed objects u mail.from) (listed objects t mail.from) o (listed_to objects t letter.event mail.from)
          (told_known objects u mail.from mail.to o (subst (λ d. In o d.know.outcomes) (load_to objects t letter mail) j)),
    )

-- the event of an input
abbrev next_event : List ObjectDecl → List Event → Input → Event
next_event objects t input = event_with t (node_of t input) (got_of input) (did_of objects t input)

-- the node of the next event
next_named : (objects : List ObjectDecl) (t : List Event) (input : Input) → IsRun objects t → MayCome objects t input → IsAddressed t (node_of t input) (got_of input)
    → flat_map named (listed objects (next_event objects t input ∷ t) (node_of t input)) ≡ flat_map named (listed objects t (node_of t input)) ++ flat_map informed_by (next_event objects t input).deeds
next_named objects t input run may to =
    ap (λ h. flat_map named (known objects h).outcomes) (history_here objects e t)
    ∙ ap (λ k. flat_map named k.outcomes) (ap (λ ds. learned_by objects H mail J (ds ++ own)) (sym first) ∙ skip_first objects H mail J s (new_aborts L K) (new_commits L K) own)
    ∙ own_named objects (sight_of objects t input) H mail J own good.shape no_commit no_abort
    ∙ ap (λ l. l ++ flat_map informed_by own) (flat_map-append named K.outcomes (unknown K L.outcomes) ∙ ap (λ l. flat_map named K.outcomes ++ l) (news ∙ ap (flat_map informed_by) first))
    ∙ append_assoc (flat_map named K.outcomes) (flat_map informed_by (first_informs t s got)) (flat_map informed_by own)
    ∙ ap (λ l. flat_map named K.outcomes ++ l) (sym (flat_map-append informed_by (first_informs t s got) own))
  where
    e : Event
    e = next_event objects t input

    s : ℕ
    s = node_of t input

    got : Option LetterId
    got = got_of input

    mail : Option Mail
    mail = mail_got t got

    H : List Carried
    H = map as_carried (history objects t s)

    K : Knowledge
    K = known objects (history objects t s)

    load : Load
    load = load_by objects (received_of objects t) got mail

    L : Knowledge
    L = told_in_order load.know

    J : Knowledge
    J = both K L

    own : List Deed
    own = (did_of objects t input).deeds

    holds_run : RunHolds objects t
    holds_run = run_holds objects t run

    good : Good objects (sight_of objects t input) (with_first t s got (base_of t s got)) (beside t input every) (did_of objects t input)
    good = next_good objects t input every holds_run may (every_part t s got)

    so_far : SameSoFar objects t
    so_far = same_so_far objects t (runs_are_addressed objects t run)

    first : new_informs s L K ≡ first_informs t s got
    first =
        informs_same s K (whole objects t s) load.know (carried_by objects (carried_of objects t) got mail) (so_far.nodes s) (input_brings objects t input so_far)
        ∙ informs_agree objects t s got run (sent_of objects t input may)

    f : Name → List ℕ
    f b = as_counts (deps objects (plain_all t) b)

    came : (o : Outcome) → In o load.know.outcomes → (m : ℕ) × In o (listed objects t m)
    came o i = came_listed objects t s got o to i

    said : SaidBy f load.know.outcomes
    said b counts i = let c = came (Committed b counts) i in listed_final objects t c.0 (plain_ran objects t run) b counts c.1

    news : flat_map named (unknown K (in_order load.know.outcomes)) ≡ flat_map informed_by (new_informs s L K)
    news = news_named s f K load.know (came_distinct objects t s got to (distinct_so_far objects t (runs_are_addressed objects t run))) (λ b counts i. listed_final objects t s (plain_ran objects t run) b counts i) said

    all_decided : (o : Outcome) → In o J.outcomes → stands_in (plain_all t) o ≡ true
    all_decided o i = elim (in_both_known K L o i) [
      | inl x ↦ listed_decided objects t s run o x
      | inr y ↦ let c = came o (ordered_in o load.know.outcomes y) in listed_decided objects t c.0 run o c.1
    ]

    fresh : (o : Outcome) → stands_in (plain_all t) o ≡ false → knows J o ≡ false
    fresh o none = elim (cases_Bool (knows J o)) [
      | inl there ↦ absurd (true≢false (sym (all_decided o (known_in J o there)) ∙ none))
      | inr new ↦ new
    ]

    undecided : (a : Name) → decided (beside t input every) a ≡ false → (committed (plain_all t) a ≡ false) × (aborted (plain_all t) a ≡ false)
    undecided a h =
        let parts = or_parts (committed (beside t input every) a) (aborted (beside t input every) a) h in (
          sym (keep_first (λ M. committed M a) (λ r c o M. refl) t s got (plain_all t)) ∙ parts.0,
          sym (keep_first (λ M. aborted M a) (λ r c o M. refl) t s got (plain_all t)) ∙ parts.1,
        )

    no_commit : (a : Name) (counts : List ℕ) → In (Commit a) own → knows J (Committed a counts) ≡ false
    no_commit a counts i = fresh (Committed a counts) (undecided a (commit_undecided objects (sight_of objects t input) (beside t input every) own a good.shape good.legal i)).0

    no_abort : (a : Name) → In (Abort a) own → knows J (Aborted a) ≡ false
    no_abort a i = fresh (Aborted a) (undecided a (abort_undecided objects (sight_of objects t input) (beside t input every) own a good.shape good.legal i)).1

pub lists_are_the_informs : ListsAreTheInforms
lists_are_the_informs objects [] s run = refl
lists_are_the_informs objects (e ∷ t) s run = step (lists_are_the_informs objects t s run.1) (eqb_tells e.node s)
  where
    is : next_event objects t run.0.input ≡ e
    is = sym run.0.is_next

    here : flat_map named (listed objects (e ∷ t) e.node) ≡ flat_map named (listed objects t e.node) ++ flat_map informed_by e.deeds
    here =
        subst (λ (x : Event). flat_map named (listed objects (x ∷ t) x.node) ≡ flat_map named (listed objects t x.node) ++ flat_map informed_by x.deeds) is
        (next_named objects t run.0.input run.1 run.0.may (subst (λ (x : Event). IsAddressed t x.node x.got) (sym is) (runs_are_addressed objects (e ∷ t) run).0))

    step : flat_map named (listed objects t s) ≡ informs_of (entries t s) → ((eqb e.node s ≡ true) × (e.node ≡ s)) ⊎ ((eqb e.node s ≡ false) × (e.node ≡ s → ⊥)) → flat_map named (listed objects (e ∷ t) s) ≡ informs_of (entries (e ∷ t) s)
    step rest (inl y) =
        let mine : informs_of (entries (e ∷ t) s) ≡ informs_of (entries t s) ++ flat_map informed_by e.deeds = rw y.0 refl in
        subst (λ n. flat_map named (listed objects (e ∷ t) n) ≡ flat_map named (listed objects t n) ++ flat_map informed_by e.deeds) y.1 here
        ∙ ap (λ l. l ++ flat_map informed_by e.deeds) rest ∙ sym mine
    step rest (inr n) =
        let same : informs_of (entries (e ∷ t) s) ≡ informs_of (entries t s) = rw n.0 refl in
        ap (λ h. flat_map named (known objects h).outcomes) (history_there objects e t s n.0) ∙ rest ∙ sym same
