-- In a run a node decides what it does not know to be decided; of a commit that it is told and
-- knows it knows the same; and what it knows and is told of counts are eight numbers.
use Rattle.std.proofs.Common.{◌≡◌, inl, inr, ℕ, ◌≤◌, Bool, true, false, List, ◌∷◌, map, Option}
use Rattle.std.proofs.Common.{Some, None, refl, sym, ◌∙◌, subst, eqb, is_some}
use Rattle.std.specs.List.{list_any}
use Rattle.std.proofs.lemmas.Bool.{cases_Bool, or_left, or_parts, true≢false, false_from_ne_true}
use Rattle.cam_names.specs.declared.name.Name.{Name}
use Rattle.cam_names.proofs.Names.{name_eq_same}
use Rattle.cam_type.specs.declared.ObjectDecl.{ObjectDecl}
use Rattle.cam_know.specs.declared.Outcome.{Outcome}
use Rattle.cam_know.specs.declared.Outcome.TheVariants.{Aborted, Committed}
use Rattle.cam_know.specs.Knowledge.{Knowledge}
use Rattle.cam_know.specs.Known.{knows, knows_abort, knows_commit, is_abort_of, is_commit_of}
use Rattle.cam_know.specs.Known.{nothing}
use Rattle.cam_know.specs.Order.{told_in_order}
use Rattle.cam_know.proofs.OrphanBySet.{any_same}
use Rattle.cam_know.proofs.Union.{any_both}
use Rattle.cam_event.specs.declared.Deed.{Deed}
use Rattle.cam_event.specs.declared.Deed.TheVariants.{Commit, Abort}
use Rattle.cam_event.specs.declared.Event.{Event}
use Rattle.cam_event.specs.declared.LetterId.{LetterId}
use Rattle.cam_event.specs.History.{after, count, committed, aborted, is_commit, is_abort}
use Rattle.cam_event.specs.Inputs.{Input, Begins, Requests, Receives, Tells, Queries, Restarts}
use Rattle.cam_event.specs.Inputs.{Mail, letter_at}
use Rattle.cam_event.specs.Pasts.{plain, plain_all, every, in_base}
use Rattle.cam_event.specs.ByPast.{next, own_past}
use Rattle.cam_event.specs.ByKnowledge.{carried_by, carried_of}
use Rattle.cam_event.specs.ByDeltas.{known, received_of, load_by, load_at}
use Rattle.cam_event.specs.DeltasByPast.{past_load_by, past_of}
use Rattle.cam_event.specs.Loads.{each_node}
use Rattle.cam_event.specs.Agreement.{KnowsItsBase}
use Rattle.cam_event.specs.Runs.{MayCome}
use Rattle.cam_event.proofs.Members.{In, any_in, any_more, plain_more}
use Rattle.cam_plain.specs.Legal.{Legal}
use Rattle.cam_cut.proofs.BeginGood.{count_one}
use Rattle.cam_cut.proofs.Holds.{every_closed}
use Rattle.cam_cut.proofs.Step.{event_holds}
use Rattle.cam_agree.proofs.DepsAgreed.{in_known}
use Rattle.cam_agree.proofs.DepsKnown.{IsTold, held_tell}
use Rattle.cam_agree.proofs.Ran.{Ran, ran_holds, ran_knows}
use Rattle.cam_delta.proofs.Addressed.{ran_addressed}
use Rattle.cam_delta.proofs.DeltaLists.{ordered_in}
use Rattle.cam_delta.proofs.OwnPast.{ran_known}
use Rattle.cam_delta.proofs.PastLoads.{ran_loads}
use Rattle.cam_delta.proofs.SameHistories.{same_alike}
use Rattle.cam_delta.proofs.SameKnown.{same_so_far, whole}
use Rattle.cam_histories.specs.Laws.{history_of, load_of_input}
use Rattle.cam_histories.proofs.RecordedDeeds.{TellsTheSame}
use Rattle.cam_histories.proofs.DecidedFirst.{committed_first, aborted_first}

module _ (objects : List ObjectDecl) (t : List Event) (run : Ran objects t) where
  abbrev knowledge_of : ℕ → Knowledge
  knowledge_of s = known objects (history_of objects t s)

  -- what a node knows is decided in the run
  known_so : (s : ℕ) (p : Outcome → Bool) (q : Deed → Bool)
      → (KnowsItsBase objects t s None
      → list_any p (whole objects t s).outcomes ≡ true
      → list_any q (plain t (in_base t s None)) ≡ true)
      → list_any p (knowledge_of s).outcomes ≡ true → list_any q (plain_all t) ≡ true
  known_so s p q told h =
      any_more q (plain t (in_base t s None)) (plain_all t)
      (plain_more t (in_base t s None) every (λ k e. refl))
      (told (ran_knows objects t s None run tt)
      (sym (any_same p (knowledge_of s) (whole objects t s)
      ((same_so_far objects t (ran_addressed objects t run)).nodes s)) ∙ h))

  commit_known : (s : ℕ) (a : Name) → knows_commit (knowledge_of s) a ≡ true
      → committed (plain_all t) a ≡ true
  commit_known s a =
      known_so s (is_commit_of a) (is_commit a)
      (λ base h. sym (base.commits a) ∙ any_both (is_commit_of a) (whole objects t s) nothing
      ∙ or_left (knows_commit (whole objects t s) a) (knows_commit nothing a) h)

  abort_known : (s : ℕ) (a : Name) → knows_abort (knowledge_of s) a ≡ true
      → aborted (plain_all t) a ≡ true
  abort_known s a =
      known_so s (is_abort_of a) (is_abort a)
      (λ base h. sym (base.aborts a) ∙ any_both (is_abort_of a) (whole objects t s) nothing
      ∙ or_left (knows_abort (whole objects t s) a) (knows_abort nothing a) h)

  -- So no node knows what the next event decides.
  legal_next : (input : Input) → MayCome objects t input
      → Legal objects (after (plain_all t) (next objects t input).deeds)
  legal_next input may =
      (event_holds objects t (next objects t input) (ran_holds objects t run)
      (record { input = input; may = may; is_next = refl })).legal every
      (every_closed (next objects t input ∷ t))

  pub commits_unknown : (input : Input) (s : ℕ) (a : Name) → MayCome objects t input
      → In (Commit a) (next objects t input).deeds → knows_commit (knowledge_of s) a ≡ false
  commits_unknown input s a may i =
      let new = committed_first objects (next objects t input).deeds (plain_all t) a
      (legal_next input may) i in
      false_from_ne_true (knows_commit (knowledge_of s) a)
      (λ h. true≢false (sym (commit_known s a h)
      ∙ (or_parts (committed (plain_all t) a) (aborted (plain_all t) a) new).0))

  pub aborts_unknown : (input : Input) (s : ℕ) (a : Name) → MayCome objects t input
      → In (Abort a) (next objects t input).deeds → knows_abort (knowledge_of s) a ≡ false
  aborts_unknown input s a may i =
      let new = aborted_first objects (next objects t input).deeds (plain_all t) a
      (legal_next input may) i in
      false_from_ne_true (knows_abort (knowledge_of s) a)
      (λ h. true≢false (sym (abort_known s a h)
      ∙ (or_parts (committed (plain_all t) a) (aborted (plain_all t) a) new).1))

  -- Each commit that a node knows or is told has with it what its action depends on.
  told_held : (s : ℕ) (o : Outcome) → In o (knowledge_of s).outcomes
      → In o (whole objects t s).outcomes
  told_held s o i =
      (same_alike (knowledge_of s) (whole objects t s)
      ((same_so_far objects t (ran_addressed objects t run)).nodes s)).to o i

  told_brought : (letter : LetterId) (a : Name) (counts : List ℕ)
      → is_some (letter_at t letter) ≡ true
      → In (Committed a counts) (load_at objects t letter).know.outcomes
      → IsTold objects t a counts
  told_brought letter a counts there i = by (letter_at t letter) refl i
    where
      by : (o : Option Mail) → letter_at t letter ≡ o
          → In (Committed a counts)
          (load_by objects (received_of objects t) (Some letter) o).know.outcomes
          → IsTold objects t a counts
      by None at i = absurd i
      by (Some mail) at i =
          (held_tell objects t run).1 (Some letter) there a counts
          (subst (λ o. In (Committed a counts)
          (carried_by objects (carried_of objects t) (Some letter) o).outcomes) (sym at)
          (((same_so_far objects t (ran_addressed objects t run)).letters letter mail at).back
          (Committed a counts) i))

  told_input : (input : Input) (a : Name) (counts : List ℕ) → MayCome objects t input
      → In (Committed a counts) (load_of_input objects t input).know.outcomes
      → IsTold objects t a counts
  told_input (Begins s) a counts may i = absurd i
  told_input (Requests r) a counts may i = absurd i
  told_input (Receives letter) a counts may i = told_brought letter a counts may i
  told_input (Tells s to) a counts may i = absurd i
  told_input (Queries s f) a counts may i = absurd i
  told_input (Restarts s) a counts may i = absurd i

  pub tells_the_same : (input : Input) (s : ℕ) → MayCome objects t input
      → TellsTheSame (knowledge_of s) (told_in_order (load_of_input objects t input).know).outcomes
  tells_the_same input s may a counts i h =
      let brought = told_input input a counts may
      (ordered_in (Committed a counts) (load_of_input objects t input).know.outcomes i) in
      let found = any_in (is_commit_of a) (knowledge_of s).outcomes h in
      by brought found.0 found.1 found.2
    where
      by : IsTold objects t a counts → (o : Outcome) → In o (knowledge_of s).outcomes
          → is_commit_of a o ≡ true → knows (knowledge_of s) (Committed a counts) ≡ true
      by brought (Aborted b) i is = cc
      by brought (Committed b cs) i is =
          let named : a ≡ b = name_eq_same a b is in
          let mine : In (Committed a cs) (knowledge_of s).outcomes =
          subst (λ c. In (Committed c cs) (knowledge_of s).outcomes) (sym named) i in
          let same : cs ≡ counts =
          ((held_tell objects t run).0 s a cs (told_held s (Committed a cs) mine)).final
          ∙ sym brought.final in
          in_known (knowledge_of s) (Committed a counts)
          (subst (λ ns. In (Committed a ns) (knowledge_of s).outcomes) same mine)

  -- counts of the eight nodes
  pub known_counts : (s : ℕ)
      → (knowledge_of s).counts ≡ map (count (own_past t s)) each_node
  known_counts s = (ran_known objects t s run).counts

  pub own_low : (s m : ℕ) → 1 ≤ count (own_past t s) m
  own_low s m = count_one (own_past t s) m

  past_counts : (letter : LetterId) (o : Option Mail)
      → (g : ℕ → ℕ) × ((past_load_by objects t letter o).know.counts ≡ map g each_node)
  past_counts letter None = ((λ m. 1), refl)
  past_counts letter (Some mail) = (
    count (past_of t letter.event),
    elim (cases_Bool (eqb mail.from mail.to)) [ inl y ↦ rw y refl | inr n ↦ rw n refl ],
  )

  pub brought_counts : (input : Input) → MayCome objects t input
      → (g : ℕ → ℕ) × ((load_of_input objects t input).know.counts ≡ map g each_node)
  brought_counts (Begins s) may = ((λ m. 1), refl)
  brought_counts (Requests r) may = ((λ m. 1), refl)
  brought_counts (Receives letter) may =
      let past = past_counts letter (letter_at t letter) in
      (past.0, (ran_loads objects t letter run may).know.counts ∙ past.1)
  brought_counts (Tells s to) may = ((λ m. 1), refl)
  brought_counts (Queries s f) may = ((λ m. 1), refl)
  brought_counts (Restarts s) may = ((λ m. 1), refl)
