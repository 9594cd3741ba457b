-- On runs a letter is spelled the same by either reading.
use Rattle.std.proofs.Common.{is_some, true, ◌≡◌, inl, inr, ℕ, ◌-◌, List, [], ◌∷◌, map, Option, Some, None, refl, sym, ap, ◌∙◌, subst}
use Rattle.std.specs.Prelude.{flat_map, option_map, slice_index}
use Rattle.std.specs.Option.{option_map_or}
use Rattle.std.proofs.lemmas.Bool.{cases_Bool}
use Rattle.cam_names.specs.declared.name.Name.{Name}
use Rattle.cam_names.specs.Names.{name_eq, name_lt}
use Rattle.cam_names.specs.Dependencies.{as_counts}
use Rattle.cam_type.specs.declared.ObjectDecl.{ObjectDecl}
use Rattle.cam_know.specs.declared.Outcome.{Outcome}
use Rattle.cam_know.specs.declared.Outcome.TheVariants.{Aborted, Committed}
use Rattle.cam_know.specs.Knowledge.{Knowledge}
use Rattle.cam_know.specs.Known.{aborted_name, committed_name, is_abort_of, is_commit_of}
use Rattle.cam_know.proofs.OrphanBySet.{any_same}
use Rattle.cam_event.specs.declared.LetterId.{LetterId}
use Rattle.cam_event.specs.declared.Event.{Event}
use Rattle.cam_event.specs.Gained.{deps}
use Rattle.cam_event.specs.Pasts.{plain_all}
use Rattle.cam_event.specs.Inputs.{Mail, letter_at}
use Rattle.cam_event.specs.Rules.{put_name, sorted_names}
use Rattle.cam_event.specs.Loads.{Load}
use Rattle.cam_event.specs.ByDeltas.{load_by, received_of}
use Rattle.cam_event.specs.DeltasByPast.{trace_to, past_load_by}
use Rattle.cam_event.proofs.Members.{In}
use Rattle.cam_event.proofs.SortedNames.{sorted_same}
use Rattle.cam_event.proofs.SameInforms.{among_aborted, among_committed}
use Rattle.cam_wire.specs.Spelling.{bytes_of, committed_pair, put_commit, sorted_commits, spelled}
use Rattle.cam_wire.specs.OfTrace.{letter_with, spelling_of}
use Rattle.cam_agree.proofs.DepsAgreed.{known_in, in_known}
use Rattle.cam_agree.proofs.Ran.{Ran, plain_ran}
use Rattle.cam_event.specs.Readings.{by_pasts, by_knowledge}
use Rattle.cam_delta.specs.Laws.{IsSameLoad}
use Rattle.cam_delta.specs.Program.{LettersSpelledAlike}
use Rattle.cam_delta.proofs.DeltaLists.{begins_in}
use Rattle.cam_delta.proofs.Telling.{told_known}
use Rattle.cam_delta.proofs.Growing.{listed}
use Rattle.cam_delta.proofs.Sound.{load_of}
use Rattle.cam_delta.proofs.Prefixes.{load_to, listed_to}
use Rattle.cam_delta.proofs.OwnPast.{listed_final}
use Rattle.cam_delta.proofs.PastLoads.{ran_loads}

-- each commit has the dependencies that a function says
abbrev SaidBy : (Name → List ℕ) → List Outcome → Type 0
SaidBy f os = (b : Name) (counts : List ℕ) → In (Committed b counts) os → counts ≡ f b

-- commits put in order are their names put in order, each with what the function says
put_said : (f : Name → List ℕ) (b : Name) (names : List Name) → put_commit (b, f b) (map (λ a. (a, f a)) names) ≡ map (λ a. (a, f a)) (put_name b names)
put_said f b [] = refl
put_said f b (a ∷ names) =
    elim (cases_Bool (name_lt b a)) [
      | inl less ↦ rw less refl
      | inr more ↦ elim (cases_Bool (name_eq b a)) [
        | inl same ↦ rw (more, same) refl
        | inr other ↦ rw (more, other) (ap (λ r. (a, f a) ∷ r) (put_said f b names))
      ]
    ]

sorted_said : (f : Name → List ℕ) (os : List Outcome) → SaidBy f os → sorted_commits (flat_map committed_pair os) ≡ map (λ a. (a, f a)) (sorted_names (flat_map committed_name os))
sorted_said f [] said = refl
sorted_said f (Aborted a ∷ os) said = sorted_said f os (λ b counts i. said b counts (inr i))
sorted_said f (Committed a counts ∷ os) said =
    (λ i. put_commit (a, said a counts (inl refl) i) (sorted_said f os (λ b cs j. said b cs (inr j)) i))
    ∙ put_said f a (sorted_names (flat_map committed_name os))

-- The same loads are spelled the same, where each commit has one set of dependencies.
spelled_same : (f : Name → List ℕ) (d e : Load) (mail : Mail) → IsSameLoad d e → SaidBy f d.know.outcomes → spelled (letter_with d mail) ≡ spelled (letter_with e mail)
spelled_same f d e mail same said =
    λ i. bytes_of mail.from (slice_index (same.know.counts i) (mail.from - 1)) mail.to (same.have i) (same.place i) (same.know.counts i) (aborts i) (commits i) mail.body
  where
    k : Knowledge
    k = d.know

    l : Knowledge
    l = e.know

    other : SaidBy f l.outcomes
    other b counts i = said b counts (known_in k (Committed b counts) (same.know.outcomes (Committed b counts) ∙ in_known l (Committed b counts) i))

    aborts : sorted_names (flat_map aborted_name k.outcomes) ≡ sorted_names (flat_map aborted_name l.outcomes)
    aborts = sorted_same (flat_map aborted_name k.outcomes) (flat_map aborted_name l.outcomes) (λ z. among_aborted z k.outcomes ∙ any_same (is_abort_of z) k l same.know ∙ sym (among_aborted z l.outcomes))

    commits : sorted_commits (flat_map committed_pair k.outcomes) ≡ sorted_commits (flat_map committed_pair l.outcomes)
    commits =
        sorted_said f k.outcomes said
        ∙ ap (map (λ a. (a, f a))) (sorted_same (flat_map committed_name k.outcomes) (flat_map committed_name l.outcomes) (λ z. among_committed z k.outcomes ∙ any_same (is_commit_of z) k l same.know ∙ sym (among_committed z l.outcomes)))
        ∙ sym (sorted_said f l.outcomes other)

said_so : (objects : List ObjectDecl) (t : List Event) (letter : LetterId) (mail : Mail) → Ran objects t → SaidBy (λ b. as_counts (deps objects (plain_all t) b)) (load_of objects t letter mail).know.outcomes
said_so objects t letter mail run b counts i =
    let u : List Event = trace_to t letter.event in
    let there : In (Committed b counts) (listed objects u mail.from) = told_known objects u mail.from mail.to (Committed b counts) (subst (λ d. In (Committed b counts) d.know.outcomes) (load_to objects t letter mail) i) in
    listed_final objects t mail.from run b counts (begins_in (listed objects u mail.from) (listed objects t mail.from) (Committed b counts) (listed_to objects t letter.event mail.from) there)

pub ran_spellings : (objects : List ObjectDecl) (t : List Event) (letter : LetterId) → Ran objects t → is_some (letter_at t letter) ≡ true → spelling_of (by_knowledge objects) t letter ≡ spelling_of (by_pasts objects) t letter
ran_spellings objects t letter run there = by (letter_at t letter) (ran_loads objects t letter run there)
  where
    by : (o : Option Mail) → IsSameLoad (load_by objects (received_of objects t) (Some letter) o) (past_load_by objects t letter o)
        → option_map_or spelled (option_map (letter_with (load_by objects (received_of objects t) (Some letter) o)) o) [] ≡ option_map_or spelled (option_map (letter_with (past_load_by objects t letter o)) o) []
    by None same = refl
    by (Some mail) same = spelled_same (λ b. as_counts (deps objects (plain_all t) b)) (load_of objects t letter mail) (past_load_by objects t letter (Some mail)) mail same (said_so objects t letter mail run)

-- of runs without a halt
pub spellings_agree : LettersSpelledAlike
spellings_agree objects t letter run = ran_spellings objects t letter (plain_ran objects t run)
