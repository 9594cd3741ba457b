-- Of what a node knows its site was informed, and of nothing else.
use Rattle.std.proofs.Common.{◌≡◌, inl, inr, ℕ, Bool, true, false, not, ◌&&◌, ◌||◌, List, [], ◌∷◌, ◌++◌, map, Option, refl, sym, ap, ◌∙◌, subst}
use Rattle.std.specs.Prelude.{filter, flat_map}
use Rattle.std.specs.List.{list_any}
use Rattle.std.proofs.lemmas.Bool.{eq-eqb}
use Rattle.std.proofs.lemmas.List.Folds.{list_any-append}
use Rattle.std.proofs.lemmas.List.Elements.{filter-append}
use Rattle.cam_names.specs.declared.name.Name.{Name}
use Rattle.cam_names.specs.Names.{name_eq}
use Rattle.cam_type.specs.declared.ObjectDecl.{ObjectDecl}
use Rattle.cam_know.specs.declared.Outcome.TheVariants.{Aborted, Committed}
use Rattle.cam_know.specs.Knowledge.{Knowledge}
use Rattle.cam_know.specs.Known.{is_abort_of, is_commit_of, knows_abort, knows_commit, both, new_aborts, new_commits, aborted_name, committed_name}
use Rattle.cam_know.specs.Order.{told_in_order}
use Rattle.cam_know.proofs.Union.{any_both}
use Rattle.cam_event.specs.declared.Event.{Event}
use Rattle.cam_event.specs.declared.Deed.{Deed}
use Rattle.cam_event.specs.declared.Deed.TheVariants.{Create, Ask, Call, Perform, Bounce, Got, AskCommit, AskAbort, Commit, Abort, Secure, Inform, Crash}
use Rattle.cam_event.specs.History.{after, informed, is_inform}
use Rattle.cam_event.specs.Inputs.{Mail}
use Rattle.cam_event.specs.Rules.{rule, sorted_names, informs}
use Rattle.cam_event.specs.ByKnowledge.{held, held_sight, learned_by, commit_counts, new_informs}
use Rattle.cam_event.specs.Carried.{Carried, deeds_of}
use Rattle.cam_event.specs.ByDeltas.{Received, as_carried}
use Rattle.cam_event.specs.Taken.{is_entered}
use Rattle.cam_event.proofs.SameInforms.{among_aborted, among_committed}
use Rattle.cam_server.proofs.QuietDeeds.{aborts_informed, commits_informed}
use Rattle.cam_delta.proofs.SameSteps.{among_kept}
use Rattle.cam_delta.proofs.OwnNamed.{skip_first}
use Rattle.cam_node.specs.Lawful.{IsStepOf}
use Rattle.cam_node.specs.Halting.{IsTakenOf, taken}
use Rattle.cam_node.specs.Shapes.{is_mute, IsShaped, Quiet, Single, Commits, Aborts, KnownIsInformed}
use Rattle.cam_node.proofs.Shapes.{rules_are_shaped}

or_none : (b : Bool) → b ≡ (b || false)
or_none true = refl
or_none false = refl

-- a test of the deeds after these
pub any_after : (p : Deed → Bool) (L ds : List Deed) → list_any p (after L ds) ≡ (list_any p L || list_any p ds)
any_after p L [] = or_none (list_any p L)
any_after p L (d ∷ ds) = any_after p (d ∷ L) ds ∙ turned (p d) (list_any p L) (list_any p ds)
  where
    turned : (a b c : Bool) → ((a || b) || c) ≡ (b || (a || c))
    turned true true c = refl
    turned true false c = refl
    turned false b c = refl

-- What the deeds of a rule teach of an action's abort, and of its commit, is of what they inform.
abbrev Tells : List ObjectDecl → ℕ → List Carried → Option Mail → Knowledge → List Deed → Name → Type 0
Tells objects s H mail k own a =
    (y : Bool) × (z : Bool)
    × ((knows_abort (learned_by objects H mail k own) a ≡ (knows_abort k a || y)) × (list_any (is_inform s a false) own ≡ y))
    × ((knows_commit (learned_by objects H mail k own) a ≡ (knows_commit k a || z)) × (list_any (is_inform s a true) own ≡ z))

nothing_told : (objects : List ObjectDecl) (s : ℕ) (H : List Carried) (mail : Option Mail) (k : Knowledge) (own : List Deed) (a : Name)
    → (learned_by objects H mail k own).outcomes ≡ k.outcomes → list_any (is_inform s a false) own ≡ false → list_any (is_inform s a true) own ≡ false
    → Tells objects s H mail k own a
nothing_told objects s H mail k own a same none nor = (
  false,
  false,
  (ap (list_any (is_abort_of a)) same ∙ or_none (knows_abort k a), none),
  (ap (list_any (is_commit_of a)) same ∙ or_none (knows_commit k a), nor),
)

single_tells : (objects : List ObjectDecl) (s : ℕ) (H : List Carried) (mail : Option Mail) (k : Knowledge) (a : Name) (d : Deed) → is_mute d ≡ true → Tells objects s H mail k (d ∷ []) a
single_tells objects s H mail k a (Create b) h = nothing_told objects s H mail k (Create b ∷ []) a refl refl refl
single_tells objects s H mail k a (Ask b c) h = nothing_told objects s H mail k (Ask b c ∷ []) a refl refl refl
single_tells objects s H mail k a (Call b n x op c) h = nothing_told objects s H mail k (Call b n x op c ∷ []) a refl refl refl
single_tells objects s H mail k a (Perform b n answer) h = nothing_told objects s H mail k (Perform b n answer ∷ []) a refl refl refl
single_tells objects s H mail k a (Bounce b n u) h = nothing_told objects s H mail k (Bounce b n u ∷ []) a refl refl refl
single_tells objects s H mail k a (Got b n seen) h = nothing_told objects s H mail k (Got b n seen ∷ []) a refl refl refl
single_tells objects s H mail k a (AskCommit b v) h = nothing_told objects s H mail k (AskCommit b v ∷ []) a refl refl refl
single_tells objects s H mail k a (AskAbort b) h = nothing_told objects s H mail k (AskAbort b ∷ []) a refl refl refl
single_tells objects s H mail k a (Secure f site c) h = nothing_told objects s H mail k (Secure f site c ∷ []) a refl refl refl
single_tells objects s H mail k a (Crash site) h = nothing_told objects s H mail k (Crash site ∷ []) a refl refl refl
single_tells objects s H mail k a (Commit b) h = cc
single_tells objects s H mail k a (Abort b) h = cc
single_tells objects s H mail k a (Inform site b o) h = cc

shaped_tells : (objects : List ObjectDecl) (s : ℕ) (H : List Carried) (mail : Option Mail) (k : Knowledge) (a : Name) (own : List Deed) → IsShaped s own → Tells objects s H mail k own a
shaped_tells objects s H mail k a own Quiet = nothing_told objects s H mail k [] a refl refl refl
shaped_tells objects s H mail k a own (Single d mute) = single_tells objects s H mail k a d mute
shaped_tells objects s H mail k a own (Commits b) =
    let told : Knowledge = record { outcomes = Committed b (commit_counts objects H mail b) ∷ []; counts = k.counts } in (
      false,
      (name_eq a b || false),
      (any_both (is_abort_of a) k told, refl),
      (any_both (is_commit_of a) k told, ap (λ t. (t && name_eq a b) || false) (eq-eqb s s refl)),
    )
shaped_tells objects s H mail k a own (Aborts b) =
    let told : Knowledge = record { outcomes = Aborted b ∷ []; counts = k.counts } in (
      (name_eq a b || false),
      false,
      (any_both (is_abort_of a) k told, ap (λ t. (t && name_eq a b) || false) (eq-eqb s s refl)),
      (any_both (is_commit_of a) k told, refl),
    )

-- the first Informs are of what is told and was not known
first_aborts : (s : ℕ) (brought k : Knowledge) (a : Name) → list_any (is_inform s a false) (new_informs s brought k) ≡ (knows_abort brought a && not (knows_abort k a))
first_aborts s brought k a =
    aborts_informed s (new_aborts brought k) (new_commits brought k) a
    ∙ among_kept (λ b. not (knows_abort k b)) a (flat_map aborted_name brought.outcomes)
    ∙ ap (λ t. t && not (knows_abort k a)) (among_aborted a brought.outcomes)

first_commits : (s : ℕ) (brought k : Knowledge) (a : Name) → list_any (is_inform s a true) (new_informs s brought k) ≡ (knows_commit brought a && not (knows_commit k a))
first_commits s brought k a =
    commits_informed s (new_aborts brought k) (new_commits brought k) a
    ∙ among_kept (λ b. not (knows_commit k b)) a (flat_map committed_name brought.outcomes)
    ∙ ap (λ t. t && not (knows_commit k a)) (among_committed a brought.outcomes)

-- known, told and decided, beside informed of before, first and last
joined : (x b y : Bool) → ((x || b) || y) ≡ (x || ((b && not x) || y))
joined true b y = refl
joined false true y = refl
joined false false y = refl

abbrev Informed : List ObjectDecl → ℕ → List Carried → Name → Type 0
Informed objects s H a = (knows_abort (held objects H) a ≡ informed (deeds_of H) s a false) × (knows_commit (held objects H) a ≡ informed (deeds_of H) s a true)

-- one more event
one_more : (objects : List ObjectDecl) (s : ℕ) (H : List Carried) (c : Carried) (own : List Deed) (a : Name) → c.event.deeds ≡ new_informs s c.brought (held objects H) ++ own → IsShaped s own
    → Informed objects s H a → Informed objects s (c ∷ H) a
one_more objects s H c own a are shaped before = (
  (λ i. knows_abort (learned_by objects H c.mail both_known (are i)) a) ∙ ap (λ (k : Knowledge). knows_abort k a) skipped ∙ tells.2.0
      ∙ (λ i. any_both (is_abort_of a) K c.brought i || tells.0) ∙ joined (knows_abort K a) (knows_abort c.brought a) tells.0
      ∙ (λ i. before.0 i || (sym (first_aborts s c.brought K a) i || sym tells.2.1 i))
      ∙ (λ i. informed D s a false || sym (list_any-append (is_inform s a false) first own) i) ∙ sym (any_after (is_inform s a false) D (first ++ own))
      ∙ (λ i. informed (after D (sym are i)) s a false),
  (λ i. knows_commit (learned_by objects H c.mail both_known (are i)) a) ∙ ap (λ (k : Knowledge). knows_commit k a) skipped ∙ tells.3.0
      ∙ (λ i. any_both (is_commit_of a) K c.brought i || tells.1) ∙ joined (knows_commit K a) (knows_commit c.brought a) tells.1
      ∙ (λ i. before.1 i || (sym (first_commits s c.brought K a) i || sym tells.3.1 i))
      ∙ (λ i. informed D s a true || sym (list_any-append (is_inform s a true) first own) i) ∙ sym (any_after (is_inform s a true) D (first ++ own))
      ∙ (λ i. informed (after D (sym are i)) s a true),
)
  where
    K : Knowledge
    K = held objects H

    both_known : Knowledge
    both_known = both K c.brought

    D : List Deed
    D = deeds_of H

    first : List Deed
    first = new_informs s c.brought K

    skipped : learned_by objects H c.mail both_known (first ++ own) ≡ learned_by objects H c.mail both_known own
    skipped = skip_first objects H c.mail both_known s (new_aborts c.brought K) (new_commits c.brought K) own

    tells : Tells objects s H c.mail both_known own a
    tells = shaped_tells objects s H c.mail both_known a own shaped

-- what an entry has of the deeds of a rule
single_entered : (s : ℕ) (d : Deed) → is_mute d ≡ true → IsShaped s (filter is_entered (d ∷ []))
single_entered s (Create b) h = Quiet
single_entered s (Ask b c) h = Quiet
single_entered s (Call b n x op c) h = Quiet
single_entered s (Perform b n answer) h = Quiet
single_entered s (Bounce b n u) h = Quiet
single_entered s (Got b n seen) h = Quiet
single_entered s (AskCommit b v) h = Quiet
single_entered s (AskAbort b) h = Quiet
single_entered s (Secure f site c) h = Single (Secure f site c) refl
single_entered s (Crash site) h = Single (Crash site) refl
single_entered s (Commit b) h = cc
single_entered s (Abort b) h = cc
single_entered s (Inform site b o) h = cc

entered_shaped : (s : ℕ) (own : List Deed) → IsShaped s own → IsShaped s (filter is_entered own)
entered_shaped s own Quiet = Quiet
entered_shaped s own (Single d mute) = single_entered s d mute
entered_shaped s own (Commits b) = Commits b
entered_shaped s own (Aborts b) = Aborts b

map_entered : (s : ℕ) (o : Bool) (names : List Name) → filter is_entered (map (λ a. Inform s a o) names) ≡ map (λ a. Inform s a o) names
map_entered s o [] = refl
map_entered s o (a ∷ names) = ap (λ ds. Inform s a o ∷ ds) (map_entered s o names)

informs_entered : (s : ℕ) (aborts commits : List Name) → filter is_entered (informs s aborts commits) ≡ informs s aborts commits
informs_entered s aborts commits =
    filter-append is_entered (map (λ a. Inform s a false) (sorted_names aborts)) (map (λ a. Inform s a true) (sorted_names commits))
    ∙ (λ i. map_entered s false (sorted_names aborts) i ++ map_entered s true (sorted_names commits) i)

step_informed : (objects : List ObjectDecl) (s : ℕ) (history : List Received) (c : Received) (a : Name) → IsStepOf objects s history c
    → Informed objects s (map as_carried history) a → Informed objects s (as_carried c ∷ map as_carried history) a
step_informed objects s history c a step before =
    let H = map as_carried history in
    let did = rule objects (held_sight objects s H (told_in_order c.load.know)) c.mail step.input in
    one_more objects s H (as_carried c) did.deeds a (ap (λ (e : Event). e.deeds) step.is_next)
    (rules_are_shaped objects (held_sight objects s H (told_in_order c.load.know)) c.mail step.input) before

pub taken_informed : (objects : List ObjectDecl) (s : ℕ) (history : List Received) (c : Received) (a : Name) → IsTakenOf objects s history c
    → Informed objects s (map as_carried history) a → Informed objects s (as_carried c ∷ map as_carried history) a
taken_informed objects s history c a of before =
    let H = map as_carried history in
    let w : Received = of.whole in
    let brought = told_in_order w.load.know in
    let did = rule objects (held_sight objects s H brought) w.mail of.step.input in
    let first = new_informs s brought (held objects H) in
    subst (λ (x : Received). Informed objects s (as_carried x ∷ H) a) (sym of.is)
    (one_more objects s H (as_carried (taken w)) (filter is_entered did.deeds) a
    (ap (λ (e : Event). filter is_entered e.deeds) of.step.is_next ∙ filter-append is_entered first did.deeds
    ∙ ap (λ ds. ds ++ filter is_entered did.deeds) (informs_entered s (new_aborts brought (held objects H)) (new_commits brought (held objects H))))
    (entered_shaped s did.deeds (rules_are_shaped objects (held_sight objects s H brought) w.mail of.step.input)) before)

pub known_is_informed : KnownIsInformed
known_is_informed objects s [] through a = (refl, refl)
known_is_informed objects s (c ∷ []) through a = step_informed objects s [] c a through (refl, refl)
known_is_informed objects s (c ∷ k ∷ before) through a =
    step_informed objects s (k ∷ before) c a through.0
    (elim (through.1) [
      | inl on ↦ known_is_informed objects s (k ∷ before) on a
      | inr halted ↦ taken_informed objects s before k a halted.1 (known_is_informed objects s before halted.2 a)
    ])
