-- Actions that answer as a node's history do so as what the node goes by: the first Informs do not concern them.
use Rattle.std.proofs.Common.{◌≡◌, ℕ, Bool, true, false, List, [], ◌∷◌, ◌++◌, map, filter, refl, ap₂, subst, ◌∙◌}
use Rattle.std.proofs.lemmas.List.Elements.{filter-append}
use Rattle.cam_names.specs.declared.name.Name.{Name}
use Rattle.cam_type.specs.declared.ObjectDecl.{ObjectDecl}
use Rattle.cam_know.specs.Knowledge.{Knowledge}
use Rattle.cam_know.specs.Known.{new_aborts, new_commits}
use Rattle.cam_event.specs.declared.Deed.{Deed}
use Rattle.cam_event.specs.declared.Deed.TheVariants.{Inform}
use Rattle.cam_event.specs.History.{after}
use Rattle.cam_event.specs.Rules.{sorted_names, informs}
use Rattle.cam_event.specs.ByKnowledge.{own_pairs, held, held_informs}
use Rattle.cam_event.specs.Carried.{Carried, deeds_of}
use Rattle.cam_tranman.specs.Events.{is_at_home}
use Rattle.cam_tranman.specs.Steps.{SightIsAnswered}
use Rattle.cam_tranman.proofs.Home.{SameHome, same_home}
use Rattle.cam_tranman.proofs.Running.{runs_by, answers_deeds, same_runs}

informs_away : (s : ℕ) (committed : Bool) (names : List Name) → filter is_at_home (map (λ a. Inform s a committed) names) ≡ []
informs_away s committed [] = refl
informs_away s committed (a ∷ names) = informs_away s committed names

pub first_away : (s : ℕ) (aborts commits : List Name) → filter is_at_home (informs s aborts commits) ≡ []
first_away s aborts commits =
    filter-append is_at_home (map (λ a. Inform s a false) (sorted_names aborts)) (map (λ a. Inform s a true) (sorted_names commits))
    ∙ ap₂ (λ (x y : List Deed). x ++ y) (informs_away s false (sorted_names aborts)) (informs_away s true (sorted_names commits))

pub held_away : (objects : List ObjectDecl) (s : ℕ) (before : List Carried) (brought : Knowledge) → filter is_at_home (held_informs objects s before brought) ≡ []
held_away objects s before brought = first_away s (new_aborts brought (held objects before)) (new_commits brought (held objects before))

pub same_sight : (objects : List ObjectDecl) (s : ℕ) (before : List Carried) (brought : Knowledge)
    → SameHome (deeds_of before) (after (deeds_of before) (held_informs objects s before brought))
same_sight objects s before brought =
    subst (λ (hs : List Deed). SameHome (after (deeds_of before) hs) (after (deeds_of before) (held_informs objects s before brought)))
    (held_away objects s before brought) (same_home (held_informs objects s before brought) (deeds_of before))

pub sight_is_answered : SightIsAnswered
sight_is_answered objects s before brought actions runs =
    answers_deeds objects s (after (deeds_of before) (held_informs objects s before brought)) (own_pairs objects before) actions
    (same_runs objects s (deeds_of before) (after (deeds_of before) (held_informs objects s before brought)) (own_pairs objects before)
    (own_pairs objects before) actions (same_sight objects s before brought) (λ a. refl)
    (runs_by objects s (deeds_of before) (own_pairs objects before) actions runs))
