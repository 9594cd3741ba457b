-- Families that answer as a node's history does answer as what the node goes by: the first Informs secure nothing, and what a letter brings
-- takes no outcome away.
use Rattle.std.proofs.Common.{◌≡◌, ℕ, false, ◌||◌, List, sym, ap, ◌∙◌}
use Rattle.std.specs.List.{list_any}
use Rattle.std.proofs.lemmas.Bool.{or_parts}
use Rattle.cam_names.specs.declared.name.Name.{Name}
use Rattle.cam_type.specs.declared.ObjectDecl.{ObjectDecl}
use Rattle.cam_know.specs.Knowledge.{Knowledge}
use Rattle.cam_know.specs.Known.{both, knows_abort, knows_commit, new_aborts, new_commits, is_abort_of, is_commit_of}
use Rattle.cam_know.proofs.Union.{any_both}
use Rattle.cam_event.specs.History.{is_secure_at}
use Rattle.cam_event.specs.Sights.{knows_outcome}
use Rattle.cam_event.specs.ByKnowledge.{held, held_sight, held_informs}
use Rattle.cam_event.specs.Carried.{Carried, deeds_of}
use Rattle.cam_event.proofs.Agree.{any_after}
use Rattle.cam_commit.specs.Families.{IsUndecided}
use Rattle.cam_commit.specs.Steps.{SightIsAnswered}
use Rattle.cam_commit.proofs.StepKinds.{informs_secure_none}

-- what the node does not know with the letter it did not know without
undecided_before : (objects : List ObjectDecl) (s : ℕ) (before : List Carried) (brought : Knowledge) (f : Name)
    → knows_outcome (held_sight objects s before brought) f ≡ false → IsUndecided objects before f
undecided_before objects s before brought f undecided =
    let k = both (held objects before) brought in
    let neither = or_parts (knows_commit k f) (knows_abort k f) undecided in
    let a = or_parts (knows_abort (held objects before) f) (knows_abort brought f) (sym (any_both (is_abort_of f) (held objects before) brought) ∙ neither.1) in
    let c = or_parts (knows_commit (held objects before) f) (knows_commit brought f) (sym (any_both (is_commit_of f) (held objects before) brought) ∙ neither.0) in
    (a.0, c.0)

pub sight_is_answered : SightIsAnswered
sight_is_answered objects s before brought families commits f undecided =
    let was = undecided_before objects s before brought f undecided in
    let first = held_informs objects s before brought in
    record {
      preparing = commits.preparing f was;
      voted = λ m c. commits.voted f m c was;
      secured =
          commits.secured f was
          ∙ sym (any_after (is_secure_at f s) first (deeds_of before)
          ∙ ap (λ b. b || list_any (is_secure_at f s) (deeds_of before)) (informs_secure_none f s (new_aborts brought (held objects before)) (new_commits brought (held objects before))));
    }
