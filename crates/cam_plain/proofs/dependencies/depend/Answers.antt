use Rattle.std.proofs.Common.{ℕ, ◌||◌, List, ap, ◌∙◌}
use Rattle.cam_names.specs.Dependencies.{has_pair}
use Rattle.cam_plain.proofs.Dependent.{put_pairs}
use Rattle.cam_plain.proofs.dependencies.depend.Goals as goal

pub returns : goal.returns
returns c =
    put_pairs c.args.dependencies.now c.insert.new.self c.args.action.now c.args.more.now c.add_pairs.new.pairs
    (λ s t. c.in_ok-add_pairs.ensures s t ∙ ap (λ (ps : List (ℕ × ℕ)). has_pair c.args.more.now s t || has_pair ps s t) c.in_ok-pairs.ensures)
    c.in_ok-insert.ensures.updates.0
