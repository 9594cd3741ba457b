use Rattle.std.proofs.Common.{◌∙◌, ℕ, List, [], ◌∷◌, ◌++◌, ap, append_assoc, codes, decimal, sym}
use Rattle.cam_run.proofs.image.no_record_line.Goals as goal

pub returns : goal.returns
returns c =
    c.in_ok-format.ensures.ok
    ∙ ap (λ (t : List ℕ). codes "refused record " ++ t) (sym (append_assoc (decimal c.args.entry) (32 ∷ decimal c.args.at) (10 ∷ [])))
