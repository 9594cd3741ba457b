use Rattle.std.proofs.Common.{[], ◌∷◌, ◌++◌, ap, ◌∙◌}
use Rattle.cam_test_program.proofs.Pairs.{two_are_seats}
use Rattle.cam_test_program.proofs.journal.gather_two.Goals as goal

pub gather-requires : goal.gather-requires
gather-requires c =
    let first = c.in_ok-push.ensures.items ∙ ap (λ seats. seats ++ c.args.two ∷ []) c.new-seats.ensures.items in
    let both = c.in_ok-push-2.ensures.items ∙ ap (λ seats. seats ++ c.args.one ∷ []) first in
    two_are_seats c.args.journal c.push-2.new.self.items c.args.one c.args.two both c.requires.nodes c.requires.one.0 c.requires.one.1 c.requires.two.0 c.requires.two.1
