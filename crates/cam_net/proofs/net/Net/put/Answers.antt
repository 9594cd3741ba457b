-- The letter stands behind those that were put before, as its spelling.
use Rattle.std.proofs.Common.{◌++◌, [], ◌∷◌, List, ℕ, false, ap, ◌∙◌, subst}
use Rattle.cam_wire.specs.Laws.{IsSpelled}
use Rattle.cam_net.specs.Letters.{InFlightFields}
use Rattle.cam_net.proofs.net.Net.put.Goals as goal

pub returns-clause-put : goal.returns-clause-put
returns-clause-put c =
    c.in_ok-push.ensures.items
    ∙ ap (λ (old : List InFlightFields). old ++ record { receiver = c.args.letter.now.to; bytes = c.in_ok-bytes.bytes.items; lost = false; delivered = false } ∷ []) c.self.view_is
    ∙ ap (λ (bytes : List ℕ). c.args.self.now ++ record { receiver = c.args.letter.now.to; bytes = bytes; lost = false; delivered = false } ∷ []) c.in_ok-bytes.ensures.value

-- What is put are the bytes that `encode` made.
pub returns-clause-spells : goal.returns-clause-spells
returns-clause-spells c =
    λ one. subst (λ (bytes : List ℕ). IsSpelled c.args.letter.now bytes) c.in_ok-bytes.ensures.value
    (c.in_ok-bytes.ensures.whole one)
