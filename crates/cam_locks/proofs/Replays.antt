-- What one more operation adds to a replay.
use Rattle.std.proofs.Common.{◌≡◌, ℕ, ◌+◌, ◌<◌, List, [], ◌∷◌, ◌++◌, length, take, get_or, refl, sym, ap, ◌∙◌}
use Rattle.cam_type.specs.declared.State.{State}
use Rattle.cam_type.specs.Table.{state_after}
use Rattle.cam_locks.specs.declared.LiveOp.{LiveOp}
use Rattle.cam_locks.specs.Moss.{replay}
use Rattle.cam_locks.proofs.Lists.{taken}

-- to replay two lists is to replay the one and then the other
pub replay_append : (state : State) (os ps : List LiveOp) → replay state (os ++ ps) ≡ replay (replay state os) ps
replay_append state [] ps = refl
replay_append state (o ∷ os) ps = replay_append (state_after state o.op) os ps

-- the replay of one more operation of a list
pub replay_further : (start old new : State) (os : List LiveOp) (i : ℕ) (o : LiveOp)
    → i < length os → o ≡ get_or os i o → old ≡ replay start (take i os) → new ≡ state_after old o.op → new ≡ replay start (take (i + 1) os)
replay_further start old new os i o h is so_far step =
    step ∙ ap (λ (s : State). state_after s o.op) so_far ∙ sym (replay_append start (take i os) (o ∷ []))
    ∙ ap (replay start) (sym (taken os i o h is))
