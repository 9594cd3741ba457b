-- The last version: its state, and whether it is live.
use Rattle.std.proofs.Common.{◌≡◌, ℕ, ◌+◌, true, List, [], ◌∷◌, ◌++◌, length, get_or, Option, sym, ap, subst, ◌∙◌}
use Rattle.std.specs.Prelude.{IfSome}
use Rattle.cam_type.specs.declared.State.{State}
use Rattle.cam_locks.specs.declared.LiveOp.{LiveOp}
use Rattle.cam_locks.specs.declared.versions.Version.{Version}
use Rattle.cam_locks.specs.Holding.{has_op}
use Rattle.cam_locks.specs.Changes.{last_of, state_of, last_state, LastIsLive}
use Rattle.cam_locks.proofs.LastElements.{last_at, last_none, last_snoc}

-- the state of the version at the last place is the last one
pub state_at : (start : State) (vs : List Version) (k : ℕ) (v : Version) → length vs ≡ k + 1 → v ≡ get_or vs k v → last_state start vs ≡ v.state
state_at start vs k v len is = ap (state_of start) (last_at vs k v len is)

-- the last version is live
pub last_live : (os : List LiveOp) (vs us : List Version) (v : Version) → vs ≡ us ++ v ∷ [] → has_op os v.last.index ≡ true → LastIsLive os vs
last_live os vs us v is live =
    subst (λ (r : Option Version). IfSome r (λ (w : Version). has_op os w.last.index ≡ true)) (sym (ap last_of is ∙ last_snoc us v)) live

-- without versions nothing is to be live
pub last_live_none : (os : List LiveOp) (vs : List Version) → length vs ≡ 0 → LastIsLive os vs
last_live_none os vs none =
    subst (λ (r : Option Version). IfSome r (λ (w : Version). has_op os w.last.index ≡ true)) (sym (last_none vs none)) tt
