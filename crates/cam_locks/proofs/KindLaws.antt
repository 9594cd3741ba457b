-- The kind of an object stays: in what was written, in what is replayed, and where what is kept is tidied.
use Rattle.std.proofs.Common.{◌≡◌, ◌⊎◌, ℕ, ◌-◌, ◌<◌, Bool, true, false, cond, List, [], ◌∷◌, ◌++◌, length, get_or, set, Option, zero, suc, refl, sym, ap, subst, ◌∙◌, arith}
use Rattle.std.proofs.Math.Logic.{inl, inr}
use Rattle.cam_names.specs.declared.name.Name.{Name}
use Rattle.cam_type.specs.declared.Kind.{Kind}
use Rattle.cam_type.specs.declared.State.{State}
use Rattle.cam_type.specs.Table.{kind_of, state_after}
use Rattle.cam_type.proofs.KeptKinds.{keeping}
use Rattle.cam_locks.specs.declared.LiveOp.{LiveOp}
use Rattle.cam_locks.specs.declared.versions.Version.{Version}
use Rattle.cam_locks.specs.Members.{In}
use Rattle.cam_locks.specs.Moss.{replay}
use Rattle.cam_locks.specs.Changes.{state_of, last_state, written, with_write, has_holder}
use Rattle.cam_locks.specs.Kinds.{AreOfKind}
use Rattle.cam_locks.proofs.LastElements.{split_last, last_snoc, set_snoc}
use Rattle.cam_locks.proofs.Members.{in_left, in_right, in_either, in_last}

-- a replay leaves the kind
pub replay_kind : (state : State) (os : List LiveOp) → kind_of (replay state os) ≡ kind_of state
replay_kind state [] = refl
replay_kind state (o ∷ os) = replay_kind (state_after state o.op) os ∙ keeping state o.op

in_at : (vs : List Version) (i : ℕ) (v : Version) → i < length vs → v ≡ get_or vs i v → In v vs
in_at [] i v lt is = absurd (omega arith)
in_at (w ∷ vs) zero v lt is = inl is
in_at (w ∷ vs) (suc i) v lt is = inr (in_at vs i v (omega arith) is)

-- the kind of a version at a place
pub kind_at : (k : Kind) (vs : List Version) (i : ℕ) (v : Version) → i < length vs → v ≡ get_or vs i v → AreOfKind k vs → kind_of v.state ≡ k
kind_at k vs i v lt is h = h v (in_at vs i v lt is)

-- of what stands before and behind
pub kinds_left : (k : Kind) (us vs : List Version) → AreOfKind k (us ++ vs) → AreOfKind k us
kinds_left k us vs h = λ v member. h v (in_left v us vs member)

kinds_last : (k : Kind) (us : List Version) (v : Version) → AreOfKind k (us ++ v ∷ []) → kind_of v.state ≡ k
kinds_last k us v h = h v (in_right v us (v ∷ []) (inl refl))

kinds_snoc : (k : Kind) (us : List Version) (v : Version) → AreOfKind k us → kind_of v.state ≡ k → AreOfKind k (us ++ v ∷ [])
kinds_snoc k us v h one =
    λ w member. elim (in_either w us (v ∷ []) member) [
      | inl a ↦ h w a
      | inr b ↦ ap (λ (u : Version). kind_of u.state) (in_last w v b) ∙ one
    ]

-- fewer versions before the last one
pub kinds_fewer : (k : Kind) (us ws : List Version) (v : Version) → (AreOfKind k us → AreOfKind k ws) → AreOfKind k (us ++ v ∷ []) → AreOfKind k (ws ++ v ∷ [])
kinds_fewer k us ws v fewer h = kinds_snoc k ws v (fewer (kinds_left k us (v ∷ []) h)) (kinds_last k us v h)

-- the kind of what was written last
last_kind : (k : Kind) (start : State) (vs : List Version) → kind_of start ≡ k → AreOfKind k vs → kind_of (last_state start vs) ≡ k
last_kind k start vs first h = by_split (split_last vs)
  where
    by_split : (vs ≡ []) ⊎ ((ys : List Version) × (y : Version) × (vs ≡ ys ++ y ∷ [])) → kind_of (last_state start vs) ≡ k
    by_split (inl none) = ap (λ (us : List Version). kind_of (last_state start us)) none ∙ first
    by_split (inr r) =
        ap (λ (us : List Version). kind_of (last_state start us)) r.2
        ∙ ap (λ (o : Option Version). kind_of (state_of start o)) (last_snoc r.0 r.1)
        ∙ kinds_last k r.0 r.1 (subst (AreOfKind k) r.2 h)

kinds_set : (k : Kind) (vs : List Version) (w : Version) → AreOfKind k vs → kind_of w.state ≡ k → AreOfKind k (set vs (length vs - 1) w)
kinds_set k vs w h one = by_split (split_last vs)
  where
    by_split : (vs ≡ []) ⊎ ((ys : List Version) × (y : Version) × (vs ≡ ys ++ y ∷ [])) → AreOfKind k (set vs (length vs - 1) w)
    by_split (inl none) = subst (λ (us : List Version). AreOfKind k (set us (length us - 1) w)) (sym none) (λ v member. absurd member)
    by_split (inr r) =
        subst (λ (us : List Version). AreOfKind k (set us (length us - 1) w)) (sym r.2)
        (subst (AreOfKind k) (sym (set_snoc r.0 r.1 w))
        (kinds_snoc k r.0 w (kinds_left k r.0 (r.1 ∷ []) (subst (AreOfKind k) r.2 h)) one))

-- a write leaves the kind
pub kinds_written : (k : Kind) (ns : List Name) (start : State) (vs : List Version) (o : LiveOp) → kind_of start ≡ k → AreOfKind k vs → AreOfKind k (with_write ns start vs o)
kinds_written k ns start vs o first h = by_holder (has_holder ns vs o)
  where
    one : kind_of (written start vs o).state ≡ k
    one = keeping (last_state start vs) o.op ∙ last_kind k start vs first h

    by_holder : (b : Bool) → AreOfKind k (cond b (set vs (length vs - 1) (written start vs o)) (vs ++ written start vs o ∷ []))
    by_holder true = kinds_set k vs (written start vs o) h one
    by_holder false = kinds_snoc k vs (written start vs o) h one
