-- The live operations of a table beside those for which they stand: what is left of both, and one more.
use Rattle.std.proofs.Common.{◌≡◌, Bool, true, false, not, cond, List, [], ◌∷◌, ◌++◌, filter, ap}
use Rattle.std.specs.List.{list_any}
use Rattle.cam_names.specs.declared.name.Name.{Name}
use Rattle.cam_names.specs.Names.{ancestors}
use Rattle.cam_event.specs.HeldSites.{Placed}
use Rattle.cam_locks.specs.declared.LiveOp.{LiveOp}
use Rattle.cam_server.specs.Server.{IsLiveOp, AreLiveOps}
use Rattle.cam_server.proofs.QuietDeeds.{is_down, left}

abbrev pub left_live : (Name → Bool) → List LiveOp → List LiveOp
left_live down ks = filter (λ k. not (list_any down (ancestors k.action))) ks

pub are_left : (down : Name → Bool) (ks : List LiveOp) (ps : List Placed) → AreLiveOps ks ps
    → AreLiveOps (left_live down ks) (left down ps)
are_left down [] [] are = tt
are_left down [] (p ∷ ps) are = absurd are
are_left down (k ∷ ks) [] are = absurd are
are_left down (k ∷ ks) (p ∷ ps) are =
    let same : k.action ≡ p.operation.action = are.0.action in
    by (not (list_any down (ancestors k.action))) (not (is_down down p)) (ap (λ (a : Name). not (list_any down (ancestors a))) same) (are_left down ks ps are.1)
  where
    by : (b c : Bool) → b ≡ c → AreLiveOps (left_live down ks) (left down ps)
        → AreLiveOps (cond b (k ∷ left_live down ks) (left_live down ks)) (cond c (p ∷ left down ps) (left down ps))
    by true true is rest = (are.0, rest)
    by false false is rest = rest
    by true false is rest = cc
    by false true is rest = cc

pub are_more : (ks : List LiveOp) (ps : List Placed) (k : LiveOp) (p : Placed) → AreLiveOps ks ps → IsLiveOp k p.operation
    → AreLiveOps (ks ++ k ∷ []) (ps ++ p ∷ [])
are_more [] [] k p are is = (is, tt)
are_more [] (q ∷ ps) k p are is = absurd are
are_more (j ∷ ks) [] k p are is = absurd are
are_more (j ∷ ks) (q ∷ ps) k p are is = (are.0, are_more ks ps k p are.1 is)
