-- For each Secure of a node a log that keeps its history holds the family's operations that were live
-- just before.
use Rattle.std.proofs.Common.{◌≡◌, ℕ, List, [], ◌∷◌, map, ap, ◌∙◌}
use Rattle.std.specs.Prelude.{reverse}
use Rattle.cam_names.specs.declared.name.Name.{Name}
use Rattle.cam_type.specs.declared.Held.{Held}
use Rattle.cam_type.specs.declared.HeldOp.{HeldOp}
use Rattle.cam_event.specs.declared.Operation.{Operation}
use Rattle.cam_event.specs.Pasts.{plain_all}
use Rattle.cam_event.specs.ByKnowledge.{of_node, carried_of}
use Rattle.cam_event.specs.HeldSites.{Placed, site}
use Rattle.cam_node.specs.Kept.{Secured, secured_of, AllStandFor, AllHeld}
use Rattle.cam_server.specs.Recovered.{AreHeldOps, AreHeld}
use Rattle.cam_headline.specs.KeptLog.{LogsKeepSecured}
use Rattle.cam_headline.proofs.KeptLists.{Essence, of_placed, of_operation, AllAlike}
use Rattle.cam_headline.proofs.KeptWhole.{kept_whole}
use Rattle.cam_headline.proofs.KeptGroups.{groups_at}

-- A log that keeps the groups holds what the definition has.
ops_held : (hs : List HeldOp) (ps : List Placed) (os : List Operation) → AreHeldOps hs ps → map of_placed ps ≡ map of_operation os → AllStandFor hs os
ops_held [] [] [] held same = tt
ops_held [] [] (o ∷ os) held same = cc
ops_held [] (p ∷ ps) os held same = absurd held
ops_held (h ∷ hs) [] os held same = absurd held
ops_held (h ∷ hs) (p ∷ ps) [] held same = cc
ops_held (h ∷ hs) (p ∷ ps) (o ∷ os) held same =
    let first : of_placed p ≡ of_operation o = ap (head_or (of_placed p)) same in
    let rest : map of_placed ps ≡ map of_operation os = ap behind same in
    ((held.0.0 ∙ ap (λ (x : Essence). x.0) first, held.0.1 ∙ ap (λ (x : Essence). x.1) first), ops_held hs ps os held.1 rest)
  where
    head_or : Essence → List Essence → Essence
    head_or x [] = x
    head_or x (y ∷ ys) = y

    behind : List Essence → List Essence
    behind [] = []
    behind (y ∷ ys) = ys

groups_held : (hs : List Held) (gs : List (Name × List Placed)) (ks : List Secured) → AreHeld hs gs → AllAlike gs ks → map (λ (h : Held). h.count) hs ≡ map (λ (k : Secured). k.count) ks → AllHeld hs ks
groups_held [] [] [] held alike counts = tt
groups_held [] [] (k ∷ ks) held alike counts = absurd alike
groups_held [] (g ∷ gs) ks held alike counts = absurd held
groups_held (h ∷ hs) [] ks held alike counts = absurd held
groups_held (h ∷ hs) (g ∷ gs) [] held alike counts = absurd alike
groups_held (h ∷ hs) (g ∷ gs) (k ∷ ks) held alike counts =
    ((held.0 ∙ alike.0.0, ap (head_or h.count) counts, ops_held h.ops g.1 k.operations held.1 alike.0.1), groups_held hs gs ks held.2 alike.1 (ap behind counts))
  where
    head_or : ℕ → List ℕ → ℕ
    head_or x [] = x
    head_or x (y ∷ ys) = y

    behind : List ℕ → List ℕ
    behind [] = []
    behind (y ∷ ys) = ys

pub logs_keep_secured : LogsKeepSecured
logs_keep_secured objects taken t s logged run log =
    let at = groups_at objects t s (taken, run) in
    groups_held logged.held (reverse (site (of_node (carried_of objects t) s)).secured) (secured_of objects (plain_all t) s) (kept_whole objects taken t s logged run log).secured at.alike ((kept_whole objects taken t s logged run log).counts ∙ at.counts)
