-- The works go on with their disks: as they are, and one after another.
use Rattle.std.proofs.Common.{◌≡◌, ◌⊎◌, inl, inr, ℕ, ◌+◌, ◌≤◌, Bool, true, List, sym, ap, ◌∙◌, subst}
use Rattle.std.proofs.Common.{arith}
use Rattle.cam_net.specs.Waiting.{is_halted}
use Rattle.cam_node.specs.declared.fault.NodeFault.{NodeFault}
use Rattle.cam_cluster.specs.declared.works.failing.Failed.{Failed}
use Rattle.cam_cluster.specs.declared.works.failing.Ending.TheVariants as endings
use Rattle.cam_cluster.specs.Failing.{FailedIn, GoOn, IsAfterHalt, IsAfterRestart, IsKnownToFail}
use Rattle.cam_cluster.specs.HandedBack.{AreHandedBack, HasFailed}
use Rattle.cam_cluster.specs.Works.{NodeFields, has_failed}
use Rattle.cam_cluster.proofs.Failures.{halt_disks, halt_ends, halt_knows, knows_same, knows_then}
use Rattle.cam_cluster.proofs.Failures.{restart_knows, restart_names, still_failed}
use Rattle.cam_cluster.proofs.HandedBack.{all_same, failed_between, then_later}

abbrev pub tells : NodeFields → Bool
tells n = n.tells

abbrev pub count : NodeFields → ℕ
count n = n.failures

-- what is known stays known
pub known_still : (now : Failed) (olds news : List NodeFields) → IsKnownToFail now olds now news
known_still now olds news =
    record { more = knows_same now; disk = λ s low is. inl is; ends = λ s is. inl is }

-- as they are
pub goes_on_still : {nodes : List NodeFields} {now : Failed} → GoOn nodes now nodes now
goes_on_still {nodes = nodes} {now = now} =
    record { later = all_same _ _ _; known = known_still _ _ _ }

pub goes_on_same : (olds : List NodeFields) (before : Failed) (news : List NodeFields)
    (now : Failed) → news ≡ olds → now ≡ before → GoOn olds before news now
goes_on_same olds before news now nodes known =
    subst (λ (z : List NodeFields × Failed). GoOn olds before z.0 z.1)
    (λ i. (sym nodes i, sym known i)) goes_on_still

known_then : (first next last : Failed) (olds mids news : List NodeFields)
    → AreHandedBack tells count olds mids → AreHandedBack tells count mids news
    → IsKnownToFail first olds next mids → IsKnownToFail next mids last news
    → IsKnownToFail first olds last news
known_then first next last olds mids news low high one two = record {
  more = knows_then first next last one.more two.more;
  disk = λ s least is. by s least (two.disk s least is);
  ends = λ s is. ended s (two.ends s is);
}
  where
    by : (s : ℕ) → 1 ≤ s → (has_failed next s ≡ true) ⊎ HasFailed count count s mids news
        → (has_failed first s ≡ true) ⊎ HasFailed count count s olds news
    by s least (inl was) = elim (one.disk s least was) [
      | inl first ↦ inl first
      | inr fell ↦
          inr (failed_between tells _ _ _ _ _ _ _ _ _ _ _ _ (all_same _ _ _) fell high)
    ]
    by s least (inr fell) =
        inr (failed_between _ _ _ _ tells _ _ _ _ _ _ _ _ low fell (all_same _ _ _))

    ended : (s : ℕ) → (next.ends ≡ endings.Disk s) ⊎ FailedIn last s
        → (first.ends ≡ endings.Disk s) ⊎ FailedIn last s
    ended s (inr now) = inr now
    ended s (inl was) = elim (one.ends s was) [
      | inl first ↦ inl first
      | inr fell ↦ inr (fell.0, still_failed next last s two.more fell.1)
    ]

-- They go on, and on.
pub goes_on_then : {olds mids news : List NodeFields} {first next last : Failed}
    → GoOn olds first mids next → GoOn mids next news last → GoOn olds first news last
goes_on_then {olds = olds} {mids = mids} {news = news} {first = first} {next = next} {last = last}
    one two = record {
      later = then_later _ _ _ _ _ _ _ _ _ one.later two.later;
      known = known_then _ _ _ _ _ _ one.later two.later one.known two.known;
    }

-- and more is known at last
pub goes_on_with : {olds news : List NodeFields} {first known last : Failed}
    → GoOn olds first news known → IsKnownToFail known news last news → GoOn olds first news last
goes_on_with on more =
    goes_on_then on (record { later = all_same _ _ _; known = more })

-- how: nothing more, what is known where a node halts, and where its restart fails
pub same_known : (known now : Failed) → now ≡ known → (nodes : List NodeFields)
    → IsKnownToFail known nodes now nodes
same_known known now same nodes =
    subst (λ (f : Failed). IsKnownToFail known nodes f nodes) (sym same) (known_still _ _ _)

pub halt_known : (fault : NodeFault) (known now : Failed) → IsAfterHalt fault known now
    → (nodes : List NodeFields) → IsKnownToFail known nodes now nodes
halt_known fault known now is nodes = record {
  more = halt_knows fault known now is;
  disk = λ s low fell.
      inl (ap (λ (ds : List Bool). is_halted ds s) (sym (halt_disks fault known now is)) ∙ fell);
  ends = λ s disk. inl (halt_ends fault known now s is disk);
}

pub restart_known : (place : ℕ) (known now : Failed) → IsAfterRestart place known now
    → (nodes : List NodeFields) → IsKnownToFail known nodes now nodes
restart_known place known now is nodes = record {
  more = restart_knows place known now is;
  disk = λ s low fell. inl (ap (λ (ds : List Bool). is_halted ds s) (sym is.same) ∙ fell);
  ends = λ s disk. by s (restart_names place known now is s disk);
}
  where
    by : (s : ℕ) → (known.ends ≡ endings.Disk s)
        ⊎ ((place + 1 ≡ s) × (has_failed known (place + 1) ≡ true))
        → (known.ends ≡ endings.Disk s) ⊎ FailedIn now s
    by s (inl was) = inl was
    by s (inr own) =
        let here = own.0 in
        inr (
          omega (arith, here),
          ap (λ (ds : List Bool). is_halted ds s) is.same
              ∙ ap (has_failed known) (sym own.0) ∙ own.1,
        )
