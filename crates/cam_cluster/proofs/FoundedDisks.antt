-- Disks over which nodes are formatted, and that are taken out of them: one more, the last.
use Rattle.std.proofs.Common.{◌≡◌, ℕ, zero, suc, ◌+◌, ◌-◌, Bool, List, [], ◌∷◌, ◌++◌, length, Some}
use Rattle.std.proofs.Common.{refl, sym, ap, ◌∙◌, subst, arith, length-append}
use Rattle.std.specs.Prelude.{map, slice_get}
use Rattle.std.proofs.lemmas.List.{length-map, map-append}
use Rattle.std.proofs.lemmas.Option.{none-some}
use Rattle.cam_base.specs.Causes.{Rose}
use Rattle.cam_node.specs.declared.fault.NodeFault.{NodeFault}
use Rattle.cam_node.specs.declared.fault.NodeFault.TheVariants as node_faults
use Rattle.cam_cluster.specs.declared.fault.RunFault.{RunFault}
use Rattle.cam_cluster.specs.declared.fault.RunFault.TheVariants as faults
use Rattle.cam_cluster.specs.Founding.{fault_at}
use Rattle.cam_cluster.specs.HandedBack.{AreHandedBack, AreLater, HasFailed, IsLater, NamesFailed}
use Rattle.cam_cluster.specs.Works.{NodeFields}
use Rattle.cam_cluster.proofs.HandedBack.{all_same, as_many}

-- as many, where as many are seen
pub as_many_nodes : {N F : Type 0} (f : N → F) (olds news : List N)
    → length (map f news) ≡ length (map f olds) → length news ≡ length olds
as_many_nodes f olds news same = sym (length-map news f) ∙ same ∙ length-map olds f

pub nodes_as_many : {N : Type 0} (part : N → NodeFields) (olds news : List N)
    → AreHandedBack (λ (n : NodeFields). n.tells) (λ (n : NodeFields). n.failures) (map part olds)
    (map part news)
    → length news ≡ length olds
nodes_as_many part olds news later = as_many_nodes _ _ _ (as_many _ _ _ _ _ _ later)

-- what stands before the last stands at its place, and so does the last
at_front : {X : Type 0} (xs ys : List X) (k : ℕ) (x : X) → slice_get xs k ≡ Some x
    → slice_get (xs ++ ys) k ≡ Some x
at_front [] ys k x at = absurd (none-some x at)
at_front (y ∷ xs) ys zero x at = at
at_front (y ∷ xs) ys (suc k) x at = at_front xs ys k x at

at_last : {X : Type 0} (xs : List X) (x : X) → slice_get (xs ++ x ∷ []) (length xs) ≡ Some x
at_last [] x = refl
at_last (y ∷ xs) x = at_last xs x

module _ {A B : Type 0} (told_before : A → Bool) (faults_before : A → ℕ) (tells : B → Bool)
    (faults_of : B → ℕ) where
  later_behind : (olds : List A) (news : List B) (old : A) (new : B)
      → AreLater told_before faults_before tells faults_of olds news
      → IsLater told_before faults_before tells faults_of old new
      → AreLater told_before faults_before tells faults_of (olds ++ old ∷ []) (news ++ new ∷ [])
  later_behind [] [] old new later last = (last, tt)
  later_behind [] (n ∷ news) old new later last = elim later [ ]
  later_behind (o ∷ olds) [] old new later last = elim later [ ]
  later_behind (o ∷ olds) (n ∷ news) old new later last =
      (later.0, later_behind olds news old new later.1 last)

  -- one more, the last
  pub later_last : (olds all : List A) (news now : List B) (old : A) (new : B)
      → all ≡ olds ++ old ∷ [] → now ≡ news ++ new ∷ []
      → AreLater told_before faults_before tells faults_of olds news
      → IsLater told_before faults_before tells faults_of old new
      → AreLater told_before faults_before tells faults_of all now
  later_last olds all news now old new all_is now_is later last =
      subst (λ (z : List A × List B).
      AreLater told_before faults_before tells faults_of z.0 z.1)
      (sym (λ i. (all_is i, now_is i))) (later_behind olds news old new later last)

-- what is seen of a list with one more, the last
pub seen_last : {X Y : Type 0} (f : X → Y) (xs all : List X) (x : X) → all ≡ xs ++ x ∷ []
    → map f all ≡ map f xs ++ f x ∷ []
seen_last f xs all x is = ap (map f) is ∙ map-append f xs (x ∷ [])

module _ {D : Type 0} (tells : D → Bool) (faults_of : D → ℕ) where
  -- The node of the last disk was refused: the others are as they were.
  pub refused_back : (front all now : List D) (old new : D) → all ≡ front ++ old ∷ []
      → now ≡ front ++ new ∷ [] → IsLater tells faults_of tells faults_of old new
      → AreHandedBack tells faults_of all now
  refused_back front all now old new all_is now_is here =
      later_last tells faults_of tells faults_of front all front now old new all_is now_is (all_same
      _ _ _) here

  -- a disk that failed, the last
  last_failed : (front : List D) (old new : D) (s : ℕ) → s ≡ length front + 1
      → Rose (faults_of old) (faults_of new)
      → HasFailed faults_of faults_of s (front ++ old ∷ []) (front ++ new ∷ [])
  last_failed front old new s place rose =
      let back : length front ≡ s - 1 = omega (arith, place) in
      let many = length-append front (old ∷ []) in
      record {
        low = omega (arith, place);
        high = omega (arith, place, many);
        old = old;
        new = new;
        was = rw (← back) (at_last front old);
        is = rw (← back) (at_last front new);
        rose = rose;
      }

  -- so the cause, where it is the last that was refused
  pub cause_last : (fault : RunFault) (given : NodeFault) (s : ℕ) (front all now : List D)
      (old new : D) → fault ≡ fault_at s given → s ≡ length front + 1 → all ≡ front ++ old ∷ []
      → now ≡ front ++ new ∷ []
      → (given ≡ node_faults.DiskFault → Rose (faults_of old) (faults_of new))
      → NamesFailed faults_of all now fault
  cause_last fault given s front all now old new is place all_is now_is rose =
      subst (λ (z : List D × List D × RunFault). NamesFailed faults_of z.0 z.1 z.2)
      (sym (λ i. (all_is i, now_is i, is i))) (by given rose)
    where
      by : (n : NodeFault) → (n ≡ node_faults.DiskFault → Rose (faults_of old) (faults_of new))
          → NamesFailed faults_of (front ++ old ∷ []) (front ++ new ∷ []) (fault_at s n)
      by node_faults.DiskFault has = last_failed front old new s place (has refl)
      by node_faults.NoMemory has = tt

  -- and where it is one before
  pub cause_front : (fault : RunFault) (front lower all now : List D) (old new : D)
      → all ≡ front ++ old ∷ [] → now ≡ lower ++ new ∷ [] → NamesFailed faults_of front lower fault
      → NamesFailed faults_of all now fault
  cause_front fault front lower all now old new all_is now_is cause =
      subst (λ (z : List D × List D). NamesFailed faults_of z.0 z.1 fault) (sym (λ i. (
        all_is i,
        now_is i,
      ))) (by fault cause)
    where
      by : (f : RunFault) → NamesFailed faults_of front lower f
          → NamesFailed faults_of (front ++ old ∷ []) (lower ++ new ∷ []) f
      by (faults.DiskFault s) failed =
          let high = failed.high in
          let many = length-append front (old ∷ []) in
          record {
            low = failed.low;
            high = omega (arith, high, many);
            old = failed.old;
            new = failed.new;
            was = at_front front (old ∷ []) _ _ failed.was;
            is = at_front lower (new ∷ []) _ _ failed.is;
            rose = failed.rose;
          }
      by faults.NoMemory failed = tt
