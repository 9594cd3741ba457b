-- A log that keeps the order of a site's operations keeps the order in which they were performed; so it is what the node keeps.
use Rattle.std.proofs.Common.{◌≡◌, inl, inr, ℕ, zero, suc, ◌<◌, List, [], ◌∷◌, ◌++◌, length, refl, sym, ap, ◌∙◌, subst, arith}
use Rattle.std.specs.Prelude.{reverse, nat_lt, zip, Contains, get_or}
use Rattle.std.proofs.lemmas.Bool.{lt-ltb, le-ltb}
use Rattle.std.proofs.lemmas.Bool.Decides.{eqb_tells, leb_tells}
use Rattle.cam_names.specs.declared.name.Name.{Name}
use Rattle.cam_type.specs.declared.Held.{Held}
use Rattle.cam_type.specs.declared.HeldOp.{HeldOp}
use Rattle.cam_event.specs.declared.Operation.{Operation}
use Rattle.cam_event.specs.Pasts.{plain_all}
use Rattle.cam_event.specs.Sights.{entries, own_deeds}
use Rattle.cam_event.specs.History.{number_of}
use Rattle.cam_event.specs.ByKnowledge.{of_node, carried_of}
use Rattle.cam_event.specs.HeldSites.{Placed, is_any_perform, site}
use Rattle.cam_node.specs.Kept.{Secured, performed_at, secured_of, paired}
use Rattle.cam_server.specs.Recovered.{AreHeldOps, AreHeld, beside}
use Rattle.cam_headline.specs.KeptLog.{LogsKeepOrder, LogsKeep}
use Rattle.cam_headline.proofs.KeptKnowledge.{logs_keep_knowledge}
use Rattle.cam_headline.proofs.KeptSecured.{logs_keep_secured}
use Rattle.cam_headline.proofs.KeptOrder.{Linked, OpsLinked, AllLinked}
use Rattle.cam_headline.proofs.KeptPlaces.{order_at}
use Rattle.cam_headline.proofs.KeptWhole.{kept_whole}

-- each pair of a held operation and the one for which it stands, with its place at the site
abbrev PairLinked : (ℕ → ℕ) → ℕ → List (Name × ℕ) → List (HeldOp × Operation) → List (HeldOp × Placed) → Type 0
PairLinked G n performed [] [] = Unit {0}
PairLinked G n performed (x ∷ xs) (y ∷ ys) = (x.0 ≡ y.0) × Linked G n performed y.1.index x.1 × PairLinked G n performed xs ys
PairLinked G n performed [] (y ∷ ys) = ⊥
PairLinked G n performed (x ∷ xs) [] = ⊥

linked_append : (G : ℕ → ℕ) (n : ℕ) (performed : List (Name × ℕ)) (xs zs : List (HeldOp × Operation)) (ys ws : List (HeldOp × Placed)) → PairLinked G n performed xs ys → PairLinked G n performed zs ws → PairLinked G n performed (xs ++ zs) (ys ++ ws)
linked_append G n performed [] zs [] ws h k = k
linked_append G n performed (x ∷ xs) zs (y ∷ ys) ws h k = (h.0, h.1, linked_append G n performed xs zs ys ws h.2 k)
linked_append G n performed [] zs (y ∷ ys) ws h k = absurd h
linked_append G n performed (x ∷ xs) zs [] ws h k = absurd h

zip_linked : (G : ℕ → ℕ) (n : ℕ) (performed : List (Name × ℕ)) (hs : List HeldOp) (os : List Operation) (ps : List Placed) → AreHeldOps hs ps → OpsLinked G n performed ps os → PairLinked G n performed (zip hs os) (zip hs ps)
zip_linked G n performed [] [] [] held h = tt
zip_linked G n performed [] (o ∷ os) [] held h = absurd h
zip_linked G n performed [] os (p ∷ ps) held h = absurd held
zip_linked G n performed (x ∷ hs) os [] held h = absurd held
zip_linked G n performed (x ∷ hs) [] (p ∷ ps) held h = absurd h
zip_linked G n performed (x ∷ hs) (o ∷ os) (p ∷ ps) held h = (refl, h.0, zip_linked G n performed hs os ps held.1 h.1)

all_linked : (G : ℕ → ℕ) (n : ℕ) (performed : List (Name × ℕ)) (hs : List Held) (ks : List Secured) (gs : List (Name × List Placed)) → AreHeld hs gs → AllLinked G n performed gs ks → PairLinked G n performed (paired hs ks) (beside hs gs)
all_linked G n performed [] [] [] held h = tt
all_linked G n performed [] (k ∷ ks) [] held h = absurd h
all_linked G n performed [] ks (g ∷ gs) held h = absurd held
all_linked G n performed (x ∷ hs) ks [] held h = absurd held
all_linked G n performed (x ∷ hs) [] (g ∷ gs) held h = absurd h
all_linked G n performed (x ∷ hs) (k ∷ ks) (g ∷ gs) held h =
    linked_append G n performed (zip x.ops k.operations) (paired hs ks) (zip x.ops g.1) (beside hs gs) (zip_linked G n performed x.ops k.operations g.1 held.1 h.0) (all_linked G n performed hs ks gs held.2 h.1)

-- the one beside a pair
record Beside (G : ℕ → ℕ) (n : ℕ) (performed : List (Name × ℕ)) (ys : List (HeldOp × Placed)) (x : HeldOp × Operation) : Type 0 where
  pub it : HeldOp × Placed
  pub there : Contains ys it
  pub same : x.0 ≡ it.0
  pub linked : Linked G n performed it.1.index x.1

found : (G : ℕ → ℕ) (n : ℕ) (performed : List (Name × ℕ)) (xs : List (HeldOp × Operation)) (ys : List (HeldOp × Placed)) (x : HeldOp × Operation) (k : ℕ) → k < length xs → get_or xs k x ≡ x → PairLinked G n performed xs ys → Beside G n performed ys x
found G n performed [] ys x k small at h = absurd (omega (arith, small))
found G n performed (z ∷ xs) [] x k small at h = absurd h
found G n performed (z ∷ xs) (y ∷ ys) x zero small at h = record {
  it = y;
  there = (zero, omega arith, refl);
  same = ap (λ (p : HeldOp × Operation). p.0) (sym at) ∙ h.0;
  linked = subst (λ (p : HeldOp × Operation). Linked G n performed y.1.index p.1) at h.1;
}
found G n performed (z ∷ xs) (y ∷ ys) x (suc k) small at h =
    let rest = found G n performed xs ys x k (omega (arith, small)) at h.2 in
    record { it = rest.it; there = (suc rest.there.0, omega (arith, rest.there.1), rest.there.2); same = rest.same; linked = rest.linked }

-- places rise as their numbers do
same_order : (G : ℕ → ℕ) (n i j : ℕ) → ((a b : ℕ) → a < b → b < n → G a < G b) → i < n → j < n → nat_lt (G i) (G j) ≡ nat_lt i j
same_order G n i j rises si sj = elim (leb_tells j i) [
  | inr up ↦ lt-ltb (G i) (G j) (rises i j up.1 sj) ∙ sym (lt-ltb i j up.1)
  | inl down ↦ elim (eqb_tells j i) [
    | inl e ↦ le-ltb (G i) (G j) (omega (arith, ap G e.1)) ∙ sym (le-ltb i j down.1)
    | inr off ↦ le-ltb (G i) (G j) (omega (arith, rises j i (omega (arith, down.1, off.1)) si)) ∙ sym (le-ltb i j down.1)
  ]
]

pub logs_keep_order : LogsKeepOrder
logs_keep_order objects taken t s logged run log one other first second =
    let order = order_at objects t (plain_all t) s (taken, run) (λ a n call h. h) in
    let n : ℕ = number_of is_any_perform (own_deeds (entries t s)) in
    let P : List (Name × ℕ) = performed_at (plain_all t) in
    let all = all_linked order.at n P logged.held (secured_of objects (plain_all t) s) (reverse (site (of_node (carried_of objects t) s)).secured) (kept_whole objects taken t s logged run log).secured order.groups in
    let a = found order.at n P (paired logged.held (secured_of objects (plain_all t) s)) (beside logged.held (reverse (site (of_node (carried_of objects t) s)).secured)) one first.0 first.1 first.2 all in
    let b = found order.at n P (paired logged.held (secured_of objects (plain_all t) s)) (beside logged.held (reverse (site (of_node (carried_of objects t) s)).secured)) other second.0 second.1 second.2 all in
    (λ i. nat_lt (a.linked.placed i) (b.linked.placed i))
    ∙ same_order order.at n a.it.1.index b.it.1.index order.rises a.linked.small b.linked.small
    ∙ sym ((kept_whole objects taken t s logged run log).order.order a.it b.it a.there b.there)
    ∙ (λ i. nat_lt (sym a.same i).index (sym b.same i).index)

-- So it is what the node keeps.
pub logs_keep : LogsKeep
logs_keep objects taken t s logged run log =
    let known = logs_keep_knowledge objects taken t s logged run log in
    record {
      own_count = known.own_count;
      aborts = known.aborts;
      commits = known.commits;
      commit_counts = known.commit_counts;
      other_counts = known.other_counts;
      secured = logs_keep_secured objects taken t s logged run log;
      order = logs_keep_order objects taken t s logged run log;
    }
