-- Each action that is kept as one that works at a body is one of what stands.
use Rattle.std.proofs.Common.{◌≡◌, ℕ, ◌≤◌, suc, true, List, [], ◌∷◌, length, map, Some}
use Rattle.std.proofs.Common.{refl, sym, ap, ◌∙◌, arith}
use Rattle.std.specs.BTreeMap.{get}
use Rattle.std.specs.List.{All, AllByRecursion}
use Rattle.std.specs.Map.{keys_of}
use Rattle.std.proofs.lemmas.Map.Views.{All-found}
use Rattle.cam_names.specs.declared.name.Name.{Name}
use Rattle.cam_names.specs.Names.{name_cmp, is_ancestor}
use Rattle.cam_names.proofs.Order.{name_total}
use Rattle.cam_cluster.specs.declared.workers.Workers.{Workers}
use Rattle.cam_cluster.specs.AtWork.{IsWorker, Worker}
use Rattle.cam_cluster.specs.Workers.{AllWork, worker_of}

is_named : (a : Name) → is_ancestor a a ≡ true → 1 ≤ length a
is_named [] h = cc
is_named (p ∷ a) h = omega arith

by_places : {X : Type 0} (P : X → Type 0) (xs : List X) → All P xs → AllByRecursion P xs
by_places P [] all = tt
by_places P (x ∷ xs) all =
    (all 0 x (omega arith), by_places P xs (λ k d within. all (suc k) d (omega (arith, within))))

all_mapped : {X Y : Type 0} (f : X → Y) (P : Y → Type 0) (Q : X → Type 0)
    → ((x : X) → Q x → P (f x)) → (xs : List X) → AllByRecursion Q xs → AllByRecursion P (map f xs)
all_mapped f P Q each [] all = tt
all_mapped f P Q each (x ∷ xs) all = (each x all.0, all_mapped f P Q each xs all.1)

names_are : (workers : Workers) (es : List (Name × ℕ))
    → map (λ (w : Worker). w.name) (map (worker_of workers) es) ≡ keys_of es
names_are workers [] = refl
names_are workers (e ∷ es) = ap (λ (ns : List Name). e.0 ∷ ns) (names_are workers es)

pub all_work : AllWork
all_work script st workers under caught = record {
  names = names_are workers workers.bodies.entries ∙ caught.table.names;
  each =
      all_mapped _ (IsWorker st) (λ (e : Name × ℕ). get name_cmp workers.bodies e.0 ≡ Some e.1) (λ
      e there.
      let given = sym (caught.table.at e.0) ∙ there in
      record {
        at = given;
        saw = caught.seen.views.views e.0 (is_named _ (under.works e.0 e.1 given).named);
        was_stopped = caught.seen.stopped e.0;
      }) _ (by_places _ _ (All-found name_total workers.bodies caught.table.ordered));
}
