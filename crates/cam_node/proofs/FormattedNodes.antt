-- A node to which nothing has happened, and a formatted log, stand for the history without an
-- event.
use Rattle.std.proofs.Common.{◌≡◌, ℕ, ◌≤◌, ◌<◌, List, [], ◌∷◌, refl, sym, subst, arith}
use Rattle.std.specs.Prelude.{slice_index, replicate}
use Rattle.std.proofs.lemmas.List.{get_or-replicate}
use Rattle.cam_type.specs.declared.ObjectDecl.{ObjectDecl}
use Rattle.cam_know.specs.Known.{nothing}
use Rattle.cam_recman.specs.Migrating.{version_entry}
use Rattle.cam_recman.specs.Recovery.{fresh}
use Rattle.cam_recman.proofs.Said.{first_says}
use Rattle.cam_recman.specs.Says.{Says}
use Rattle.cam_node.specs.Keeping.{KeepsNode}
use Rattle.cam_node.specs.Log.{KeepsLog}
use Rattle.cam_node.specs.Opened.{IsKnowledge, logged_of}
use Rattle.cam_node.specs.Represents.{Node, Represents}
use Rattle.cam_node.proofs.InOrder.{nothing_in_order}
use Rattle.cam_node.proofs.LogEntries.{formatted_keeps}

one_at : (j : ℕ) → j < 8 → slice_index (replicate 8 1) j ≡ 1
one_at j less = get_or-replicate 8 j 1 0 less

nothing_is_known : IsKnowledge nothing
nothing_is_known = record {
  distinct = tt;
  counts = record {
    eight = refl;
    from = λ j less. omega (arith, one_at j less);
    to = λ j less.
        omega (arith, one_at j less);
  };
}

pub formatted : (objects : List ObjectDecl) (s : ℕ) (node : Node) (entries : List (List ℕ)) → (1 ≤
    s) × (s ≤ 8) → node.number ≡ s → Represents objects [] node
    → node.server.table.site.next ≡ 0 → entries ≡ version_entry ∷ []
    → KeepsNode objects [] node entries
formatted objects s node entries range number rep first is = record {
  through = tt;
  represents = rep;
  keeps = record {
    recovered = fresh;
    says = subst (λ (es : List (List ℕ)). Says es fresh) (sym is) first_says;
    is_log = record {
      keeps =
          subst (λ (n : ℕ). KeepsLog objects n [] (logged_of fresh)) (sym number)
          (formatted_keeps objects s range.0 range.1).1;
      recovered = nothing_is_known;
      known = nothing_is_known;
    };
  };
  order = nothing_in_order node.server.table.site first;
}
