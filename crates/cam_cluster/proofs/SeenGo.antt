-- The line `go`, with lines as they are seen: the place of the action's home, and the node there.
use Rattle.std.proofs.Common.{◌≡◌, ℕ, ◌+◌, ◌-◌, ◌≤◌, ◌<◌, Bool, List, length, get_or, Some, sym}
use Rattle.std.proofs.Common.{suc, ap, ◌∙◌, subst}
use Rattle.std.specs.Prelude.{map, slice_get}
use Rattle.cam_ckpt.specs.declared.checkpoint_log.CheckpointLog.{Ghosts as CkptGhosts}
use Rattle.cam_log.specs.declared.entry_log.EntryLog.{Ghosts as LogGhosts}
use Rattle.cam_names.specs.declared.name.Name.{Name}
use Rattle.cam_names.specs.Names.{home_node}
use Rattle.cam_net.specs.Waiting.{is_halted}
use Rattle.cam_node.specs.declared.node.Node.{Node}
use Rattle.cam_script.specs.declared.Statement.{Statement}
use Rattle.cam_cluster.specs.declared.lines.Lines.{Lines}
use Rattle.cam_cluster.specs.declared.workers.Workers.{Workers}
use Rattle.cam_cluster.specs.GoLines.{IsGoOfSome}
use Rattle.cam_cluster.specs.VariableLines.{action_of}
use Rattle.cam_cluster.proofs.AsSeen.{lines_of, part, reads_of}
use Rattle.cam_cluster.proofs.GoTests.{go_low, go_there}
use Rattle.cam_cluster.proofs.PlacedNodes.{after_is, seen_there, taken_there}
use Rattle.cam_cluster.proofs.TriedEnds.{place_of}
use Rattle.cam_cluster.proofs.VariableEnds.{home_place}

module _ {X : Type 0} {g : CkptGhosts X} {h : LogGhosts X} (line v : ℕ)
    (bodies : List (List Statement)) (old : Lines X g h) (before : Workers)
    (goes : IsGoOfSome line v bodies (lines_of g h old) (reads_of g h old.works) before) (a : Name)
    (at : action_of old.bound.items v ≡ Some a) (home : ℕ × ℕ) (count : ℕ)
    (is_home : home ≡ (home_node a, count)) where
  low : 1 ≤ home_node a
  low =
      go_low line v bodies (lines_of g h old) (lines_of g h old) (reads_of g h old.works)
      (reads_of g h old.works) before goes a at

  pub home_low : 1 ≤ home.0
  home_low = rw (ap (λ (p : ℕ × ℕ). p.0) is_home) low

  pub home_at : home_node a ≡ home.0 - 1 + 1
  home_at = sym (home_place _ _ _ is_home low)

  pub home_there : home.0 - 1 < length old.works.nodes.items
  home_there =
      place_of _ _ _ (go_there line v bodies (lines_of g h old) (lines_of g h old) (reads_of g h
      old.works) (reads_of g h old.works) before goes a at (home.0 - 1) home_at)

  -- the node there
  pub home_seen : (node : Node X g h) → node ≡ get_or old.works.nodes.items (home.0 - 1) node
      → slice_get (map (part g h) old.works.nodes.items) (home.0 - 1) ≡ Some (part g h node)
  home_seen node is =
      seen_there (part g h) old.works.nodes.items (home.0 - 1) _ (taken_there _ _ _ home_there
      is)

  -- and whether it is halted
  pub home_halted : (told b : Bool) → told ≡ is_halted old.works.halted (suc (home.0 - 1))
      → told ≡ b → is_halted old.works.halted (home.0 - 1 + 1) ≡ b
  home_halted told b is so =
      ap (is_halted old.works.halted) (after_is (home.0 - 1)) ∙ sym is ∙ so
