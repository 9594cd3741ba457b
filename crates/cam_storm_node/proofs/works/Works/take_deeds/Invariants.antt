-- The deeds so far are taken in.
use Rattle.std.proofs.Common.{◌≡◌, ◌≤◌, ◌++◌, ℕ, List, Option, length, take}
use Rattle.std.specs.Prelude.{flat_map}
use Rattle.cam_names.specs.declared.name.Name.{Name}
use Rattle.cam_event.specs.declared.Deed.{Deed}
use Rattle.cam_event.specs.History.{after}
use Rattle.cam_event.specs.Inputs.{Mail}
use Rattle.cam_storm.specs.Own.{finish_value, own_step}
use Rattle.cam_storm_node.specs.Works.{HaveBodies, view_in}
use Rattle.cam_storm_node.specs.Asking.{IsKept}
use Rattle.cam_storm_node.proofs.works.Works.take_deeds.Given as goal

abbrev pub invariant-loop-deed : goal.invariant-loop-deed
invariant-loop-deed l = record {
  views :
      (mail : Option Mail) (a : Name) → finish_value mail ≡ l.finish → 1 ≤ length a
      → view_in l.self.works a
      ≡ view_in l.fn.self.works a ++ flat_map (own_step mail a) (take l.deed-index l.deed-items);
  bodies : HaveBodies l.fn.self.storm l.fn.self.works → HaveBodies l.fn.self.storm l.self.works;
  asking :
      (s : ℕ) (L : List Deed) (a : Name) → 1 ≤ length a
      → IsKept s L l.fn.self.works l.fn.self.asking a
      → IsKept s (after L (take l.deed-index l.deed-items)) l.self.works l.self.asking a;
  storm : l.self.storm ≡ l.fn.self.storm;
  stopped : l.self.stopped ≡ l.fn.self.stopped;
}
