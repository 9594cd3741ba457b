-- What a walk over the deeds of a trace has noted of one action.
use Rattle.std.specs.Prelude.{◌≡◌, ◌&&◌, List}
use Rattle.std.specs.BTreeSet.{contains}
use Rattle.cam_names.specs.declared.name.Name.{Name}
use Rattle.cam_names.specs.Names.{name_cmp, is_child}
use Rattle.cam_event.specs.declared.Deed.{Deed}
use Rattle.cam_event.specs.History.{created, asked_commit}
use Rattle.cam_cut.specs.declared.watch.Watch.{Watch}

-- After the deeds of a history the watch has the action, whether it was created, and which of its children have asked to commit.
pub record Watches (L : List Deed) (a : Name) (watch : Watch) : Type 0 where
  pub action : watch.action ≡ a
  pub created : watch.created ≡ created L a
  pub finished : (b : Name) → contains name_cmp watch.finished b ≡ (is_child a b && asked_commit L b)
