use Rattle.std.proofs.Common.{ap, sym, ◌∙◌}
use Rattle.std.specs.Prelude.{filter}
use Rattle.cam_type.specs.declared.State.{State}
use Rattle.cam_type.specs.Table.{kind_of}
use Rattle.cam_type.specs.Objects.{start_of}
use Rattle.cam_locks.specs.Moss.{is_on}
use Rattle.cam_locks.proofs.KindLaws.{replay_kind}
use Rattle.cam_locks.proofs.by_list.serve.Goals as goal

pub load-requires : goal.load-requires
load-requires g c =
    let x = c.args.operation.now.object in
    ap (λ (s : State). kind_of s) c.in_ok-state.ensures
    ∙ replay_kind (start_of c.args.objects.now x) (filter (is_on x) c.args.live.now)
    ∙ sym c.requires.kind
