use Rattle.std.proofs.Common.{sym, ◌∙◌}
use Rattle.std.specs.HashMap.{get}
use Rattle.cam_names.specs.Names.{name_eq}
use Rattle.cam_tranman.specs.Calls.{gaining}
use Rattle.cam_tranman.proofs.Changing.{changed_there, changed_nowhere}
use Rattle.cam_tranman.proofs.tables.gain_in.Goals as goal

pub returns-in-Some : goal.returns-in-Some
returns-in-Some c =
    changed_there c.args.action.now c.in-Some.kept c.gaining.result (gaining c.args.deps.now) (get name_eq c.args.actions.now) (get name_eq c.keep.new.actions)
    (sym c.kept_in.ensures ∙ c.in-Some.is) c.gaining.ensures c.keep.ensures

pub returns-in_default : goal.returns-in_default
returns-in_default c =
    changed_nowhere c.args.action.now (gaining c.args.deps.now) (get name_eq c.args.actions.now) (sym c.kept_in.ensures ∙ c.in_default.is)
