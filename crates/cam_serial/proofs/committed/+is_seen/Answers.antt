use Rattle.std.proofs.Common.{◌&&◌, ◌||◌, sym, ap, ◌∙◌}
use Rattle.std.specs.Option.{option_copied}
use Rattle.std.specs.List.{list_all}
use Rattle.std.specs.BTreeSet.{contains}
use Rattle.cam_names.specs.declared.name.Name.{Name}
use Rattle.cam_names.specs.Names.{name_cmp, ancestors}
use Rattle.cam_know.proofs.Climbs.{ancestors_parent}
use Rattle.cam_serial.specs.Gathered.{is_above}
use Rattle.cam_names.proofs.Any.{all_last}
use Rattle.cam_serial.proofs.committed.+is_seen.Goals as goal

pub returns-then-is_seen : goal.returns-then-is_seen
returns-then-is_seen t c =
    let T = λ (u : Name). is_above (option_copied c.args.reader) u || contains name_cmp c.args.committed.now u in
    c.is_above_or_in.ensures
    ∙ sym
    (ap (list_all T) (ancestors_parent c.args.action.now c.in-Some.parent c.in-Some.ensures.value)
    ∙ all_last T (ancestors c.in-Some.parent) c.args.action.now
    ∙ ap (λ b. b && T c.args.action.now) (sym c.is_seen.ensures ∙ c.if-is_seen.true))

pub returns-else-is_seen : goal.returns-else-is_seen
returns-else-is_seen t c =
    let T = λ (u : Name). is_above (option_copied c.args.reader) u || contains name_cmp c.args.committed.now u in
    c.if-is_seen.false
    ∙ sym
    (ap (list_all T) (ancestors_parent c.args.action.now c.in-Some.parent c.in-Some.ensures.value)
    ∙ all_last T (ancestors c.in-Some.parent) c.args.action.now
    ∙ ap (λ b. b && T c.args.action.now) (sym c.is_seen.ensures ∙ c.if-is_seen.false))
