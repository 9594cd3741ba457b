use Rattle.std.proofs.Common.{[], ◌++◌, List, ℕ, string_bytes, sym, ap, ◌∙◌}
use Rattle.std.proofs.lemmas.List.{append_assoc}
use Rattle.cam_report.specs.Report.{value_text}
use Rattle.cam_event.specs.History.{after}
use Rattle.cam_event.specs.Settled.{settled}
use Rattle.cam_report.proofs.Settling.{values_more}
use Rattle.cam_report.proofs.values.write_values.Goals as goal

pub loop-object-preserved : goal.loop-object-preserved
loop-object-preserved c =
    let L = after [] c.args.deeds.now in
    let objects = c.args.script.now.objects in
    let labels = c.as_slice-label-items.result.now in
    let value = value_text c.label-item.result (settled objects L c.loop-object.object) in
    c.in_ok-write_value.ensures L c.in_ok-operations.ensures
    ∙ ap (λ (t : List ℕ). t ++ value) c.loop-object.invariant
    ∙ append_assoc (string_bytes c.args.out.now) _ value
    ∙ ap (λ (t : List ℕ). string_bytes c.args.out.now ++ t) (sym (values_more objects L labels c.loop-object.object c.label-item.result c.loop-object-test.true c.label-item.is))
