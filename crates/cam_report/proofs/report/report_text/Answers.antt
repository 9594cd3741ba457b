use Rattle.std.proofs.Common.{◌≡◌, ◌++◌, List, reverse, string_bytes, sym, ap, ◌∙◌, subst}
use Rattle.std.specs.List.{flat_map}
use Rattle.cam_event.specs.declared.Deed.{Deed}
use Rattle.cam_report.specs.Report.{action_text, actions, stops_text, mark_text, values_from, report_of}
use Rattle.cam_report.proofs.Settling.{history_back, plain_deeds, joined}
use Rattle.cam_report.proofs.report.report_text.Goals as goal

pub returns : goal.returns
returns c =
    let script = c.args.script.now in
    let run = c.args.run.now in
    let L = reverse c.in_ok-deeds.deeds in
    let first : string_bytes c.write_actions.new.out ≡ flat_map (action_text script.labels L) (actions L) =
    c.in_ok-write_actions.ensures
    ∙ (λ i. c.new-text.ensures.bytes i ++ flat_map (action_text script.labels (reverse (c.as_slice.ensures i))) (actions (reverse (c.as_slice.ensures i))))
    in
    let whole : string_bytes c.write_values.new.out ≡ string_bytes c.write_marks.new.out ++ values_from script.objects L 0 script.labels =
    c.in_ok-write_values.ensures ∙ ap (λ (M : List Deed). string_bytes c.write_marks.new.out ++ values_from script.objects M 0 script.labels) (history_back c.in_ok-deeds.deeds)
    in
    let deeds : L ≡ _ = ap (λ (ds : List Deed). reverse ds) c.in_ok-deeds.ensures ∙ sym (plain_deeds run.trace) in
    subst (λ (M : List Deed). string_bytes c.write_values.new.out ≡ report_of script.objects script.labels (reverse run.trace) run.marks M) deeds
    (joined (flat_map (action_text script.labels L) (actions L)) (stops_text (reverse run.trace)) (flat_map mark_text run.marks) (values_from script.objects L 0 script.labels) _ _ _ _ first
    c.in_ok-write_stops.ensures c.in_ok-write_marks.ensures whole)
