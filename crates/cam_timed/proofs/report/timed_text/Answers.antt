use Rattle.std.proofs.Common.{◌≡◌, ◌++◌, List, reverse, string_bytes, sym, ap, ◌∙◌, subst}
use Rattle.std.specs.List.{flat_map}
use Rattle.cam_event.specs.declared.Deed.{Deed}
use Rattle.cam_event.specs.Pasts.{plain_all}
use Rattle.cam_report.specs.Report.{action_text, actions, values_from}
use Rattle.cam_report.proofs.Settling.{history_back, plain_deeds, joined}
use Rattle.cam_timed.specs.TimedReport.{pauses_text, timed_mark_text, timed_report_of, timed_report}
use Rattle.cam_timed.proofs.report.timed_text.Goals as goal

pub returns-clause-exact : goal.returns-clause-exact
returns-clause-exact c =
    let script = c.args.script.now.script in
    let run = c.args.run.now in
    let T = reverse run.trace in
    let L = reverse c.in_ok-deeds.deeds in
    let first : string_bytes c.write_actions.new.out ≡ flat_map (action_text script.labels L) (actions L) =
    c.in_ok-write_actions.ensures
    ∙ (λ i. c.new-text.ensures.bytes i ++ flat_map (action_text script.labels (reverse (c.as_slice.ensures i))) (actions (reverse (c.as_slice.ensures i))))
    in
    let whole : string_bytes c.write_values.new.out ≡ string_bytes c.write_timed_marks.new.out ++ values_from script.objects L 0 script.labels =
    c.in_ok-write_values.ensures ∙ ap (λ (M : List Deed). string_bytes c.write_timed_marks.new.out ++ values_from script.objects M 0 script.labels) (history_back c.in_ok-deeds.deeds)
    in
    let deeds : L ≡ _ = ap (λ (ds : List Deed). reverse ds) c.in_ok-deeds.ensures ∙ sym (plain_deeds c.in_ok-plain.plain) ∙ ap plain_all c.in_ok-plain.ensures in
    subst (λ (M : List Deed). string_bytes c.write_values.new.out ≡ timed_report_of script.objects script.labels T run.marks M) deeds
    (joined (flat_map (action_text script.labels L) (actions L)) (pauses_text T T) (flat_map timed_mark_text run.marks) (values_from script.objects L 0 script.labels) _ _ _ _ first
    c.in_ok-write_pauses.ensures c.in_ok-write_timed_marks.ensures whole)

pub returns-clause-text : goal.returns-clause-text
returns-clause-text c = λ is.
    let script = c.args.script.now.script in
    returns-clause-exact c ∙ (λ i. timed_report script.objects script.labels (is.trace i) (is.marks i))
