use Rattle.std.proofs.Common.{◌≡◌, length, reverse, filter, List, arith, ap, sym, ◌∙◌}
use Rattle.std.proofs.lemmas.Grind.{common_steps}
use Rattle.std.proofs.lemmas.List.{length-reverse}
use Rattle.cam_event.specs.declared.Deed.{Deed}
use Rattle.cam_event.specs.Pasts.{plain_all}
use Rattle.cam_report.specs.Report.{actions}
use Rattle.cam_report.specs.Summary.{is_committed_top}
use Rattle.cam_report.specs.Traces.{sent_before}
use Rattle.cam_report.proofs.Settling.{plain_deeds}
use Rattle.cam_report.proofs.summary.summary_text.Goals as goal

pub returns : goal.returns
returns c =
    let t = reverse c.args.run.now.trace in
    let long : c.len-events.result ≡ length t = c.len-events.ensures ∙ sym (length-reverse c.args.run.now.trace) in
    let letters : c.sent_before-letters.result ≡ sent_before t (length t) =
    c.sent_before-letters.ensures.value t c.in_ok-numbering.ensures.counted (omega (arith, long)) ∙ ap (sent_before t) long
    in
    let deeds : reverse c.as_slice.result.now ≡ plain_all t =
    ap reverse (c.as_slice.ensures ∙ c.in_ok-deeds.ensures) ∙ sym (plain_deeds c.args.run.now.trace)
    in
    let created = c.in_ok-figures.ensures.actions ∙ ap (λ (L : List Deed). length (actions L)) deeds in
    let committed = c.in_ok-figures.ensures.committed ∙ ap (λ (L : List Deed). length (filter (is_committed_top L) (actions L))) deeds in
    grind (arith, common_steps, long, letters, created, committed)
