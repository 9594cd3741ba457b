use Rattle.std.proofs.Common.{◌≡◌, ◌++◌, [], None, Option, reverse, append-nil, ap, sym, ◌∙◌, rules, slice_get, string_bytes}
use Rattle.std.specs.Option.{option_map_or}
use Rattle.cam_event.specs.declared.Event.{Event}
use Rattle.cam_event.specs.Inputs.{event_at}
use Rattle.cam_why.proofs.Noting.{event_by_number}
use Rattle.cam_report.specs.Report.{stop_text}
use Rattle.cam_report.proofs.why.write_stop_line.Goals as goal

pub returns-in-None : goal.returns-in-None
returns-in-None c =
    let out = string_bytes c.args.out.now in
    let none : slice_get c.args.trace.now c.args.event ≡ None = search rules in
    let absent : event_at (reverse c.args.trace.now) c.args.event ≡ None = event_by_number c.args.trace.now c.args.event ∙ none in
    sym (append-nil out) ∙ ap (λ (o : Option Event). out ++ option_map_or (λ e. stop_text c.args.event e.note) o []) (sym absent)
