use Rattle.std.proofs.Common.{rules, arith}
use Rattle.std.proofs.lemmas.List.Sorted.{answers_always}
use Rattle.cam_journal.proofs.Finding.{found_at, absent}
use Rattle.cam_journal.proofs.note.event_of.Goals as goal

pub returns-in_default : goal.returns-in_default
returns-in_default g c =
    absent c.args.entries.now.items c.args.number c.in_default.field-0 c.requires (c.in_default.ensures.position (λ entry. entry.0) (answers_always _ _ _ (λ f a r h called. search rules)))

pub returns : goal.returns
returns g c =
    let equal = c.in-Ok.ensures.position (λ entry. entry.0) (answers_always _ _ _ (λ f a r h called. search rules)) in
    let bound = c.in-Ok.ensures.bound in
    let long = c.args.entries.now.ok.0 in
    (c.in-Ok.at, found_at c.args.entries.now.items c.args.number c.in-Ok.at c.in_ok-event.field-0.now equal (omega (arith, bound, long)) c.in_ok-event.ensures.lookup)
