use Rattle.std.proofs.Common.{sym}
use Rattle.cam_event.specs.History.{Addressed}
use Rattle.cam_plain.specs.Legal.{history}
use Rattle.cam_plain.proofs.Granting.{fits_kept}
use Rattle.cam_plain.proofs.Siting.{attempt_sites}
use Rattle.cam_plain.proofs.sites.attempt.Goals as goal

pub attempt-requires : goal.attempt-requires
attempt-requires c =
    let L = history c.args.before.now.deeds.now in
    fits_kept c.args.before.now.objects.now L c.site_of-node.result c.args.call.now.object c.args.call.now.op c.in_ok-site.site
    (c.in_ok-site.ensures.site L c.requires.sites) c.site_of-node.ensures c.requires.fits

pub returns-clause-kept : goal.returns-clause-kept
returns-clause-kept c = λ n answer called.
    let objects = c.args.before.now.objects.now in
    let L = history c.args.before.now.deeds.now in
    let asked = c.args.call.now in
    let call : Addressed = record { object = asked.object; op = asked.op; count = asked.count } in
    attempt_sites objects L c.site_of-node.result c.args.action.now n answer call _ c.attempt.new.self c.args.sites.now c.take_out.new.sites c.put_back.new.sites
    called (sym c.site_of-node.ensures) c.in_ok-site.ensures.others c.in_ok-put_back.ensures
    (c.in_ok-granted.ensures.kept objects L n answer c.requires.known.kept.ledger (c.in_ok-site.ensures.site L c.requires.sites) (sym c.site_of-node.ensures) called)
    c.requires.sites
