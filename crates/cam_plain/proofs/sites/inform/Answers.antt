use Rattle.std.proofs.lemmas.Result.{on_ok_weaker}
use Rattle.cam_plain.proofs.Siting.{inform_sites}
use Rattle.cam_plain.proofs.sites.inform.Goals as goal

pub returns : goal.returns
returns c =
    on_ok_weaker c.put_back.result
    (λ put. λ L before.
    inform_sites c.args.objects.now L c.args.node c.args.name.now c.args.committed c.inform.new.self c.args.sites.now c.take_out.new.sites c.put_back.new.sites c.in_ok-site.ensures.others put
    (c.in_ok-inform.ensures c.args.objects.now L c.args.node (c.in_ok-site.ensures.site L before)) before)
    c.put_back.ensures
