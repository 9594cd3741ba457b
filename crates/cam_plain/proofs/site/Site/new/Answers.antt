use Rattle.cam_plain.proofs.Sited.{new_kept}
use Rattle.cam_plain.proofs.site.Site.new.Goals as goal

pub returns : goal.returns
returns c = λ L before. new_kept c.args.objects.now L c.args.node _ c.in_ok-locks.ensures c.new-families.ensures before
