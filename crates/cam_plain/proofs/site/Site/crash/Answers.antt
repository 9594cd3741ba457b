use Rattle.cam_plain.proofs.Crashing.{crash_kept}
use Rattle.cam_plain.proofs.site.Site.crash.Goals as goal

pub returns : goal.returns
returns c = λ objects L keeps before. crash_kept objects L c.args.site c.args.self.now _ (c.in_ok-crash_families.ensures objects L keeps) c.new.ensures before
