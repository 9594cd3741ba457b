use Rattle.std.proofs.Common.{◌∷◌, sym, subst}
use Rattle.std.proofs.lemmas.Result.{on_ok_weaker}
use Rattle.cam_event.specs.declared.Deed.{Deed}
use Rattle.cam_plain.specs.Sites.{KeepsSites, Between}
use Rattle.cam_plain.proofs.Siting.{other_sites}
use Rattle.cam_plain.proofs.sites.note_at_site.Goals as goal

pub returns-in-Inform : goal.returns-in-Inform
returns-in-Inform c =
    let objects = c.args.objects.now in
    on_ok_weaker c.inform.result
    (λ done. λ L keeps between.
    subst (λ (d : Deed). KeepsSites objects (d ∷ L) c.inform.new.sites) (sym c.in-Inform.is)
    (done L (subst (λ (d : Deed). Between objects L d c.args.sites.now) c.in-Inform.is between)))
    c.inform.ensures

pub returns-in-Crash : goal.returns-in-Crash
returns-in-Crash c =
    let objects = c.args.objects.now in
    on_ok_weaker c.crash.result
    (λ done. λ L keeps between.
    subst (λ (d : Deed). KeepsSites objects (d ∷ L) c.crash.new.sites) (sym c.in-Crash.is)
    (done L keeps (subst (λ (d : Deed). Between objects L d c.args.sites.now) c.in-Crash.is between)))
    c.crash.ensures

pub returns-in_default : goal.returns-in_default
returns-in_default c = λ L keeps between. other_sites c.args.objects.now L c.args.deed.now c.args.sites.now c.in_default.not-Inform c.in_default.not-Crash between
