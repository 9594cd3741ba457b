use Rattle.std.proofs.Common.{◌∷◌, Bool, refl, sym, subst}
use Rattle.std.proofs.lemmas.Result.{on_ok_weaker}
use Rattle.cam_event.specs.declared.Deed.TheVariants.{Inform}
use Rattle.cam_plain.specs.Sites.{KeepsSite}
use Rattle.cam_plain.proofs.Informing.{commit_kept, abort_kept}
use Rattle.cam_plain.proofs.site.Site.inform.Goals as goal

pub returns-then-committed : goal.returns-then-committed
returns-then-committed c =
    on_ok_weaker c.commit.result
    (λ done. λ objects L s keeps.
    subst (λ (b : Bool). KeepsSite objects (Inform s c.args.name.now b ∷ L) s (record c.args.self.now { locks = c.commit.new.locks })) (sym c.if-committed.true)
    (commit_kept objects L s c.args.name.now c.args.self.now (record c.args.self.now { locks = c.commit.new.locks }) done refl keeps))
    c.commit.ensures

pub returns-else-committed : goal.returns-else-committed
returns-else-committed c =
    on_ok_weaker c.abort.result
    (λ done. λ objects L s keeps.
    subst (λ (b : Bool). KeepsSite objects (Inform s c.args.name.now b ∷ L) s (record c.args.self.now { locks = c.abort.new.locks })) (sym c.if-committed.false)
    (abort_kept objects L s c.args.name.now c.args.self.now (record c.args.self.now { locks = c.abort.new.locks }) done refl keeps))
    c.abort.ensures
