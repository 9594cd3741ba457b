use Rattle.std.proofs.Common.{◌∷◌, sym, subst}
use Rattle.std.proofs.lemmas.Result.{on_ok_weaker}
use Rattle.cam_event.specs.declared.Deed.{Deed}
use Rattle.cam_own.specs.Tops.{KeepsTops}
use Rattle.cam_own.proofs.tops.note_top.Goals as goal

pub returns-in-Create : goal.returns-in-Create
returns-in-Create c =
    on_ok_weaker c.note_created.result (λ put. λ L before. subst (λ (d : Deed). KeepsTops (d ∷ L) c.note_created.new.tops) (sym c.in-Create.is) (put L before)) c.note_created.ensures
