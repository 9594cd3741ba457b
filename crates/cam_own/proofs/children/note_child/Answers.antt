use Rattle.std.proofs.Common.{◌∷◌, sym, subst}
use Rattle.std.proofs.lemmas.Result.{on_ok_weaker}
use Rattle.cam_event.specs.declared.Deed.{Deed}
use Rattle.cam_own.specs.Children.{KeepsChildren}
use Rattle.cam_own.proofs.Putting.{ask_kept}
use Rattle.cam_own.proofs.children.note_child.Goals as goal

pub returns-in-Ask : goal.returns-in-Ask
returns-in-Ask c =
    on_ok_weaker c.note_ask.result
    (λ put. λ L before. subst (λ (d : Deed). KeepsChildren (d ∷ L) c.note_ask.new.children) (sym c.in-Ask.is)
    (ask_kept L c.in-Ask.action c.in-Ask.child c.args.children.now c.note_ask.new.children put before))
    c.note_ask.ensures
