use Rattle.std.proofs.Common.{◌∷◌, sym, subst, ℕ}
use Rattle.std.proofs.lemmas.Result.{on_ok_weaker}
use Rattle.cam_own.specs.Informed.{KeepsInformed}
use Rattle.cam_own.proofs.own.Own.note.Goals as goal

pub returns : goal.returns
returns c =
    on_ok_weaker c.note-2.result
    (λ informed. λ s L E kept. record {
      node = kept.node;
      ledger = c.in_ok-note.ensures.noted L kept.ledger;
      actions = c.in_ok-note_action.ensures L kept.actions;
      tops = c.in_ok-note_top.ensures L kept.tops;
      children = c.in_ok-note_child.ensures L kept.children;
      replies = c.in_ok-note_reply.ensures L kept.replies;
      informed = subst (λ (r : ℕ). KeepsInformed (c.args.deed.now ∷ L) r c.note-2.new.self) kept.node
          (informed L (subst (λ (r : ℕ). KeepsInformed L r c.args.self.now.informed) (sym kept.node) kept.informed));
      votes = kept.votes;
    })
    c.note-2.ensures
