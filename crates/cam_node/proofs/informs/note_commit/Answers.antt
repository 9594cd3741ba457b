-- A commit that is new is put in front, and one that is known is passed by.
use Rattle.std.proofs.Common.{◌≡◌, ◌∷◌, true, false, reverse, sym, subst, arith}
use Rattle.cam_know.specs.declared.Outcome.{Outcome}
use Rattle.cam_know.specs.Known.{knows_commit}
use Rattle.cam_node.specs.Informs.{commits_from}
use Rattle.cam_node.proofs.Told.{new_commit, known_commit}
use Rattle.cam_node.proofs.informs.note_commit.Goals as goal

pub returns-in_ok-put : goal.returns-in_ok-put
returns-in_ok-put c = λ behind so_far.
    let asked = c.is_committed.ensures in
    let tested = c.if-not-is_committed.true in
    let none : knows_commit c.args.known.now c.in-Committed.name ≡ false = grind (arith, asked, tested) in
    subst (λ (o : Outcome). reverse c.put.new.names.items ≡ commits_from c.args.known.now (o ∷ behind)) (sym c.in-Committed.is)
    (new_commit c.args.known.now c.in-Committed.name c.in-Committed.field-1 behind (reverse c.args.names.now.items) (reverse c.put.new.names.items) none c.in_ok-put.ensures so_far)

pub returns-else-not-is_committed : goal.returns-else-not-is_committed
returns-else-not-is_committed c = λ behind so_far.
    let asked = c.is_committed.ensures in
    let tested = c.if-not-is_committed.false in
    let known : knows_commit c.args.known.now c.in-Committed.name ≡ true = grind (arith, asked, tested) in
    subst (λ (o : Outcome). reverse c.args.names.now.items ≡ commits_from c.args.known.now (o ∷ behind)) (sym c.in-Committed.is)
    (known_commit c.args.known.now c.in-Committed.name c.in-Committed.field-1 behind (reverse c.args.names.now.items) known so_far)
