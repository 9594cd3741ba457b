use Rattle.std.proofs.Common.{◌∷◌, List, sym, subst}
use Rattle.std.proofs.lemmas.Result.{on_ok_weaker}
use Rattle.cam_event.specs.declared.Deed.{Deed}
use Rattle.cam_live.specs.Tables.{Tells}
use Rattle.cam_live.proofs.tables.Tables.note.Goals as goal

pub returns-in-Secure-clause-noted : goal.returns-in-Secure-clause-noted
returns-in-Secure-clause-noted c =
    on_ok_weaker c.note_secure.result
    (λ put. λ L before.
    subst (λ (d : Deed). Tells (d ∷ L) (record c.args.self.now { secured = c.note_secure.new.secured })) (sym c.in-Secure.is)
    (record {
      calls = before.calls;
      counts = before.counts;
      secured = put L c.in-Secure.count before.counts before.secured;
      aborted = before.aborted;
      committed = before.committed;
    }))
    c.note_secure.ensures.noted
