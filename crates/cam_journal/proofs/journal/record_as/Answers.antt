use Rattle.std.proofs.Common.{slice_index, refl, arith}
use Rattle.atomic_table.specs.Table.{keeps}
use Rattle.cam_journal.specs.Rule.{recorded}
use Rattle.cam_journal.proofs.Moves.{records, tells_record}
use Rattle.cam_journal.proofs.journal.record_as.Goals as goal

pub fetch_add-requires : goal.fetch_add-requires
fetch_add-requires g c = (
  c.requires.table.0,
  (let one = c.requires.table.1 in omega arith),
  λ s holds homes at fits.
      let core = g.C.Core in
      let token = c.args.token.now in
      let event = c.args.event.now in
      let step = records core.names core.sends core.lawful c.args.shared.now.key s token.id event token.me.0 _ s.homes holds at c.requires.next refl in (
        recorded core.names event (slice_index s.words 0) token.me.0,
        keeps,
        tt,
        step.0,
        tells_record core.names core.sends core.lawful g.N.Told.told event (slice_index s.words 0) token.me c.requires.told step.1,
      ),
)
