use Rattle.std.proofs.Common.{ℕ, sym, ◌∙◌, subst}
use Rattle.cam_hall.specs.Turns.{IsFor}
use Rattle.cam_hall.specs.Ending.{Left}
use Rattle.cam_hall.proofs.Leaving.{read_at, left_after, moved_at}
use Rattle.cam_hall.proofs.ended.step_at.Goals as goal

pub step_and_record-requires-clause-own : goal.step_and_record-requires-clause-own
step_and_record-requires-clause-own g c =
    let left : Left g.row.C.Denot g.row.C-Event.Denot g.row.C-Letter.Denot = record {
      journal = c.args.journal.now;
      cores = c.args.cores.now.items;
      seats = c.args.seats.now.items;
    } in
    let core = c.index_mut.result.now in
    let seat = c.index_mut-2.result.now in
    let stood =
    read_at g.C.Core.is_replay left c.requires.left c.args.at core seat c.requires.at
    c.index_mut.ensures.value c.index_mut-2.ensures.value in
    let standing =
    c.requires.left.each c.args.at (record { core = core; seat = seat }) stood in
    standing.own

pub step_and_record-requires-clause-item : goal.step_and_record-requires-clause-item
step_and_record-requires-clause-item g c =
    let left : Left g.row.C.Denot g.row.C-Event.Denot g.row.C-Letter.Denot = record {
      journal = c.args.journal.now;
      cores = c.args.cores.now.items;
      seats = c.args.seats.now.items;
    } in
    let core = c.index_mut.result.now in
    let seat = c.index_mut-2.result.now in
    let stood =
    read_at g.C.Core.is_replay left c.requires.left c.args.at core seat c.requires.at
    c.index_mut.ensures.value c.index_mut-2.ensures.value in
    let standing =
    c.requires.left.each c.args.at (record { core = core; seat = seat }) stood in
    subst (λ (n : ℕ). IsFor c.args.journal.now.id g.C.Core.goes_to n c.args.item)
    (sym standing.number) c.requires.item

pub step_and_record-requires-clause-replay : goal.step_and_record-requires-clause-replay
step_and_record-requires-clause-replay g c =
    let left : Left g.row.C.Denot g.row.C-Event.Denot g.row.C-Letter.Denot = record {
      journal = c.args.journal.now;
      cores = c.args.cores.now.items;
      seats = c.args.seats.now.items;
    } in
    let core = c.index_mut.result.now in
    let seat = c.index_mut-2.result.now in
    let stood =
    read_at g.C.Core.is_replay left c.requires.left c.args.at core seat c.requires.at
    c.index_mut.ensures.value c.index_mut-2.ensures.value in
    let standing =
    c.requires.left.each c.args.at (record { core = core; seat = seat }) stood in
    subst (λ (n : ℕ). g.C.Core.is_replay core n seat.history) (sym standing.number)
    standing.replay

pub returns-clause-step : goal.returns-clause-step
returns-clause-step g c =
    let left : Left g.row.C.Denot g.row.C-Event.Denot g.row.C-Letter.Denot = record {
      journal = c.args.journal.now;
      cores = c.args.cores.now.items;
      seats = c.args.seats.now.items;
    } in
    let core = c.index_mut.result.now in
    let seat = c.index_mut-2.result.now in
    let stood =
    read_at g.C.Core.is_replay left c.requires.left c.args.at core seat c.requires.at
    c.index_mut.ensures.value c.index_mut-2.ensures.value in
    let standing =
    c.requires.left.each c.args.at (record { core = core; seat = seat }) stood in
    let after = c.step_and_record.new in
    record {
      before = record { core = core; seat = seat };
      after = record { core = after.core; seat = after.seat };
      moved =
          moved_at g.C.Core.is_replay left c.args.at (record { core = core; seat = seat })
          (record { core = after.core; seat = after.seat }) stood;
      step = c.step_and_record.ensures.advance;
    }

pub returns-clause-left : goal.returns-clause-left
returns-clause-left g c =
    let left : Left g.row.C.Denot g.row.C-Event.Denot g.row.C-Letter.Denot = record {
      journal = c.args.journal.now;
      cores = c.args.cores.now.items;
      seats = c.args.seats.now.items;
    } in
    let core = c.index_mut.result.now in
    let seat = c.index_mut-2.result.now in
    let stood =
    read_at g.C.Core.is_replay left c.requires.left c.args.at core seat c.requires.at
    c.index_mut.ensures.value c.index_mut-2.ensures.value in
    let standing =
    c.requires.left.each c.args.at (record { core = core; seat = seat }) stood in
    let after = c.step_and_record.new in
    let ends = c.step_and_record.ensures.advance.ends in
    let numbered = ends.node ∙ standing.number in
    left_after g.C.Core.is_replay left c.args.at (record { core = core; seat = seat })
    (record { core = after.core; seat = after.seat }) c.requires.left stood
    (record {
      own = ends.journal ∙ standing.own;
      number = numbered;
      replay =
          subst (λ (n : ℕ). g.C.Core.is_replay after.core n after.seat.history) numbered
          c.step_and_record.ensures.replay;
    })
