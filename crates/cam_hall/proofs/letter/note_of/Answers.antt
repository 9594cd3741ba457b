use Rattle.std.proofs.Common.{◌<◌, ◌∙◌, length, subst, arith}
use Rattle.std.specs.Prelude.{Option}
use Rattle.cam_journal.specs.Seats.{Mention}
use Rattle.cam_hall.specs.Ending.{IsFound}
use Rattle.cam_hall.proofs.Places.{here_too, put_back}
use Rattle.cam_hall.proofs.Letters.{none_more, none_never}
use Rattle.cam_hall.proofs.letter.note_of.Goals as goal

pub loop-at-preserved : goal.loop-at-preserved
loop-at-preserved g c =
    let core = g.C.Core in
    let before = c.loop-at.seats.items in
    let at = c.loop-at.at in
    let seat = c.index_mut.result.now in
    let is = c.index_mut.ensures.value in
    let same = c.loop-at.invariant.0 in
    let test = c.loop-at-test.true in
    let long = c.len-at-end.ensures in
    let within : at < length c.args.seats.now.items = omega (arith, test, long) in
    let stands = here_too before c.args.seats.now.items at seat same is within in
    let none =
    subst
    (λ (found : Option (Mention g.row.C-Letter.Denot)).
    IsFound core.sends core.goes_to c.args.journal.now.id seat.history c.args.node
    c.args.number c.args.place found)
    c.in_default.is c.in_ok-note.ensures.found in (
      put_back before at seat c.find_in.new.seat c.in_ok-note.ensures.same is ∙ same,
      none_more core.sends core.goes_to c.args.journal.now.id c.args.seats.now.items c.args.node
          c.args.number c.args.place at seat stands c.loop-at.invariant.1 none,
    )

pub unreachable-requires : goal.unreachable-requires
unreachable-requires g c =
    none_never g.C.Core.sends g.C.Core.goes_to c.args.seats.now.items c.args.node c.args.number
    c.args.place c.loop-at.at (omega (arith, c.loop-at-test.false, c.len-at-end.ensures))
    c.loop-at.invariant.1 c.requires.letter
