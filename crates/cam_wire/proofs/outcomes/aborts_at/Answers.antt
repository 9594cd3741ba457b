use Rattle.std.proofs.Common.{◌∙◌, sym, arith, List}
use Rattle.std.proofs.lemmas.Result.{err_from_is_err_and}
use Rattle.cam_names.specs.declared.name.Name.{Name}
use Rattle.cam_bytes.proofs.Refusing.{refused_here, ended_here}
use Rattle.cam_wire.specs.Reading.{aborts_from, aborts_at}
use Rattle.cam_wire.proofs.Decoding.{no_aborts, aborts_begin, no_more_aborts}
use Rattle.cam_wire.proofs.TakenLists.{took_aborts}
use Rattle.cam_wire.proofs.outcomes.aborts_at.Goals as goal

pub returns-in_err-left-clause-refused : goal.returns-in_err-left-clause-refused
returns-in_err-left-clause-refused c =
    let p = err_from_is_err_and c.from_residual.result c.from_residual.ensures.1 in
    rw (p.1, p.2) (no_aborts c.args.at c.args.bytes.now c.in_err-left.field-0.0 (sym c.number_at.ensures.value ∙ c.in_err-left.was))

pub loop-left-init : goal.loop-left-init
loop-left-init c = record {
  start = omega (arith, c.in_ok-left.ensures.end.0);
  end = c.in_ok-left.ensures.end.1;
  same = aborts_begin c.args.at c.in_ok-left.left c.in_ok-left.at c.new-aborts.result c.args.bytes.now (sym c.number_at.ensures.value ∙ c.in_ok-left.was) c.new-aborts.ensures;
}

pub returns-in_err-at-clause-refused : goal.returns-in_err-at-clause-refused
returns-in_err-at-clause-refused c =
    let p = err_from_is_err_and c.from_residual-in_err-at.result c.from_residual-in_err-at.ensures.1 in
    let l = c.loop-left in
    rw (p.1, p.2)
    (refused_here (List Name) aborts_from l.left l.aborts l.at c.args.bytes.now (aborts_at c.args.at c.args.bytes.now) c.in_err-at.field-0.0
    c.loop-left-test.true c.in_err-at.ensures.refused l.invariant.same)

pub returns-clause-read : goal.returns-clause-read
returns-clause-read c =
    let l = c.loop-left in
    ended_here (List Name) aborts_from no_more_aborts l.left l.aborts l.at c.args.bytes.now (aborts_at c.args.at c.args.bytes.now) c.loop-left-test.false l.invariant.same

pub returns-clause-rising : goal.returns-clause-rising
returns-clause-rising c = (took_aborts c.args.bytes.now c.args.at (c.loop-left.aborts, c.loop-left.at) (λ i. omega (arith, c.type_inv.bytes i)) (returns-clause-read c)).rise
