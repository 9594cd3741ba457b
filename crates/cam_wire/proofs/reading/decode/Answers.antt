-- A spelling is read as its letter, a beginning of one is short, and what is read was spelled.
use Rattle.std.proofs.Common.{arith}
use Rattle.std.proofs.lemmas.Result.{err_from_is_err_and}
use Rattle.cam_wire.proofs.Exactly.{read_is_spelled}
use Rattle.cam_wire.proofs.Decoding.{refused_letter, whole_letter, refused_spelling, refused_beginning, read_same, no_beginning, rest_refused, rest_beginning, writable_letter}
use Rattle.cam_wire.proofs.reading.decode.Goals as goal

pub returns-in_err-letter-clause-each : goal.returns-in_err-letter-clause-each
returns-in_err-letter-clause-each c = λ letter spelled.
    let p = err_from_is_err_and c.from_residual.result c.from_residual.ensures.1 in
    rw (p.1, p.2) (refused_spelling c.args.bytes.now letter c.in_err-letter.field-0.0 (refused_letter c.args.bytes.now c.in_err-letter.field-0.0 c.in_err-letter.ensures.refused) spelled)

pub returns-in_err-letter-clause-beginning : goal.returns-in_err-letter-clause-beginning
returns-in_err-letter-clause-beginning c = λ letter more longer spelled.
    let p = err_from_is_err_and c.from_residual.result c.from_residual.ensures.1 in
    rw (p.1, p.2) (refused_beginning c.args.bytes.now more letter c.in_err-letter.field-0.0 (refused_letter c.args.bytes.now c.in_err-letter.field-0.0 c.in_err-letter.ensures.refused) longer spelled)

pub returns-then-end-bytes-clause-spelled : goal.returns-then-end-bytes-clause-spelled
returns-then-end-bytes-clause-spelled c =
    read_is_spelled c.in_ok-letter.letter c.args.bytes.now (λ i. omega (arith, c.type_inv.bytes i))
    (whole_letter c.args.bytes.now c.in_ok-letter.letter c.in_ok-letter.end c.in_ok-letter.ensures.read c.if-end-bytes.true)

pub returns-then-end-bytes-clause-writable : goal.returns-then-end-bytes-clause-writable
returns-then-end-bytes-clause-writable c = writable_letter c.in_ok-letter.letter (returns-then-end-bytes-clause-spelled c).range

pub returns-then-end-bytes-clause-each : goal.returns-then-end-bytes-clause-each
returns-then-end-bytes-clause-each c = λ letter spelled.
    read_same c.args.bytes.now c.in_ok-letter.letter letter
    (whole_letter c.args.bytes.now c.in_ok-letter.letter c.in_ok-letter.end c.in_ok-letter.ensures.read c.if-end-bytes.true) spelled

pub returns-then-end-bytes-clause-beginning : goal.returns-then-end-bytes-clause-beginning
returns-then-end-bytes-clause-beginning c = λ letter more longer spelled.
    no_beginning c.args.bytes.now more c.in_ok-letter.letter letter
    (whole_letter c.args.bytes.now c.in_ok-letter.letter c.in_ok-letter.end c.in_ok-letter.ensures.read c.if-end-bytes.true) longer spelled

pub returns-else-end-bytes-clause-each : goal.returns-else-end-bytes-clause-each
returns-else-end-bytes-clause-each c = λ letter spelled.
    rest_refused c.args.bytes.now letter c.in_ok-letter.letter c.in_ok-letter.end c.in_ok-letter.ensures.read c.if-end-bytes.false spelled

pub returns-else-end-bytes-clause-beginning : goal.returns-else-end-bytes-clause-beginning
returns-else-end-bytes-clause-beginning c = λ letter more longer spelled.
    rest_beginning c.args.bytes.now more letter c.in_ok-letter.letter c.in_ok-letter.end c.in_ok-letter.ensures.read c.if-end-bytes.false longer spelled
