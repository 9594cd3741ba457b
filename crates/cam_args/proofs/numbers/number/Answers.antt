-- What std reads, where the word is plain.
use Rattle.std.proofs.Common.{◌≡◌, ℕ, Ok, true, false, sym, ap, ◌∙◌, arith}
use mathlib.Core.Bool.{true≢false}
use Rattle.cam_args.specs.Numbers.{is_plain}
use Rattle.cam_args.proofs.Spelling.{decimal_plain, decimal_read, plain_spelt, same_number, no_error}
use Rattle.cam_args.proofs.numbers.number.Goals as goal

pub returns-in-Ok-clause-read : goal.returns-in-Ok-clause-read
returns-in-Ok-clause-read c =
    let plain : is_plain c.args.word.now
    ≡ true = cc (c.is_plain-plain.ensures, c.as_bytes.ensures.value, c.if-plain.true) in (
      (c.if-least-number.true, c.if-number-most.true),
      plain_spelt c.args.word.now c.in-Ok.number
          c.parse.result plain c.in-Ok.is c.parse.ensures.value.0,
    )

pub returns-in-Ok-clause-each : goal.returns-in-Ok-clause-each
returns-in-Ok-clause-each c = λ n from is.
    let read = decimal_read c.args.word.now n c.parse.result
    (omega (arith, from.1, c.ranges.most.fits)) is c.parse.ensures.value.0 in
    ap (λ (x : ℕ). Ok x) (same_number c.parse.result c.in-Ok.number n c.in-Ok.is read)

pub returns-in_default-clause-each : goal.returns-in_default-clause-each
returns-in_default-clause-each c = λ n from is.
    let read = decimal_read c.args.word.now n c.parse.result
    (omega (arith, from.1, c.ranges.most.fits)) is c.parse.ensures.value.0 in
    absurd
    (omega (
      arith,
      same_number c.parse.result c.in-Ok.number n c.in-Ok.is read,
      from.1,
      c.if-number-most.false,
    ))

pub returns-in_default-2-clause-each : goal.returns-in_default-2-clause-each
returns-in_default-2-clause-each c = λ n from is.
    let read = decimal_read c.args.word.now n c.parse.result
    (omega (arith, from.1, c.ranges.most.fits)) is c.parse.ensures.value.0 in
    absurd
    (omega (
      arith,
      same_number c.parse.result c.in-Ok.number n c.in-Ok.is read,
      from.0,
      c.if-least-number.false,
    ))

pub returns-in_default-3-clause-each : goal.returns-in_default-3-clause-each
returns-in_default-3-clause-each c = λ n from is.
    let read = decimal_read c.args.word.now n c.parse.result
    (omega (arith, from.1, c.ranges.most.fits)) is c.parse.ensures.value.0 in
    let plain : is_plain c.args.word.now
    ≡ false = cc (c.is_plain-plain.ensures, c.as_bytes.ensures.value, c.if-plain.false) in
    absurd
    (true≢false (sym (decimal_plain n (omega (arith, from.1, c.ranges.most.fits)))
    ∙ ap is_plain (sym is) ∙ plain))

pub returns-in_default-4-clause-each : goal.returns-in_default-4-clause-each
returns-in_default-4-clause-each c = λ n from is.
    let read = decimal_read c.args.word.now n c.parse.result
    (omega (arith, from.1, c.ranges.most.fits)) is c.parse.ensures.value.0 in
    absurd (no_error c.parse.result c.in_default.field-0 n c.in_default.is read)
