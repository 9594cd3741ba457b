-- Where a word begins with `-` there is no form.
use Rattle.std.proofs.Common.{◌≡◌, true, map, string_bytes, refl}
use Rattle.std.specs.List.{list_any}
use Rattle.cam_args.specs.Line.{is_dashed}
use Rattle.cam_args.proofs.Passing.{dashed_is_no_form}
use Rattle.cam_args.proofs.words.read_words.Goals as goal

pub returns-then-has_dashed-clause-each : goal.returns-then-has_dashed-clause-each
returns-then-has_dashed-clause-each c = λ command form.
    let dashed : list_any is_dashed (map string_bytes c.args.words.now)
    ≡ true = cc (c.has_dashed.ensures, c.if-has_dashed.true) in
    absurd (dashed_is_no_form _ dashed command form)

pub returns-then-has_dashed-clause-usage : goal.returns-then-has_dashed-clause-usage
returns-then-has_dashed-clause-usage c =
    let dashed : list_any is_dashed (map string_bytes c.args.words.now)
    ≡ true = cc (c.has_dashed.ensures, c.if-has_dashed.true) in
    (λ e. dashed_is_no_form _ dashed, λ none. refl)
