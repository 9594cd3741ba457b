-- The options with which the words begin, and one file at most behind them.
use Rattle.std.proofs.Common.{◌≡◌, ◌∙◌, ◌≤◌, ◌<◌, ◌-◌, ◌&&◌, ℕ, Bool, ap, drop, inl, length, map, string_bytes, subst, sym, take}
use Rattle.std.proofs.lemmas.List.{length-map, take_rest}
use Rattle.cam_scope_args.specs.Tests.{are_files}
use Rattle.cam_scope_args.proofs.Spelling.{more_than_one, one_at_most, options_are, sweep_words, swept_by_files}
use Rattle.cam_scope_args.proofs.words.swept.Goals as goal

pub returns-then-files-le1-clause-read : goal.returns-then-files-le1-clause-read
returns-then-files-le1-clause-read c =
    let files = take (length c.args.words.now - c.leading_options-many.result)
    (drop c.leading_options-many.result c.args.words.now) in
    let behind = take_rest c.args.words.now c.leading_options-many.result in
    let few : length (map string_bytes files) ≤ 1 =
    subst (λ (n : ℕ). n ≤ 1) (sym (length-map files string_bytes)) c.if-files-le1.true in
    c.of_files.ensures.read _ (
      options_are string_bytes c.args.words.now c.leading_options-many.result c.leading_options-many.ensures.many,
      inl (sweep_words string_bytes c.args.words.now files c.leading_options-many.result behind),
    )
    few

pub returns-then-files-le1-clause-form : goal.returns-then-files-le1-clause-form
returns-then-files-le1-clause-form c =
    let files = take (length c.args.words.now - c.leading_options-many.result)
    (drop c.leading_options-many.result c.args.words.now) in
    let behind = take_rest c.args.words.now c.leading_options-many.result in
    let few : length (map string_bytes files) ≤ 1 =
    subst (λ (n : ℕ). n ≤ 1) (sym (length-map files string_bytes)) c.if-files-le1.true in
    c.of_files.ensures.form
    ∙ sym (swept_by_files string_bytes c.args.words.now files c.leading_options-many.result behind c.leading_options-many.ensures.many
    ∙ ap (λ (b : Bool). b && are_files (map string_bytes files)) (one_at_most (map string_bytes files) few))

pub returns-else-files-le1-clause-form : goal.returns-else-files-le1-clause-form
returns-else-files-le1-clause-form c =
    let files = take (length c.args.words.now - c.leading_options-many.result)
    (drop c.leading_options-many.result c.args.words.now) in
    let behind = take_rest c.args.words.now c.leading_options-many.result in
    let many : 1 < length (map string_bytes files) =
    subst (λ (n : ℕ). 1 < n) (sym (length-map files string_bytes)) c.if-files-le1.false in
    sym (swept_by_files string_bytes c.args.words.now files c.leading_options-many.result behind c.leading_options-many.ensures.many
    ∙ ap (λ (b : Bool). b && are_files (map string_bytes files)) (more_than_one (map string_bytes files) many))
