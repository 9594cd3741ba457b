-- A word alone, before one file at most.
use Rattle.std.proofs.Common.{◌≤◌, ℕ, length, map, string_bytes, subst, sym}
use Rattle.std.proofs.lemmas.List.{length-map}
use Rattle.cam_scope_args.proofs.Spelling.{plain_words}
use Rattle.cam_scope_args.proofs.words.without_option.Goals as goal

pub returns-then-files-le1-clause-read : goal.returns-then-files-le1-clause-read
returns-then-files-le1-clause-read c =
    let few : length (map string_bytes c.args.files.now) ≤ 1 =
    subst (λ (n : ℕ). n ≤ 1) (sym (length-map c.args.files.now string_bytes)) c.if-files-le1.true in
    c.of_files.ensures.read _
    (plain_words c.args.word.now c.in_ok-question.question _ c.in_ok-question.ensures.plain)
    (c.in_ok-question.ensures.plain.many _ few)
