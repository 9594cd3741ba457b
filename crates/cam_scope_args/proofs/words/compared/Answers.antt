-- Two files.
use Rattle.std.proofs.Common.{◌≡◌, ◌∙◌, arith, inl, length, refl, string_bytes}
use Rattle.std.proofs.lemmas.List.{length-map}
use Rattle.cam_scope_args.proofs.words.compared.Goals as goal

pub returns-in-len2-clause-read : goal.returns-in-len2-clause-read
returns-in-len2-clause-read c =
    let two : length c.args.files.now ≡ 2 = omega arith in
    c.of_files-request.ensures.read _ (tt, inl refl) (length-map c.args.files.now string_bytes ∙ two)
