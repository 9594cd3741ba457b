-- Any number of files.
use Rattle.std.proofs.Common.{inl, refl}
use Rattle.cam_scope_args.proofs.words.checked.Goals as goal

pub returns-clause-read : goal.returns-clause-read
returns-clause-read c = c.of_files-request.ensures.read _ (tt, inl refl) tt
