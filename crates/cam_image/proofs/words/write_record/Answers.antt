use Rattle.std.proofs.Common.{string_bytes}
use Rattle.cam_image.proofs.Spaced.{commit_words}
use Rattle.cam_image.proofs.words.write_record.Goals as goal

pub returns-in_ok-write_deps-in-Commit : goal.returns-in_ok-write_deps-in-Commit
returns-in_ok-write_deps-in-Commit c =
    commit_words c.args.one.now c.in-Commit.name c.in-Commit.deps (string_bytes c.args.out.now)
    (string_bytes c.write_named-in-Commit.new.out) (string_bytes c.write_deps.new.out)
    c.in-Commit.is c.in_ok-write_named-in-Commit.ensures c.in_ok-write_deps-in-Commit.ensures
