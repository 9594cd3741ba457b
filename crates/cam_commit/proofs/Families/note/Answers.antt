-- There is room, so the insertion does not fail.
use Rattle.std.proofs.Common.{arith, refl}
use Rattle.cam_commit.specs.declared.Families.{Families as Tables}
use Rattle.cam_commit.proofs.Votes.{vote_noted}
use Rattle.cam_commit.proofs.Families.note.Goals as goal

pub returns : goal.returns
returns c =
    let old = c.args.self.now in
    let new : Tables =
    record { preparing = old.preparing; votes = c.insert.new.self; secured = old.secured } in
    record {
      preparing = λ g. refl;
      votes =
          vote_noted c.insert.result old new c.args.vote.now
          (c.insert.ensures.succeeds (omega (arith, c.requires))) c.insert.ensures.updates;
      secured = λ g. refl;
    }
