use Rattle.cam_test_program.proofs.Pairs.{last_two}
use Rattle.cam_test_program.proofs.journal.two_seats.Goals as goal

pub returns : goal.returns
returns c = last_two c.args.journal.now.id c.args.seats.items c.pop.new.self.items c.pop-2.new.self.items c.in_ok-one.one c.in_ok-two.two c.requires c.in_ok-two.ensures.items c.in_ok-one.ensures.items
