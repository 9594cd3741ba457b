use Rattle.cam_plain.specs.Legal.{history}
use Rattle.cam_plain.proofs.before.Before.is_secured_at.Goals as goal

pub returns : goal.returns
returns c = c.is_secured.ensures c.args.self.now.objects.now (history c.args.self.now.deeds.now) c.requires.kept.ledger
