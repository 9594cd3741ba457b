-- The names of those that play on, in order.
use Rattle.std.proofs.Common.{◌≡◌, ◌∙◌, arith, rules}
use Rattle.std.proofs.lemmas.Grind.{common_steps}
use Rattle.cam_cluster.proofs.PlayingNames.{names_playing}
use Rattle.cam_cluster.proofs.workers.Workers.names.Goals as goal

pub returns : goal.returns
returns c st caught =
    let all : c.loop-name.names ≡ c.args.self.now.playing.keys =
    first_of (search rules, grind (arith, common_steps)) in
    all ∙ names_playing _ _ caught
