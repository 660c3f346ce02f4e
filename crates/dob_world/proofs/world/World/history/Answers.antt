-- The history of the node.
use Rattle.dob_world.proofs.InPlace.{history_lent}
use Rattle.dob_world.proofs.world.World.history.Goals as goal

pub returns : goal.returns
returns c = history_lent c.args.self.now c.args.node c.index.result.now c.requires.node c.index.ensures
