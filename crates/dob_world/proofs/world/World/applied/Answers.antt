-- The list of the lane.
use Rattle.dob_world.proofs.Common.{◌∙◌}
use Rattle.dob_world.proofs.InPlace.{applied_lent}
use Rattle.dob_world.proofs.world.World.applied.Goals as goal

pub returns : goal.returns
returns c = c.deref.ensures.value ∙ applied_lent c.args.self.now c.args.from c.args.to c.lane_place.result c.index.result.now c.requires.from c.requires.to
    c.lane_place.ensures c.index.ensures
