-- In a lawful and linked world at rest the values of all classes are the value table.
use Rattle.dob_world.proofs.Promise.{rest_is_right}
use Rattle.dob_world.proofs.laws.rest_is_right.Goals as goal

pub returns : goal.returns
returns c = rest_is_right
