-- In a linked world what was applied is a beginning of what was sent, and that one of the sender's items.
use Rattle.dob_world.proofs.Kept.{lists_are_beginnings}
use Rattle.dob_world.proofs.laws.lists_are_beginnings.Goals as goal

pub returns : goal.returns
returns c = lists_are_beginnings
