-- The law.
use Rattle.dob_zugzwang.proofs.Turned.{turn_is_position as law}
use Rattle.dob_zugzwang.proofs.laws.turns_are_positions.Goals as goal

pub returns : goal.returns
returns c = law
