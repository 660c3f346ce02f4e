-- The law, from the lemma that a mirrored board keeps what is legal.
use Rattle.dob_pieces.proofs.Boards.{IsLegal-mirrored}
use Rattle.dob_pieces.proofs.laws.mirrored_legal.Goals as goal

pub returns : goal.returns
returns c = IsLegal-mirrored
