-- Each square stands for its letter, and the slashes stand in their places.
use Rattle.std.proofs.Common.{arith}
use Rattle.dob_text.proofs.Grids.{board_spelled}
use Rattle.dob_text.proofs.boards.board_of.Goals as goal

pub returns : goal.returns
returns c = (c.loop-square.invariant.size, board_spelled _ _ c.requires (λ k lt. c.loop-square.invariant.letters k (omega arith)))
