-- Each line is its move's.
use Rattle.std.proofs.Common.{rules}
use Rattle.dob_lines.specs.ValuedMoves.{valued_move_line}
use Rattle.dob_lines.proofs.valued_moves.some_lines.Goals as goal

pub returns : goal.returns
returns c = c.joined.ensures valued_move_line (λ valued there given post. search rules)
