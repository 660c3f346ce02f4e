-- Later the board there are no two words.
use Rattle.std.proofs.lemmas.Grind.{common_steps}
use Rattle.std.proofs.Common.{arith}
use Rattle.std.proofs.lemmas.List.{take_rest}
use Rattle.dob_text.proofs.Splits.{no_parts}
use Rattle.dob_text.proofs.parts.parts_of.Goals as goal

pub returns-in_err-mover : goal.returns-in_err-mover
returns-in_err-mover c =
    rw c.from_residual.ensures (no_parts c.args.text.now _ _ c.split_at.ensures.back (take_rest _ 1) c.in_err-mover.ensures)

pub returns-then-rest-ne32 : goal.returns-then-rest-ne32
returns-then-rest-ne32 c = grind (arith, common_steps)

pub returns-then-not-is_ascii : goal.returns-then-not-is_ascii
returns-then-not-is_ascii c = grind (arith, common_steps)

pub returns : goal.returns
returns c = grind (arith, common_steps)
