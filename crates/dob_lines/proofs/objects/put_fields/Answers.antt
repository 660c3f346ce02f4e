-- The kind is that on the board, and the square is by its name.
use Rattle.dob_lines.proofs.objects.put_fields.Goals as goal

pub returns : goal.returns
returns c = rw (c.as_str.ensures.value, c.in_ok-to.ensures, c.on_board.ensures) at c.step_fields.ensures
