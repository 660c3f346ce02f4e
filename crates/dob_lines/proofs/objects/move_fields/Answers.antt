-- A drop's fields are those of its text, on the square that is seen.
use Rattle.dob_lines.proofs.objects.move_fields.Goals as goal

pub returns : goal.returns
returns c = rw c.in-Put.is (rw (c.as_str-in-Put.ensures.value, rw c.in-Put.is at c.in_ok-text.ensures, c.seen_square-in-Put.ensures) at c.put_fields.ensures)
