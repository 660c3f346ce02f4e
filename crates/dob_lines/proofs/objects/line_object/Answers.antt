-- The pieces in order.
use Rattle.dob_lines.proofs.objects.line_object.Goals as goal

pub returns : goal.returns
returns c = rw (c.in_ok-front.ensures, c.in_ok-told.ensures) at c.in_ok-format.ensures.ok
