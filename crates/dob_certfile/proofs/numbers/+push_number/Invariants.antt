-- What is left of the number is less.
use Rattle.dob_certfile.proofs.numbers.+push_number.Given as goal

abbrev pub decreases-push_number : goal.decreases-push_number
decreases-push_number l = l.number
