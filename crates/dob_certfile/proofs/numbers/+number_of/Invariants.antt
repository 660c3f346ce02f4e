-- One byte fewer is left.
use Rattle.dob_certfile.proofs.numbers.+number_of.Given as goal

abbrev pub decreases-number_of : goal.decreases-number_of
decreases-number_of l = l.more
