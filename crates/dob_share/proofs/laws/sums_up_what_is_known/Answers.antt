-- Where better is known of one move, the change fits the cell, which then sums up what is known.
use Rattle.dob_share.proofs.Learning.{takes_next}
use Rattle.dob_share.proofs.Sums.{sums_up_after}
use Rattle.dob_share.proofs.laws.sums_up_what_is_known.Goals as goal

pub returns : goal.returns
returns c = λ known after was now cell sums change better.
    (takes_next known after was now cell better change sums, sums_up_after known after was now cell better change sums)
