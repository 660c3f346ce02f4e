-- One of at most ten squares is below 12.
use Rattle.dob_rank.proofs.Boards.Pairs.{few_ones}
use Rattle.dob_rank.proofs.placing.places_of.Goals as goal

pub returns-in-1-clause-first_bound : goal.returns-in-1-clause-first_bound
returns-in-1-clause-first_bound c = few_ones c.args.squares c.args.pieces c.args.number c.requires.squares c.in-1.is c.requires.number
