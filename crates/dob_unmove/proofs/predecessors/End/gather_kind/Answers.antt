-- the lists of the kind, since the others are empty
use Rattle.dob_unmove.proofs.Common.{rules, setup_after}
use Rattle.dob_unmove.proofs.Runs.{takes_append}
use Rattle.dob_unmove.proofs.Standing.{ways_of_lion, ways_of_giraffe, ways_of_elephant}
use Rattle.dob_unmove.proofs.predecessors.End.gather_kind.Goals as goal

pub returns-in-Lion : goal.returns-in-Lion
returns-in-Lion c =
    rw (ways_of_lion (setup_after c.args.self.now.walk.now) c.args.self.now.to
    (rw c.in-Lion.is at c.requires.stands)) c.gather_steps.ensures

pub returns-in_ok-gather_steps-in-Giraffe : goal.returns-in_ok-gather_steps-in-Giraffe
returns-in_ok-gather_steps-in-Giraffe c =
    rw (ways_of_giraffe (setup_after c.args.self.now.walk.now) c.args.self.now.to
    (rw c.in-Giraffe.is at c.requires.stands)) (search (rules, takes_append))

pub returns-in_ok-gather_steps-in-Elephant : goal.returns-in_ok-gather_steps-in-Elephant
returns-in_ok-gather_steps-in-Elephant c =
    rw (ways_of_elephant (setup_after c.args.self.now.walk.now) c.args.self.now.to
    (rw c.in-Elephant.is at c.requires.stands)) (search (rules, takes_append))
