-- The runners of the new crew are of the classes' family.
use Rattle.dob_tests_threads.proofs.run.turns.held_after_three_turns.Goals as goal

pub sees_the_hold-requires-clause-first : goal.sees_the_hold-requires-clause-first
sees_the_hold-requires-clause-first g c = c.two_runners-classes.ensures.first

pub sees_the_hold-requires-clause-second : goal.sees_the_hold-requires-clause-second
sees_the_hold-requires-clause-second g c = c.two_runners-classes.ensures.second
