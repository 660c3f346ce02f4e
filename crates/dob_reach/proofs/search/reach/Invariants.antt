-- What is known before a round; the classes that aren't counted get fewer.
use Rattle.dob_reach.proofs.Common.{◌-◌, ◌<◌, IsSearched, classes_of, get_or, length, ℕ}
use Rattle.dob_reach.proofs.search.reach.Given as goal

abbrev pub invariant-rounds : goal.invariant-rounds
invariant-rounds g l = record {
  searched : IsSearched l.classes.family l.start l.reached l.front.items;
  told : (distance : ℕ) → distance < length l.reached.levels.items → g.W.Watch.told l.watch distance (get_or l.reached.levels.items distance 0);
}

abbrev pub decreases-rounds : goal.decreases-rounds
decreases-rounds g l = classes_of l.classes.family - l.reached.classes
