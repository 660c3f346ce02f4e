-- Of those that were started so many have ended, each at its place, and the others are left.
use Rattle.dob_threads.proofs.Common.{length, AllZip, into_iter_items, IsEndOf}
use Rattle.dob_endpoint.proofs.Places.{HaveGone}
use Rattle.dob_threads.proofs.threads.end_all.Given as goal

abbrev pub invariant-loop-one : goal.invariant-loop-one
invariant-loop-one g l = record {
  gone : HaveGone l.fn.started.items (into_iter_items l.one-iterator) (length l.ended.items);
  related : AllZip (IsEndOf g.G.Gate.says) gone.gone l.ended.items;
}
