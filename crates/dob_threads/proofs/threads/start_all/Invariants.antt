-- Of the runners so many were started, each at its place, and the others are left.
use Rattle.dob_threads.proofs.Common.{length, AllZip, into_iter_items, IsStartOf}
use Rattle.dob_endpoint.proofs.Places.{HaveGone}
use Rattle.dob_threads.proofs.threads.start_all.Given as goal

abbrev pub invariant-loop-runner : goal.invariant-loop-runner
invariant-loop-runner g l = record {
  gone : HaveGone l.fn.runners.items (into_iter_items l.runner-iterator) (length l.started.items);
  related : AllZip (IsStartOf g.G.Gate.says l.fn.gate l.fn.until) gone.gone l.started.items;
}
