-- What came back went first over the ring.
use Rattle.dob_threads.proofs.Common.{subst, sym, known_items, IsEndOf}
use Rattle.dob_threads.proofs.Threaded.{went_first}
use Rattle.dob_threads.proofs.threads.end.Goals as goal

pub returns-in-Runs : goal.returns-in-Runs
returns-in-Runs g c =
    let ran = c.join-taking.ensures in
    let went = went_first c.in-Runs.giving c.slots_beside.new.producer c.join-taking.result.taking c.slots_beside.new.self ran.handed ran.came
    c.slots_beside.ensures.looked c.slots_beside.ensures.producer c.slots_beside.ensures.fifo in
    subst (λ s. IsEndOf g.G.Gate.says s c.join-taking.result.runner) (sym c.in-Runs.is) (ran.handed, known_items c.slots_beside.new.self, went, ran.ends)
