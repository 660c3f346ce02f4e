-- The runner keeps its place so far, has a reason where it failed, and was let on where it made a turn.
use Rattle.dob_runner.proofs.Common.{◌≡◌, ◌⊎◌, None, true, IsReasoned, KeepsRunner, says_no}
use Rattle.dob_runner.proofs.runner.Runner.make_turns.Given as goal

abbrev pub invariant-loop : goal.invariant-loop
invariant-loop g l = record {
  keeps : KeepsRunner l.fn.self l.self;
  reasoned : IsReasoned (says_no (g.G.Gate.says l.fn.gate)) l.self;
  let_on : (l.self.endpoint.seat.stand.halt ≡ l.fn.self.endpoint.seat.stand.halt) ⊎ (l.self.failed ≡ None → g.G.Gate.says l.fn.gate l.self.endpoint.seat.node true);
}
