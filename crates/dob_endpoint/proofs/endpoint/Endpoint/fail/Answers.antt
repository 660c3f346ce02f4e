-- The halt that the seat finds is the one that it knows afterwards. No call is cited by name: a body that only looks at the board is refused for its halt.
use Rattle.dob_endpoint.proofs.Common.{◌∙◌, ◌≡◌, ◌≢◌, Bool, sym, true, FailsAfter, MovesNothing, Halt, Ended, Running, NodeSeat}
use Rattle.dob_endpoint.proofs.endpoint.Endpoint.fail.Goals as goal

known : (found new : Halt) → new ≡ found → found ≢ Running → new ≢ Running
known found new is stopped running = stopped (sym is ∙ running)

unended : (found new : Halt) (black : Bool) → new ≡ found → (black ≡ true → found ≢ Ended) → black ≡ true → new ≢ Ended
unended found new black is going held ended = going held (sym is ∙ ended)

unmoved : (old new : NodeSeat) (halt : Halt) → FailsAfter old new halt → MovesNothing old new
unmoved old new halt fails = fails.observed.alone

pub returns-clause-stopped : goal.returns-clause-stopped
returns-clause-stopped c = search known fits 50

pub returns-clause-black : goal.returns-clause-black
returns-clause-black c = search unended fits 50

pub returns-clause-still : goal.returns-clause-still
returns-clause-still c = search unmoved fits 50
