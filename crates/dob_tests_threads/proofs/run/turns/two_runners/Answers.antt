-- The runners of a new crew are of its family.
use Rattle.std.proofs.Common.{◌≡◌, sym, [], ◌∷◌, refl, rules}
use Rattle.dob_pieces.specs.declared.profile.Family.{Family}
use Rattle.dob_board.specs.declared.board.Blackboard.{Blackboard}
use Rattle.dob_runner.specs.declared.runner.Runner.{Runner}
use Rattle.dob_crew.specs.CrewRunners.{IsNewCrew}
use Rattle.dob_tests_threads.proofs.run.turns.two_runners.Goals as goal

are_of : (family : Family) (board : Blackboard) (one other : Runner) → IsNewCrew family 2 1 1 board (one ∷ other ∷ [])
    → (family ≡ one.family) × (family ≡ other.family)
are_of family board one other new = (sym (new.each 0 one refl).family_is, sym (new.each 1 other refl).family_is)

pub returns-clause-first : goal.returns-clause-first
returns-clause-first g c =
    let new : IsNewCrew c.expect-classes.result.family 2 1 1 c.expect-board.result.0 (c.expect-first.result ∷ c.expect-second.result ∷ []) = search rules in
    (are_of c.expect-classes.result.family c.expect-board.result.0 c.expect-first.result c.expect-second.result new).0

pub returns-clause-second : goal.returns-clause-second
returns-clause-second g c =
    let new : IsNewCrew c.expect-classes.result.family 2 1 1 c.expect-board.result.0 (c.expect-first.result ∷ c.expect-second.result ∷ []) = search rules in
    (are_of c.expect-classes.result.family c.expect-board.result.0 c.expect-first.result c.expect-second.result new).1

pub returns-clause-crew : goal.returns-clause-crew
returns-clause-crew g c =
    let new : IsNewCrew c.expect-classes.result.family 2 1 1 c.expect-board.result.0 (c.expect-first.result ∷ c.expect-second.result ∷ []) = search rules in
    new
