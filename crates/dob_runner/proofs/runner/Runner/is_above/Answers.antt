-- A node is on one level, and on none where it has expanded all.
use Rattle.dob_runner.proofs.Common.{lt-ltb, ltb-true}
use Rattle.dob_runner.proofs.TurnParts.{above_is, above_none}
use Rattle.dob_runner.proofs.runner.Runner.is_above.Goals as goal

pub returns-in-Some : goal.returns-in-Some
returns-in-Some c = above_is c.args.self.now.node c.in-Some.level c.args.limit _ c.in-Some.ensures
    (ltb-true c.args.limit c.in-Some.level) (lt-ltb c.args.limit c.in-Some.level)

pub returns-in-None : goal.returns-in-None
returns-in-None c = above_none c.args.self.now.node c.args.limit c.in-None.ensures
