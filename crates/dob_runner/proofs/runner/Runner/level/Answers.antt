-- A runner that hasn't failed has a sound node.
use Rattle.dob_runner.proofs.Common.{inl}
use Rattle.dob_runner.proofs.runner.Runner.level.Goals as goal

pub level-requires : goal.level-requires
level-requires c = (let r = c.args.self.now in (r.lawful (inl c.requires)).sound)
