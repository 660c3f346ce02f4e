-- The owner is the remainder.
use Rattle.std.proofs.Common.{rules}
use Rattle.dob_share.proofs.owners.owner.Goals as goal

pub returns-clause-owner : goal.returns-clause-owner
returns-clause-owner c = search rules fits 100
