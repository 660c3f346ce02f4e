-- A hen's steps.
use Rattle.std.proofs.Common.{rules}
use Rattle.dob_pieces.proofs.kind.Kind.steps.Goals as goal

pub returns-in-Hen : goal.returns-in-Hen
returns-in-Hen c = search rules fits 100
