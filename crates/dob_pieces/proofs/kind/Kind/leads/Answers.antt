-- the set of the targets says so
use Rattle.dob_pieces.specs.Pieces.{leads}
use Rattle.dob_pieces.proofs.kind.Kind.leads.Goals as goal

pub returns : goal.returns
returns c = c.has.ensures (leads c.args.self c.args.from) c.targets.ensures
