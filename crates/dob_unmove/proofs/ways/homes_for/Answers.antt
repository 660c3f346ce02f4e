-- all squares, for pieces other than the lion
use Rattle.dob_unmove.proofs.WayMasks.{comes_anywhere}
use Rattle.dob_unmove.proofs.ways.homes_for.Goals as goal

pub returns-in_default : goal.returns-in_default
returns-in_default c = comes_anywhere c.args.kind c.in_default.not-Lion
