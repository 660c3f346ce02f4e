-- What is seen is the number that was found, and where the run begins that stands there.
use Rattle.dob_share.proofs.Owning.{numbered_within, seen_not, seen_some}
use Rattle.dob_share.proofs.share.Share.see_cell.Goals as goal

pub returns-in_default : goal.returns-in_default
returns-in_default c = λ class is. seen_not c.args.self.now class c.args.number c.in_default.is is

pub index-requires : goal.index-requires
index-requires c = numbered_within c.args.self.now c.requires.0 c.in-Some.place c.args.number c.in-Some.is c.requires.1

pub returns : goal.returns
returns c = λ class is. seen_some c.args.self.now class c.in-Some.place c.args.number c.index.result.now c.in-Some.is is c.index.ensures
