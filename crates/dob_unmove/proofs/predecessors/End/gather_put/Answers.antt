-- the drop alone
use Rattle.dob_unmove.proofs.Common.{Unput, setup_after}
use Rattle.dob_unmove.proofs.Dead.{home_before}
use Rattle.dob_unmove.proofs.Standing.{way_of_drop}
use Rattle.dob_unmove.proofs.predecessors.End.gather_put.Goals as goal

pub gather_one-requires-clause-home : goal.gather_one-requires-clause-home
gather_one-requires-clause-home c =
    home_before c.args.self.now.walk.now c.requires.end.walk (Unput c.args.kind c.args.self.now.to) c.requires.stands c.requires.end.home tt

pub returns : goal.returns
returns c =
    let end = c.args.self.now in
    rw (way_of_drop (setup_after end.walk.now) end.to c.args.kind c.requires.stands) c.gather_one.ensures
