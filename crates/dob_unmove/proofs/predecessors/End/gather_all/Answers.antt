-- By the kind of the piece that stands there.
use Rattle.dob_unmove.proofs.Common.{setup_after}
use Rattle.dob_unmove.proofs.predecessors.End.gather_all.Goals as goal

pub gather_kind-requires-clause-stands : goal.gather_kind-requires-clause-stands
gather_kind-requires-clause-stands c =
    c.own_kind.ensures (setup_after c.args.self.now.walk.now) c.requires.walk.ways_are.board_is c.requires.own
